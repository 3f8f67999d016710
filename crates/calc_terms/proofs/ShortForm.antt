-- Which numbers have the short form.
use Rattle.calc_terms.proofs.Shared.{◌≡◌, ℕ, ℤ, pos, neg_ℤ, nat_abs, ◌<◌, ◌≤◌, ◌^◌, Bool, true, false, refl, sym, ap, ◌∙◌, arith, FitsSigned, ◌&&◌, ◌==◌, ◌↔◌, IsTrue, int_le, int_lt, w64, ints}
use Rattle.calc_terms.proofs.Shared.{and_from, and_parts, eqb-true, ne_eqb, Fraction, Holds, is_lowest, is_one_fraction, lowest, lowest_parts, int_is_one, Ratio, IsRat, is_short, is_short_int}
use Rattle.calc_terms.proofs.FractionFacts.{whole_numerator, whole_denominator}

pub holds : (b : Bool) → b ≡ true → Holds b
holds b e = rw e tt

-- what is in lowest terms stays as it is
pub lowest_itself : (p : ℤ) (q : ℕ) → is_lowest p q ≡ true → ((lowest p q).num ≡ p) × ((lowest p q).den ≡ q)
lowest_itself p q h =
    let f : Fraction = record { num = p; den = q; lowest = holds (is_lowest p q) h } in
    let e : f ≡ lowest p q = lowest_parts f in
    (ap (λ (x : Fraction). x.num) (sym e), ap (λ (x : Fraction). x.den) (sym e))

-- what the test tells of a numerator and a denominator
pub short_by : (p : ℤ) (q : ℕ) → is_lowest p q ≡ true → is_short (lowest p q) ≡ ((q == 1) && is_short_int p)
unfolding is_short
short_by p q h = let e = lowest_itself p q h in rw (e.0, e.1) refl

pub one_by : (p : ℤ) (q : ℕ) → is_lowest p q ≡ true → is_one_fraction (lowest p q) ≡ (int_is_one p && (q == 1))
one_by p q h = let e = lowest_itself p q h in rw (e.0, e.1) refl

pub whole_test : (b : Bool) (q : ℕ) → (IsTrue b ↔ (q ≡ 1)) → b ≡ (q == 1)
whole_test b q h = grind arith

pub record IsShort (f : Ratio) : Type 0 where
  pub whole : f.den ≡ 1
  pub fits : FitsSigned w64 f.num

within : (z : ℤ) → int_le (neg_ℤ (pos (2 ^ 63))) z ≡ true → int_lt z (pos (2 ^ 63)) ≡ true → FitsSigned w64 z
within z h k = omega (arith, ints)

pub short_parts : (f : Ratio) → IsRat f → is_short (lowest f.num f.den) ≡ true → IsShort f
short_parts f r h =
    let a = and_parts (f.den == 1) (is_short_int f.num) (sym (short_by f.num f.den r.lowest) ∙ h) in
    let b = and_parts (int_le (neg_ℤ (pos (2 ^ 63))) f.num) (int_lt f.num (pos (2 ^ 63))) a.1 in
    record { whole = eqb-true f.den 1 a.0; fits = within f.num b.0 b.1 }

-- what the program's two tests tell
pub tested : (p : ℤ) (q : ℕ) (b : Bool) → is_lowest p q ≡ true → q ≡ 1 → b ≡ is_short_int p → b ≡ is_short (lowest p q)
tested p q b h d e = e ∙ sym (short_by p q h ∙ ap (λ (x : ℕ). (x == 1) && is_short_int p) d)

pub not_whole : (p : ℤ) (q : ℕ) (b : Bool) → is_lowest p q ≡ true → (q ≡ 1 → b ≡ true) → b ≡ false → b ≡ is_short (lowest p q)
not_whole p q b h d e =
    let no : (q == 1) ≡ false = ne_eqb q 1 (λ k. absurd (clash (d k))) in
    e ∙ sym (short_by p q h ∙ ap (λ (x : Bool). x && is_short_int p) no)
  where
    clash : b ≡ true → ⊥
    clash k = cc

-- ---- whole numbers

small_is : (n : ℕ) → n < 2 ^ 63 → is_short_int (pos n) ≡ true
small_is n h = and_from _ _ (low n) (high n h)
  where
    low : (n : ℕ) → int_le (neg_ℤ (pos (2 ^ 63))) (pos n) ≡ true
    low n = grind (arith, ints)

    high : (n : ℕ) → n < 2 ^ 63 → int_lt (pos n) (pos (2 ^ 63)) ≡ true
    high n h = grind (arith, ints)

pub whole_short : (n : ℕ) → n < 2 ^ 63 → is_short (lowest (pos n) 1) ≡ true
unfolding is_short
whole_short n h = rw (whole_numerator (pos n), whole_denominator (pos n)) (small_is n h)

-- a short number's parts
magnitude : (z : ℤ) → int_le (neg_ℤ (pos (2 ^ 63))) z ≡ true → int_lt z (pos (2 ^ 63)) ≡ true → nat_abs z ≤ 2 ^ 63
magnitude z h k = omega (arith, ints)

pub short_magnitude : (q : Fraction) → is_short q ≡ true → nat_abs q.num ≤ 2 ^ 63
unfolding is_short
short_magnitude q h =
    let a = and_parts (q.den == 1) (is_short_int q.num) h in
    let b = and_parts (int_le (neg_ℤ (pos (2 ^ 63))) q.num) (int_lt q.num (pos (2 ^ 63))) a.1 in
    magnitude q.num b.0 b.1

pub short_whole : (q : Fraction) → is_short q ≡ true → q.den ≡ 1
unfolding is_short
short_whole q h = let a = and_parts (q.den == 1) (is_short_int q.num) h in eqb-true q.den 1 a.0
