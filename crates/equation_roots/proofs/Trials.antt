-- Roots that are tried one after another.
use Rattle.std.proofs.Common.{◌≡◌, ◌≢◌, ◌⊎◌, inl, inr, ℕ, zero, suc, ◌+◌, ◌<◌, ◌≤◌, ℤ, pos, neg_ℤ, ◌<ℤ◌, nat_abs, Bool, true, false, List, [], ◌∷◌, ◌++◌, ◌%◌, nat_eq, add-one, below_more, length, get_or, drop, refl, sym, ap, ◌∙◌, subst, arith}
use Rattle.std.proofs.lemmas.{Int.{ints}, Bool.{eq-eqb}, Nat.Gcd.{dvd-zero, mod-eq-zero_of_dvd, same_from_IsGcd}}
use Rattle.std.specs.Int.{◌∣◌, IsGcd}
use Rattle.calc_terms.specs.{FractionLaws.{zero_times}, Fractions.{Fraction, plus, lowest, lowest_parts, den_pos, whole_fraction, zero_fraction, same_lowest}}
use Rattle.calc_terms.proofs.SmallFractions.{plus_zero}
use Rattle.equation_roots.specs.{Coefficients.{value}, Rationals.{IsInserted}, Wholes.{Divides, IsCandidate, Marks, fractions, leading, linear_product}}
use Rattle.equation_roots.proofs.{Candidates.{denominator_divides, numerator_divides, parts_are, positive_abs, positive_is, sign_of}, Linear.{length-linear}, RootQuotients.{fraction_coprime, zero_above}, Steps.{divided_step, divides_trans, zero_step}, Wide.{abs_zero}}

-- ---- one candidate

pub candidate : (x y : ℤ) (u v : ℕ) → nat_abs x ≡ u → y ≡ pos v → 1 ≤ u → u ≤ 1000 → 1 ≤ v → v ≤ 1000 → IsGcd u v 1 → IsCandidate x y
candidate x y u v e f a b c d g = record {
  positive = subst (λ (z : ℤ). pos 0 <ℤ z) (sym f) (above v c);
  not_zero = λ z. absurd (omega (arith, e, ap nat_abs z));
  lowest = subst (λ n. IsGcd n (nat_abs y) 1) (sym e) (subst (λ (z : ℤ). IsGcd u (nat_abs z) 1) (sym f) g);
  numerator = omega (arith, e);
  denominator = omega (arith, ap nat_abs f);
}
  where
    above : (v : ℕ) → 1 ≤ v → pos 0 <ℤ pos v
    above v h = omega (arith, ints, h)

pub candidate_step : (f0 f f' : List Fraction) (l0 left qs : List ℤ) (u v : ℤ) → IsCandidate u v → Divides f0 l0 f left → 4 ≤ length left → linear_product v (neg_ℤ u) (pos 0) qs (pos 0) ≡ left
    → IsInserted (lowest u (nat_abs v)) f f' → Divides f0 l0 f' qs
candidate_step f0 f f' l0 left qs u v c d l e i =
    divides_trans f0 f f' l0 left qs d
    (divided_step f f' left qs u (nat_abs v) (positive_abs v c.positive) (omega (arith, l, sym (ap length e), length-linear v (neg_ℤ u) (pos 0) qs (pos 0))) (ap (λ a. linear_product a (neg_ℤ u) (pos 0) qs (pos 0)) (sym (positive_is v c.positive)) ∙ e) i)

pub quotient_shorter : (left qs : List ℤ) (u v : ℤ) → linear_product v (neg_ℤ u) (pos 0) qs (pos 0) ≡ left → length qs < length left
quotient_shorter left qs u v e = omega (arith, ap length e, length-linear v (neg_ℤ u) (pos 0) qs (pos 0))

-- ---- both signs

pub signs_none : (r : Fraction) (x y w z : ℤ) (u v : ℕ) (f g : List Fraction) (l m : List ℤ) → x ≡ pos u → y ≡ pos v → w ≡ neg_ℤ (pos u) → z ≡ pos v → Divides f l g m
    → (4 ≤ length l → value (fractions l) (lowest x (nat_abs y)) ≢ zero_fraction) → (4 ≤ length m → value (fractions m) (lowest w (nat_abs z)) ≢ zero_fraction)
    → 4 ≤ length m → r.den ≡ v → nat_abs r.num ≡ u → value (fractions m) r ≢ zero_fraction
signs_none r x y w z u v f g l m a b c d t first second h den num e = by (sign_of r.num u num)
  where
    by : (r.num ≡ pos u) ⊎ (r.num ≡ neg_ℤ (pos u)) → ⊥
    by (inl k) =
        first (omega (arith, h, t.shorter))
        (ap (value (fractions l)) ((λ i. lowest (a i) (nat_abs (b i))) ∙ sym (parts_are r v (pos u) den k)) ∙ t.roots r e)
    by (inr k) = second h (ap (value (fractions m)) ((λ i. lowest (c i) (nat_abs (d i))) ∙ sym (parts_are r v (neg_ℤ (pos u)) den k)) ∙ e)

-- nothing with a common factor is the numerator and the denominator of a fraction
pub shares_nothing : (r : Fraction) (u v g : ℕ) → r.den ≡ v → nat_abs r.num ≡ u → IsGcd u v g → g ≡ 1
shares_nothing r u v g den num is = same_from_IsGcd u v g 1 is (subst (λ n. IsGcd n v 1) num (subst (λ n. IsGcd (nat_abs r.num) n 1) den (fraction_coprime r)))

-- ---- each numerator

pub no_root_kept : (r : Fraction) (f g : List Fraction) (l m : List ℤ) → Divides f l g m → value (fractions l) r ≢ zero_fraction → value (fractions m) r ≢ zero_fraction
no_root_kept r f g l m d h e = h (d.roots r e)

is_zero : (r : Fraction) → nat_abs r.num ≤ 0 → r ≡ zero_fraction
unfolding zero_fraction
is_zero r n = lowest_parts r ∙ ap (λ z. lowest z r.den) (abs_zero r.num (omega (arith, n))) ∙ same_lowest (pos 0) (pos 0) r.den 1 (den_pos r) (omega arith) (omega (arith, ints))

pub numerator_none : (r : Fraction) (l : List ℤ) → value (fractions l) zero_fraction ≢ zero_fraction → nat_abs r.num ≤ 0 → value (fractions l) r ≢ zero_fraction
numerator_none r l h n e = h (ap (value (fractions l)) (sym (is_zero r n)) ∙ e)

next_last : (n at : ℕ) → (n ≤ at) ⊎ (n ≡ at + 1) → (suc n ≤ suc at) ⊎ (suc n ≡ suc at + 1)
next_last n at (inl h) = inl (omega (arith, h))
next_last n at (inr h) = inr (omega (arith, h))

last : (n at : ℕ) → n ≤ at + 1 → (n ≤ at) ⊎ (n ≡ at + 1)
last zero at k = inl (omega arith)
last (suc n) zero k = inr (omega (arith, k))
last (suc n) (suc at) k = next_last n at (last n at (omega (arith, k)))

pub numerators_more : (r : Fraction) (at v : ℕ) (f g : List Fraction) (l m : List ℤ) → Divides f l g m
    → (4 ≤ length l → (r : Fraction) → r.den ≡ v → nat_abs r.num ≤ at → value (fractions l) r ≢ zero_fraction)
    → (4 ≤ length m → (r : Fraction) → r.den ≡ v → nat_abs r.num ≡ at + 1 → value (fractions m) r ≢ zero_fraction)
    → 4 ≤ length m → r.den ≡ v → nat_abs r.num ≤ at + 1 → value (fractions m) r ≢ zero_fraction
numerators_more r at v f g l m d below here h den num e = by (last (nat_abs r.num) at num)
  where
    by : (nat_abs r.num ≤ at) ⊎ (nat_abs r.num ≡ at + 1) → ⊥
    by (inl k) = below (omega (arith, h, d.shorter)) r den k (d.roots r e)
    by (inr k) = here h r den k e

pub denominators_more : (r : Fraction) (step : ℕ) (f g : List Fraction) (l m : List ℤ) → Divides f l g m
    → (4 ≤ length l → (r : Fraction) → nat_abs r.num ≤ 1000 → r.den ≤ step → value (fractions l) r ≢ zero_fraction)
    → (4 ≤ length m → (r : Fraction) → r.den ≡ step + 1 → nat_abs r.num ≤ 1000 → value (fractions m) r ≢ zero_fraction)
    → 4 ≤ length m → nat_abs r.num ≤ 1000 → r.den ≤ step + 1 → value (fractions m) r ≢ zero_fraction
denominators_more r step f g l m d below here h num den e = by (last r.den step den)
  where
    by : (r.den ≤ step) ⊎ (r.den ≡ step + 1) → ⊥
    by (inl k) = below (omega (arith, h, d.shorter)) r num k (d.roots r e)
    by (inr k) = here h r k num e

pub denominator_none : (r : Fraction) → r.den ≤ 0 → ⊥
denominator_none r h = omega (arith, h, den_pos r)

-- a numerator that is not marked belongs to no root
pub unmarked_none : (marks : List Bool) (l : List ℤ) (c : ℤ) (r : Fraction) (n : ℕ) → c ≡ get_or l 0 (pos 0) → Marks marks (nat_abs c) → n < 1000 → nat_abs r.num ≡ suc n → get_or marks n false ≡ false → value (fractions l) r ≢ zero_fraction
unmarked_none marks [] c r n e m h num f z = m.unmarked n h f (subst (λ (y : ℤ). suc n ∣ nat_abs y) (sym e) (dvd-zero (suc n)))
unmarked_none marks (y ∷ l) c r n e m h num f z = m.unmarked n h f (subst (λ (y : ℤ). suc n ∣ nat_abs y) (sym e) (subst (λ k. k ∣ nat_abs y) num (numerator_divides r y l z)))

-- ---- zeros

pub head_zero : (l : List ℤ) → 0 < length l → get_or l 0 (pos 0) ≡ pos 0 → l ≡ pos 0 ∷ drop 1 l
head_zero [] h e = absurd (omega (arith, h))
head_zero (y ∷ l) h e = ap (λ z. z ∷ l) e

pub zeros_step : (f0 f f' : List Fraction) (l0 left : List ℤ) → Divides f0 l0 f left → 1 < length left → get_or left 0 (pos 0) ≡ pos 0 → IsInserted zero_fraction f f' → Divides f0 l0 f' (drop 1 left)
zeros_step f0 f f' l0 left d h e i =
    divides_trans f0 f f' l0 left (drop 1 left) d
    (subst (λ z. Divides f z f' (drop 1 left)) (sym (head_zero left (omega (arith, h)) e)) (zero_step f f' (drop 1 left) (rest_length left h) i))
  where
    rest_length : (l : List ℤ) → 1 < length l → 0 < length (drop 1 l)
    rest_length [] h = absurd (omega (arith, h))
    rest_length (y ∷ l) h = omega (arith, h)

pub constant_no_zero : (l : List ℤ) → 0 < length l → get_or l 0 (pos 0) ≢ pos 0 → value (fractions l) zero_fraction ≢ zero_fraction
constant_no_zero [] h n e = absurd (omega (arith, h))
constant_no_zero (y ∷ l) h n e =
    n (zero_above y 1 (omega arith) (sym (plus_zero (whole_fraction y)) ∙ ap (plus (whole_fraction y)) (sym (zero_times (value (fractions l) zero_fraction))) ∙ e))

-- a denominator that does not divide the leading coefficient belongs to no root
none_or_some : (n : ℕ) → (n ≤ 0) ⊎ (0 < n)
none_or_some zero = inl (omega arith)
none_or_some (suc n) = inr (omega arith)

pub denominator_not : (r : Fraction) (v m : ℕ) (l : List ℤ) → m ≡ nat_abs (leading l) → m % v ≢ 0 → r.den ≡ v → 0 < length l → value (fractions l) zero_fraction ≢ zero_fraction → value (fractions l) r ≢ zero_fraction
denominator_not r v m l e h den p z f = by (none_or_some (nat_abs r.num))
  where
    by : (nat_abs r.num ≤ 0) ⊎ (0 < nat_abs r.num) → ⊥
    by (inl k) = numerator_none r l z k f
    by (inr k) = h (mod-eq-zero_of_dvd v (subst (λ n. n ∣ m) den (subst (λ n. r.den ∣ n) (sym e) (denominator_divides r l p (λ g. absurd (omega (arith, k, ap nat_abs g))) f))))

-- ---- marks

at_left : (xs : List Bool) (y : Bool) (n : ℕ) → n < length xs → get_or (xs ++ y ∷ []) n false ≡ get_or xs n false
at_left [] y n h = absurd (omega (arith, h))
at_left (x ∷ xs) y zero h = refl
at_left (x ∷ xs) y (suc n) h = at_left xs y n (omega (arith, h))

at_last : (xs : List Bool) (y : Bool) (n : ℕ) → n ≡ length xs → get_or (xs ++ y ∷ []) n false ≡ y
at_last [] y zero h = refl
at_last [] y (suc n) h = absurd (omega (arith, h))
at_last (x ∷ xs) y zero h = absurd (omega (arith, h))
at_last (x ∷ xs) y (suc n) h = at_last xs y n (omega (arith, h))

pub marks_more : (marks : List Bool) (b : Bool) (step m : ℕ) → length marks ≡ step → (b ≡ false → ¬ (suc step ∣ m)) → ((n : ℕ) → n < step → get_or marks n false ≡ false → ¬ (suc n ∣ m))
    → (n : ℕ) → n < step + 1 → get_or (marks ++ b ∷ []) n false ≡ false → ¬ (suc n ∣ m)
marks_more marks b step m long here below =
    below_more (λ n. get_or (marks ++ b ∷ []) n false ≡ false → ¬ (suc n ∣ m)) step
    (λ n h e. below n h (sym (at_left marks b n (omega (arith, h, long))) ∙ e))
    (λ e. here (sym (at_last marks b step (sym long)) ∙ e))

pub no_divisor : (m step : ℕ) → nat_eq (m % (step + 1)) 0 ≡ false → ¬ (suc step ∣ m)
no_divisor m step h d = let t : nat_eq (m % (step + 1)) 0 ≡ true = eq-eqb _ _ (ap (λ n. m % n) (add-one step) ∙ mod-eq-zero_of_dvd (suc step) d) in cc
