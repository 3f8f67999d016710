-- Exponents that count their bases: how often at least, and by how many bits they are held themselves.
use Rattle.tree_bits.proofs.Shared.{◌≡◌, ◌≢◌, ℕ, ◌+◌, ◌*◌, ◌^◌, ◌≤◌, inl, inr, List, [], ◌∷◌, max, ℤ, pos, Bool, true, false, ◌==◌, not, if◌then◌else◌, refl, sym, ap, ◌∙◌, subst, arith, dvd_refl}
use Rattle.tree_bits.proofs.Shared.{and_parts, eqb-true, not_from_false, ◌∣◌, number_test, term_test, IsTerm, AreTerms, is_term, value, terms_of, HasForm, NoneIs, num_one, number_terms, other_terms}
use Rattle.tree_bits.proofs.Shared.{surd_of, surd_one, root_least, Parts, AreWholeOver, magnitude_over, mass, root_above, whole_of, zero_test, one_test, no_zero, whole_numerator, whole_denominator}
use Rattle.tree_bits.proofs.Shared.{Fraction, whole_fraction, is_zero_fraction, int_is_zero, Tree, num, symbol, add, mult, root, Trees, none, more, is_add, is_undef, AllParts, AllPartsOf, Counts}
use Rattle.tree_bits.proofs.Shared.{counts, multiple, is_counted, are_counted, counts_of, counts_of_all, Addend, addend, addend_of, addends, addends_of, power_high, power_low, IsTreeHeld, sum_held}
use Rattle.tree_bits.proofs.Shared.{AreWeighted, none_weighted, more_weighted, IsPartHeld, no_factor_held, factor_held, symbol_held, Weighted, weighted, PartsAll, lows, weighted_mass, AreHeld}
use Rattle.tree_bits.proofs.Sums.{one_counted, one_counts}
use Rattle.calc_algebra.proofs.SmallLaws.{term_no_sum as no_sum_term}
use Rattle.calc_terms.proofs.SmallLaws.{zero_is_zero as nothing_is}
use Rattle.std.proofs.Common.{nat_abs}
use Rattle.calc_algebra.specs.Numbers.{is_number}
use Rattle.calc_terms.specs.Fractions.{zero_fraction, one_fraction}

some_times : (m n : ℕ) → 1 ≤ m → 1 ≤ n → 1 ≤ m * n
some_times m n h k = grind arith

pub clash : {A : Type 0} → true ≡ false → A
clash e = absurd cc

pub unclear : {A : Type 0} → false ≡ true → A
unclear e = absurd cc

-- an exponent that counts is not Undef
pub counted_defined : (e : Tree) → is_counted e ≡ true → is_undef e ≡ false
counted_defined e h = grind (arith, unclear)

-- ---- products of a rational and an exponent

-- a rational other than 0 and 1 before a symbol
pub record IsMultiple (q : Fraction) (t : Tree) : Type 0 where
  pub whole : (q.den == 1) ≡ true
  pub not_zero : q ≢ zero_fraction
  pub name : List ℕ
  pub is : t ≡ symbol name

pub multiple_of : (q : Fraction) (t : Tree) → AllParts HasForm (mult (more (num q) (more t none))) → is_counted (mult (more (num q) (more t none))) ≡ true → IsMultiple q t
unfolding is_number
multiple_of q t h k = grind (arith, and_parts, clash, one_test, unclear)

-- ---- how often at least

not_nothing : (q : Fraction) → (q.den == 1) ≡ true → q ≢ zero_fraction → q.num ≢ pos 0
unfolding zero_fraction
not_nothing q w z e = z (whole_of q w ∙ ap whole_fraction e)

some_magnitude : (z : ℤ) → z ≢ pos 0 → 1 ≤ nat_abs z
some_magnitude z h = grind arith

pub multiple_counts : (z : ℤ) (c : Counts) → (multiple z c).up + (multiple z c).down ≡ nat_abs z * (c.up + c.down)
multiple_counts z c = grind arith

multiple_some : (q : Fraction) (c : Counts) → (q.den == 1) ≡ true → q ≢ zero_fraction → 1 ≤ c.up + c.down → 1 ≤ (multiple q.num c).up + (multiple q.num c).down
multiple_some q c w z k = omega (arith, multiple_counts q.num c, some_times (nat_abs q.num) (c.up + c.down) (some_magnitude q.num (not_nothing q w z)) k)

-- the first term of a sum is not 0
first_not_zero : (t : Tree) (ts : Trees) → HasForm (add (more t ts)) → t ≢ num zero_fraction
unfolding is_number
first_not_zero t ts h = grind (arith, nothing_is, clash)

pub some_counts : (e : Tree) → AllParts HasForm e → is_counted e ≡ true → e ≢ num zero_fraction → 1 ≤ (counts_of e).up + (counts_of e).down
some_counts (num q) f c z = multiple_some q (counts 1 0) c (λ e. z (ap num e)) (omega arith)
some_counts (symbol x) f c z = omega arith
some_counts (mult (more (num q) (more t none))) f c z = let m = multiple_of q t f c in multiple_some q (counts_of t) m.whole m.not_zero (omega (arith, ap (λ (u : Tree). (counts_of u).up) m.is))
some_counts (add none) f c z = elim f.0 [ inl n ↦ let l : 2 ≤ 0 = n.0 in absurd (omega arith) | inr s ↦ absurd s.two ]
some_counts (add (more t ts)) f c z =
    let k = some_counts t f.1.0 (and_parts (is_counted t) (are_counted ts) c).0 (first_not_zero t ts f.0) in
    omega (arith, k)
some_counts t f c z = unclear c

-- ---- held themselves, over the denominator 1

-- each coefficient is whole, and the weighted mass is at most x
record AreLight (xs : List Addend) (x : ℕ) : Type 0 where
  terms : List Weighted
  weighted_are : AreWeighted xs terms
  parts : PartsAll 1 terms
  low : lows terms ≡ 0
  high : weighted_mass 1 terms ≤ x

none_light : AreLight [] 0
none_light = record { terms = []; weighted_are = none_weighted; parts = tt; low = refl; high = omega arith }

more_light : {y : Addend} {xs : List Addend} {n x m : ℕ} → AreLight (y ∷ []) n → AreLight xs x → n + x ≤ m → AreLight (y ∷ xs) m
more_light {y} {xs} {n} {x} {m} a b l = by a.weighted_are a.parts a.low a.high
  where
    by : {ws : List Weighted} → AreWeighted (y ∷ []) ws → PartsAll 1 ws → lows ws ≡ 0 → weighted_mass 1 ws ≤ n → AreLight (y ∷ xs) m
    by (more_weighted h k p none_weighted) q i j = record {
      terms = weighted y.coefficient h k ∷ b.terms;
      weighted_are = more_weighted h k p b.weighted_are;
      parts = (q.0, b.parts);
      low = omega (arith, i, b.low);
      high = omega (arith, j, b.high);
    }

whole_parts : (q : Fraction) → (q.den == 1) ≡ true → q.den ∣ 1
whole_parts q w = subst (λ (n : ℕ). n ∣ 1) (sym (eqb-true q.den 1 w)) (dvd_refl 1)

term_light : (q : Fraction) → (q.den == 1) ≡ true → q ≢ zero_fraction → max 1 (root_above (magnitude_over 1 q * magnitude_over 1 q * 1)) ≤ nat_abs q.num
term_light q h k = grind (arith, eqb-true, root_least, some_magnitude, not_nothing)

one_light : max 1 (root_above (magnitude_over 1 one_fraction * magnitude_over 1 one_fraction * 1)) ≤ 1
unfolding one_fraction
one_light = grind (arith, eqb-true, whole_denominator, whole_numerator, root_least)

one_whole : (one_fraction.den == 1) ≡ true
unfolding one_fraction
one_whole = ap (λ (n : ℕ). n == 1) (whole_denominator (pos 1))

-- a symbol
symbol_part : (x : List ℕ) → IsPartHeld (more (symbol x) none) 1 0
symbol_part x =
    let e : counts_of num_one ≡ counts 1 0 = one_counts in
    factor_held 1 0 0 0 one_counted (symbol_held (omega arith)) no_factor_held (omega (arith, ap (λ (c : Counts). power_high c 1 0) e)) (omega (arith, ap (λ (c : Counts). power_low c 1 0) e))

symbol_light : (x : List ℕ) → AreLight (addend surd_one (more (symbol x) none) ∷ []) 2
symbol_light x = record {
  terms = weighted surd_one 1 0 ∷ [];
  weighted_are = more_weighted 1 0 (symbol_part x) none_weighted;
  parts = (record { positive = omega arith; whole = (whole_parts one_fraction one_whole, tt) }, tt);
  low = refl;
  high = omega (arith, one_light);
}

-- one before which a whole number stands
multiple_light : (q : Fraction) (t : Tree) → IsMultiple q t → AreLight (addend_of (mult (more (num q) (more t none))) ∷ []) (2 * nat_abs q.num)
multiple_light q t m = subst (λ (u : Tree). AreLight (addend_of (mult (more (num q) (more u none))) ∷ []) (2 * nat_abs q.num)) (sym m.is) (record {
  terms = weighted (value (num q)) 1 0 ∷ [];
  weighted_are = more_weighted 1 0 (symbol_part m.name) none_weighted;
  parts = (subst (Parts 1) (sym worth) (record { positive = omega arith; whole = (whole_parts q m.whole, tt) }), tt);
  low = refl;
  high = omega (arith, term_light q m.whole m.not_zero, ap (mass 1) worth);
})
  where
    worth : value (num q) ≡ surd_of q
    worth = ap (λ (b : Bool). if b then [] else surd_of q) (zero_test q m.not_zero)

-- a term of a sum that is no Number
other_light : (t : Tree) → AllParts HasForm t → is_number t ≡ false → is_add t ≡ false → is_counted t ≡ true → AreLight (addend_of t ∷ []) (2 * ((counts_of t).up + (counts_of t).down))
unfolding is_number
other_light (num q) f n s c = clash n
other_light (symbol x) f n s c = symbol_light x
other_light (add ts) f n s c = clash s
other_light (mult (more (num q) (more t none))) f n s c =
    let m = multiple_of q t f c in
    let a = multiple_light q t m in
    let one : (counts_of t).up + (counts_of t).down ≡ 1 = ap (λ (u : Tree). (counts_of u).up + (counts_of u).down) m.is in
    record { terms = a.terms; weighted_are = a.weighted_are; parts = a.parts; low = a.low; high = omega (arith, a.high, multiple_counts q.num (counts_of t), ap (λ (k : ℕ). nat_abs q.num * k) one) }
other_light t f n s c = unclear c

-- those of a sum, the Number among them as one
record AreSplitLight (ts : Trees) (x : ℕ) : Type 0 where
  whole : AreWholeOver 1 (terms_of (number_terms ts))
  others : ℕ
  light : AreLight (addends_of (other_terms ts)) others
  high : mass 1 (terms_of (number_terms ts)) + others ≤ x

rational_term : (t : Tree) → is_term t ≡ true → is_counted t ≡ true → (q : Fraction) × (t ≡ num q)
rational_term (num q) h c = (q, refl)
rational_term (root (num r)) h c = unclear c
rational_term (mult (more (num q) (more (root (num r)) none))) h c = unclear (and_parts (q.den == 1) false c).1
rational_term t h c = unclear h

split_wider : {ts : Trees} {x y : ℕ} → x ≤ y → AreSplitLight ts x → AreSplitLight ts y
split_wider l a = record { whole = a.whole; others = a.others; light = a.light; high = omega (arith, a.high, l) }

number_light : (q : Fraction) (ts : Trees) (x : ℕ) → is_term (num q) ≡ true → (q.den == 1) ≡ true → AreSplitLight ts x
    → AreSplitLight (more (num q) ts) (2 * (multiple q.num (counts 1 0)).up + 2 * (multiple q.num (counts 1 0)).down + x)
number_light q ts x h k a = grind (arith, whole_parts, term_light, no_zero, multiple_counts)

kept_light : (t : Tree) (ts : Trees) (n x : ℕ) → is_term t ≡ false → AreLight (addend_of t ∷ []) n → AreLight (addends_of ts) x → AreSplitLight (more t ts) (n + x)
kept_light t ts n x h a b =
    let k : number_terms (more t ts) ≡ none = ap (λ (y : Bool). if y then more t (number_terms ts) else none) h in
    let o : other_terms (more t ts) ≡ more t ts = ap (λ (y : Bool). if y then other_terms ts else more t ts) h in
    record {
      whole = subst (λ (us : Trees). AreWholeOver 1 (terms_of us)) (sym k) tt;
      others = n + x;
      light = subst (λ (us : Trees). AreLight (addends_of us) (n + x)) (sym o) (more_light a b (omega arith));
      high = omega (arith, ap (λ (us : Trees). mass 1 (terms_of us)) k);
    }

others_light : (ts : Trees) → AllPartsOf HasForm ts → NoneIs is_number ts → NoneIs is_add ts → are_counted ts ≡ true → AreLight (addends_of ts) (2 * ((counts_of_all ts).up + (counts_of_all ts).down))
others_light none f n s c = none_light
others_light (more t ts) f n s c =
    let (a, b) = and_parts (is_counted t) (are_counted ts) c in
    more_light (other_light t f.0 n.0 s.0 a) (others_light ts f.1 n.1 s.1 b) (omega arith)

split_light : (ts : Trees) → AllPartsOf HasForm ts → NoneIs is_number (other_terms ts) → NoneIs is_add ts → are_counted ts ≡ true
    → AreSplitLight ts (2 * ((counts_of_all ts).up + (counts_of_all ts).down))
split_light none f n s c = record { whole = tt; others = 0; light = none_light; high = omega arith }
split_light (more t ts) f n s c = by (λ o. split_light ts f.1 o s.1 (and_parts (is_counted t) (are_counted ts) c).1) (is_term t) refl
  where
    a : is_counted t ≡ true
    a = (and_parts (is_counted t) (are_counted ts) c).0

    b : are_counted ts ≡ true
    b = (and_parts (is_counted t) (are_counted ts) c).1

    first : (t : Tree) (q : Fraction) → t ≡ num q → is_term t ≡ true → is_counted t ≡ true → AreSplitLight ts (2 * ((counts_of_all ts).up + (counts_of_all ts).down))
        → AreSplitLight (more t ts) (2 * ((counts_of t).up + (counts_of_all ts).up + ((counts_of t).down + (counts_of_all ts).down)))
    first t q e h c r = subst (λ (u : Tree). AreSplitLight (more u ts) (2 * ((counts_of u).up + (counts_of_all ts).up + ((counts_of u).down + (counts_of_all ts).down)))) (sym e)
        (split_wider (omega arith) (number_light q ts (2 * ((counts_of_all ts).up + (counts_of_all ts).down)) (ap is_term (sym e) ∙ h) (ap is_counted (sym e) ∙ c) r))

    by : (NoneIs is_number (other_terms ts) → AreSplitLight ts (2 * ((counts_of_all ts).up + (counts_of_all ts).down))) → (x : Bool) → is_term t ≡ x
        → AreSplitLight (more t ts) (2 * ((counts_of t).up + (counts_of_all ts).up + ((counts_of t).down + (counts_of_all ts).down)))
    by r true e =
        let (q, i) = rational_term t e a in
        first t q i e a (r (subst (NoneIs is_number) (ap (λ (x : Bool). if x then other_terms ts else more t ts) e) n))
    by r false e =
        let o = subst (NoneIs is_number) (ap (λ (x : Bool). if x then other_terms ts else more t ts) e) n in
        split_wider (omega arith)
        (kept_light t ts (2 * ((counts_of t).up + (counts_of t).down)) (2 * ((counts_of_all ts).up + (counts_of_all ts).down)) e (other_light t f.0 o.0 s.0 a) (others_light ts f.1 o.1 s.1 b))

terms_alone : (ts : Trees) → AreTerms ts → NoneIs is_number (other_terms ts) × NoneIs is_add ts
terms_alone none a = (tt, tt)
terms_alone (more t ts) a = grind (arith, term_test, no_sum_term, terms_alone ts a.1)

-- what a sum is made of
sum_kinds : (ts : Trees) → HasForm (add ts) → NoneIs is_number (other_terms ts) × NoneIs is_add ts
sum_kinds ts h = grind (arith, terms_alone)

-- an exponent by all its addends
exponent_light : (e : Tree) → AllParts HasForm e → is_counted e ≡ true → AreLight (addends e) (2 * ((counts_of e).up + (counts_of e).down))
unfolding is_number
exponent_light (num q) f c = by (is_zero_fraction q) refl
  where
    by : (x : Bool) → is_zero_fraction q ≡ x → AreLight (addend (if x then [] else surd_of q) none ∷ []) (2 * ((multiple q.num (counts 1 0)).up + (multiple q.num (counts 1 0)).down))
    by true e = record { terms = weighted [] 0 0 ∷ []; weighted_are = more_weighted 0 0 no_factor_held none_weighted; parts = (record { positive = omega arith; whole = tt }, tt); low = refl; high = omega arith }
    by false e = record {
      terms = weighted (surd_of q) 0 0 ∷ [];
      weighted_are = more_weighted 0 0 no_factor_held none_weighted;
      parts = (record { positive = omega arith; whole = (whole_parts q c, tt) }, tt);
      low = refl;
      high = omega (arith, term_light q c (no_zero q (ap (λ (b : Bool). not b) e)), multiple_counts q.num (counts 1 0));
    }
exponent_light (symbol x) f c = symbol_light x
exponent_light (mult (more (num q) (more t none))) f c = by (is_number (mult (more (num q) (more t none)))) refl
  where
    m : IsMultiple q t
    m = multiple_of q t f c

    by : (x : Bool) → is_number (mult (more (num q) (more t none))) ≡ x
        → AreLight (addends (mult (more (num q) (more t none)))) (2 * ((counts_of (mult (more (num q) (more t none)))).up + (counts_of (mult (more (num q) (more t none)))).down))
    by true n = clash (sym n ∙ ap (λ (u : Tree). is_number (mult (more (num q) (more u none)))) m.is)
    by false n = subst (λ (xs : List Addend). AreLight xs (2 * ((counts_of (mult (more (num q) (more t none)))).up + (counts_of (mult (more (num q) (more t none)))).down)))
        (sym (ap (λ (b : Bool). if b then addend (value (mult (more (num q) (more t none)))) none ∷ [] else addend_of (mult (more (num q) (more t none))) ∷ []) n))
        (other_light (mult (more (num q) (more t none))) f n refl c)
exponent_light (add ts) f c =
    let k = sum_kinds ts f.0 in
    let a = split_light ts f.1 k.0 k.1 c in
    more_light {n = mass 1 (terms_of (number_terms ts))} {x = a.others}
    (record {
      terms = weighted (terms_of (number_terms ts)) 0 0 ∷ [];
      weighted_are = more_weighted 0 0 no_factor_held none_weighted;
      parts = (record { positive = omega arith; whole = a.whole }, tt);
      low = refl;
      high = omega arith;
    })
    a.light (omega (arith, a.high))
exponent_light t f c = unclear c

light_held : {xs : List Addend} {x : ℕ} (h : ℕ) → x ≤ 2 ^ h → (a : AreLight xs x) → AreHeld a.terms h 0
light_held h k a = grind arith

-- one that counts at most 62 is held by few bits
pub exponent_is_held : (e : Tree) → AllParts HasForm e → is_counted e ≡ true → (counts_of e).up + (counts_of e).down ≤ 62 → IsTreeHeld e 7 0
exponent_is_held e f c l = let a = exponent_light e f c in sum_held a.terms a.weighted_are (light_held 7 (omega (arith, l)) a)
