-- What holds a node over reduced children holds its answer.
use Rattle.node_bounds.proofs.Shared.{◌≡◌, ◌≢◌, ℕ, suc, ◌+◌, ◌*◌, ◌^◌, ◌≤◌, [], ◌∷◌, ℤ, Bool, true, false, ◌||◌, if◌then◌else◌, Option, Some, None, Result, Ok, Err, refl, sym, ap, ◌∙◌, subst, arith}
use Rattle.node_bounds.proofs.Shared.{inl, inr, IfOk, IfErr, IsOk, pow_pos, pow-add, pow-le-pow_right, value, is_half_num, is_whole_num, num_one, Surd, surd_of, one_not_zero, IsHeld, HighLow}
use Rattle.node_bounds.proofs.Shared.{zero_fraction, one_fraction, minus_one_fraction, whole_fraction, zero_test, whole_numerator, Tree, num, undef, power, Trees, none, more, is_num, is_undef}
use Rattle.node_bounds.proofs.Shared.{has_undef, IsReducedPower, lacks_power, AreFewBits, HoldsPower, HoldsDifference, HoldsNode, numerator, has_number_power, HasFewBitsRaised, HasWideRoot}
use Rattle.node_bounds.proofs.Shared.{IsOverflow, IfRational, IsNoLargerThanRoot, int_is_negative, is_zero_or_one, rewritten, as_whole, IsFactorHeld, AreFactorsHeld, none_held, number_as_factor}
use Rattle.node_bounds.proofs.Shared.{no_factors_held, IsSumHeld, addends_of_each, trees_together, minus_one_held, nothing_held, IfOverflow, OfOverflow, NumberFault, or_parts, cases_Bool}
use Rattle.node_bounds.proofs.{Clashes.{clash, rational_number}, HeldFactors.{factor_wider, factor_tree}, HeldParts.{fine}, HeldRoots.{root_fits}, Rewritten.{whole_rewriting}}
use Rattle.product_reduce.specs.Bits.{factor_held}
use Rattle.calc_bits.specs.Bounds as few

-- ---- rationals

pub zero_held : (h l : ℕ) → IsFactorHeld (num zero_fraction) h l
unfolding zero_fraction
zero_held h l = grind (arith, whole_numerator, number_as_factor, rational_number, nothing_held)

pub one_held : (h l : ℕ) → IsFactorHeld (num one_fraction) h l
one_held h l =
    number_as_factor (num one_fraction) h l (rational_number one_fraction)
    (no_factors_held (value num_one) h l (ap (λ (b : Bool). if b then [] else surd_of one_fraction) (zero_test one_fraction one_not_zero)))

minus_one_not_zero : minus_one_fraction ≢ zero_fraction
unfolding zero_fraction
minus_one_not_zero = grind (arith, whole_numerator)

minus_one : IsFactorHeld (num minus_one_fraction) 0 0
minus_one =
    number_as_factor (num minus_one_fraction) 0 0 (rational_number minus_one_fraction)
    (subst (λ (v : Surd). IsHeld v 0 0) (sym (ap (λ (b : Bool). if b then [] else surd_of minus_one_fraction) (zero_test minus_one_fraction minus_one_not_zero))) minus_one_held)

-- ---- two sides

pub opposite_factors : (a : Tree) {h l : ℕ} → IsFactorHeld a h l → AreFactorsHeld (more (num minus_one_fraction) (more a none)) h l
opposite_factors a {h} {l} k = factor_held 0 0 h l minus_one (factor_held h l 0 0 k none_held (omega arith) (omega arith)) (omega arith) (omega arith)

pub two_factors : (a b : Tree) {p q k n h l : ℕ} → IsFactorHeld a p q → IsFactorHeld b k n → p + k ≤ h → q + n ≤ l → AreFactorsHeld (more a (more b none)) h l
two_factors a b {p} {q} {k} {n} x y i j = factor_held p q k n x (factor_held k n 0 0 y none_held (omega arith) (omega arith)) i j

pub first_side : (a b : Tree) → has_undef (more a (more b none)) ≡ false → is_undef a ≡ false
first_side a b h = (or_parts (is_undef a) (is_undef b || false) h).0

pub second_side : (a b : Tree) → has_undef (more a (more b none)) ≡ false → is_undef b ≡ false
second_side a b h = (or_parts (is_undef b) false (or_parts (is_undef a) (is_undef b || false) h).1).0

abbrev of : ℕ → ℕ → HighLow
of x y = record { high = x; low = y }

pub two_terms : (a b : Tree) {p q k n h l : ℕ} → has_undef (more a (more b none)) ≡ false → IsFactorHeld a p q → IsFactorHeld b k n → 2 ^ p + 2 ^ k ≤ 2 ^ h → q + n ≤ l
    → IsSumHeld (addends_of_each (more a (more b none))) h l
two_terms a b {p} {q} {k} {n} {h} {l} d x y i j =
    trees_together (more a (more b none)) (of p q ∷ of k n ∷ []) h l (first_side a b d, factor_tree a x, (second_side a b d, factor_tree b y, tt)) (omega (arith, i)) (omega (arith, j))

-- an answer that is not Undef has no Undef sides
pub answer_defined : (ts : Trees) (r : Tree) → (has_undef ts ≡ true → r ≡ undef) → is_undef r ≡ false → has_undef ts ≡ false
answer_defined ts r h k = grind (arith, clash)

pub only_undef : (a : Tree) → is_undef a ≡ false → has_undef (more a none) ≡ false
only_undef a d = ap (λ (b : Bool). b || false) d

-- ---- powers

-- no rule changes a power whose exponent is no rational
kept_power : (b e r : Tree) → is_num e ≡ false → IsReducedPower b e r → is_undef r ≡ false → r ≡ power b e
kept_power b e r n a d = elim (cases_Bool (lacks_power b e)) [
  | inl l ↦ clash (sym (ap is_undef (a.undefined l)) ∙ d)
  | inr l ↦ (a.written l).kept (record { other = (none_of e n).0; no_number = (none_of e n).1; not_rewritten = not_rewritten (rewritten b e) refl })
]
  where
    none_of : (e : Tree) → is_num e ≡ false → (is_zero_or_one e ≡ false) × (has_number_power b e ≡ false) × (is_half_num e ≡ false)
    none_of (num q) n = cc
    none_of e n = (refl, refl, refl)

    no_whole : (e : Tree) → is_num e ≡ false → is_whole_num e ≡ true → ⊥
    no_whole (num q) n w = cc
    no_whole e n w = cc

    not_rewritten : (o : Option Tree) → rewritten b e ≡ o → o ≡ None
    not_rewritten None k = refl
    not_rewritten (Some t) k = absurd (no_whole e n (whole_rewriting b e t (sym (as_whole b e (none_of e n).2) ∙ k)))

pub power_answer_held : (b e r : Tree) → IsReducedPower b e r → is_undef r ≡ false → (h l : ℕ) → HoldsPower b e h l → IsFactorHeld r h l
power_answer_held b e r a d h l k = grind (arith, factor_wider, kept_power)

-- ---- leaves

-- ---- overflows

pub as_overflow : (r : Result ℕ NumberFault) → IfErr r (OfOverflow (λ o. ⊥)) → IfOverflow r (λ o. ⊥)
as_overflow r h = grind arith

-- ---- by the kind of the node

-- of a tree that is another
pub holds_as : {t u : Tree} (h l : ℕ) → t ≡ u → HoldsNode t h l → HoldsNode u h l
holds_as h l e k = subst (λ (x : Tree). HoldsNode x h l) e k

-- the power fits
pub power_node_fits : (b e : Tree) (r : Result ℕ NumberFault) (h l : ℕ) → HoldsPower b e h l → AreFewBits h l
    → ((n : ℤ) (p q : ℕ) → e ≡ num (whole_fraction n) → IsFactorHeld b p q → HasFewBitsRaised n p q → IfErr r (OfOverflow (λ o. ⊥)))
    → ((p q : ℕ) → is_half_num e ≡ true → (p ≡ 0 → q ≡ 0) → IsFactorHeld b p q → AreFewBits p q → HasFewBitsRaised (numerator e) p q → IfErr r (OfOverflow (λ o. ⊥)))
    → (is_whole_num e ≡ false → is_half_num e ≡ false → IsOk r) → IfErr r (OfOverflow (λ o. ⊥))
power_node_fits b e r h l k a c d f = grind (arith, fine)

-- the root fits
pub root_node_fits : (a : Tree) (r : Result ℕ NumberFault) {h l : ℕ} → (few.HasFewBits (value a) → IfErr r (OfOverflow (λ o. ⊥))) → (IsOverflow r → HasWideRoot a) → IsFactorHeld a h l
    → AreFewBits h l → IfErr r (OfOverflow (λ o. ⊥))
root_node_fits a (Ok x) fits wide k l = tt
root_node_fits a (Err f) fits wide k l = root_fits a f fits wide k l

pub measured_facts : (a : Tree) (s : ℕ → Tree) (r : Result ℕ NumberFault) → IfRational a (λ q. int_is_negative q.num ≡ false → IfOk r (λ h. IsNoLargerThanRoot q (value (s h))))
    → IfOk r (λ h. IfRational a (λ q. int_is_negative q.num ≡ false → IsNoLargerThanRoot q (value (s h))))
measured_facts a s r h = grind arith

-- ---- sides

twice : (k : ℕ) → 2 ^ suc k ≡ 2 ^ 1 * 2 ^ k
twice k = let e : suc k ≡ 1 + k = omega arith in ap (λ (n : ℕ). 2 ^ n) e ∙ pow-add 2 1 k

-- a power of 2 that is less
below : (k h x : ℕ) → 1 ≤ x → x + 2 ^ k ≤ 2 ^ h → k ≤ h
below k h x o l = grind (arith, pow-le-pow_right, twice)

pub difference_right : (a b : Tree) {h l : ℕ} → AreFewBits h l → (d : HoldsDifference a b h l) → AreFewBits d.k d.n
difference_right a b {h} {l} few d = omega (arith, few, below d.k h (2 ^ d.p) (pow_pos d.p) d.high, d.low)
