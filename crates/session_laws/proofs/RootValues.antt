-- What a polynomial in one name is worth, by its coefficients.
use Rattle.expansions.proofs.Shared.{◌≡◌, ℕ, zero, suc, ◌+◌, [], ◌∷◌, Bool, true, false, refl, sym, ap, ◌∙◌, subst, arith, if◌then◌else◌, Ordering, Less, Equal, Greater, Assignment, zero_is, fraction_power, one_times, zero_plus}
use Rattle.expansions.proofs.Shared.{zero_times, Fraction, is_zero_fraction, plus, plus_assoc, plus_both, times, times_assoc, times_comm, times_plus, times_zero, zero_fraction, Monomial, Polynomial, Summand, coefficient_at, is_same_monomial, summand}
use Rattle.expansions.proofs.Shared.{joined, monomial_cmp, with_summand, without_zeros, given, monomial_value, polynomial_value, summand_value, times_one, plus_left_comm, plus_times, plus_zero}
use Rattle.expansions.proofs.{MonomialTrees.{equal_is, not_same, same_is, same_itself}, SameCoefficients.{normal_same}}
use Rattle.expansions.specs.Sums.{AreSame}
use Rattle.std.specs.Prelude.{List, ◌≢◌, slice_index_or}
use Rattle.calc_terms.proofs.SmallLaws.{zero_is_zero}
use Rattle.session_laws.proofs.Shared.{both_ways}
use Rattle.equation_roots.specs.Coefficients.{value}
use Rattle.expand_forms.specs.Powers.{AreCoefficients, power_of}

-- ---- polynomials with the same coefficients are worth the same

module _ (f : Assignment) where
  with_summand_value : (s : Summand) (v : Polynomial) → polynomial_value f (with_summand s v) ≡ polynomial_value f (s ∷ v)
  with_summand_value s [] = refl
  with_summand_value s (t ∷ v) = by (monomial_cmp s.monomial t.monomial) refl (with_summand_value s v)
    where
      by : (o : Ordering) → monomial_cmp s.monomial t.monomial ≡ o → polynomial_value f (with_summand s v) ≡ polynomial_value f (s ∷ v)
          → polynomial_value f (elim o [ Less ↦ s ∷ t ∷ v | Equal ↦ summand (plus s.coefficient t.coefficient) s.monomial ∷ v | Greater ↦ t ∷ with_summand s v ]) ≡ polynomial_value f (s ∷ t ∷ v)
      by Less e go = refl
      by Equal e go =
          ap (λ x. plus x (polynomial_value f v)) (plus_times s.coefficient t.coefficient (monomial_value f s.monomial) ∙ ap (λ m. plus (summand_value f s) (times t.coefficient (monomial_value f m))) (equal_is s.monomial t.monomial e))
          ∙ plus_assoc (summand_value f s) (summand_value f t) (polynomial_value f v)
      by Greater e go = ap (plus (summand_value f t)) go ∙ plus_left_comm (summand_value f t) (summand_value f s) (polynomial_value f v)

  joined_value : (v : Polynomial) → polynomial_value f (joined v) ≡ polynomial_value f v
  joined_value [] = refl
  joined_value (s ∷ v) = with_summand_value s (joined v) ∙ ap (plus (summand_value f s)) (joined_value v)

  without_zeros_value : (v : Polynomial) → polynomial_value f (without_zeros v) ≡ polynomial_value f v
  without_zeros_value [] = refl
  without_zeros_value (s ∷ v) = let go = without_zeros_value v in grind (arith, zero_is, zero_times, zero_plus)

  same_value : {v w : Polynomial} → AreSame v w → polynomial_value f v ≡ polynomial_value f w
  same_value {v} {w} h = sym (without_zeros_value (joined v) ∙ joined_value v) ∙ ap (polynomial_value f) (normal_same h) ∙ (without_zeros_value (joined w) ∙ joined_value w)

-- ---- the polynomial with these coefficients, from a power on

-- the exponent of the first factor
abbrev exponent_in : Monomial → ℕ
exponent_in [] = 0
exponent_in (g ∷ m) = g.exponent

module _ (x : List ℕ) where
  abbrev powers_from : ℕ → List Fraction → Polynomial
  powers_from j [] = []
  powers_from j (q ∷ qs) = summand q (power_of x j) ∷ powers_from (suc j) qs

  -- one power stands once
  exponent_is : (j : ℕ) → exponent_in (power_of x j) ≡ j
  exponent_is zero = refl
  exponent_is (suc j) = refl

  one_power : (j k : ℕ) → power_of x j ≡ power_of x k → j ≡ k
  one_power j k e = sym (exponent_is j) ∙ ap exponent_in e ∙ exponent_is k

  before_all : (j k : ℕ) (qs : List Fraction) → coefficient_at (power_of x j) (powers_from (suc (j + k)) qs) ≡ zero_fraction
  before_all j k [] = refl
  before_all j k (q ∷ qs) =
      let apart : is_same_monomial (power_of x (suc (j + k))) (power_of x j) ≡ false = not_same (power_of x (suc (j + k))) (power_of x j) (λ e. absurd (omega (arith, one_power (suc (j + k)) j e))) in
      let go : coefficient_at (power_of x j) (powers_from (suc (j + suc k)) qs) ≡ zero_fraction = before_all j (suc k) qs in
      let next : suc (j + suc k) ≡ suc (suc (j + k)) = omega arith in
      ap (λ (b : Bool). if b then plus q (coefficient_at (power_of x j) (powers_from (suc (suc (j + k))) qs)) else coefficient_at (power_of x j) (powers_from (suc (suc (j + k))) qs)) apart
      ∙ subst (λ n. coefficient_at (power_of x j) (powers_from n qs) ≡ zero_fraction) next go

  here : (j k : ℕ) (qs : List Fraction) → coefficient_at (power_of x (j + k)) (powers_from j qs) ≡ slice_index_or qs k zero_fraction
  here j k [] = refl
  here j zero (q ∷ qs) =
      let at : j + 0 ≡ j = omega arith in
      let later : coefficient_at (power_of x j) (powers_from (suc (j + 0)) qs) ≡ zero_fraction = before_all j 0 qs in
      subst (λ n. coefficient_at (power_of x n) (powers_from j (q ∷ qs)) ≡ q) (sym at)
      (ap (λ (b : Bool). if b then plus q (coefficient_at (power_of x j) (powers_from (suc j) qs)) else coefficient_at (power_of x j) (powers_from (suc j) qs)) (same_itself (power_of x j))
      ∙ ap (plus q) (subst (λ n. coefficient_at (power_of x j) (powers_from (suc n) qs) ≡ zero_fraction) at later) ∙ plus_zero q)
  here j (suc k) (q ∷ qs) =
      let apart : is_same_monomial (power_of x j) (power_of x (j + suc k)) ≡ false = not_same (power_of x j) (power_of x (j + suc k)) (λ e. absurd (omega (arith, one_power j (j + suc k) e))) in
      let next : suc j + k ≡ j + suc k = omega arith in
      ap (λ (b : Bool). if b then plus q (coefficient_at (power_of x (j + suc k)) (powers_from (suc j) qs)) else coefficient_at (power_of x (j + suc k)) (powers_from (suc j) qs)) apart
      ∙ subst (λ n. coefficient_at (power_of x n) (powers_from (suc j) qs) ≡ slice_index_or qs k zero_fraction) next (here (suc j) k qs)

  -- nothing else stands in it
  only_powers : (j : ℕ) (qs : List Fraction) (m : Monomial) → coefficient_at m (powers_from j qs) ≢ zero_fraction → (k : ℕ) × (m ≡ power_of x k)
  only_powers j [] m h = absurd (h refl)
  only_powers j (q ∷ qs) m h = by (is_same_monomial (power_of x j) m) refl (only_powers (suc j) qs m)
    where
      by : (b : Bool) → is_same_monomial (power_of x j) m ≡ b → (coefficient_at m (powers_from (suc j) qs) ≢ zero_fraction → (k : ℕ) × (m ≡ power_of x k)) → (k : ℕ) × (m ≡ power_of x k)
      by true e later = (j, sym (same_is (power_of x j) m e))
      by false e later = later (λ z. h (ap (λ (b : Bool). if b then plus q (coefficient_at m (powers_from (suc j) qs)) else coefficient_at m (powers_from (suc j) qs)) e ∙ z))

  nonzero : (q : Fraction) → is_zero_fraction q ≡ false → q ≢ zero_fraction
  nonzero q e z = both_ways (is_zero_fraction q) e (ap is_zero_fraction z ∙ zero_is_zero)

  from_start : (k : ℕ) (qs : List Fraction) → coefficient_at (power_of x k) (powers_from 0 qs) ≡ slice_index_or qs k zero_fraction
  from_start k qs = let at : 0 + k ≡ k = omega arith in subst (λ n. coefficient_at (power_of x n) (powers_from 0 qs) ≡ slice_index_or qs k zero_fraction) at (here 0 k qs)

  same_powers : {v : Polynomial} {qs : List Fraction} → AreCoefficients x v qs → AreSame v (powers_from 0 qs)
  same_powers {v} {qs} a = record { at = λ m. by m (is_zero_fraction (coefficient_at m v)) refl (is_zero_fraction (coefficient_at m (powers_from 0 qs))) refl }
    where
      power : (m : Monomial) → (k : ℕ) × (m ≡ power_of x k) → coefficient_at m v ≡ coefficient_at m (powers_from 0 qs)
      power m (k, e) = subst (λ n. coefficient_at n v ≡ coefficient_at n (powers_from 0 qs)) (sym e) (a.powers k ∙ sym (from_start k qs))

      by : (m : Monomial) → (b : Bool) → is_zero_fraction (coefficient_at m v) ≡ b → (c : Bool) → is_zero_fraction (coefficient_at m (powers_from 0 qs)) ≡ c → coefficient_at m v ≡ coefficient_at m (powers_from 0 qs)
      by m true e true d = zero_is (coefficient_at m v) e ∙ sym (zero_is (coefficient_at m (powers_from 0 qs)) d)
      by m true e false d = power m (only_powers 0 qs m (nonzero (coefficient_at m (powers_from 0 qs)) d))
      by m false e c d = power m (a.others m (nonzero (coefficient_at m v) e))

  -- ---- what it is worth

  module _ (f : Assignment) where
    power_value : (j : ℕ) → monomial_value f (power_of x j) ≡ fraction_power (given f x) j
    power_value zero = refl
    power_value (suc j) = times_one (fraction_power (given f x) (suc j))

    powers_value : (j : ℕ) (qs : List Fraction) → polynomial_value f (powers_from j qs) ≡ times (fraction_power (given f x) j) (value qs (given f x))
    powers_value j [] = sym (times_zero (fraction_power (given f x) j))
    powers_value j (q ∷ qs) =
        let g = given f x in
        let p = fraction_power g j in
        plus_both (ap (times q) (power_value j) ∙ times_comm q p) (powers_value (suc j) qs ∙ ap (λ y. times y (value qs g)) (times_comm g p) ∙ times_assoc p g (value qs g))
        ∙ sym (times_plus p q (times g (value qs g)))

    pub value_by_coefficients : {v : Polynomial} {qs : List Fraction} → AreCoefficients x v qs → polynomial_value f v ≡ value qs (given f x)
    value_by_coefficients {qs = qs} a = same_value f (same_powers a) ∙ powers_value 0 qs ∙ one_times (value qs (given f x))
