-- Polynomials in one name whose coefficients are whole numbers.
use Rattle.std.specs.Prelude.{ℕ, suc, ◌≡◌, ◌≢◌, ◌≤◌, ◌<◌, ◌+◌, ℤ, pos, ◌+ℤ◌, ◌*ℤ◌, ◌<ℤ◌, nat_abs, Bool, true, false, List, [], ◌∷◌, map, reverse, length, slice_index_or}
use Rattle.std.specs.Int.{◌∣◌, IsGcd}
use Rattle.calc_terms.specs.Fractions.{Fraction, times, zero_fraction, whole_fraction}
use Rattle.equation_roots.specs.Coefficients.{Dense, at, value, times_all}

-- the same coefficients as fractions
abbrev pub fractions : List ℤ → Dense
fractions zs = map whole_fraction zs

-- (aX + b) times, where x stands before the coefficients and y after them
abbrev pub linear_product : ℤ → ℤ → ℤ → List ℤ → ℤ → List ℤ
linear_product a b x [] y = (a *ℤ x +ℤ b *ℤ y) ∷ []
linear_product a b x (q ∷ qs) y = (a *ℤ x +ℤ b *ℤ q) ∷ linear_product a b q qs y

-- the last coefficient
abbrev pub leading : List ℤ → ℤ
leading [] = pos 0
leading (z ∷ []) = z
leading (z ∷ w ∷ ws) = leading (w ∷ ws)

-- as it is read from the constant on, or from the leading coefficient on
abbrev pub read : Bool → List ℤ → List ℤ
read false zs = zs
read true zs = reverse zs

-- linear factors taken out: what is found and left is equal to the same with more found, times a fraction other than 0; what is left has no new root
pub record Divides (found : List Fraction) (left : List ℤ) (found' : List Fraction) (left' : List ℤ) : Type 0 where
  pub lead : Fraction
  pub not_zero : lead ≢ zero_fraction
  pub equal : (k : ℕ) → at k (times_all found (fractions left)) ≡ times lead (at k (times_all found' (fractions left')))
  pub roots : (r : Fraction) → value (fractions left') r ≡ zero_fraction → value (fractions left) r ≡ zero_fraction
  pub count : length found + length left ≡ length found' + length left'
  pub shorter : length left' ≤ length left
  pub positive : pos 0 <ℤ leading left → pos 0 <ℤ leading left'

-- u/v is in lowest terms and not 0, with v above 0 and both up to the bound of the trials
pub record IsCandidate (u v : ℤ) : Type 0 where
  pub positive : pos 0 <ℤ v
  pub not_zero : u ≢ pos 0
  pub lowest : IsGcd (nat_abs u) (nat_abs v) 1
  pub numerator : nat_abs u ≤ 1000
  pub denominator : nat_abs v ≤ 1000

-- marks at n where suc n divides it, for each number up to the bound of the trials
pub record Marks (marks : List Bool) (m : ℕ) : Type 0 where
  pub long : length marks ≡ 1000
  pub unmarked : (n : ℕ) → n < 1000 → slice_index_or marks n false ≡ false → ¬ (suc n ∣ m)

-- each coefficient is one of these times a fraction other than 0, and the last of these is above 0
pub record IsMultiple (p : Dense) (zs : List ℤ) : Type 0 where
  pub factor : Fraction
  pub not_zero : factor ≢ zero_fraction
  pub equal : (k : ℕ) → at k p ≡ times factor (at k (fractions zs))
  pub long : length zs ≡ length p
  pub positive : pos 0 <ℤ leading zs
