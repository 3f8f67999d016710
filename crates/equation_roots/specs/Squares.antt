-- Polynomials of degree 2 with their square completed, and what is left of a factoring.
use Rattle.std.specs.Prelude.{ℕ, ◌≡◌, ◌≢◌, ◌≤◌, ◌<◌, ◌^◌, ℤ, pos, ◌+ℤ◌, ◌-ℤ◌, ◌*ℤ◌, ◌<ℤ◌, nat_abs, List}
use Rattle.calc_terms.specs.Fractions.{Fraction, times, zero_fraction}
use Rattle.equation_roots.specs.{Coefficients.{at, times_all}, Factorings.{Rest, IsRest, dense_of}, Wholes.{fractions}}

-- aX^2 + bX + c is a times (X + half/den)^2 - under/den^2
pub record IsCompleted (a b c half den under : ℤ) : Type 0 where
  pub positive : pos 0 <ℤ den
  pub linear : b *ℤ den ≡ a *ℤ (half +ℤ half)
  pub constant : c *ℤ (den *ℤ den) ≡ a *ℤ (half *ℤ half -ℤ under)
  pub half_at_most : nat_abs half ≤ nat_abs b
  pub half_fits : nat_abs half < 2 ^ 127
  pub den_fits : nat_abs den < 2 ^ 127
  pub under_fits : nat_abs under < 2 ^ 127

-- what is left is the linear factors that are found more and the rest, times a fraction other than 0
pub record Finishes (found : List Fraction) (left : List ℤ) (found' : List Fraction) (rest : Rest) : Type 0 where
  pub lead : Fraction
  pub not_zero : lead ≢ zero_fraction
  pub equal : (k : ℕ) → at k (times_all found (fractions left)) ≡ times lead (at k (times_all found' (dense_of rest)))
  pub remains : IsRest rest
