-- The powers of a summand, and binomial coefficients.
use Rattle.std.specs.Prelude.{ℕ, zero, suc, ◌+◌, ◌≡◌, ◌≤◌, List, length, slice_index_or}
use Rattle.calc_terms.specs.Fractions.{one_fraction}
use Rattle.polynomials.specs.{declared.term.Term.{Term}, Polynomials.{Summand, one_monomial, summand, summand_times}, Terms.{summand_of}}

-- n factors s
abbrev pub summand_power : Summand → ℕ → Summand
summand_power s zero = summand one_fraction one_monomial
summand_power s (suc n) = summand_times s (summand_power s n)

-- the powers of a summand up to the n-th one
pub record ArePowers (s : Summand) (n : ℕ) (ts : List Term) : Type 0 where
  pub many : length ts ≡ n + 1
  pub at : (k : ℕ) (d : Term) → k ≤ n → summand_of (slice_index_or ts k d) ≡ summand_power s k

-- how many choices of k things among n there are
abbrev pub choices : ℕ → ℕ → ℕ
choices zero zero = 1
choices zero (suc k) = 0
choices (suc n) zero = 1
choices (suc n) (suc k) = choices n k + choices n (suc k)
