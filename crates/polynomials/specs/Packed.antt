-- Monomials of eight names packed into 64 bits, eight bits for each exponent.
use Rattle.std.specs.Prelude.{ℕ, zero, suc, ◌/◌, ◌%◌, [], ◌∷◌}
use Rattle.polynomials.specs.Polynomials.{Monomial}

-- the exponents of n names, of which the first stands in the lowest bits
abbrev pub unpacked : ℕ → ℕ → Monomial
unpacked zero k = []
unpacked (suc n) k = k % 256 ∷ unpacked n (k / 256)

-- of eight names
unfoldable pub monomial_of : ℕ → Monomial
monomial_of k = unpacked 8 k
