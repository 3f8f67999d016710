use Rattle.polynomials.proofs.{Shared.{ℕ, ◌+◌, ◌^◌, ◌<◌, HasExponents}, Exponents.{IsPackedSum, packed_sum}}
use Rattle.polynomials.specs.Packed.{monomial_of}
use Rattle.polynomials.proofs.term.packed_product.Goals as goal

sum_of : (k l : ℕ) → k < 2 ^ 64 → l < 2 ^ 64 → (d : ℕ) × (e : ℕ) × (d + e < 256) × HasExponents d (monomial_of k) × HasExponents e (monomial_of l) → IsPackedSum 8 k l
unfolding monomial_of
sum_of k l a b (d, e, h, p, q) = packed_sum d e h 8 k l a b p q

pub overflow_add-result : goal.overflow_add-result
overflow_add-result c = record { fits = (sum_of c.args.a c.args.b c.ranges.a.fits c.ranges.b.fits c.requires.exponents).fits }

pub returns-clause-product : goal.returns-clause-product
unfolding monomial_of
returns-clause-product c = (sum_of c.args.a c.args.b c.ranges.a.fits c.ranges.b.fits c.requires.exponents).exponents
