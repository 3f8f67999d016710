-- The factors of one tree.
use Rattle.product_reduce.proofs.Shared.{arith, ◌≡◌, Bool, factors_of, Tree, is_mult, Opens}
pub use Rattle.coefficients.proofs.{Factors.{single_factors as no_product_is}, FirstFactors.{product_children as product_is}}

pub product_opens : (t : Tree) (b : Bool) → b ≡ is_mult t → Opens factors_of t b
product_opens t b e = grind (arith, product_is, no_product_is)
