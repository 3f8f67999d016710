use Rattle.product_reduce.proofs.{HeldFactors.{factors_wider, factors_append}, HeldPairs.{trees_as_factors, product_as_factors, neighbours_held}}
use Rattle.product_reduce.proofs.laws.what_holds_factors.Goals as goal

pub returns : goal.returns
returns c = record {
  trees = trees_as_factors;
  of_a_product = product_as_factors;
  by_more = λ ts h l k n x y a. factors_wider x y a;
  appended = λ ts us h l k n a b. factors_append ts us a b;
  neighbours = neighbours_held;
}
