use Rattle.product_reduce.proofs.Shared.{sym, refl, arith, behind_first, behind_later, front_same, front_end, front_without, front_after_one, represents_handed, ends_as, last_tree, eqb-sym}
use Rattle.product_reduce.proofs.{Shared.{without-swap}, JointPlaces.{count_before}, Neighbours.{pair_before}, Products.{factors_are, product_at}}
use Rattle.product_reduce.proofs.gathering.behind.Goals as goal

pub factor_count-requires-clause-product : goal.factor_count-requires-clause-product
factor_count-requires-clause-product c = let d = c.put_in_front.ensures.becomes in product_at d.product refl (sym (factors_are d.product))

pub returns-clause-ok : goal.returns-clause-ok
returns-clause-ok c = grind (arith, eqb-sym, without-swap, ends_as, represents_handed)

pub returns-clause-pair : goal.returns-clause-pair
returns-clause-pair c = grind (arith, factors_are, count_before, last_tree, pair_before)

pub returns-clause-front : goal.returns-clause-front
returns-clause-front c = grind (arith, front_without, behind_later, behind_first, front_same, front_end, front_after_one)
