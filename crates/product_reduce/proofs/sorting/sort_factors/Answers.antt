use Rattle.product_reduce.proofs.{Shared.{subst, refl, arith, base_of, Trees, IsSorting, plains}, Products.{becomes_put, product_arity, product_kids}}
use Rattle.product_reduce.proofs.sorting.sort_factors.Goals as goal

pub returns-clause-sorts : goal.returns-clause-sorts
returns-clause-sorts c =
    let x = c.sort_children.ensures.sorts in
    let e = (product_kids c.requires.product).plain_trees in
    record {
      us = plains x.children;
      becomes = becomes_put c.requires.product (record { once = x.once; whole = x.expressions; plain_trees = refl }) x.whole;
      sorted = subst (λ (ts : Trees). IsSorting c.args.from base_of ts (plains x.children)) e x.sorted;
    }

pub sort_children-requires-clause-within : goal.sort_children-requires-clause-within
sort_children-requires-clause-within c = omega (arith, c.requires.within, product_arity c.requires.product)
