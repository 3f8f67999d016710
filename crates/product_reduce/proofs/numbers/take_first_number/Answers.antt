use Rattle.product_reduce.proofs.{Shared.{arith, inr, ap, is_mult, behind_first, front_same, front_end, front_put, many, child_within, out, if_ok_map}, Begun.{underway_first, underway_one}}
use Rattle.product_reduce.proofs.numbers.take_first_number.Goals as goal

pub take_child-requires-clause-within : goal.take_child-requires-clause-within
take_child-requires-clause-within c = child_within c.in-Some.at c.requires.stands (many c.requires.product.handed (inr (ap is_mult c.requires.product.tree))) c.in-Some.ensures.within

pub returns-in-Some-clause-ok : goal.returns-in-Some-clause-ok
returns-in-Some-clause-ok c =
    let m = many c.requires.product.handed (inr (ap is_mult c.requires.product.tree)) in
    underway_first (out c.in-Some.at m c.in-Some.ensures.within (c.take_child.ensures.last m.over.root)) c.requires.reduced c.in-Some.ensures

pub returns-in-Some-clause-front : goal.returns-in-Some-clause-front
returns-in-Some-clause-front c = grind (arith, front_end, front_put, behind_first, front_same)

pub returns-in-None-clause-ok : goal.returns-in-None-clause-ok
returns-in-None-clause-ok c =
    if_ok_map c.one.result c.one.ensures.ok (λ h g. underway_one (many c.requires.product.handed (inr (ap is_mult c.requires.product.tree))) c.requires.reduced c.in-None.ensures g)
