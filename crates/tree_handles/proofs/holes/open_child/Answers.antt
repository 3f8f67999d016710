use Rattle.tree_handles.proofs.{Shared.{ℕ, ap, arith, Place}, Filling.{handed_arity, opened_hole, opened_child, opened_free, opened_front}}
use Rattle.tree_handles.proofs.holes.open_child.Goals as goal

pub take_child-child-requires-clause-within : goal.take_child-child-requires-clause-within
take_child-child-requires-clause-within c = omega (arith, handed_arity c.requires.stands c.requires.handed, c.requires.within)

pub returns-clause-hole : goal.returns-clause-hole
returns-clause-hole c =
    let place : ℕ → Place = λ i. record { parent = i; at = c.args.at } in
    opened_hole (ap place c.id.ensures) c.requires.handed c.requires.within (c.take_child-child.ensures.last c.requires.handed.root)

pub returns-clause-child : goal.returns-clause-child
returns-clause-child c = opened_child c.requires.handed c.requires.within (c.take_child-child.ensures.last c.requires.handed.root)

pub returns-clause-free : goal.returns-clause-free
returns-clause-free c = opened_free c.args.at c.requires.stands c.take_child-child.ensures.stands c.take_child-child.ensures.kept c.requires.handed (c.take_child-child.ensures.last c.requires.handed.root)

pub returns-clause-front : goal.returns-clause-front
returns-clause-front c handed g k = opened_front _ (c.take_child-child.ensures.last c.requires.handed.root) k
