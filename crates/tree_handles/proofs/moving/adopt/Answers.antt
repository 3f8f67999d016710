use Rattle.tree_handles.proofs.{Shared.{rules, ◌≡◌, ℕ, ◌+◌, ap, ◌∙◌, with_children, State, arity, kids_of, adopted, forest, Stands}, Adding.root_live}
use Rattle.tree_handles.proofs.{Adopting.{are_adopted, counted_adopted}, Forests.stands, Roots.root_held}
use Rattle.tree_handles.proofs.moving.adopt.Goals as goal

pub children-own-requires-clause-live : goal.children-own-requires-clause-live
children-own-requires-clause-live c = rw c.id-owner.ensures (root_held c.args.parent.now (forest c.args.pool.now) c.requires.root)

pub overflow_add-own : goal.overflow_add-own
overflow_add-own c = record {
  fits = (are_adopted c.args.parent.now c.args.trees c.children-own.result c.args.pool.now c.requires.stands c.requires.root c.requires.within
      (c.children-own.ensures.value ∙ ap (λ (i : ℕ). arity (kids_of i (forest c.args.pool.now))) c.id-owner.ensures)).few;
}

pub set_children-requires : goal.set_children-requires
set_children-requires c = rw c.id-owner.ensures (root_live c.args.parent.now c.args.pool.now c.requires.stands c.requires.root)

all : (c : goal.After-set_children) → (forest c.set_children.new.self ≡ adopted c.args.parent.now c.args.trees (forest c.args.pool.now)) × Stands c.set_children.new.self
all c =
    let nodes = ap (λ (s : State). s.nodes) c.set_children.ensures.nodes ∙ ap (λ (i : ℕ). with_children i (c.children-own.result + c.args.trees) c.args.pool.now.nodes) c.id-owner.ensures in
    let told = are_adopted c.args.parent.now c.args.trees c.children-own.result c.args.pool.now c.requires.stands c.requires.root c.requires.within
    (c.children-own.ensures.value ∙ ap (λ (i : ℕ). arity (kids_of i (forest c.args.pool.now))) c.id-owner.ensures) in
    stands c.set_children.new.self (adopted c.args.parent.now c.args.trees (forest c.args.pool.now)) (nodes ∙ told.nodes) c.set_children.ensures.pool
    (counted_adopted c.args.parent.now c.args.trees c.args.pool.now c.requires.stands c.requires.root)

pub returns : goal.returns
returns c = record { forest = (all c).0; stands = (all c).1; kept = search rules }
