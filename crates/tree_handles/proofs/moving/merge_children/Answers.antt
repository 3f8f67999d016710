use Rattle.tree_handles.proofs.Shared.{rules, ◌≡◌, refl, ℕ, ap, ◌∙◌, arith, Header, State, without, arity, kids, tree_nth, merged_nth, kids_of, with_kids, forest, Stands}
use Rattle.tree_handles.proofs.{Distinct.held_parent, Forests.stands, Parts.live_node, Releases.few_nodes, Swapping.{IsMerge, merges, counted_merged}, AtRoots.{changed_root}}
use Rattle.tree_handles.proofs.moving.merge_children.Goals.{After-child_place-from, After-remove_block}
use Rattle.tree_handles.proofs.moving.merge_children.Goals as goal

pub children-children-requires-clause-live : goal.children-children-requires-clause-live
children-children-requires-clause-live c = rw c.id-owner.ensures (held_parent c.args.at c.args.parent.now (forest c.args.pool.now) c.requires.within)

pub child_place-from-requires : goal.child_place-from-requires
child_place-from-requires c = record { live = rw c.id-owner.ensures (live_node c.args.parent.now c.args.pool.now c.requires.stands (held_parent c.args.at c.args.parent.now (forest c.args.pool.now) c.requires.within)) }

facts : (c : After-child_place-from) (next : ℕ) → IsMerge c.args.parent.now c.args.at c.child_place-from.result next c.args.pool.now
facts c next = merges c.args.parent.now c.args.at c.child_place-from.result next c.args.pool.now c.requires.stands c.requires.within c.child_place-from.ensures.boundary
    (rw (← c.id-owner.ensures) c.child_place-from.ensures.rest)

pub step-next-requires-clause-inside : goal.step-next-requires-clause-inside
step-next-requires-clause-inside c = (facts (goal.at.step-next-requires-clause-inside c).After-child_place-from 0).inside

own : (c : After-remove_block) → c.children-children.result ≡ arity (kids_of c.args.parent.now (forest c.args.pool.now))
own c = c.children-children.ensures.value ∙ rw c.id-owner.ensures refl

below : (c : After-remove_block) → IsMerge c.args.parent.now c.args.at c.child_place-from.result c.step-next.result.1 c.args.pool.now
    → c.step-next.result.0.children ≡ arity (kids (tree_nth c.args.at (kids_of c.args.parent.now (forest c.args.pool.now))))
below c m = ap (λ (h : Header). h.children) c.step-next.ensures.header ∙ m.children

nodes : (c : After-remove_block) → c.remove_block.new.self.nodes ≡ without c.child_place-from.result c.step-next.result.1 c.args.pool.now.nodes
nodes c =
    ap (λ (x : State). x.nodes) c.remove_block.ensures.nodes ∙ ap (λ (j : ℕ). without c.child_place-from.result j c.args.pool.now.nodes) (omega (arith, c.step-next.ensures.grows))

pub overflow_add-children : goal.overflow_add-children
overflow_add-children c =
    let d = (goal.at.overflow_add-children c).After-remove_block in
    let m = facts (goal.at.overflow_add-children c).After-child_place-from c.step-next.result.1 in
    record { fits = omega (arith, own d, below d m, m.few, few_nodes c.args.pool.now c.requires.stands.pool) }

pub set_children-requires : goal.set_children-requires
set_children-requires c =
    rw (c.id-owner.ensures, nodes (goal.at.set_children-requires c).After-remove_block)
    ((facts (goal.at.set_children-requires c).After-child_place-from c.step-next.result.1).live c.step-next.ensures.next)

all : (c : goal.After-set_children) → (forest c.set_children.new.self ≡ with_kids c.args.parent.now (merged_nth c.args.at (kids_of c.args.parent.now (forest c.args.pool.now))) (forest c.args.pool.now)) × Stands c.set_children.new.self
all c =
    let d = (goal.at.returns c).After-remove_block in
    let m = facts (goal.at.returns c).After-child_place-from c.step-next.result.1 in
    stands c.set_children.new.self _
    (ap (λ (x : State). x.nodes) c.set_children.ensures.nodes ∙ rw (c.id-owner.ensures, own d, below d m, nodes d) (m.done c.step-next.ensures.next))
    c.set_children.ensures.pool (counted_merged c.args.parent.now c.args.at c.args.pool.now c.requires.stands)

pub returns : goal.returns
returns c =
    let d = all c in
    record { forest = d.0; stands = d.1; root = changed_root c.args.parent.now c.args.pool.now c.set_children.new.self (λ k. merged_nth c.args.at k) c.requires.stands d.0; kept = search rules }
