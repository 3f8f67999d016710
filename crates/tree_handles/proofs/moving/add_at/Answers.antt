use Rattle.tree_handles.proofs.Shared.{◌≡◌, refl, ℕ, ap, ◌∙◌, arith, State, place_of, arity, with_nth, kids_of, with_kids, root_tree, without_root, forest, Stands, IsChildPlace}
use Rattle.tree_handles.proofs.{Releases.{few_nodes}, Adding.{IsAdded, added, counted_added, root_live}, Forests.{stands, keeps, keeps_after}, moving.add_at.Goals.{After-behind-end}}
use Rattle.tree_handles.proofs.moving.add_at.Goals as goal

pub children-children-requires-clause-live : goal.children-children-requires-clause-live
children-children-requires-clause-live c = rw c.id-owner.ensures c.requires.live

pub locate-from-requires : goal.locate-from-requires
locate-from-requires c = rw c.id.ensures (root_live c.args.child c.args.pool.now c.requires.stands c.requires.root)

pub move_block-requires-clause-to : goal.move_block-requires-clause-to
move_block-requires-clause-to c = c.requires.place.1.boundary

facts : (c : After-behind-end) (n : ℕ) → IsChildPlace n c.args.parent.now c.args.to c.args.pool.now
    → IsAdded c.args.parent.now n c.locate-from.result c.behind-end.result c.args.to (forest c.args.pool.now)
    (with_kids c.args.parent.now (with_nth n (root_tree c.args.child (forest c.args.pool.now)) (kids_of c.args.parent.now (forest c.args.pool.now)))
    (without_root c.args.child (forest c.args.pool.now))) c.args.pool.now.nodes
facts c n h =
    added n c.args.parent.now c.args.child c.locate-from.result c.behind-end.result c.args.to c.args.pool.now c.requires.stands c.requires.live c.requires.root c.requires.apart
    (record { start = c.locate-from.ensures.value ∙ ap (λ (i : ℕ). place_of i c.args.pool.now.nodes) c.id.ensures; boundary = c.behind-end.ensures.boundary; rest = c.behind-end.ensures.rest }) h

pub move_block-requires-clause-outside : goal.move_block-requires-clause-outside
move_block-requires-clause-outside c = (facts (goal.at.move_block-requires-clause-outside c).After-behind-end c.requires.place.0 c.requires.place.1).outside

told : (c : After-behind-end) → c.children-children.result ≡ arity (kids_of c.args.parent.now (forest c.args.pool.now))
told c = c.children-children.ensures.value ∙ rw c.id-owner.ensures refl

pub overflow_add-children : goal.overflow_add-children
overflow_add-children c =
    let d = (goal.at.overflow_add-children c).After-behind-end in
    record { fits = omega (arith, told d, (facts d c.requires.place.0 c.requires.place.1).few, few_nodes c.args.pool.now c.requires.stands.pool) }

pub set_children-requires : goal.set_children-requires
set_children-requires c =
    rw (c.id-owner.ensures, ap (λ (s : State). s.nodes) c.move_block.ensures.nodes) (facts (goal.at.set_children-requires c).After-behind-end c.requires.place.0 c.requires.place.1).live

all : (c : goal.After-set_children) (n : ℕ) → IsChildPlace n c.args.parent.now c.args.to c.args.pool.now
    → (forest c.set_children.new.self ≡ with_kids c.args.parent.now (with_nth n (root_tree c.args.child (forest c.args.pool.now)) (kids_of c.args.parent.now (forest c.args.pool.now))) (without_root c.args.child (forest c.args.pool.now))) × Stands c.set_children.new.self
all c n h =
    let d = (goal.at.returns c).After-behind-end in
    stands c.set_children.new.self _ (ap (λ (s : State). s.nodes) c.set_children.ensures.nodes ∙ rw (c.id-owner.ensures, told d, ap (λ (s : State). s.nodes) c.move_block.ensures.nodes)
    (facts d n h).forest)
    c.set_children.ensures.pool (counted_added c.args.parent.now n c.args.child c.args.pool.now c.requires.stands)

pub returns : goal.returns
returns c =
    record {
      forest = λ n h. (all c n h).0;
      kept = keeps_after c.args.pool.now c.move_block.new.self c.set_children.new.self (keeps c.args.pool.now c.move_block.new.self _ c.move_block.ensures.nodes) (keeps c.move_block.new.self c.set_children.new.self _ c.set_children.ensures.nodes);
      stands = (all c c.requires.place.0 c.requires.place.1).1;
    }
