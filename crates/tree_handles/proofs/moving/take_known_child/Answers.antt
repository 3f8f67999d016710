use Rattle.tree_handles.proofs.Shared.{rules, ◌≡◌, refl, ℕ, ◌-◌, ap, ◌∙◌, arith, inr, State, used, moved, boundary_le, IsChildAt, arity, tree_nth, join, without_nth, kids_of, with_kids, forest}
use Rattle.tree_handles.proofs.{Shared.{Stands}, Distinct.{held_parent}, Parts.{IsTold, taken, counted_taken}, AtRoots.{taken_root}, ChildPlaces.{placed}, Forests.{stands, keeps, keeps_after}}
use Rattle.tree_handles.proofs.moving.take_known_child.Goals.{After-move_block}
use Rattle.tree_handles.proofs.moving.take_known_child.Goals as goal

pub children-children-requires-clause-live : goal.children-children-requires-clause-live
children-children-requires-clause-live c = rw c.id-owner.ensures (held_parent c.requires.known.0 c.args.parent.now (forest c.args.pool.now) c.requires.known.1.within)

pub locate-from-requires : goal.locate-from-requires
locate-from-requires c = (placed c.requires.known.0 c.args.parent.now c.args.child c.args.pool.now c.requires.stands c.requires.known.1).live

pub move_block-requires-clause-outside : goal.move_block-requires-clause-outside
move_block-requires-clause-outside c = inr (omega (arith, boundary_le c.behind-end.result c.args.pool.now.nodes c.behind-end.ensures.boundary, c.used-used.ensures.value, c.behind-end.ensures.order))

count : (c : After-move_block) → c.children-children.result ≡ arity (kids_of c.args.parent.now (forest c.args.pool.now))
count c = c.children-children.ensures.value ∙ rw c.id-owner.ensures refl

nodes : (c : After-move_block) → c.move_block.new.self.nodes ≡ moved c.locate-from.result (c.behind-end.result - c.locate-from.result) (used c.args.pool.now.nodes) c.args.pool.now.nodes
nodes c = ap (λ (s : State). s.nodes) c.move_block.ensures.nodes ∙ rw c.used-used.ensures.value refl

told : (c : After-move_block) → IsTold c.args.child c.locate-from.result c.behind-end.result c.args.pool.now.nodes
told c = record { start = c.locate-from.ensures.value; boundary = c.behind-end.ensures.boundary; rest = c.behind-end.ensures.rest }

pub overflow_sub-children : goal.overflow_sub-children
overflow_sub-children c = omega (arith, count (goal.at.overflow_sub-children c).After-move_block, c.requires.known.1.within)

pub set_children-requires : goal.set_children-requires
set_children-requires c =
    let d = (goal.at.set_children-requires c).After-move_block in
    rw (c.id-owner.ensures, nodes d) (taken c.requires.known.0 c.args.parent.now c.args.child _ _ c.args.pool.now c.requires.stands c.requires.known.1 (told d)).live

all : (c : goal.After-of) (n : ℕ) → IsChildAt n c.args.parent.now c.args.child (forest c.args.pool.now)
    → (forest c.set_children.new.self ≡ join (with_kids c.args.parent.now (without_nth n (kids_of c.args.parent.now (forest c.args.pool.now))) (forest c.args.pool.now)) (tree_nth n (kids_of c.args.parent.now (forest c.args.pool.now)))) × Stands c.set_children.new.self
all c n h =
    let s = c.args.pool.now in
    let d = (goal.at.returns c).After-move_block in
    stands c.set_children.new.self _ (ap (λ (x : State). x.nodes) c.set_children.ensures.nodes ∙ rw (c.id-owner.ensures, count d, nodes d)
    (taken n c.args.parent.now c.args.child _ _ s c.requires.stands h (told d)).forest)
    c.set_children.ensures.pool (counted_taken c.args.parent.now n s c.requires.stands)

pub returns : goal.returns
returns c =
    let done = all c c.requires.known.0 c.requires.known.1 in
    record {
      forest = λ n h. (all c n h).0;
      last = λ n h root. taken_root c.args.parent.now n c.of.result c.args.pool.now c.set_children.new.self c.requires.stands done.1 h.within (all c n h).0 (c.of.ensures ∙ h.id-is) root;
      kept = keeps_after c.args.pool.now c.move_block.new.self c.set_children.new.self (keeps c.args.pool.now c.move_block.new.self _ c.move_block.ensures.nodes) (keeps c.move_block.new.self c.set_children.new.self _ c.set_children.ensures.nodes);
      stands = done.1;
      handle = search rules;
    }
