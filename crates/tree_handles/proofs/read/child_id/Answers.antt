use Rattle.tree_handles.proofs.Shared.{◌≡◌, ℕ, true, ap, sym, ◌∙◌, subst, Header, plain, AllExpressions, root_id, tree_nth, holds, kids_of, tree_at, forest}
use Rattle.tree_handles.proofs.{Distinct.{held_parent, distinct, child_tree}, Parts.{live_node, child_seen, root_nth}, Readings.{expression_child, whole_child}}
use Rattle.tree_handles.proofs.read.child_id.Goals as goal

pub child_place-place-requires : goal.child_place-place-requires
child_place-place-requires c = record { live = live_node c.args.parent c.args.pool.now c.requires.stands (held_parent c.args.at c.args.parent (forest c.args.pool.now) c.requires.within) }

pub header-requires-clause-inside : goal.header-requires-clause-inside
header-requires-clause-inside c = (child_seen c.args.parent c.args.at c.child_place-place.result c.args.pool.now c.requires.stands (held_parent c.args.at c.args.parent (forest c.args.pool.now) c.requires.within) c.requires.within c.child_place-place.ensures.boundary c.child_place-place.ensures.rest).0

value : (c : goal.After-of) → c.of.result ≡ root_id (tree_nth c.args.at (kids_of c.args.parent (forest c.args.pool.now)))
value c =
    c.of.ensures ∙ ap (λ (h : Header). h.id) c.header.ensures.value
    ∙ (child_seen c.args.parent c.args.at c.child_place-place.result c.args.pool.now c.requires.stands (held_parent c.args.at c.args.parent (forest c.args.pool.now) c.requires.within) c.requires.within c.child_place-place.ensures.boundary c.child_place-place.ensures.rest).1
    ∙ root_nth c.args.at (kids_of c.args.parent (forest c.args.pool.now))

child : (c : goal.After-of) → (holds c.of.result (forest c.args.pool.now) ≡ true) × (tree_at c.of.result (forest c.args.pool.now) ≡ tree_nth c.args.at (kids_of c.args.parent (forest c.args.pool.now)))
child c =
    let f = forest c.args.pool.now in
    let x = child_tree c.args.at c.args.parent f (distinct c.args.pool.now c.requires.stands) c.requires.within in
    (ap (λ (i : ℕ). holds i f) (value c) ∙ x.live, ap (λ (i : ℕ). tree_at i f) (value c) ∙ x.tree-is)

pub returns : goal.returns
returns c =
    record {
      value = value c;
      live = (child c).0;
      tree = (child c).1;
      expression = λ h. record { live = (child c).0; whole = subst AllExpressions (sym (child c).1) (whole_child c.args.at c.args.parent (forest c.args.pool.now) h.whole) };
      plain = λ h. ap plain (child c).1 ∙ expression_child c.args.at c.args.parent (forest c.args.pool.now) h;
    }
