use Rattle.tree_handles.proofs.Shared.{◌≡◌, ◌<◌, ap, ◌∙◌, ℕ, AreSiblings, Forest, arity, root_id, tree_nth, kids_of, forest}
use Rattle.tree_handles.proofs.moving.swap_children.Goals as goal

pub child_id-first-requires-clause-within : goal.child_id-first-requires-clause-within
child_id-first-requires-clause-within c = rw c.id-owner.ensures c.requires.first

pub child_id-second-requires-clause-within : goal.child_id-second-requires-clause-within
child_id-second-requires-clause-within c = rw c.id-owner.ensures c.requires.second

siblings : (p q i x j y : ℕ) (f : Forest) → p ≡ q → i < arity (kids_of q f) → j < arity (kids_of q f) → x ≡ root_id (tree_nth i (kids_of p f)) → y ≡ root_id (tree_nth j (kids_of p f)) → AreSiblings q i x j y f
siblings p q i x j y f e hi hj ex ey = record {
  first = record { within = hi; id-is = ex ∙ ap (λ (k : ℕ). root_id (tree_nth i (kids_of k f))) e };
  second = record { within = hj; id-is = ey ∙ ap (λ (k : ℕ). root_id (tree_nth j (kids_of k f))) e };
}

pub swap_siblings-requires-clause-siblings : goal.swap_siblings-requires-clause-siblings
swap_siblings-requires-clause-siblings c =
    (c.args.parent.now, c.args.i, c.args.j, siblings c.id-owner.result c.args.parent.now c.args.i c.child_id-first.result c.args.j c.child_id-second.result (forest c.args.pool.now) c.id-owner.ensures c.requires.first c.requires.second c.child_id-first.ensures.value c.child_id-second.ensures.value)

pub returns-clause-forest : goal.returns-clause-forest
returns-clause-forest c =
    c.swap_siblings.ensures.forest c.args.parent.now c.args.i c.args.j (siblings c.id-owner.result c.args.parent.now c.args.i c.child_id-first.result c.args.j c.child_id-second.result (forest c.args.pool.now) c.id-owner.ensures c.requires.first c.requires.second c.child_id-first.ensures.value c.child_id-second.ensures.value)

pub returns-clause-root : goal.returns-clause-root
returns-clause-root c =
    c.swap_siblings.ensures.root c.args.parent.now c.args.i c.args.j (siblings c.id-owner.result c.args.parent.now c.args.i c.child_id-first.result c.args.j c.child_id-second.result (forest c.args.pool.now) c.id-owner.ensures c.requires.first c.requires.second c.child_id-first.ensures.value c.child_id-second.ensures.value)
