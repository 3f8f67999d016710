use Rattle.like_children.proofs.{Shared.{suc, ◌∙◌, sym, subst, arith, add-one, children_of, tree_of, forest, are_alike, rules}, Items.{children_count, next_child, last_child, children_told}}
use Rattle.like_children.proofs.Pairs.{key_valid, key_as, one_key, no_pair_more}
use Rattle.like_children.proofs.neighbours.next_pair.Goals as goal

pub child_ids-ids-requires-clause-within : goal.child_ids-ids-requires-clause-within
child_ids-ids-requires-clause-within g c = rw c.id.ensures (omega (arith, children_count c.requires.stands c.requires.handed, c.requires.within))

pub returns-in_err-next-clause-pair : goal.returns-in_err-next-clause-pair
returns-in_err-next-clause-pair g c =
    rw c.from_residual.ensures (λ k f l. absurd (omega (arith, last_child {n = c.args.from} c.requires.stands c.requires.handed (rw (← c.id.ensures) c.child_ids-ids.ensures) c.in_err-next.ensures.steps.0, f, l)))

pub key_if_any-left-requires : goal.key_if_any-left-requires
key_if_any-left-requires g c =
    let t = next_child {n = c.args.from} c.requires.stands c.requires.handed (rw (← c.id.ensures) c.child_ids-ids.ensures) c.in_ok-next.ensures.steps in
    record { stands = search rules; tree = t.expression; told = subst g.L.Likes.can_tell (sym t.tree) (c.requires.told c.args.from t.within) }

pub overflow_sub-at-end : goal.overflow_sub-at-end
overflow_sub-at-end g c =
    let t = next_child {n = c.args.from} c.requires.stands c.requires.handed (rw (← c.id.ensures) c.child_ids-ids.ensures) c.in_ok-next.ensures.steps in
    let k = children_told c.requires.stands c.requires.handed c.id-2.ensures c.children-at-end.ensures.value in
    omega (arith, t.within, k)

pub loop-at-init : goal.loop-at-init
loop-at-init g c =
    let t = next_child {n = c.args.from} c.requires.stands c.requires.handed (rw (← c.id.ensures) c.child_ids-ids.ensures) c.in_ok-next.ensures.steps in
    record {
      behind = omega arith;
      ids = t.left-are;
      left = key_as g.L.Likes.has_key g.L.Likes.key_of (forest c.args.pool.now) _ t.tree c.key_if_any-left.ensures;
      apart = λ k f l. absurd (omega (arith, f, l));
    }

pub returns-in_err-next-2-clause-pair : goal.returns-in_err-next-2-clause-pair
returns-in_err-next-2-clause-pair g c =
    let i = c.loop-at.invariant in
    rw c.from_residual-in_err-next-2.ensures (λ k f l. i.apart k f (omega (arith, last_child {n = suc c.loop-at.at} c.requires.stands c.requires.handed i.ids c.in_err-next-2.ensures.steps.0, l)))

pub key_if_any-right-requires : goal.key_if_any-right-requires
key_if_any-right-requires g c =
    let t = next_child {n = suc c.loop-at.at} c.requires.stands c.requires.handed c.loop-at.invariant.ids c.in_ok-next-2.ensures.steps in
    record { stands = search rules; tree = t.expression; told = subst g.L.Likes.can_tell (sym t.tree) (c.requires.told (suc c.loop-at.at) t.within) }

pub have_one_key-requires-clause-first : goal.have_one_key-requires-clause-first
have_one_key-requires-clause-first g c = key_valid g.L.Likes.has_key g.L.Likes.key_of _ (forest c.args.pool.now) _ c.loop-at.invariant.left

pub have_one_key-requires-clause-second : goal.have_one_key-requires-clause-second
have_one_key-requires-clause-second g c = key_valid g.L.Likes.has_key g.L.Likes.key_of _ (forest c.args.pool.now) _ c.key_if_any-right.ensures

pub returns-then-have_one_key-clause-pair : goal.returns-then-have_one_key-clause-pair
returns-then-have_one_key-clause-pair g c =
    let i = c.loop-at.invariant in
    let t = next_child {n = suc c.loop-at.at} c.requires.stands c.requires.handed i.ids c.in_ok-next-2.ensures.steps in
    let right = key_as g.L.Likes.has_key g.L.Likes.key_of (forest c.args.pool.now) c.key_if_any-right.result t.tree c.key_if_any-right.ensures in
    record {
      behind = i.behind;
      before = i.apart;
      pair = record { within = t.within; pair = sym (one_key g.L.Likes.has_key g.L.Likes.key_of _ _ (forest c.args.pool.now) _ _ i.left right) ∙ sym c.have_one_key.ensures ∙ c.if-have_one_key.true };
    }

pub loop-at-preserved : goal.loop-at-preserved
loop-at-preserved g c =
    let i = c.loop-at.invariant in
    let t = next_child {n = suc c.loop-at.at} c.requires.stands c.requires.handed i.ids c.in_ok-next-2.ensures.steps in
    let right = key_as g.L.Likes.has_key g.L.Likes.key_of (forest c.args.pool.now) c.key_if_any-right.result t.tree c.key_if_any-right.ensures in
    let alike = are_alike g.L.Likes.has_key g.L.Likes.key_of in
    record {
      behind = omega (arith, i.behind);
      ids = rw add-one t.left-are;
      left = rw add-one right;
      apart = no_pair_more alike c.args.from c.loop-at.at (children_of (tree_of c.args.parent.now c.args.pool.now)) i.apart (sym (one_key g.L.Likes.has_key g.L.Likes.key_of _ _ (forest c.args.pool.now) _ _ i.left right) ∙ sym c.have_one_key.ensures ∙ c.if-have_one_key.false);
    }

pub returns-clause-pair : goal.returns-clause-pair
returns-clause-pair g c =
    let m = children_told c.requires.stands c.requires.handed c.id-2.ensures c.children-at-end.ensures.value in
    λ k f l. c.loop-at.invariant.apart k f (omega (arith, c.loop-at-test.false, m, l))
