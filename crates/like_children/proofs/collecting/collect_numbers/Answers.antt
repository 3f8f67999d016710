use Rattle.like_children.proofs.Shared.{◌≡◌, ◌∙◌, true, ap, sym, subst, arith, rules, is_number, is_reduced, SpansRoot, SpansTree, Trees, count, size, LeavesChildren, IsJoint, children_of, tree_of}
use Rattle.like_children.proofs.{Shared.{without_root, forest, keeps_none, keeps_after, front_same, given_handed, given_told, fault_named, full_as}, SoFar.{base, begun, none_so_far, one_more}}
use Rattle.like_children.proofs.SoFar.{next_named, next_few, all_done, parts_taken, left_many, next_out, left_more, left_front, at_hand}
use Rattle.like_children.proofs.{Folds.{begun_with, fold_more, fold_faulted, fold_done, no_numbers}, Kids.{count_removed, each_removed}, Many.{many_handed, many_children, child_within}}
use Rattle.like_children.proofs.collecting.collect_numbers.Goals as goal

pub loop-at-init : goal.loop-at-init
loop-at-init g c =
    let b = base c.requires.number c.requires.parent c.requires.many in
    record {
      left = begun b c.requires.number;
      numbers = none_so_far g.J.Joins.both _ _ (given_told c.requires.number);
      reduced = c.requires.reduced;
      folded = λ q m. begun_with g.J.Joins.operation _ _ q m;
      spanned = λ gs s t. (s, t);
      front = front_same;
      kept = keeps_none c.args.pool.now;
      stands = c.requires.stands;
    }

pub next_number-requires-clause-handed : goal.next_number-requires-clause-handed
next_number-requires-clause-handed g c = many_handed (left_many (base c.requires.number c.requires.parent c.requires.many) c.loop-at.invariant.left)

pub take_child-next-requires-clause-within : goal.take_child-next-requires-clause-within
take_child-next-requires-clause-within g c =
    child_within c.in-Some.at c.loop-at.invariant.stands (left_many (base c.requires.number c.requires.parent c.requires.many) c.loop-at.invariant.left) c.in-Some.ensures.within

pub join-requires : goal.join-requires
join-requires g c =
    let x = next_out c.requires.number c.requires.parent c.requires.many c.loop-at.invariant.left c.in-Some.ensures.within c.take_child-next.ensures.last in
    record {
      stands = search rules;
      first = x.ready.handed;
      second = given_handed x.out.given;
      apart = x.ready.apart;
      first_number = ap is_number x.ready.tree ∙ c.loop-at.invariant.numbers.number;
      second_number = ap is_number (given_told x.out.given) ∙ c.in-Some.ensures.number;
    }

pub loop-at-preserved : goal.loop-at-preserved
loop-at-preserved g c =
    let i = c.loop-at.invariant in
    let at = c.in-Some.at in
    let us = children_of (tree_of c.args.parent.now c.loop-at.pool) in
    let d = tree_of c.loop-at.so_far c.loop-at.pool in
    let x = next_out c.requires.number c.requires.parent c.requires.many i.left c.in-Some.ensures.within c.take_child-next.ensures.last in
    let told = given_told x.out.given in
    let left = left_more x.out x.ready c.in-Ok.ensures.ok in
    let now = many_children (left_many (base c.requires.number c.requires.parent c.requires.many) left) in
    let joint : IsJoint g.J.Joins.both (tree_of c.loop-at.so_far c.take_child-next.new.pool) (tree_of c.take_child-next.result c.take_child-next.new.pool) (tree_of c.in-Ok.joined c.join.new.pool) =
    given_told c.in-Ok.ensures.ok in
    record {
      left = rw now left;
      numbers = rw now (one_more g.J.Joins.both _ _ us d _ at i.numbers c.in-Some.ensures (rw (x.ready.tree, told) at joint));
      reduced = rw now (each_removed (λ t. is_reduced t ≡ true) at us i.reduced);
      folded = λ q k. rw now (fold_more _ at us d _ (i.folded q k) c.in-Some.ensures (λ p s y z. c.in-Ok.ensures.rationals p s (x.ready.tree ∙ y) (told ∙ z)));
      spanned = λ gs s t.
          let before = i.spanned gs s t in
          let taken = parts_taken (SpansRoot gs) at us c.in-Some.ensures.within before.1 in
          (c.in-Ok.ensures.spanned gs (subst (SpansTree gs) (sym x.ready.tree) before.0) (subst (SpansTree gs) (sym told) taken.0), rw now taken.1);
      front = left_front i.left x.out i.front c.join.ensures.front;
      kept = keeps_after _ _ _ (keeps_after _ _ _ i.kept c.take_child-next.ensures.kept) c.in-Ok.ensures.kept;
      stands = c.join.ensures.stands;
    }

pub loop-at-smaller : goal.loop-at-smaller
loop-at-smaller g c =
    let i = c.loop-at.invariant in
    let us = children_of (tree_of c.args.parent.now c.loop-at.pool) in
    let x = next_out c.requires.number c.requires.parent c.requires.many i.left c.in-Some.ensures.within c.take_child-next.ensures.last in
    let left = left_more x.out x.ready c.in-Ok.ensures.ok in
    omega (arith, ap count (many_children (left_many (base c.requires.number c.requires.parent c.requires.many) left)), count_removed c.in-Some.at us c.in-Some.ensures.within)

-- ---- a Number that is not joined

pub returns-in-Err-clause-front : goal.returns-in-Err-clause-front
returns-in-Err-clause-front g c =
    let x = next_out c.requires.number c.requires.parent c.requires.many c.loop-at.invariant.left c.in-Some.ensures.within c.take_child-next.ensures.last in
    left_front c.loop-at.invariant.left x.out c.loop-at.invariant.front c.join.ensures.front

pub returns-in-Err-clause-rationals : goal.returns-in-Err-clause-rationals
returns-in-Err-clause-rationals g c q k =
    let x = next_out c.requires.number c.requires.parent c.requires.many c.loop-at.invariant.left c.in-Some.ensures.within c.take_child-next.ensures.last in
    fold_faulted _ c.in-Some.at _ _ c.join.new.pool c.in-Err.fault (c.loop-at.invariant.folded q k) c.in-Some.ensures (λ p s y z. c.in-Err.ensures.rationals p s (x.ready.tree ∙ y) (given_told x.out.given ∙ z))

pub returns-in-Err-clause-overflow : goal.returns-in-Err-clause-overflow
returns-in-Err-clause-overflow g c =
    let x = next_out c.requires.number c.requires.parent c.requires.many c.loop-at.invariant.left c.in-Some.ensures.within c.take_child-next.ensures.last in
    fault_named c.in-Err.fault _ _ c.in-Err.ensures.overflow
    (λ o h. next_named g.J.Joins.both g.J.Joins.misfit _ _ _ _ c.in-Some.at c.loop-at.invariant.numbers c.in-Some.ensures o (rw (x.ready.tree, given_told x.out.given) at h))

pub returns-in-Err-clause-bits : goal.returns-in-Err-clause-bits
returns-in-Err-clause-bits g c few =
    let x = next_out c.requires.number c.requires.parent c.requires.many c.loop-at.invariant.left c.in-Some.ensures.within c.take_child-next.ensures.last in
    c.in-Err.ensures.bits (rw (x.ready.tree, given_told x.out.given) (next_few g.J.Joins.both _ _ _ _ c.in-Some.at c.loop-at.invariant.numbers c.in-Some.ensures few))

pub returns-in-Err-clause-room : goal.returns-in-Err-clause-room
returns-in-Err-clause-room g c gs s t =
    let i = c.loop-at.invariant in
    let l = c.in-Some.ensures.within in
    let x = next_out c.requires.number c.requires.parent c.requires.many i.left l c.take_child-next.ensures.last in
    let before = i.spanned gs s t in
    let next = (parts_taken (SpansRoot gs) c.in-Some.at _ l before.1).0 in
    let bytes = at_hand c.requires.stands i.stands c.take_child-next.ensures.stands i.kept c.take_child-next.ensures.kept (given_handed c.requires.number) x.now l x.out _ (base c.requires.number c.requires.parent c.requires.many) i.numbers.fewer i.left in
    full_as c.in-Err.fault (c.in-Err.ensures.room gs (subst (SpansTree gs) (sym x.ready.tree) before.0) (subst (SpansTree gs) (sym (given_told x.out.given)) next)) (λ full k. omega (arith, k, bytes, ap size x.ready.tree))

-- ---- all are joined

pub returns-clause-ok : goal.returns-clause-ok
returns-clause-ok g c =
    let i = c.loop-at.invariant in
    subst (λ (us : Trees). LeavesChildren c.args.parent.now us (without_root c.args.number (forest c.args.pool.now)) (forest c.loop-at.pool) c.loop-at.so_far) (all_done g.J.Joins.both _ _ _ _ i.numbers c.in_default.ensures).left i.left

pub returns-clause-joined : goal.returns-clause-joined
returns-clause-joined g c = (all_done g.J.Joins.both _ _ _ _ c.loop-at.invariant.numbers c.in_default.ensures).joined

pub returns-clause-rationals : goal.returns-clause-rationals
returns-clause-rationals g c q k = fold_done _ _ _ (c.loop-at.invariant.folded q k) (no_numbers _ c.in_default.ensures)
