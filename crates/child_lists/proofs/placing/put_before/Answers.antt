use Rattle.child_lists.proofs.{Shared.{subst, IsNextAt, next_adopted, last_root, other_root, other_apart, apart, eqb-sym}, PutBefore.{kept_child, put_next, put_last}}
use Rattle.child_lists.proofs.placing.put_before.Goals as goal

pub add_before-requires-clause-known : goal.add_before-requires-clause-known
add_before-requires-clause-known c =
    let k = c.requires.placed in
    (k.0, kept_child k.0 c.in-Some.next k.5 k.6 (subst (IsNextAt k.0 c.args.parent.now k.3) c.in-Some.is k.7))

pub add_before-requires-clause-root : goal.add_before-requires-clause-root
add_before-requires-clause-root c = last_root c.requires.placed.6

pub add_before-requires-clause-apart : goal.add_before-requires-clause-apart
add_before-requires-clause-apart c =
    let k = c.requires.placed in
    let sum = last_root k.5 in
    apart c.args.parent.now c.args.child c.requires.stands (eqb-sym c.args.child c.args.parent.now (other_apart c.args.parent.now k.6 sum)) (other_root c.args.parent.now k.6 sum) (last_root k.6)

pub adopt-requires-clause-root : goal.adopt-requires-clause-root
adopt-requires-clause-root c = let k = c.requires.placed in other_root c.args.parent.now k.6 (last_root k.5)

pub adopt-requires-clause-within : goal.adopt-requires-clause-within
adopt-requires-clause-within c = let k = c.requires.placed in (next_adopted k.5 k.6).within

pub returns-in-Some-clause-forest : goal.returns-in-Some-clause-forest
returns-in-Some-clause-forest c = λ n before u others t a b p.
    put_next n a b (c.add_before.ensures.root n (kept_child n c.in-Some.next a b (subst (IsNextAt n c.args.parent.now others) c.in-Some.is p)) (other_root c.args.parent.now b (last_root a)))

pub returns-in-None-clause-forest : goal.returns-in-None-clause-forest
returns-in-None-clause-forest c = λ n before u others t a b p.
    put_last n c.args.pool.now c.requires.stands a b (subst (IsNextAt n c.args.parent.now others) c.in-None.is p) c.adopt.ensures.forest
