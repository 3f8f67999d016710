use Rattle.reduce_walk.proofs.Shared.{◌<◌, sym, ap, ◌∙◌, arith, subst, states, Tree, nodes, live, expression, seen, TripsWithin, fault_of, is_leaf, BeginWithLeaves, children_of, tree_of, keeps_none}
use Rattle.reduce_walk.proofs.{Shared.{keeps_after, behind_first, front_same, front_after_one, gives, gives_as, given_handed, given_told, represents_handed, passed_on}, Bytes.{child_free, last_free}}
use Rattle.reduce_walk.proofs.{Ready.{walked_ready}, Stopping.{StopsParent, all_checks, child_stops, last_trips, leaf_calm, leaf_trips, step_stops}, Walks.{all_walked, child_front, fewer_nodes}}
use Rattle.reduce_walk.proofs.Walks.{leaves_walked, leaves_within, many_children, next_child, next_taken, next_taken_too, next_there, next_walked, next_within, stands_last, to_adopt}
use Rattle.reduce_port.specs.declared.fault.ReduceFault.TheVariants as fault
use Rattle.reduce_walk.proofs.walking.+walk_last.Goals as goal

pub is_leaf-requires-clause-expression : goal.is_leaf-requires-clause-expression
is_leaf-requires-clause-expression g t c = expression c.id.ensures c.requires.stands c.requires.handed

pub returns-in-Ok-clause-ok : goal.returns-in-Ok-clause-ok
returns-in-Ok-clause-ok g t c =
    let leaf = ap is_leaf (sym (seen c.id.ensures c.requires.stands c.requires.handed)) ∙ sym c.is_leaf.ensures ∙ c.if-is_leaf.true in
    gives c.requires.last (represents_handed c.requires.handed) (c.laws.ensures.leaf (tree_of c.args.tree c.args.pool.now) c.requires.taken leaf)

pub returns-in-Ok-clause-checks : goal.returns-in-Ok-clause-checks
returns-in-Ok-clause-checks g t c =
    let leaf = ap is_leaf (sym (seen c.id.ensures c.requires.stands c.requires.handed)) ∙ sym c.is_leaf.ensures ∙ c.if-is_leaf.true in
    leaf_calm _ _ (tree_of c.args.tree c.args.pool.now) leaf c.in-Ok.ensures.calm

pub returns-in-Ok-clause-front : goal.returns-in-Ok-clause-front
returns-in-Ok-clause-front g t c = front_same

pub returns-in-Err-clause-stops : goal.returns-in-Err-clause-stops
returns-in-Err-clause-stops g t c = (keeps_none c.args.pool.now, leaf_trips (tree_of c.args.tree c.args.pool.now) c.in-Err.ensures.interrupted)

pub returns-in-Err-clause-front : goal.returns-in-Err-clause-front
returns-in-Err-clause-front g t c = front_same

pub check_leaves-requires-clause-expression : goal.check_leaves-requires-clause-expression
check_leaves-requires-clause-expression g t c = expression c.id-2.ensures c.requires.stands c.requires.handed

pub returns-in_err-leaves-clause-stops : goal.returns-in_err-leaves-clause-stops
returns-in_err-leaves-clause-stops g t c =
    passed_on c.from_residual.result (fault.Interrupted c.in_err-leaves.field-0.0) _ c.from_residual.ensures.0 c.from_residual.ensures.1
    (keeps_none c.args.pool.now, subst (λ (u : Tree). TripsWithin (nodes u) (states g.B.Breaker.state c.args.watch.now) (states g.B.Breaker.state c.check_leaves.new.watch) c.in_err-leaves.field-0.0.by) (seen c.id-2.ensures c.requires.stands c.requires.handed) c.in_err-leaves.ensures.trips)

pub returns-in_err-leaves-clause-front : goal.returns-in_err-leaves-clause-front
returns-in_err-leaves-clause-front g t c = front_same

pub children-count-requires-clause-live : goal.children-count-requires-clause-live
children-count-requires-clause-live g t c = live c.args.pool.now c.id-3.ensures c.requires.handed.root

pub loop-at-init : goal.loop-at-init
loop-at-init g t c =
    let leaves = subst (λ (u : Tree). BeginWithLeaves c.in_ok-leaves.leaves (children_of u)) (seen c.id-2.ensures c.requires.stands c.requires.handed) c.in_ok-leaves.ensures.leaves in
    record {
      many = many_children c.id-3.ensures c.requires.stands c.requires.handed c.children-count.ensures.plain;
      stands = c.requires.stands;
      kept = keeps_none c.args.pool.now;
      walked = leaves_walked g.S.NodeStep.answers g.S.NodeStep.can_take c.laws.ensures.leaf (c.laws.ensures.children (tree_of c.args.tree c.args.pool.now) c.requires.taken) c.requires.handed c.requires.last leaves c.in_ok-leaves.ensures.checks;
    }

pub take_child-child-requires-clause-within : goal.take_child-child-requires-clause-within
take_child-child-requires-clause-within g t c =
    let n = next_child c.loop-at.invariant.walked (omega (arith, c.loop-at.invariant.many, c.loop-at-test.true)) in
    next_within n c.loop-at.invariant.stands

pub walk_last-requires : goal.walk_last-requires
walk_last-requires g t c =
    let n = next_child c.loop-at.invariant.walked (omega (arith, c.loop-at.invariant.many, c.loop-at-test.true)) in
    let a = next_taken n (c.take_child-child.ensures.last (next_there n).root) in
    let smaller : nodes (tree_of c.take_child-child.result c.take_child-child.new.pool) < t = omega (arith, ap nodes (given_told a), fewer_nodes n, c.decreases) in
    let taken = subst g.S.NodeStep.can_take (sym (given_told a)) (next_taken_too g.S.NodeStep.can_take n (c.laws.ensures.children (tree_of c.args.tree c.args.pool.now) c.requires.taken)) in
    λ κs l. (smaller, (l.0, (l.1, (c.take_child-child.ensures.stands, (given_handed a, (stands_last a, taken))))))

pub returns-in_err-_answer-clause-stops : goal.returns-in_err-_answer-clause-stops
returns-in_err-_answer-clause-stops g t c =
    let n = next_child c.loop-at.invariant.walked (omega (arith, c.loop-at.invariant.many, c.loop-at-test.true)) in
    let a = next_taken n (c.take_child-child.ensures.last (next_there n).root) in
    let kept = keeps_after _ _ _ c.loop-at.invariant.kept c.take_child-child.ensures.kept in
    let parent : StopsParent g.S.NodeStep.answers g.S.NodeStep.may_lack g.S.NodeStep.may_overflow (tree_of c.args.tree c.args.pool.now) = record {
      lacks = λ u before done behind bytes. c.laws.ensures.child_lacks (tree_of c.args.tree c.args.pool.now) u before done behind bytes c.requires.taken;
      overflows = λ u before done behind place o. c.laws.ensures.child_overflows (tree_of c.args.tree c.args.pool.now) u before done behind place o c.requires.taken;
    } in
    passed_on c.from_residual-in_err-_answer.result c.in_err-_answer.field-0.0 _ c.from_residual-in_err-_answer.ensures.0 c.from_residual-in_err-_answer.ensures.1
    (child_stops _ _ n _ c.in_err-_answer.field-0.0 parent (given_told a) kept (child_free n c.requires.stands c.take_child-child.ensures.stands kept c.requires.handed a) c.in_err-_answer.ensures.stops)

pub returns-in_err-_answer-clause-front : goal.returns-in_err-_answer-clause-front
returns-in_err-_answer-clause-front g t c =
    let n = next_child c.loop-at.invariant.walked (omega (arith, c.loop-at.invariant.many, c.loop-at-test.true)) in
    let a = next_taken n (c.take_child-child.ensures.last (next_there n).root) in
    child_front _ a c.walk_last.ensures.front

pub loop-at-preserved : goal.loop-at-preserved
loop-at-preserved g t c =
    let n = next_child c.loop-at.invariant.walked (omega (arith, c.loop-at.invariant.many, c.loop-at-test.true)) in
    let a = next_taken n (c.take_child-child.ensures.last (next_there n).root) in
    record {
      many = c.loop-at.invariant.many;
      stands = c.in_ok-_answer.ensures.stands;
      kept = keeps_after _ _ _ c.loop-at.invariant.kept (keeps_after _ _ _ c.take_child-child.ensures.kept c.in_ok-_answer.ensures.kept);
      walked = next_walked n a c.in_ok-_answer.ensures.ok c.in_ok-_answer.ensures.checks;
    }

pub overflow_sub-count : goal.overflow_sub-count
overflow_sub-count g t c =
    let leaves = subst (λ (u : Tree). BeginWithLeaves c.in_ok-leaves.leaves (children_of u)) (seen c.id-2.ensures c.requires.stands c.requires.handed) c.in_ok-leaves.ensures.leaves in
    omega (arith, c.loop-at.invariant.many, leaves_within _ _ leaves)

pub adopt-requires : goal.adopt-requires
adopt-requires g t c =
    let a = to_adopt c.loop-at.invariant.walked (omega (arith, c.loop-at-test.false)) in
    record { stands = c.loop-at.invariant.stands; root = a.root; within = a.within }

pub returns-in_err-check-clause-stops : goal.returns-in_err-check-clause-stops
returns-in_err-check-clause-stops g t c =
    let w = all_walked c.loop-at.invariant.walked c.loop-at.invariant.many (omega (arith, c.loop-at-test.false)) c.adopt.ensures.forest in
    passed_on c.from_residual-in_err-check.result (fault.Interrupted c.in_err-check.field-0.0) _ c.from_residual-in_err-check.ensures.0 c.from_residual-in_err-check.ensures.1
    (keeps_after _ _ _ c.loop-at.invariant.kept c.adopt.ensures.kept, last_trips _ c.in_err-check.field-0.0.by w c.in_err-check.ensures.interrupted)

pub returns-in_err-check-clause-front : goal.returns-in_err-check-clause-front
returns-in_err-check-clause-front g t c =
    (all_walked c.loop-at.invariant.walked c.loop-at.invariant.many (omega (arith, c.loop-at-test.false)) c.adopt.ensures.forest).front

pub step-requires : goal.step-requires
step-requires g t c =
    let w = all_walked c.loop-at.invariant.walked c.loop-at.invariant.many (omega (arith, c.loop-at-test.false)) c.adopt.ensures.forest in
    let r = walked_ready c.requires.handed w in
    record { stands = c.adopt.ensures.stands; handed = r.handed; last = w.last; over = record { whole = tree_of c.args.tree c.args.pool.now; taken = c.requires.taken; over = r.over } }

pub returns-in_err-answer-clause-stops : goal.returns-in_err-answer-clause-stops
returns-in_err-answer-clause-stops g t c =
    let w = all_walked c.loop-at.invariant.walked c.loop-at.invariant.many (omega (arith, c.loop-at-test.false)) c.adopt.ensures.forest in
    let r = walked_ready c.requires.handed w in
    let e = c.in_err-answer.field-0.0 in
    let whole = tree_of c.args.tree c.args.pool.now in
    let kept = keeps_after _ _ _ c.loop-at.invariant.kept c.adopt.ensures.kept in
    passed_on c.from_residual-in_err-answer.result (fault_of e) _ c.from_residual-in_err-answer.ensures.0 c.from_residual-in_err-answer.ensures.1
    (step_stops g.S.NodeStep.may_lack g.S.NodeStep.may_overflow _ _ _ whole e (all_checks _ w c.in_ok-check.ensures.calm) kept c.in_err-answer.ensures.faults c.in_err-answer.ensures.caused
    (last_free c.requires.stands c.adopt.ensures.stands kept c.requires.handed r.handed w.last w.rest) (c.in_err-answer.ensures.lacks whole c.requires.taken r.over) (c.in_err-answer.ensures.overflow whole c.requires.taken r.over))

pub returns-in_err-answer-clause-front : goal.returns-in_err-answer-clause-front
returns-in_err-answer-clause-front g t c =
    let w = all_walked c.loop-at.invariant.walked c.loop-at.invariant.many (omega (arith, c.loop-at-test.false)) c.adopt.ensures.forest in
    front_after_one behind_first w.front c.step.ensures.front

pub returns-clause-ok : goal.returns-clause-ok
returns-clause-ok g t c =
    let w = all_walked c.loop-at.invariant.walked c.loop-at.invariant.many (omega (arith, c.loop-at-test.false)) c.adopt.ensures.forest in
    let r = walked_ready c.requires.handed w in
    gives_as (c.in_ok-answer.ensures.ok (tree_of c.args.tree c.args.pool.now) c.requires.taken r.over) w.rest (λ u a. a)

pub returns-clause-checks : goal.returns-clause-checks
returns-clause-checks g t c =
    let w = all_walked c.loop-at.invariant.walked c.loop-at.invariant.many (omega (arith, c.loop-at-test.false)) c.adopt.ensures.forest in
    all_checks _ w c.in_ok-check.ensures.calm

pub returns-clause-kept : goal.returns-clause-kept
returns-clause-kept g t c = keeps_after _ _ _ c.loop-at.invariant.kept (keeps_after _ _ _ c.adopt.ensures.kept c.in_ok-answer.ensures.kept)

pub returns-clause-front : goal.returns-clause-front
returns-clause-front g t c =
    let w = all_walked c.loop-at.invariant.walked c.loop-at.invariant.many (omega (arith, c.loop-at-test.false)) c.adopt.ensures.forest in
    front_after_one behind_first w.front c.step.ensures.front
