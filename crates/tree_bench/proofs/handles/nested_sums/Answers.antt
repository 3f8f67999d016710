use Rattle.tree_handles.proofs.Given.{given_handed, given_other, given_apart}
use Rattle.tree_bench.proofs.handles.nested_sums.Goals as goal

pub loop-init : goal.loop-init
loop-init c = (c.in_ok-sum.ensures.stands, given_handed c.in_ok-sum.ensures.given)

pub node_over_two-requires-clause-first : goal.node_over_two-requires-clause-first
node_over_two-requires-clause-first c = given_handed c.in_ok-term.ensures.given

pub node_over_two-requires-clause-second : goal.node_over_two-requires-clause-second
node_over_two-requires-clause-second c = given_other c.in_ok-term.ensures.given c.loop.invariant.1

pub node_over_two-requires-clause-apart : goal.node_over_two-requires-clause-apart
node_over_two-requires-clause-apart c = given_apart c.in_ok-term.ensures.given c.loop.invariant.1

pub loop-preserved : goal.loop-preserved
loop-preserved c = (c.node_over_two.ensures.stands, given_handed c.in_ok-sum-2.ensures.ok)
