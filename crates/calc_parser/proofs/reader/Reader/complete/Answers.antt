use Rattle.calc_parser.proofs.Shared.{◌≡◌, [], arith, ap, ◌∙◌, weight, open_in, outer, steps_in, nodes_in, node_of}
use Rattle.calc_parser.proofs.Steps.{complete_one, complete_none, completed_weight, completed_length, nodes_pushed, length_pushed}
use Rattle.calc_parser.proofs.reader.Reader.complete.Goals as goal

pub push-requires : goal.push-requires
push-requires c =
    let lighter = completed_weight c.args.level (open_in c.loop-node.self.nesting) (node_of [] c.in-Some.node) (c.in-Some.ensures []) in
    omega (arith, c.loop-node.invariant.2, c.requires)

pub loop-node-smaller : goal.loop-node-smaller
loop-node-smaller c = rw c.leave.ensures (completed_length c.args.level (open_in c.loop-node.self.nesting) (node_of [] c.in-Some.node) (c.in-Some.ensures []))

pub loop-node-preserved : goal.loop-node-preserved
loop-node-preserved c =
    let s = open_in c.loop-node.self.nesting in
    let lighter = completed_weight c.args.level s (node_of [] c.in-Some.node) (c.in-Some.ensures []) in
    let longer = length_pushed (steps_in c.loop-node.self.postfix) (steps_in c.push.new.self) c.in-Some.node c.push.ensures in
    let left : weight (open_in c.leave.new.self) ≡ weight (outer s) = ap weight c.leave.ensures in (
      λ ts.
          rw (c.leave.ensures, nodes_pushed ts (steps_in c.loop-node.self.postfix) (steps_in c.push.new.self) c.in-Some.node c.push.ensures)
          (complete_one c.args.level s (nodes_in ts c.loop-node.self.postfix) (node_of ts c.in-Some.node) (c.in-Some.ensures ts) ∙ c.loop-node.invariant.0 ts),
      c.loop-node.invariant.1,
      omega (arith, c.loop-node.invariant.2),
    )

pub returns-clause-ended : goal.returns-clause-ended
returns-clause-ended c = λ ts. complete_none c.args.level (open_in c.loop-node.self.nesting) (nodes_in ts c.loop-node.self.postfix) (c.in_default.ensures ts) ∙ c.loop-node.invariant.0 ts
