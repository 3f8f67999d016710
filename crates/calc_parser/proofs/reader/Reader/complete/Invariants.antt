use Rattle.std.proofs.Common.{◌≡◌, ◌≤◌, length, List}
use Rattle.calc_parser.proofs.Shared.{Token, complete, open_in, nodes_in, room_in}
use Rattle.calc_parser.proofs.reader.Reader.complete.Given as goal

abbrev pub invariant-loop-node : goal.invariant-loop-node
invariant-loop-node l =
    ((ts : List Token) → complete l.level (open_in l.self.nesting) (nodes_in ts l.self.postfix) ≡ complete l.level (open_in l.initial.self.nesting) (nodes_in ts l.initial.self.postfix))
    × (l.self.expects ≡ l.initial.self.expects) × (room_in l.self ≤ room_in l.initial.self)

abbrev pub decreases-loop-node : goal.decreases-loop-node
decreases-loop-node l = length (open_in l.self.nesting)
