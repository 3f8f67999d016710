use Rattle.std.proofs.Common.{◌≡◌, max, drop}
use Rattle.calc_parser.proofs.Shared.{deepest}
use Rattle.calc_parser.proofs.depth.deepest.Given as goal

abbrev pub invariant-loop-depth : goal.invariant-loop-depth
invariant-loop-depth l = max l.deepest (deepest (drop l.depth-index l.depths)) ≡ deepest l.depths
