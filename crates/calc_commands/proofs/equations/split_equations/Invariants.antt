use Rattle.std.proofs.Common.{length, ◌+◌, ◌-◌}
use Rattle.calc_commands.proofs.Splitting.{IsSplitting}
use Rattle.calc_commands.proofs.equations.split_equations.Given as goal

abbrev pub invariant-loop-begin : goal.invariant-loop-begin
invariant-loop-begin l = IsSplitting l.text l.begin l.is_many l.ranges.items

abbrev pub decreases-loop-begin : goal.decreases-loop-begin
decreases-loop-begin l = length l.text + 1 - l.begin
