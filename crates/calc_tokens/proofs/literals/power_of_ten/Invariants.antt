use Rattle.std.proofs.Common.{◌≡◌, ◌<◌}
use Rattle.calc_tokens.proofs.Shared.{◌^◌}
use Rattle.calc_tokens.proofs.literals.power_of_ten.Given as goal

abbrev pub invariant-loop : goal.invariant-loop
invariant-loop l = (l.power < 2 ^ 127) × (l.power ≡ 10 ^ l.counter)
