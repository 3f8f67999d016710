use Rattle.std.proofs.Common.{◌≡◌, ◌<◌}
use Rattle.calc_tokens.proofs.Shared.{◌^◌, drop, digits_value}
use Rattle.calc_tokens.proofs.literals.spelled.Given as goal

abbrev pub invariant-loop-digit : goal.invariant-loop-digit
invariant-loop-digit l = (l.value < 2 ^ 127) × (digits_value l.value (drop l.digit-index l.digits) ≡ digits_value l.fn.front l.digits)
