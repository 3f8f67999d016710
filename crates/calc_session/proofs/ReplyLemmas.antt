-- Lemmas on replies and what the code answers for them.
use Rattle.std.proofs.Common.{arith, ◌≡◌, ◌++◌}
use Rattle.calc_session.proofs.Shared.{signed_decimal, ratio_of, value_of, Rat, parts_themselves, denominator_text, operand_text}

-- ---- the text of a rational

pub text_of_operand : (a : Rat) → operand_text (value_of a) ≡ signed_decimal (ratio_of a).num ++ denominator_text (ratio_of a).den
text_of_operand a = grind (arith, parts_themselves)
