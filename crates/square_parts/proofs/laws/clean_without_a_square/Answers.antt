use Rattle.square_parts.proofs.CleanLaws.{clean_part}
use Rattle.square_parts.proofs.laws.clean_without_a_square.Goals as goal

pub returns : goal.returns
returns c = clean_part
