use Rattle.square_parts.proofs.CleanLaws.{clean_square_free}
use Rattle.square_parts.proofs.laws.clean_below_limit_is_square_free.Goals as goal

pub returns : goal.returns
returns c = λ r d clean small above h. clean_square_free r clean small d above h
