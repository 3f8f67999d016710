use Rattle.surd_bits.proofs.Steps.{joined_den, extracted_den}
use Rattle.surd_bits.proofs.laws.denominators_stay.Goals as goal

pub returns-clause-joined : goal.returns-clause-joined
returns-clause-joined c = joined_den

pub returns-clause-extracted : goal.returns-clause-extracted
returns-clause-extracted c = extracted_den
