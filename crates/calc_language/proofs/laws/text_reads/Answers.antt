use Rattle.calc_language.proofs.ReadLaws.{text_reads}
use Rattle.calc_language.proofs.laws.text_reads.Goals as goal

pub returns : goal.returns
returns c = text_reads
