use Rattle.surd_bits.proofs.Rooted.{root_no_larger, no_root_no_larger}
use Rattle.surd_bits.proofs.laws.roots_are_no_larger.Goals as goal

pub returns-clause-term : goal.returns-clause-term
returns-clause-term c = root_no_larger

pub returns-clause-none : goal.returns-clause-none
returns-clause-none c = no_root_no_larger
