use Rattle.surd_terms.proofs.Radicands.{clean_one}
use Rattle.number_forms.proofs.joining.clean_radicand.Goals as goal

pub returns-in_default : goal.returns-in_default
returns-in_default g c = clean_one

pub returns-then-at-children : goal.returns-then-at-children
returns-then-at-children g c = clean_one

pub returns : goal.returns
returns g c = c.radicand_at.ensures.clean
