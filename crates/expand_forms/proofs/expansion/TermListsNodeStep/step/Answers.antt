use Rattle.expand_forms.proofs.PowersOfSums.{beyond_most}
use Rattle.expand_forms.proofs.expansion.TermListsNodeStep.step.Goals as goal

pub returns : goal.returns
returns c = record {
  ok = λ whole p o. c.expand_next.ensures.ok whole p o;
  lacks = λ whole p o. c.expand_next.ensures.room whole p o;
  overflow = λ whole p o. beyond_most whole c.expand_next.result (c.expand_next.ensures.fits whole p o);
  kept = c.expand_next.ensures.safe.kept;
  faults = c.expand_next.ensures.safe.faults;
  caused = c.expand_next.ensures.safe.caused;
  front = c.expand_next.ensures.safe.front;
  stands = c.expand_next.ensures.safe.stands;
}
