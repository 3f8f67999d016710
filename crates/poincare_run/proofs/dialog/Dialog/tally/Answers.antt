use Rattle.poincare_run.proofs.TallyLemmas.{no_lines, no_tally}
use Rattle.poincare_run.proofs.dialog.Dialog.tally.Goals as goal

pub loop-byte-init : goal.loop-byte-init
loop-byte-init g c = record {
  tallied = no_tally _ c.new-tally.result c.new-tally.ensures.value c.requires.fresh;
  few = no_lines c.new-tally.result c.new-tally.ensures.value;
  within = c.new-tally.ensures.within;
}
