use Rattle.calc_session.proofs.NamingLemmas.{AreNamesWritten}
use Rattle.calc_session.proofs.naming.write_names.Given as goal

abbrev pub invariant-loop-at : goal.invariant-loop-at
invariant-loop-at l = AreNamesWritten l.pool l.table l.fn.text l.at l.text
