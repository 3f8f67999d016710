use Rattle.calc_session.proofs.RootingLemmas.{on_err}
use Rattle.calc_session.proofs.rooting.write_found.Goals as goal

pub returns-in-Roots-clause-some : goal.returns-in-Roots-clause-some
returns-in-Roots-clause-some c = on_err c.write_roots.result (c.in-Roots.roots, c.in-Roots.is)
