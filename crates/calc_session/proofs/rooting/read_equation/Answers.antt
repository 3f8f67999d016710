use Rattle.std.proofs.Common.{sym, subst}
use Rattle.calc_session.proofs.Shared.{err_from_is_err_and, reason_of, AreSplit}
use Rattle.calc_session.proofs.RootingLemmas.{not_one, unread, unsplit}
use Rattle.calc_session.proofs.rooting.read_equation.Goals as goal

pub returns-in-Err-clause-refused : goal.returns-in-Err-clause-refused
returns-in-Err-clause-refused c = λ old breakers x. unsplit old breakers c.args.before x c.args.text.now _ c.in-Err.ensures.refused

pub returns-then-ranges-ne1-clause-refused : goal.returns-then-ranges-ne1-clause-refused
returns-then-ranges-ne1-clause-refused c = λ old breakers x. not_one old breakers c.args.before x c.args.text.now (subst (AreSplit c.args.text.now) (sym c.as_slice-ranges.ensures.value) c.in-Ok.ensures.ok) (λ one. c.if-ranges-ne1.true one)

pub returns-in_err-read_sides-clause-refused : goal.returns-in_err-read_sides-clause-refused
returns-in_err-read_sides-clause-refused c = λ old breakers x. let p = err_from_is_err_and c.from_residual.result c.from_residual.ensures.1 in
    rw (p.1, p.2) (unread old breakers c.args.before x c.args.text.now (reason_of c.in_err-read_sides.field-0.0) (subst (AreSplit c.args.text.now) (sym c.as_slice-ranges.ensures.value) c.in-Ok.ensures.ok) c.if-ranges-ne1.false c.in_err-read_sides.ensures.refused)
