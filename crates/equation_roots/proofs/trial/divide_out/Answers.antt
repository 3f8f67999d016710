use Rattle.std.proofs.Common.{nat_abs, subst, ◌∙◌, arith}
use Rattle.calc_terms.specs.{Fractions.{Fraction, lowest}}
use Rattle.equation_roots.specs.{Rationals.{IsInserted, rationals_of}, Told.{wholes_of}}
use Rattle.equation_roots.proofs.{Candidates.{divided_some, small_fits}, Steps.{divides_refl}, Trials.{candidate_step, quotient_shorter}, Wide.{told}}
use Rattle.equation_roots.proofs.trial.divide_out.Goals as goal

pub divisions-init : goal.divisions-init
divisions-init c = divides_refl (rationals_of c.args.found.now) (wholes_of c.args.left.now)

pub divisions-smaller : goal.divisions-smaller
divisions-smaller c =
    quotient_shorter (wholes_of c.divisions.left) (wholes_of c.in-Some.quotient) c.args.u c.args.v
    (divided_some c.in_ok-quotient.field-0 c.in-Some.quotient c.args.u c.args.v (wholes_of c.divisions.left) c.requires.candidate c.in_ok-quotient.ensures.exact c.in-Some.is)

pub divisions-preserved : goal.divisions-preserved
divisions-preserved c =
    let e = divided_some c.in_ok-quotient.field-0 c.in-Some.quotient c.args.u c.args.v (wholes_of c.divisions.left) c.requires.candidate c.in_ok-quotient.ensures.exact c.in-Some.is in
    let r = c.ratio.ensures.value ∙ (λ i. lowest (told c.args.u (small_fits _ c.requires.candidate.numerator) i) (nat_abs (told c.args.v (small_fits _ c.requires.candidate.denominator) i))) in
    candidate_step (rationals_of c.args.found.now) (rationals_of c.divisions.found) (rationals_of c.insert.new.self) (wholes_of c.args.left.now) (wholes_of c.divisions.left) (wholes_of c.in-Some.quotient) c.args.u c.args.v
    c.requires.candidate c.divisions.invariant (omega (arith, c.len.ensures.value, c.divisions-test.true)) e
    (subst (λ (f : Fraction). IsInserted f (rationals_of c.divisions.found) (rationals_of c.insert.new.self)) r c.insert.ensures)
