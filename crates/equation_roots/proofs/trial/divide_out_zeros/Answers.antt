use Rattle.equation_roots.specs.Sizes.{mass_of}
use Rattle.equation_roots.proofs.Sizes.{mass_dropped}
use Rattle.std.proofs.Common.{◌<◌, ◌^◌, ℤ, pos, nat_abs, length, List, length-drop, ap, sym, subst, ◌∙◌, arith}
use Rattle.calc_terms.specs.{Fractions.{Fraction}}
use Rattle.calc_terms.proofs.SmallFractions.{zero_value}
use Rattle.equation_roots.specs.{Rationals.{IsInserted, rationals_of}, Told.{wholes_of}, Wholes.{Divides}}
use Rattle.equation_roots.proofs.{Steps.{divides_refl}, Trials.{constant_no_zero, zeros_step}, Wide.{same_bits}}
use Rattle.equation_roots.proofs.trial.divide_out_zeros.Goals as goal
use mir.Syntax.{w128}
use mir.Val.{of_z}

zero_fits : nat_abs (pos 0) < 2 ^ 127
zero_fits = omega arith

pub zeros-init : goal.zeros-init
zeros-init c = record { some = c.requires.some; lighter = omega arith; divides = divides_refl (rationals_of c.args.found.now) (wholes_of c.args.left.now) }

pub zeros-preserved : goal.zeros-preserved
zeros-preserved c =
    let z = sym c.get.ensures.value ∙ same_bits c.get.result (pos 0) c.get.ensures.fits zero_fits c.if-get-eq0.true in
    let l : 1 < length (wholes_of c.zeros.left) = omega (arith, c.len.ensures.value, c.zeros-test.true) in
    let d = zeros_step (rationals_of c.args.found.now) (rationals_of c.zeros.found) (rationals_of c.insert.new.self) (wholes_of c.args.left.now) (wholes_of c.zeros.left) c.zeros.invariant.divides l z
    (subst (λ (f : Fraction). IsInserted f (rationals_of c.zeros.found) (rationals_of c.insert.new.self)) (zero_value c.whole.result c.whole.ensures) c.insert.ensures) in
    record {
      some = omega (arith, l, ap length c.without_constant.ensures, length-drop 1 (wholes_of c.zeros.left));
      lighter = omega (arith, c.zeros.invariant.lighter, mass_dropped (wholes_of c.zeros.left), ap mass_of c.without_constant.ensures);
      divides = subst (λ (w : List ℤ). Divides (rationals_of c.args.found.now) (wholes_of c.args.left.now) (rationals_of c.insert.new.self) w) (sym c.without_constant.ensures) d;
    }

pub returns-else-get-eq0-clause-no_zero : goal.returns-else-get-eq0-clause-no_zero
returns-else-get-eq0-clause-no_zero c = λ l. constant_no_zero (wholes_of c.zeros.left) (omega (arith, l)) (λ e. c.if-get-eq0.false (ap (of_z w128) (c.get.ensures.value ∙ e)))
