use Rattle.std.proofs.Common.{refl, ℕ, sym, subst, arith}
use Rattle.std.specs.Int.{◌∣◌}
use Rattle.std.proofs.lemmas.Nat.Gcd.{le_of_dvd}
use Rattle.equation_roots.proofs.Sizes.{least_multiple}
use Rattle.equation_roots.proofs.CommonFactors.{multiple_positive, second_divides}
use Rattle.calc_terms.proofs.Lowest.{gcd_positive}
use Rattle.equation_roots.proofs.primitive.multiple.Goals as goal

pub returns-clause-of_second : goal.returns-clause-of_second
returns-clause-of_second c = second_divides c.args.a c.args.b c.gcd.result c.in_ok-common.common c.gcd.ensures c.in_ok-common.ensures.value

pub returns-clause-positive : goal.returns-clause-positive
returns-clause-positive c = multiple_positive c.args.a c.args.b c.gcd.result c.in_ok-common.common c.gcd.ensures c.requires.first.0 c.requires.second.0 c.in_ok-common.ensures.value

pub nonzero_div-b : goal.nonzero_div-b
nonzero_div-b c = gcd_positive c.args.a c.args.b c.gcd.result c.requires.second.0 c.gcd.ensures

pub returns-clause-least : goal.returns-clause-least
returns-clause-least c = λ n da db.
    subst (λ (m : ℕ). m ∣ n) (sym c.in_ok-common.ensures.value) (least_multiple c.args.a c.args.b c.gcd.result n c.gcd.ensures c.requires.second.0 da db)

pub returns-in_err-common-clause-beyond : goal.returns-in_err-common-clause-beyond
returns-in_err-common-clause-beyond c = λ e n p da db.
    let m = le_of_dvd p (least_multiple c.args.a c.args.b c.gcd.result n c.gcd.ensures c.requires.second.0 da db) in
    omega (arith, m, c.in_err-common.ensures.beyond refl)
