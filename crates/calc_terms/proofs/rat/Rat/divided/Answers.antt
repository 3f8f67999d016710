use Rattle.calc_terms.proofs.{Shared.{arith, rules, ◌<◌, ◌^◌, FitsSigned, w128, ints}, Signs.{is_made}}
use Rattle.calc_terms.proofs.rat.Rat.divided.Goals as goal

pub invariant_of-result : goal.invariant_of-result
invariant_of-result c =
    let r = c.reduced-small.ensures in
    let fits : FitsSigned w128 c.signed.result = search rules in
    let small : c.reduced-small.result.0 < 2 ^ 127 = omega (arith, ints, r.small_le) in
    let under : c.reduced-small.result.1 < 2 ^ 127 = omega (arith, ints, r.under_le) in
    let m = is_made _ _ _ _ c.signed.ensures small r.positive under r.lowest fits in
    record { positive = m.positive; fits = m.fits; den_fits = m.den_fits; in_lowest_terms = m.in_lowest_terms }
