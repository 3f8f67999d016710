use Rattle.calc_terms.proofs.{Shared.{ℤ, ◌<◌, ◌^◌, ◌∙◌, ap, arith, FitsSigned, nat_abs, w128, ints, to_z-of_z, is_short_int}, ShortForm.{tested, not_whole}}
use Rattle.calc_terms.proofs.rat.Rat.is_short.Goals as goal

fitting : (z : ℤ) → nat_abs z < 2 ^ 127 → FitsSigned w128 z
fitting z h = omega (arith, ints)

pub returns-then-is_whole : goal.returns-then-is_whole
returns-then-is_whole c =
    let n = c.args.self.num in
    tested n (nat_abs c.args.self.den) c.is_short_int.result c.args.self.in_lowest_terms (c.is_whole.ensures.0 c.if-is_whole.true)
    (c.is_short_int.ensures ∙ ap is_short_int (to_z-of_z w128 n (fitting n c.args.self.fits)))

pub returns-else-is_whole : goal.returns-else-is_whole
returns-else-is_whole c = not_whole c.args.self.num (nat_abs c.args.self.den) c.is_whole.result c.args.self.in_lowest_terms c.is_whole.ensures.1 c.if-is_whole.false
