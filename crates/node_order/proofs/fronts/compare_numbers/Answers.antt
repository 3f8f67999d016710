use Rattle.node_order.proofs.Shared.{◌≡◌, ◌*ℤ◌, ℤ, pos, sym, ap, ◌∙◌, arith, to_z, of_z, ints, w128, int_cmp, IsRat, Rat, ratio_of, value_of, ratio_parts, told}
use Rattle.node_order.proofs.fronts.compare_numbers.Goals as goal

times_one : (z : ℤ) → z *ℤ pos 1 ≡ z
times_one z = omega (arith, ints)

-- a numerator is handed on as it is
read : (z : ℤ) (r : Rat) → z ≡ (ratio_of r).num → IsRat (ratio_of r) → to_z w128 (of_z w128 z) ≡ (ratio_of r).num
read z r e is = ap (λ (y : ℤ). to_z w128 (of_z w128 y)) e ∙ told (ratio_of r).num (omega (arith, is.num_fits))

pub returns-then-is_whole-2 : goal.returns-then-is_whole-2
returns-then-is_whole-2 c =
    let a = ratio_parts c.args.left in
    let b = ratio_parts c.args.right in
    let x = read c.num.result c.args.left c.num.ensures.value c.num.ensures.rat ∙ sym a.num ∙ sym (times_one _) ∙ ap (λ d. (value_of c.args.left).num *ℤ pos d) (sym (b.den ∙ c.is_whole-then-is_whole.ensures.0 c.if-is_whole-2.true)) in
    let y = read c.num-then-is_whole-2.result c.args.right c.num-then-is_whole-2.ensures.value c.num-then-is_whole-2.ensures.rat ∙ sym b.num ∙ sym (times_one _) ∙ ap (λ d. (value_of c.args.right).num *ℤ pos d) (sym (a.den ∙ c.is_whole.ensures.0 c.if-is_whole.true)) in
    c.cmp.ensures ∙ (λ i. int_cmp (x i) (y i))
