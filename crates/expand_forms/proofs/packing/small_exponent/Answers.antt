use Rattle.expand_forms.proofs.{Shared.{ap, ◌≡◌, nat_abs, pos, arith, to_z, of_z, ints, w128}, Numbers.{exponent_read}}
use Rattle.expand_forms.proofs.packing.small_exponent.Goals as goal

pub overflow_cast-result : goal.overflow_cast-result
overflow_cast-result c =
    let (f, r) = c.requires.read in
    let e : to_z w128 (of_z w128 c.num-exponent.result) ≡ pos f.exponent = exponent_read c.num-exponent.result c.args.factor f r c.num-exponent.ensures.value c.num-exponent.ensures.rat in
    rw e (tt, record { fits = omega (arith, ints, e, c.if-exponent-gt255.false) })

pub returns : goal.returns
returns c = record { value = λ f r. ap nat_abs (exponent_read c.num-exponent.result c.args.factor f r c.num-exponent.ensures.value c.num-exponent.ensures.rat) }
