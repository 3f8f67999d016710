use Rattle.expand_forms.proofs.{Shared.{◌≡◌, refl, pos, arith, to_z, of_z, ints, w128}, Numbers.{exponent_read}}
use Rattle.expand_forms.proofs.powers.placed_power.Goals as goal

pub returns-then-exponent-gt-HIGHEST : goal.returns-then-exponent-gt-HIGHEST
returns-then-exponent-gt-HIGHEST c = λ f r.
    let e : to_z w128 (of_z w128 c.num-exponent.result) ≡ pos f.exponent = exponent_read c.num-exponent.result c.args.factor f r c.num-exponent.ensures.value c.num-exponent.ensures.rat in
    omega (arith, ints, e, c.if-exponent-gt-HIGHEST.true)

pub overflow_cast-result : goal.overflow_cast-result
overflow_cast-result c =
    let (f, r) = c.requires.read in
    let e : to_z w128 (of_z w128 c.num-exponent.result) ≡ pos f.exponent = exponent_read c.num-exponent.result c.args.factor f r c.num-exponent.ensures.value c.num-exponent.ensures.rat in
    rw e (tt, record { fits = omega (arith, ints, e, c.if-exponent-gt-HIGHEST.false) })

pub returns : goal.returns
returns c = λ f r.
    let e : to_z w128 (of_z w128 c.num-exponent.result) ≡ pos f.exponent = exponent_read c.num-exponent.result c.args.factor f r c.num-exponent.ensures.value c.num-exponent.ensures.rat in
    rw e (omega (arith, ints, e, c.if-exponent-gt-HIGHEST.false), refl)
