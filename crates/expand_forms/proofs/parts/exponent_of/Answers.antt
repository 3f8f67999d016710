use Rattle.expand_forms.proofs.{Shared.{ap, arith, rules, FitsSigned, nat_abs, w128, plain, tree_at, forest}, NodeKinds.{exponent_number, exponent_bits, exponent_most}}
use Rattle.expand_forms.proofs.parts.exponent_of.Goals as goal

pub rational-requires-clause-number : goal.rational-requires-clause-number
rational-requires-clause-number c = exponent_number (plain (tree_at c.args.exponent (forest c.args.pool.now))) c.requires.expanded c.requires.small

pub overflow_cast-result : goal.overflow_cast-result
overflow_cast-result c =
    let e = plain (tree_at c.args.exponent (forest c.args.pool.now)) in
    let fits : FitsSigned w128 c.num-number.result = search rules in
    rw (exponent_bits e c.rational.result c.num-number.result fits c.num-number.ensures.value c.rational.ensures.plain c.requires.small) (tt, record { fits = omega (arith, exponent_most e c.requires.small) })

pub returns : goal.returns
returns c =
    let fits : FitsSigned w128 c.num-number.result = search rules in
    ap nat_abs (exponent_bits (plain (tree_at c.args.exponent (forest c.args.pool.now))) c.rational.result c.num-number.result fits c.num-number.ensures.value c.rational.ensures.plain c.requires.small)
