use Rattle.number_forms.proofs.{Shared.{ap, map, arith, rules, Surd, surd_times, term_of, term_times, tree_of, value}, ValueLoops.{left_next, left_none, with_none, with_part}}
use Rattle.number_forms.proofs.values.multiply_terms.Goals as goal

pub loop-term-preserved : goal.loop-term-preserved
loop-term-preserved c =
    let w = value (tree_of c.args.a.now c.args.pool.now) in
    with_part (map (term_times (term_of c.term-item.result)) w) (ap (λ (v : Surd). surd_times v w) (left_next c.args.terms.now c.loop-term.term-index c.term-item.result c.loop-term-test.true c.term-item.is)) (c.join_products.ensures (search rules)) c.loop-term.invariant

pub returns : goal.returns
returns c = λ _.
    with_none (ap (λ (v : Surd). surd_times v (value (tree_of c.args.a.now c.args.pool.now)))
    (left_none c.args.terms.now c.loop-term.term-index (omega (arith, c.loop-term-test.false)))) c.loop-term.invariant
