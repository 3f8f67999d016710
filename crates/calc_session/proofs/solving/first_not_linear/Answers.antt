use Rattle.calc_session.proofs.{Shared.{◌∙◌, sym, arith, forest, equation_at, is_linear_equation}, SolvingLemmas.{element_at, expression_at, first_found, linear_more, linear_none, none_found}}
use Rattle.calc_session.proofs.solving.first_not_linear.Goals as goal

pub loop-at-init : goal.loop-at-init
loop-at-init c = linear_none (forest c.args.pool.now) c.args.left.now c.args.right.now

pub is_linear_equation-requires-clause-left : goal.is_linear_equation-requires-clause-left
is_linear_equation-requires-clause-left c = expression_at (forest c.args.pool.now) c.args.left.now c.loop-at.at c.index-left-at.result c.loop-at-test.true c.requires.left c.index-left-at.is

pub is_linear_equation-requires-clause-right : goal.is_linear_equation-requires-clause-right
is_linear_equation-requires-clause-right c = expression_at (forest c.args.pool.now) c.args.right.now c.loop-at.at c.index-right-at.result (omega (arith, c.loop-at-test.true, c.requires.pairs)) c.requires.right c.index-right-at.is

pub returns-then-not-is_linear_equation : goal.returns-then-not-is_linear_equation
returns-then-not-is_linear_equation c =
    let l = element_at c.args.left.now c.loop-at.at c.index-left-at.result c.loop-at-test.true c.index-left-at.is in
    let r = element_at c.args.right.now c.loop-at.at c.index-right-at.result (omega (arith, c.loop-at-test.true, c.requires.pairs)) c.index-right-at.is in
    first_found (forest c.args.pool.now) c.args.left.now c.args.right.now c.loop-at.at c.requires.pairs c.loop-at-test.true c.loop-at.invariant
    ((λ i. is_linear_equation (equation_at (forest c.args.pool.now) (l i) (r i))) ∙ sym c.is_linear_equation.ensures ∙ c.if-not-is_linear_equation.true)

pub loop-at-preserved : goal.loop-at-preserved
loop-at-preserved c =
    let l = element_at c.args.left.now c.loop-at.at c.index-left-at.result c.loop-at-test.true c.index-left-at.is in
    let r = element_at c.args.right.now c.loop-at.at c.index-right-at.result (omega (arith, c.loop-at-test.true, c.requires.pairs)) c.index-right-at.is in
    linear_more (forest c.args.pool.now) c.args.left.now c.args.right.now c.loop-at.at c.loop-at.invariant
    ((λ i. is_linear_equation (equation_at (forest c.args.pool.now) (l i) (r i))) ∙ sym c.is_linear_equation.ensures ∙ c.if-not-is_linear_equation.false)

pub returns : goal.returns
returns c = none_found (forest c.args.pool.now) c.args.left.now c.args.right.now c.loop-at.at c.requires.pairs c.loop-at-test.false c.loop-at.invariant
