use Rattle.calc_parser.proofs.{Shared.{ap, ◌∙◌, ◌∷◌, open_in, nodes_in, state_in}, Operators.{entered, times_step, slash_step, plus_step, minus_step, right_step, join_step}}
use Rattle.calc_parser.specs.declared.nesting.Open.TheVariants as opened
use Rattle.calc_parser.proofs.reader.Reader.take_operator.Goals as goal

pub returns-in-Name-clause-step : goal.returns-in-Name-clause-step
returns-in-Name-clause-step c = λ ts at.
    join_step c.args.what (open_in c.args.self.now.nesting) (open_in c.end-powers.new.self.nesting) (nodes_in ts c.args.self.now.postfix) (nodes_in ts c.end-powers.new.self.postfix) c.end-powers.result
    (open_in c.enter-in-Name.new.self.nesting) (nodes_in ts c.enter-in-Name.new.self.postfix) c.begin_operand.result (state_in ts c.begin_operand.new.self)
    c.in-Name.is (c.end-powers.ensures.ended ts) c.enter-in-Name.ensures.nesting (ap (nodes_in ts) c.enter-in-Name.ensures.postfix) (c.begin_operand.ensures.step ts at)

pub returns-in-Right-clause-step : goal.returns-in-Right-clause-step
returns-in-Right-clause-step c = λ ts at.
    right_step c.args.what (open_in c.args.self.now.nesting) (open_in c.end_sum-in-Right.new.self.nesting) (nodes_in ts c.args.self.now.postfix) (nodes_in ts c.end_sum-in-Right.new.self.postfix)
    c.end_sum-in-Right.new.self.expects c.args.self.now.expects c.leave_parentheses.result (state_in ts c.leave_parentheses.new.self) c.in-Right.is (c.end_sum-in-Right.ensures.ended ts) (c.leave_parentheses.ensures.step ts)

pub returns-in-Times-clause-step : goal.returns-in-Times-clause-step
returns-in-Times-clause-step c = λ ts at.
    let made = c.end_powers-factors.new.self in
    times_step c.args.what (open_in c.args.self.now.nesting) (open_in made.nesting) (nodes_in ts c.args.self.now.postfix) (nodes_in ts made.postfix) c.end_powers-factors.result _ c.in-Times.is (c.end_powers-factors.ensures.ended ts)
    (entered ts c.enter-in-Times.new.self (opened.Product c.end_powers-factors.result) (open_in made.nesting) made.postfix c.enter-in-Times.ensures.nesting c.enter-in-Times.ensures.postfix c.enter-in-Times.ensures.expects)

pub returns-in-Slash-clause-step : goal.returns-in-Slash-clause-step
returns-in-Slash-clause-step c = λ ts at.
    let made = c.end_powers-factors-in-Slash.new.self in
    slash_step c.args.what (open_in c.args.self.now.nesting) (open_in made.nesting) (nodes_in ts c.args.self.now.postfix) (nodes_in ts made.postfix) c.end_powers-factors-in-Slash.result (nodes_in ts c.gather.new.self.postfix) _
    c.in-Slash.is (c.end_powers-factors-in-Slash.ensures.ended ts) (c.gather.ensures.nodes ts)
    (entered ts c.enter-in-Slash.new.self opened.Quotient (open_in made.nesting) c.gather.new.self.postfix (c.enter-in-Slash.ensures.nesting ∙ ap (λ n. opened.Quotient ∷ open_in n) c.gather.ensures.nesting)
    c.enter-in-Slash.ensures.postfix c.enter-in-Slash.ensures.expects)

pub returns-in-Plus-clause-step : goal.returns-in-Plus-clause-step
returns-in-Plus-clause-step c = λ ts at.
    let made = c.end_product-terms.new.self in
    plus_step c.args.what (open_in c.args.self.now.nesting) (open_in made.nesting) (nodes_in ts c.args.self.now.postfix) (nodes_in ts made.postfix) c.end_product-terms.result _ c.in-Plus.is (c.end_product-terms.ensures.ended ts)
    (entered ts c.enter-in-Plus.new.self (opened.Sum c.end_product-terms.result) (open_in made.nesting) made.postfix c.enter-in-Plus.ensures.nesting c.enter-in-Plus.ensures.postfix c.enter-in-Plus.ensures.expects)

pub returns-in-Minus-clause-step : goal.returns-in-Minus-clause-step
returns-in-Minus-clause-step c = λ ts at.
    let made = c.end_sum.new.self in
    minus_step c.args.what (open_in c.args.self.now.nesting) (open_in made.nesting) (nodes_in ts c.args.self.now.postfix) (nodes_in ts made.postfix) made.expects c.args.self.now.expects _ c.in-Minus.is (c.end_sum.ensures.ended ts)
    (entered ts c.enter-in-Minus.new.self opened.Difference (open_in made.nesting) made.postfix c.enter-in-Minus.ensures.nesting c.enter-in-Minus.ensures.postfix c.enter-in-Minus.ensures.expects)
