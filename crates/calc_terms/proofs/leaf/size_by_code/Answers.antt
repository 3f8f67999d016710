use Rattle.calc_terms.proofs.{Shared.{arith}, Sizes.{told_by, told_long, told_more, told_short, told_two}}
use Rattle.calc_terms.proofs.leaf.size_by_code.Goals as goal

pub returns-then-code-gt2 : goal.returns-then-code-gt2
returns-then-code-gt2 c = λ k b ec ef. told_by c.args.code c.args.form 8 k b (told_more c.args.code c.args.form (omega (arith, c.if-code-gt2.true))) ec ef

pub returns-then-code-eq2 : goal.returns-then-code-eq2
returns-then-code-eq2 c = λ k b ec ef. told_by c.args.code c.args.form 16 k b (told_two c.args.code c.args.form c.if-code-eq2.true) ec ef

pub returns-then-form-eq0 : goal.returns-then-form-eq0
returns-then-form-eq0 c = λ k b ec ef. told_by c.args.code c.args.form 40 k b (told_long c.args.code c.args.form (omega (arith, c.if-code-gt2.false)) (λ e. c.if-code-eq2.false e) c.if-form-eq0.true) ec ef

pub returns-else-form-eq0 : goal.returns-else-form-eq0
returns-else-form-eq0 c = λ k b ec ef. told_by c.args.code c.args.form 16 k b (told_short c.args.code c.args.form (omega (arith, c.if-code-gt2.false)) (λ e. c.if-code-eq2.false e) (λ e. c.if-form-eq0.false e)) ec ef
