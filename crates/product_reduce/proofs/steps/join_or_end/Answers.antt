use Rattle.product_reduce.proofs.{Shared.{◌≡◌, ◌∙◌, ap, sym, refl, arith, passed_lacks, refusal_lacks, tree_of, is_zero, gives_as, expression_root, plain_root, at_zero}, Rejoined.{pair_lacks}}
use Rattle.product_reduce.proofs.{Pairs.{some_partners}, steps.join_or_end.Goals.{After-is_zero}}
use Rattle.product_reduce.proofs.steps.join_or_end.Goals as goal

pub is_zero-requires-clause-expression : goal.is_zero-requires-clause-expression
is_zero-requires-clause-expression c = rw c.id.ensures (expression_root c.requires.stands c.requires.coefficient)

zero-is : (c : After-is_zero) → is_zero (tree_of c.args.coefficient c.args.pool.now) ≡ c.is_zero.result
zero-is c = let seen = rw c.id.ensures at c.is_zero.ensures in ap is_zero (sym (plain_root c.args.coefficient c.requires.stands c.requires.coefficient.root)) ∙ sym seen

pub sorted-requires-clause-not_zero : goal.sorted-requires-clause-not_zero
sorted-requires-clause-not_zero c = zero-is (goal.at.sorted-requires-clause-not_zero c).After-is_zero ∙ c.if-is_zero.false

pub returns-then-is_zero-clause-done : goal.returns-then-is_zero-clause-done
returns-then-is_zero-clause-done c = gives_as c.alone.ensures.ok refl (λ t e. at_zero (zero-is (goal.at.returns-then-is_zero-clause-done c).After-is_zero ∙ c.if-is_zero.true) e)

pub returns-in_ok-joined-in-Some-clause-again : goal.returns-in_ok-joined-in-Some-clause-again
returns-in_ok-joined-in-Some-clause-again c = grind (arith, zero-is, some_partners, gives_as)

pub returns-in_ok-sorted-in-None-clause-done : goal.returns-in_ok-sorted-in-None-clause-done
returns-in_ok-sorted-in-None-clause-done c = grind (arith, zero-is, gives_as)

pub returns-in_err-joined-in-Some-clause-room : goal.returns-in_err-joined-in-Some-clause-room
returns-in_err-joined-in-Some-clause-room c gs x k = grind (arith, refusal_lacks, pair_lacks)

pub returns-in_err-sorted-in-None-clause-room : goal.returns-in_err-sorted-in-None-clause-room
returns-in_err-sorted-in-None-clause-room c gs x k =
    passed_lacks c.from_residual-in_err-sorted-in-None.result c.in_err-sorted-in-None.field-0.0 _ _ c.from_residual-in_err-sorted-in-None.ensures.1
    (c.in_err-sorted-in-None.ensures.room gs x k) (λ g l. omega (arith, l))
