-- How a run ends, by what is open.
use Rattle.calc_parser.proofs.Shared.{◌≡◌, ◌⊎◌, List, Some, None, arith, sym, ap, Token, Open, Expects, Operand, Parenthesis, Operator, Node, state, end_product, sum_nodes}
use Rattle.calc_parser.proofs.Shared.{when_closed, at_operand, at_parenthesis, at_operator, step, finish, innermost}

pub not_finished : (x : Expects) (s : List Open) (o : List Node) → (x ≡ Operand) ⊎ (x ≡ Parenthesis) → finish (state x s o) ≡ None
unfolding finish
not_finished x s o h = grind arith

-- the state when the sum has ended
module _ (x y : Expects) (s s' : List Open) (o o' : List Node) (operator : x ≡ Operator) (ends : state y s' o' ≡ state x ((end_product s o).nesting) (sum_nodes (end_product s o))) where
  finish_closes : finish (state x s o) ≡ when_closed (end_product s o)
  unfolding finish
  finish_closes = ap (λ x. finish (state x s o)) operator

  pub nothing_open : None ≡ innermost s' → finish (state x s o) ≡ Some o'
  nothing_open e = grind (arith, finish_closes)

  pub something_open : (z : Open) → Some z ≡ innermost s' → finish (state x s o) ≡ None
  something_open z e = grind (arith, finish_closes)

-- ---- a step, by what is expected
module _ (x : Expects) (s : List Open) (o : List Node) (m : Token) where
  pub operand_step : x ≡ Operand → at_operand m s o ≡ step (state x s o) m
  unfolding step
  operand_step e = ap (λ x. step (state x s o) m) (sym e)

  pub parenthesis_step : x ≡ Parenthesis → at_parenthesis m s o ≡ step (state x s o) m
  unfolding step
  parenthesis_step e = ap (λ x. step (state x s o) m) (sym e)

  pub operator_step : x ≡ Operator → at_operator m s o ≡ step (state x s o) m
  unfolding step
  operator_step e = ap (λ x. step (state x s o) m) (sym e)
