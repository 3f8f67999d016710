-- What the reader does behind an operand is what the automaton does.
use Rattle.calc_parser.proofs.Shared.{ℕ, ◌≡◌, ◌⊎◌, List, ◌∷◌, ◌++◌, Some, Result, arith, sym, ap, ◌∙◌, Name, Token, What, token_of, Open, Expects, Operand, Node, State, state, ended, gathered}
use Rattle.calc_parser.proofs.Shared.{end_power, end_powers, end_product, sum_nodes, begin_operand, leave_parentheses, at_operator, open_in, nodes_in, state_in, IsStep, Reader, Postfix}
use Rattle.calc_terms.specs.declared.kind.Kind.TheVariants as kind
use Rattle.calc_tokens.specs.declared.tokens.What.TheVariants as what
use Rattle.calc_parser.specs.declared.nesting.Open.TheVariants as opened

-- the state behind something that opens
pub entered : (ts : List Token) (r : Reader) (x : Open) (s : List Open) (p : Postfix) → open_in r.nesting ≡ x ∷ s → r.postfix ≡ p → r.expects ≡ Operand → state_in ts r ≡ state Operand (x ∷ s) (nodes_in ts p)
entered ts r x s p e f g = grind arith

module _ (w : What) (s s' : List Open) (o o' : List Node) where
  pub times_step : (k : ℕ) (st : State) → w ≡ what.Times → ended s' o' k ≡ end_powers s o → st ≡ state Operand (opened.Product k ∷ s') o' → at_operator (token_of w) s o ≡ Some st
  times_step k st e f g = ap (λ w. at_operator (token_of w) s o) e ∙ sym (ap (λ e. Some (state Operand (opened.Product e.count ∷ e.nesting) e.nodes)) f) ∙ ap Some (sym g)

  pub slash_step : (k : ℕ) (n : List Node) (st : State) → w ≡ what.Slash → ended s' o' k ≡ end_powers s o → n ≡ o' ++ gathered kind.Mult k → st ≡ state Operand (opened.Quotient ∷ s') n → at_operator (token_of w) s o ≡ Some st
  slash_step k n st e f h g = grind arith

  pub plus_step : (k : ℕ) (st : State) → w ≡ what.Plus → ended s' o' k ≡ end_product s o → st ≡ state Operand (opened.Sum k ∷ s') o' → at_operator (token_of w) s o ≡ Some st
  plus_step k st e f g = ap (λ w. at_operator (token_of w) s o) e ∙ sym (ap (λ e. Some (state Operand (opened.Sum e.count ∷ e.nesting) e.nodes)) f) ∙ ap Some (sym g)

  pub minus_step : (x y : Expects) (st : State) → w ≡ what.Minus → state x s' o' ≡ state y ((end_product s o).nesting) (sum_nodes (end_product s o)) → st ≡ state Operand (opened.Difference ∷ s') o'
      → at_operator (token_of w) s o ≡ Some st
  minus_step x y st e f g = ap (λ w. at_operator (token_of w) s o) e ∙ sym (ap (λ st. Some (state Operand (opened.Difference ∷ st.nesting) st.nodes)) f) ∙ ap Some (sym g)

  pub right_step : {T E : Type 0} (x y : Expects) (r : Result T E) (st : State) → w ≡ what.Right → state x s' o' ≡ state y ((end_product s o).nesting) (sum_nodes (end_product s o)) → IsStep r st (leave_parentheses s' o')
      → IsStep r st (at_operator (token_of w) s o)
  right_step x y r st e f h = grind arith

  abbrev pub JoinsAPower : Type 0
  JoinsAPower = ((x : Name) × (w ≡ what.Name x)) ⊎ ((w ≡ what.Undef) ⊎ ((w ≡ what.Left) ⊎ (w ≡ what.Root)))

  pub join_step : {T E : Type 0} (k : ℕ) (s2 : List Open) (o2 : List Node) (r : Result T E) (st : State) → JoinsAPower → ended s' o' k ≡ end_power s o → s2 ≡ opened.Joined k ∷ s' → o2 ≡ o' → IsStep r st (begin_operand (token_of w) s2 o2)
      → IsStep r st (at_operator (token_of w) s o)
  join_step k s2 o2 r st j f g i h = grind arith
