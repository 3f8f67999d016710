-- What is read is a sum.
use Rattle.calc_parser.proofs.Shared.{◌≡◌, List, [], ◌∷◌, ◌++◌, true, false, Option, Some, None, arith, refl, sym, ap, ◌∙◌, subst, append_assoc, append-nil, Token, literal}
use Rattle.calc_parser.proofs.Shared.{name, undef_mark, root_mark, plus_mark, minus_mark, times_mark, slash_mark, caret_mark, left_mark, right_mark, Tree, num, symbol, undef, root}
use Rattle.calc_parser.proofs.Shared.{IsSum, SoFar, as_tree, joins, Sum, plain_power, Primary, a_literal, a_name, an_undef, parenthesized, a_root, Open, Operand, Parenthesis, Operator}
use Rattle.calc_parser.proofs.Shared.{Expects, Node, parent, postfix, postfixes, State, state, Ended, gathered, end_power, end_powers, end_product, sum_nodes, begin_operand, at_operand}
use Rattle.calc_parser.proofs.{Shared.{at_parenthesis, at_operator, join_power, minus_in, leave_parentheses, step, when_closed, finish, then_run, run, start}, Spots.{is_joined, JoinsWhere, Spot}}
use Rattle.calc_parser.proofs.Spots.{JoinedAt, ProductAt, SumAt, part_as, power_ends, powers_end, product_whole, product_end, sum_whole, at_start, in_parentheses, in_root, behind_plus}
use Rattle.calc_parser.proofs.Spots.{behind_minus, behind_term_sign, behind_times, behind_slash, behind_factor_sign, behind_powers, behind_base, behind_exponent_sign}
use Rattle.calc_terms.specs.declared.kind.Kind.TheVariants as kind
use Rattle.calc_parser.specs.declared.nesting.Open.TheVariants as opened

-- ---- states

-- a root sign comes last
pub record BehindRoot (a : List Token) (s : List Open) (o : List Node) : Type 0 where
  pub before : List Token
  pub split : a ≡ before ++ root_mark ∷ []
  pub spot : Spot before s o

-- an operand comes last
pub record BehindOperand (a : List Token) (s : List Open) (o : List Node) : Type 0 where
  pub before : List Token
  pub last : List Token
  pub nodes : List Node
  pub tree : Tree
  pub split : a ≡ before ++ last
  pub spot : Spot before s nodes
  pub derives : Primary last tree
  pub joined : JoinsWhere s last
  pub nodes_are : o ≡ nodes ++ postfix tree

abbrev pub Valid : List Token → State → Type 0
Valid a st = elim st.expects [
  | Operand ↦ Spot a st.nesting st.nodes × (is_joined st.nesting ≡ false)
  | Parenthesis ↦ BehindRoot a st.nesting st.nodes
  | Operator ↦ BehindOperand a st.nesting st.nodes
]

valid_as : (a : List Token) (st st' : State) → Some st ≡ Some st' → Valid a st → Valid a st'
valid_as a st st' e v = grind arith

spot_as : {a b : List Token} {s : List Open} {o n : List Node} → a ≡ b → o ≡ n → Spot a s o → Spot b s n
spot_as {a} {b} {s} {o} {n} e f q = subst (λ x. Spot x s n) e (subst (λ x. Spot a s x) f q)

not_joined : (s : List Open) (c : List Token) → is_joined s ≡ false → JoinsWhere s c
not_joined s c h k = grind arith

-- a minus sign where an operand is due
minus_valid : {a : List Token} {s : List Open} {o : List Node} → Spot a s o → is_joined s ≡ false → Valid (a ++ minus_mark ∷ []) (state Operand (minus_in s ∷ s) o)
minus_valid (behind_times q k x) h = (behind_factor_sign (behind_times q k x) refl, refl)
minus_valid (behind_slash q k x) h = (behind_factor_sign (behind_slash q k x) refl, refl)
minus_valid (behind_factor_sign q k) h = (behind_factor_sign (behind_factor_sign q k) refl, refl)
minus_valid (behind_powers q k x) h = cc
minus_valid (behind_base q x i) h = (behind_exponent_sign (behind_base q x i) refl, refl)
minus_valid (behind_exponent_sign q k) h = (behind_exponent_sign (behind_exponent_sign q k) refl, refl)
minus_valid q h = (behind_term_sign q refl, refl)

leaf_valid : {a : List Token} {s : List Open} {o : List Node} (m : Token) (t : Tree) (n : List Node) → Spot a s o → Primary (m ∷ []) t → JoinsWhere s (m ∷ []) → n ≡ o ++ postfix t
    → Valid (a ++ m ∷ []) (state Operator s n)
leaf_valid {a} {s} {o} m t n q d j e = record { before = a; last = m ∷ []; nodes = o; tree = t; split = refl; spot = q; derives = d; joined = j; nodes_are = e }

-- a token that begins an operand
begin_valid : {a : List Token} {s : List Open} {o : List Node} (m : Token) (st : State) → Spot a s o → JoinsWhere s (m ∷ []) → begin_operand m s o ≡ Some st → Valid (a ++ m ∷ []) st
begin_valid {a} {s} {o} (literal q) st spot j e = valid_as (a ++ literal q ∷ []) _ st e (leaf_valid (literal q) (num q) _ spot a_literal j refl)
begin_valid {a} {s} {o} (name x) st spot j e = valid_as (a ++ name x ∷ []) _ st e (leaf_valid (name x) (symbol x) _ spot a_name j refl)
begin_valid {a} {s} {o} undef_mark st spot j e = valid_as (a ++ undef_mark ∷ []) _ st e (leaf_valid undef_mark undef _ spot an_undef j refl)
begin_valid {a} {s} {o} left_mark st spot j e = valid_as (a ++ left_mark ∷ []) (state Operand (opened.Parentheses ∷ s) o) st e (in_parentheses spot, refl)
begin_valid {a} {s} {o} root_mark st spot j e = valid_as (a ++ root_mark ∷ []) (state Parenthesis s o) st e (record { before = a; split = refl; spot = spot })
begin_valid _ st spot j e = cc

operand_valid : {a : List Token} {s : List Open} {o : List Node} (m : Token) (st : State) → Spot a s o → is_joined s ≡ false → at_operand m s o ≡ Some st → Valid (a ++ m ∷ []) st
operand_valid {a} {s} {o} minus_mark st spot h e = valid_as (a ++ minus_mark ∷ []) (state Operand (minus_in s ∷ s) o) st e (minus_valid spot h)
operand_valid {s = s} m st spot h e = begin_valid m st spot (not_joined s (m ∷ []) h) e

parenthesis_valid : {a : List Token} {s : List Open} {o : List Node} (m : Token) (st : State) → BehindRoot a s o → at_parenthesis m s o ≡ Some st → Valid (a ++ m ∷ []) st
parenthesis_valid {a} {s} {o} left_mark st r e =
    let same : r.before ++ root_mark ∷ left_mark ∷ [] ≡ a ++ left_mark ∷ [] = sym (ap (λ x. x ++ left_mark ∷ []) r.split ∙ append_assoc r.before (root_mark ∷ []) (left_mark ∷ [])) in
    valid_as (a ++ left_mark ∷ []) (state Operand (opened.Root ∷ s) o) st e (spot_as same refl (in_root r.spot), refl)
parenthesis_valid _ st r e = cc

-- what an operand ends
power_at : {a : List Token} {s : List Open} {o : List Node} → BehindOperand a s o → JoinedAt a (end_power s o)
power_at {a} {s} {o} b = part_as JoinedAt (end_power s) (sym b.split) (sym b.nodes_are) ((power_ends b.spot).powers b.last b.tree (plain_power b.derives) b.joined)

factor_at : {a : List Token} {s : List Open} {o : List Node} → BehindOperand a s o → ProductAt a (end_powers s o)
factor_at {a} {s} {o} b = powers_end a (end_power s o) (power_at b)

term_at : {a : List Token} {s : List Open} {o : List Node} → BehindOperand a s o → SumAt a (end_product s o)
term_at {a} {s} {o} b = product_end a (end_powers s o) (factor_at b)

-- the operand is a power, and another one stands beside it
join_valid : {a : List Token} {s : List Open} {o : List Node} (m : Token) (st : State) → BehindOperand a s o → joins (m ∷ []) ≡ true → join_power m (end_power s o) ≡ Some st → Valid (a ++ m ∷ []) st
join_valid {a} {s} {o} m st b h e =
    let j : JoinedAt a (end_power s o) = power_at b in
    let counted = subst (λ k. Spot (j.before ++ j.last) (opened.Joined k ∷ (end_power s o).nesting) (j.nodes ++ postfixes j.made)) (sym j.count_is) (behind_powers j.spot j.place j.derives) in
    begin_valid m st (spot_as (sym j.split) (sym j.nodes_are) counted) (λ k. h) e

caret_valid : {a : List Token} {s : List Open} {o : List Node} → BehindOperand a s o → Valid (a ++ caret_mark ∷ []) (state Operand (opened.Power ∷ s) o)
caret_valid b = (spot_as (ap (λ x. x ++ caret_mark ∷ []) (sym b.split)) (sym b.nodes_are) (behind_base b.spot b.derives b.joined), refl)

times_valid : {a : List Token} (e : Ended) → ProductAt a e → Valid (a ++ times_mark ∷ []) (state Operand (opened.Product e.count ∷ e.nesting) e.nodes)
times_valid {a} e p =
    (subst (λ k. Spot (a ++ times_mark ∷ []) (opened.Product k ∷ e.nesting) e.nodes) (sym p.count_is) (spot_as (ap (λ x. x ++ times_mark ∷ []) (sym p.split)) (sym p.nodes_are) (behind_times p.spot p.place p.derives)), refl)

slash_valid : {a : List Token} (e : Ended) → ProductAt a e → Valid (a ++ slash_mark ∷ []) (state Operand (opened.Quotient ∷ e.nesting) (e.nodes ++ gathered kind.Mult e.count))
slash_valid {a} e p = (spot_as (ap (λ x. x ++ slash_mark ∷ []) (sym p.split)) (sym (product_whole a e p)) (behind_slash p.spot p.place p.derives), refl)

plus_valid : {a : List Token} (e : Ended) → SumAt a e → Valid (a ++ plus_mark ∷ []) (state Operand (opened.Sum e.count ∷ e.nesting) e.nodes)
plus_valid {a} e p =
    (subst (λ k. Spot (a ++ plus_mark ∷ []) (opened.Sum k ∷ e.nesting) e.nodes) (sym p.count_is) (spot_as (ap (λ x. x ++ plus_mark ∷ []) (sym p.split)) (sym p.nodes_are) (behind_plus p.spot p.place p.derives)), refl)

difference_valid : {a : List Token} (e : Ended) → SumAt a e → Valid (a ++ minus_mark ∷ []) (state Operand (opened.Difference ∷ e.nesting) (sum_nodes e))
difference_valid {a} e p = (spot_as (ap (λ x. x ++ minus_mark ∷ []) (sym p.split)) (sym (sum_whole a e p)) (behind_minus p.spot p.place p.derives), refl)

-- parentheses end with their sum
leave_valid : {b : List Token} {s : List Open} {n : List Node} (c : List Token) (p : SoFar) (o : List Node) (st : State) → Spot b s n → Sum c p → o ≡ n ++ postfix (as_tree p) → leave_parentheses s o ≡ Some st
    → Valid ((b ++ c) ++ right_mark ∷ []) st
leave_valid c p o st (in_parentheses {a} {s} {o = n} q) d f e =
    valid_as _ (state Operator s o) st e
    (record {
      before = a;
      last = left_mark ∷ (c ++ right_mark ∷ []);
      nodes = n;
      tree = as_tree p;
      split = append_assoc (a ++ left_mark ∷ []) c (right_mark ∷ []) ∙ append_assoc a (left_mark ∷ []) (c ++ right_mark ∷ []);
      spot = q;
      derives = parenthesized d;
      joined = λ k. refl;
      nodes_are = f;
    })
leave_valid c p o st (in_root {a} {s} {o = n} q) d f e =
    valid_as _ (state Operator s (o ++ parent kind.Root 1 ∷ [])) st e
    (record {
      before = a;
      last = root_mark ∷ left_mark ∷ (c ++ right_mark ∷ []);
      nodes = n;
      tree = root (as_tree p);
      split = append_assoc (a ++ root_mark ∷ left_mark ∷ []) c (right_mark ∷ []) ∙ append_assoc a (root_mark ∷ left_mark ∷ []) (c ++ right_mark ∷ []);
      spot = q;
      derives = a_root d;
      joined = λ k. refl;
      nodes_are = ap (λ x. x ++ parent kind.Root 1 ∷ []) f ∙ append_assoc n (postfix (as_tree p)) (parent kind.Root 1 ∷ []);
    })
leave_valid c p o st _ d f e = cc

right_valid : {a : List Token} (e : Ended) (st : State) → SumAt a e → leave_parentheses e.nesting (sum_nodes e) ≡ Some st → Valid (a ++ right_mark ∷ []) st
right_valid {a} e st p f =
    subst (λ x. Valid (x ++ right_mark ∷ []) st) (sym p.split) (leave_valid p.last p.made (sum_nodes e) st p.spot p.derives (sum_whole a e p) f)

operator_valid : {a : List Token} {s : List Open} {o : List Node} (m : Token) (st : State) → BehindOperand a s o → at_operator m s o ≡ Some st → Valid (a ++ m ∷ []) st
operator_valid {a} {s} {o} caret_mark st b e = valid_as (a ++ caret_mark ∷ []) (state Operand (opened.Power ∷ s) o) st e (caret_valid b)
operator_valid (name x) st b e = join_valid (name x) st b refl e
operator_valid undef_mark st b e = join_valid undef_mark st b refl e
operator_valid left_mark st b e = join_valid left_mark st b refl e
operator_valid root_mark st b e = join_valid root_mark st b refl e
operator_valid {a} {s} {o} times_mark st b e = valid_as (a ++ times_mark ∷ []) _ st e (times_valid (end_powers s o) (factor_at b))
operator_valid {a} {s} {o} slash_mark st b e = valid_as (a ++ slash_mark ∷ []) _ st e (slash_valid (end_powers s o) (factor_at b))
operator_valid {a} {s} {o} plus_mark st b e = valid_as (a ++ plus_mark ∷ []) _ st e (plus_valid (end_product s o) (term_at b))
operator_valid {a} {s} {o} minus_mark st b e = valid_as (a ++ minus_mark ∷ []) _ st e (difference_valid (end_product s o) (term_at b))
operator_valid {a} {s} {o} right_mark st b e = right_valid (end_product s o) st (term_at b) e
operator_valid _ st b e = cc

step_valid : (a : List Token) (st : State) (m : Token) (st' : State) → Valid a st → step st m ≡ Some st' → Valid (a ++ m ∷ []) st'
unfolding step
step_valid a st m st' v e = grind (arith, operand_valid, parenthesis_valid, operator_valid)

-- ---- whole runs

-- where nothing is open, nothing stands before
nothing_before : {b : List Token} {n : List Node} → Spot b [] n → (b ≡ []) × (n ≡ [])
nothing_before at_start = (refl, refl)

closed_sum : (a : List Token) (e : Ended) (o : List Node) → SumAt a e → when_closed e ≡ Some o → (t : Tree) × IsSum a t × (o ≡ postfix t)
closed_sum a e o p f = by e.nesting p.spot f
  where
    by : (s : List Open) → Spot p.before s p.nodes → elim s as (λ s. Option (List Node)) [ [] ↦ Some (sum_nodes e) | x ∷ s ↦ None ] ≡ Some o → (t : Tree) × IsSum a t × (o ≡ postfix t)
    by [] q f =
        let (b, n) = nothing_before q in
        let whole : a ≡ p.last = p.split ∙ ap (λ x. x ++ p.last) b in
        let made : sum_nodes e ≡ o = cc in
        (as_tree p.made, (p.made, subst (λ x. Sum x p.made) (sym whole) p.derives, refl), sym made ∙ sum_whole a e p ∙ ap (λ x. x ++ postfix (as_tree p.made)) n)
    by (x ∷ s) q f = cc

finish_sum : (a : List Token) (st : State) (o : List Node) → Valid a st → finish st ≡ Some o → (t : Tree) × IsSum a t × (o ≡ postfix t)
unfolding finish
finish_sum a st o v e = by st.expects v e
  where
    by : (x : Expects) → (elim x as (λ x. Type 0) [ Operand ↦ Spot a st.nesting st.nodes × (is_joined st.nesting ≡ false) | Parenthesis ↦ BehindRoot a st.nesting st.nodes | Operator ↦ BehindOperand a st.nesting st.nodes ])
        → elim x as (λ x. Option (List Node)) [ Operand ↦ None | Parenthesis ↦ None | Operator ↦ when_closed (end_product st.nesting st.nodes) ] ≡ Some o → (t : Tree) × IsSum a t × (o ≡ postfix t)
    by Operand v e = cc
    by Parenthesis v e = cc
    by Operator v e = closed_sum a (end_product st.nesting st.nodes) o (term_at v) e

run_sum : (a : List Token) (st : State) (c : List Token) (o : List Node) → Valid a st → run st c ≡ Some o → (t : Tree) × IsSum (a ++ c) t × (o ≡ postfix t)
unfolding run
run_sum a st [] o v e = rw append-nil (finish_sum a st o v e)
run_sum a st (m ∷ c) o v e = by (step st m) (step_valid a st m) (λ st'. run_sum (a ++ m ∷ []) st' c o) e
  where
    by : (r : Option State) → ((st' : State) → Valid a st → r ≡ Some st' → Valid (a ++ m ∷ []) st') → ((st' : State) → Valid (a ++ m ∷ []) st' → run st' c ≡ Some o → (t : Tree) × IsSum ((a ++ m ∷ []) ++ c) t × (o ≡ postfix t))
        → then_run r (λ st'. run st' c) ≡ Some o → (t : Tree) × IsSum (a ++ m ∷ c) t × (o ≡ postfix t)
    by None k go e = cc
    by (Some st') k go e = let (t, d, f) = go st' (k st' v refl) e in (t, subst (λ x. IsSum x t) (append_assoc a (m ∷ []) c) d, f)

-- what is read is a sum, and the nodes are its tree's
pub only_sums : (ts : List Token) (o : List Node) → run start ts ≡ Some o → (t : Tree) × IsSum ts t × (o ≡ postfix t)
only_sums ts o e = run_sum [] start ts o (at_start, refl) e
