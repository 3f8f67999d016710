-- A sum read token by token, from the left: what is open, the nodes that are whole, and what each token does.
use Rattle.std.specs.Prelude.{ℕ, ◌+◌, max, List, [], ◌∷◌, ◌++◌, Option, Some, None, ◌==◌, if◌then◌else◌}
use Rattle.calc_terms.specs.declared.kind.Kind.{Kind}
use Rattle.calc_terms.specs.declared.kind.Kind.TheVariants as kind
use Rattle.calc_language.specs.Tokens.{Token, literal, name, undef_mark, root_mark, plus_mark, minus_mark, times_mark, slash_mark, caret_mark, left_mark, right_mark}
use Rattle.calc_parser.specs.{declared.nesting.Open.{Open}, declared.nesting.Open.TheVariants.{Parentheses, Root, Sum, Difference, NegatedTerm, Product, Quotient, NegatedFactor, Joined, Power}}
use Rattle.calc_parser.specs.{declared.nesting.Open.TheVariants.{NegatedExponent}, declared.nesting.Level.{Level}}
use Rattle.calc_parser.specs.declared.nesting.Level.TheVariants as level
use Rattle.calc_parser.specs.{declared.nesting.Place.{Place}, declared.nesting.Place.TheVariants.{Child, Right}, declared.reader.Expects.{Expects}}
use Rattle.calc_parser.specs.{declared.reader.Expects.TheVariants.{Operand, Parenthesis, Operator}, Postfix.{Node, leaf, parent}}

-- what may come next, what is open (the last first), and the whole nodes in postfix order
pub record State : Type 0 where
  pub expects : Expects
  pub nesting : List Open
  pub nodes : List Node

-- what is open around a part that has ended, the nodes, and how many children stand side by side with it
pub record Ended : Type 0 where
  pub nesting : List Open
  pub nodes : List Node
  pub count : ℕ

abbrev pub state : Expects → List Open → List Node → State
state e s o = record { expects = e; nesting = s; nodes = o }

abbrev pub ended : List Open → List Node → ℕ → Ended
ended s o n = record { nesting = s; nodes = o; count = n }

-- one tree stands for itself, others become the children of a node
abbrev pub gathered : Kind → ℕ → List Node
gathered k n = if n == 1 then [] else parent k n ∷ []

-- ---- what ends with a part

-- the node that a power or a minus sign makes with the part behind it
abbrev pub completed : Level → Open → Option Node
completed level.Power Power = Some (parent kind.Pow 2)
completed level.Power NegatedExponent = Some (parent kind.Neg 1)
completed level.Factor NegatedFactor = Some (parent kind.Neg 1)
completed level.Term NegatedTerm = Some (parent kind.Neg 1)
completed l x = None

abbrev pub onward : {A : Type 0} → Option Node → (Node → A) → A → A
onward (Some n) f d = f n
onward None f d = d

-- all of them that end with the part
abbrev pub complete : Level → List Open → List Node → List Open × List Node
complete l [] o = ([], o)
complete l (x ∷ s) o = onward (completed l x) (λ n. complete l s (o ++ n ∷ [])) (x ∷ s, o)

-- where a part of this level stands in what is open around it
abbrev pub place_in : Level → Open → Option Place
place_in level.Power (Joined k) = Some (Child k)
place_in level.Factor (Product k) = Some (Child k)
place_in level.Factor Quotient = Some (Right kind.Div)
place_in level.Term (Sum k) = Some (Child k)
place_in level.Term Difference = Some (Right kind.Sub)
place_in l x = None

-- it is one child more, or the right side that ends a node, or stands alone
abbrev pub placed : Option Place → Open → List Open → List Node → Ended
placed (Some (Child k)) x s o = ended s o (k + 1)
placed (Some (Right k)) x s o = ended s (o ++ parent k 2 ∷ []) 1
placed None x s o = ended (x ∷ s) o 1

abbrev pub take_place : Level → List Open → List Node → Ended
take_place l [] o = ended [] o 1
take_place l (x ∷ s) o = placed (place_in l x) x s o

-- a part of this level ends
abbrev pub end_part : Level → List Open → List Node → Ended
end_part l s o = take_place l ((complete l s o).0) ((complete l s o).1)

abbrev pub end_power : List Open → List Node → Ended
end_power = end_part level.Power

abbrev pub end_factor : List Open → List Node → Ended
end_factor = end_part level.Factor

abbrev pub end_term : List Open → List Node → Ended
end_term = end_part level.Term

-- powers side by side are a factor
abbrev pub end_powers : List Open → List Node → Ended
end_powers s o = end_factor ((end_power s o).nesting) ((end_power s o).nodes ++ gathered kind.Mult ((end_power s o).count))

-- a product is a term
abbrev pub end_product : List Open → List Node → Ended
end_product s o = end_term ((end_powers s o).nesting) ((end_powers s o).nodes ++ gathered kind.Mult ((end_powers s o).count))

-- the nodes of a sum that ends
abbrev pub sum_nodes : Ended → List Node
sum_nodes e = e.nodes ++ gathered kind.Add e.count

-- ---- what a token does

-- a minus sign before what comes next
abbrev pub minus_in : List Open → Open
minus_in (Power ∷ s) = NegatedExponent
minus_in (NegatedExponent ∷ s) = NegatedExponent
minus_in (Product k ∷ s) = NegatedFactor
minus_in (Quotient ∷ s) = NegatedFactor
minus_in (NegatedFactor ∷ s) = NegatedFactor
minus_in s = NegatedTerm

-- a token that begins an operand
abbrev pub begin_operand : Token → List Open → List Node → Option State
begin_operand (literal q) s o = Some (state Operator s (o ++ leaf (literal q) ∷ []))
begin_operand (name x) s o = Some (state Operator s (o ++ leaf (name x) ∷ []))
begin_operand undef_mark s o = Some (state Operator s (o ++ leaf undef_mark ∷ []))
begin_operand left_mark s o = Some (state Operand (Parentheses ∷ s) o)
begin_operand root_mark s o = Some (state Parenthesis s o)
begin_operand m s o = None

-- a token where an operand is due
abbrev pub at_operand : Token → List Open → List Node → Option State
at_operand minus_mark s o = Some (state Operand (minus_in s ∷ s) o)
at_operand m s o = begin_operand m s o

-- a token behind a root sign
abbrev pub at_parenthesis : Token → List Open → List Node → Option State
at_parenthesis left_mark s o = Some (state Operand (Root ∷ s) o)
at_parenthesis m s o = None

-- parentheses end
abbrev pub leave_parentheses : List Open → List Node → Option State
leave_parentheses (Parentheses ∷ s) o = Some (state Operator s o)
leave_parentheses (Root ∷ s) o = Some (state Operator s (o ++ parent kind.Root 1 ∷ []))
leave_parentheses s o = None

-- a token that goes on behind powers, a product, a sum
abbrev pub join_power : Token → Ended → Option State
join_power m e = begin_operand m (Joined e.count ∷ e.nesting) e.nodes

abbrev pub at_operator : Token → List Open → List Node → Option State
at_operator caret_mark s o = Some (state Operand (Power ∷ s) o)
at_operator (name x) s o = join_power (name x) (end_power s o)
at_operator undef_mark s o = join_power undef_mark (end_power s o)
at_operator left_mark s o = join_power left_mark (end_power s o)
at_operator root_mark s o = join_power root_mark (end_power s o)
at_operator times_mark s o = Some (state Operand (Product ((end_powers s o).count) ∷ (end_powers s o).nesting) ((end_powers s o).nodes))
at_operator slash_mark s o = Some (state Operand (Quotient ∷ (end_powers s o).nesting) ((end_powers s o).nodes ++ gathered kind.Mult ((end_powers s o).count)))
at_operator plus_mark s o = Some (state Operand (Sum ((end_product s o).count) ∷ (end_product s o).nesting) ((end_product s o).nodes))
at_operator minus_mark s o = Some (state Operand (Difference ∷ (end_product s o).nesting) (sum_nodes (end_product s o)))
at_operator right_mark s o = leave_parentheses ((end_product s o).nesting) (sum_nodes (end_product s o))
at_operator m s o = None

unfoldable pub step : State → Token → Option State
step st m = elim st.expects [ Operand ↦ at_operand m st.nesting st.nodes | Parenthesis ↦ at_parenthesis m st.nesting st.nodes | Operator ↦ at_operator m st.nesting st.nodes ]

-- the end of the tokens: a sum, where nothing is open
abbrev pub when_closed : Ended → Option (List Node)
when_closed e = elim e.nesting [ [] ↦ Some (sum_nodes e) | x ∷ s ↦ None ]

unfoldable pub finish : State → Option (List Node)
finish st = elim st.expects [ Operand ↦ None | Parenthesis ↦ None | Operator ↦ when_closed (end_product st.nesting st.nodes) ]

abbrev pub then_run : Option State → (State → Option (List Node)) → Option (List Node)
then_run (Some st) f = f st
then_run None f = None

-- all the tokens, from the left
unfoldable pub run : State → List Token → Option (List Node)
run st [] = finish st
run st (m ∷ ts) = then_run (step st m) (λ st'. run st' ts)

abbrev pub start : State
start = state Operand [] []

-- ---- how much room it takes: the nodes, and for what is open the children that it counts

abbrev pub weight_of : Open → ℕ
weight_of (Sum k) = max 1 k
weight_of (Product k) = max 1 k
weight_of (Joined k) = max 1 k
weight_of x = 1

abbrev pub weight : List Open → ℕ
weight [] = 0
weight (x ∷ s) = weight_of x + weight s
