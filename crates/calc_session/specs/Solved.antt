-- What solving comes to, as the code tells it.
use Rattle.std.specs.Prelude.{ℕ, ◌≡◌, ◌≤◌, ◌+◌, List, length, All, None, Ok}
use Rattle.breakers.specs.{Breakers.{CalmChecks}, State.{State as Breaker}}
use Rattle.calc_terms.specs.Trees.{Tree}
use Rattle.linear_solve.specs.{Equations.{Equation, nodes_of_sides}, Solutions.{answer_told}, Solving.{solving}, declared.fault.SolveFault.{SolveFault}}
use Rattle.name_table.specs.{Filling.{fills, values}, Tables.{Table}}
use Rattle.node_pool.specs.State.{State as PoolState, free_of}
use Rattle.tree_handles.specs.{Expressions.{IsExpression}, Forest.{Forest}, Standing.{forest}}
use Rattle.dual_diff.specs.Placing.{Adds}
use Rattle.linear_solve.specs.declared.fault.SolveFault.TheVariants as fault
use Rattle.calc_session.specs.{declared.answers.Refusal.{Refusal}, declared.answers.Refusal.TheVariants.{Overflow, Interrupted}, declared.solving.Solved.{Solved}, Evaluations.{made}}
use Rattle.calc_session.specs.Solving.{first_not_linear}
use Rattle.linear_solve.specs.{Listed.{names_listed}, RisingNames.{AreNamesOf}}

-- the tree of a side was built and filled, and stands behind the others
pub record BuildsSide (table : Table) (old new : PoolState) (t : Tree) (i : ℕ) : Type 0 where
  pub built : Tree
  pub is_made : made (free_of old) (values table (forest old)) t ≡ fills (free_of new) built
  pub adds : Adds old new built i

-- the equations are solved, after so many checks
pub record AreSolved (es : List Equation) (before after : List Breaker) (s : Solved) : Type 0 where
  pub names : AreNamesOf es (names_listed s.names.items)
  pub few : length (names_listed s.names.items) ≤ 6
  pub linear : first_not_linear es ≡ None
  pub calculated : solving (names_listed s.names.items) es ≡ Ok (answer_told s.solution)
  pub checks : CalmChecks (nodes_of_sides es + length (names_listed s.names.items)) before after

-- so many roots for each kind of side, of trees of the language
pub record AreRootsOf (f : Forest) (count : ℕ) (left right : List ℕ) : Type 0 where
  pub left_expressions : All (λ i. IsExpression i f) left
  pub right_expressions : All (λ i. IsExpression i f) right
  pub left_many : length left ≡ count
  pub right_many : length right ≡ count

-- the refusal that passes on why equations are not solved
abbrev pub refusal_to_solve : SolveFault → Refusal
refusal_to_solve (fault.Overflow o) = Overflow o.op o.a o.b
refusal_to_solve (fault.Interrupted i) = Interrupted i.by
