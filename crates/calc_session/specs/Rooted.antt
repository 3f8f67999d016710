-- What finding roots comes to, as the code tells it.
use Rattle.std.specs.Prelude.{ℕ, ◌≡◌, List, [], ◌∷◌, ◌++◌, codes, true, ⊤}
use Rattle.breakers.specs.{Breakers.{CalmChecks}, State.{State as Breaker}}
use Rattle.calc_terms.specs.Trees.{sub, nodes}
use Rattle.dual_diff.specs.Placing.{Adds}
use Rattle.equation_roots.specs.{Roots.{rationals_in, rest_in}, declared.fault.RootFault.{RootFault}}
use Rattle.equation_roots.specs.declared.fault.RootFault.TheVariants as fault
use Rattle.expansions.specs.PolynomialTrees.{is_polynomial, polynomial_of}
use Rattle.linear_solve.specs.Equations.{Equation}
use Rattle.name_table.specs.Filling.{NamedTree}
use Rattle.node_pool.specs.State.{State as PoolState, free_of}
use Rattle.calc_session.specs.{declared.rooting.Found.{Found}, Rooting.{HoldsOnly, IsFoundIn}, RootTexts.{root_trees, roots_text}, Solving.{Become}}
use Rattle.calc_session.specs.declared.rooting.Found.TheVariants as found
use Rattle.calc_session.specs.{declared.answers.Refusal.{Refusal}, declared.answers.Refusal.TheVariants.{Degree, Overflow}}

-- the sides were built and filled, and their difference stands behind the other trees
pub record IsDifferenceOf (values : List NamedTree) (e : Equation) (old new : PoolState) (i : ℕ) : Type 0 where
  pub rest : ℕ
  pub sides : Equation
  pub become : Become values (free_of old) (e ∷ []) rest (sides ∷ [])
  pub adds : Adds old new (sub sides.left sides.right) i

-- what is found of an equation that was read, after one check for each node of the difference of its sides
pub record IsFoundOf (x : List ℕ) (values : List NamedTree) (free : ℕ) (e : Equation) (before after : List Breaker) (f : Found) : Type 0 where
  pub rest : ℕ
  pub sides : Equation
  pub become : Become values free (e ∷ []) rest (sides ∷ [])
  pub only : HoldsOnly x (sub sides.left sides.right)
  pub polynomial : is_polynomial (sub sides.left sides.right) ≡ true
  pub calm : CalmChecks (nodes (sub sides.left sides.right)) before after
  pub is_found : IsFoundIn x (polynomial_of (sub sides.left sides.right)) f

-- no name but x is among these
abbrev pub AreOnly : List ℕ → List (List ℕ) → Type 0
AreOnly x [] = ⊤
AreOnly x (y ∷ []) = y ≡ x
AreOnly x (y ∷ z ∷ ys) = ⊥

-- what is told of it
abbrev pub found_text : List ℕ → Found → List ℕ
found_text x found.Each = x ++ codes " free"
found_text x (found.Roots r) = roots_text x (root_trees (rationals_in r) (rest_in r))

-- the refusal that passes on why no roots are told
abbrev pub refusal_to_root : RootFault → Refusal
refusal_to_root fault.Degree = Degree
refusal_to_root (fault.Overflow o) = Overflow o.op o.a o.b
