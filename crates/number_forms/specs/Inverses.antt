-- What inverting a Number comes to.
use Rattle.std.specs.Prelude.{ℕ, ⊤, ◌≡◌, ◌≤◌, true, None, Err, [], ◌∷◌}
use Rattle.calc_algebra.specs.{Numbers.{is_number, value, classes}, SquareClasses.{Inverts}, Surds.{Surd}}
use Rattle.calc_terms.specs.Trees.{Tree, Trees, none, more, sizes}
use Rattle.node_pool.specs.declared.full.Full.{Full}
use Rattle.number_forms.specs.{Overflows.{inverting_calculations}, Shapes.{term_tree, sum_of_terms}, declared.inverting.{Inverse.{Inverse}, Terms.{Terms}}}
use Rattle.number_forms.specs.declared.inverting.Inverse.TheVariants as inverse
use Rattle.number_forms.specs.declared.inverting.Terms.TheVariants as terms
use Rattle.surd_terms.specs.{Calculations.{first_misfit}, Inverses.{inverse_of, first_of_inverse, second_of_inverse}, Terms.{term_of}}
use Rattle.tree_handles.specs.{Building.{nodes_sizes, taking}, Forest.{Forest}, Handed.{Gives}, Roots.{without_root}}

-- the new tree for the inverse of one term, or of the sum of two; there is none for others
abbrev pub inverse_trees : Surd → Trees
inverse_trees (x ∷ []) = more (term_tree (inverse_of x)) none
inverse_trees (x ∷ y ∷ []) = more (sum_of_terms (first_of_inverse x y) (second_of_inverse x y)) none
inverse_trees _ = none

-- the tree of the terms of an inverse
abbrev pub tree_of_terms : Terms → Tree
tree_of_terms (terms.One s) = term_tree (term_of s)
tree_of_terms (terms.Two s t) = sum_of_terms (term_of s) (term_of t)

-- a Number that inverts v, written as the terms of the formula
pub record IsInverseOf (v : Surd) (t : Tree) : Type 0 where
  pub number : is_number t ≡ true
  pub inverts : Inverts (value t) v
  pub written : inverse_trees v ≡ more t none

-- a fact of the inverse
abbrev pub IfValue : Inverse → (ℕ → Type 0) → Type 0
IfValue (inverse.Value h) P = P h
IfValue inverse.Zero P = ⊤
IfValue (inverse.Wide h) P = ⊤

-- each calculation fits, and so does the new tree in the free bytes
pub record HasInverse (v : Surd) (free : ℕ) : Type 0 where
  pub calculated : first_misfit (inverting_calculations v) ≡ None
  pub room : sizes (inverse_trees v) ≤ free

-- each calculation fits, but a node of the new tree finds no room: what it needs, and what is left for it
pub record LacksInverse (v : Surd) (free : ℕ) (full : Full) : Type 0 where
  pub calculated : first_misfit (inverting_calculations v) ≡ None
  pub lacks : taking free (nodes_sizes (inverse_trees v)) ≡ Err full

-- the inverse of a Number of one class or two; no tree for one of no class; the Number itself, where it stands, for one of three or more
abbrev pub AnswersInverse : ℕ → Tree → Forest → Forest → Inverse → Type 0
AnswersInverse i a old new (inverse.Value h) = (1 ≤ classes a) × (classes a ≤ 2) × Gives (without_root i old) new h (IsInverseOf (value a))
AnswersInverse i a old new inverse.Zero = (classes a ≡ 0) × (new ≡ without_root i old)
AnswersInverse i a old new (inverse.Wide h) = (3 ≤ classes a) × (h ≡ i) × (new ≡ old)
