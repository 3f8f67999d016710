-- A part whose coefficient stands beside the sum.
use Rattle.std.specs.Prelude.{ℕ, ◌+◌, ◌≡◌, ◌≤◌, ◌∷◌, true, false, IsPermutation}
use Rattle.calc_measures.specs.Loads.{nest_of}
use Rattle.calc_algebra.specs.{Numbers.{is_number, value, are_numbers}, Reduced.{NoneIs}, SquareClasses.{Same}, Rewritings.{HasNoNewName, KeepsMeanings}}
use Rattle.calc_terms.specs.Trees.{Tree, add, mult, Trees, none, more, append, count, nodes}
use Rattle.coefficients.specs.Coefficients.{IsMonic, factors_of}
use Rattle.node_order.specs.Sorting.{list_of}
use Rattle.sum_reduce.specs.{Bits.{KeepsHeld}, Collected.{AreLike, sum_of_coefficients}, Stages.{widths}, Terms.{AreFormed, is_loose}}
use Rattle.tree_bits.specs.{Children.{addends_of_each}, HeldTrees.{addend}}

-- these terms of ts have that part, and their coefficients were added
pub record IsAdded (ts : Trees) (c p : Tree) (rest : Trees) (less : ℕ) : Type 0 where
  pub like : Trees
  pub flat : NoneIs is_loose ts
  pub moved : IsPermutation (list_of ts) (list_of (append like rest))
  pub are : AreLike p like
  pub some : 1 ≤ count like
  pub two : 1 ≤ less → 2 ≤ count like
  pub worth : Same (value c) (sum_of_coefficients like)

-- ts is a part times a coefficient, and other terms, and so many less in width
pub record IsJoining (ts : Trees) (c p : Tree) (rest : Trees) (less : ℕ) : Type 0 where
  pub number : is_number c ≡ true
  pub monic : IsMonic p
  pub formed : AreFormed rest
  pub no_sum : NoneIs is_loose rest
  pub meanings : KeepsMeanings (add ts) (add (more (mult (more c (more p none))) rest))
  pub no_new_name : HasNoNewName (add ts) (add (more p rest))
  pub nest : nest_of (more p rest) ≤ nest_of ts
  pub other : are_numbers ts ≡ false
  pub width : nodes p + widths rest + less ≤ widths ts
  pub added : IsAdded ts c p rest less
  pub held : KeepsHeld (addends_of_each ts) (addend (value c) (factors_of p) ∷ addends_of_each rest)
