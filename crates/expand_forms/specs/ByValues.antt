-- Nodes that are expanded as values.
use Rattle.std.specs.Prelude.{ℕ, ◌≤◌, List, length}
use Rattle.calc_terms.specs.Trees.{Tree, names as names_in}
use Rattle.expansions.specs.Named.{AreNames, AreAmong}

-- each name of the tree is one of these, which are at most eight
pub record CanName (ns : List (List ℕ)) (t : Tree) : Type 0 where
  pub names : AreNames ns
  pub few : length ns ≤ 8
  pub all : AreAmong ns (names_in t)
