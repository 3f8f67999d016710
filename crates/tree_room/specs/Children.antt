-- The answers of a node's children, and the trees that they come from.
use Rattle.std.specs.Prelude.{ℕ, ◌+◌, ◌^◌, ◌≤◌, ⊤}
use Rattle.calc_measures.specs.Measures.{roots}
use Rattle.calc_room.specs.Counts.{counted}
use Rattle.calc_terms.specs.Trees.{Tree, Trees, none, more, nodes}
use Rattle.tree_room.specs.Needs.{tree_bytes}

-- each answer counts at most the nodes of its tree
abbrev pub CountWithin : Trees → Trees → Type 0
CountWithin none none = ⊤
CountWithin (more r rs) (more t ts) = (counted r ≤ nodes t) × CountWithin rs ts
CountWithin _ _ = ⊥

-- how many bytes the answer of a tree has at most
abbrev pub answer_bytes : Tree → ℕ
answer_bytes t = tree_bytes (nodes t) (2 ^ roots t)

abbrev pub answers_bytes : Trees → ℕ
answers_bytes none = 0
answers_bytes (more t ts) = answer_bytes t + answers_bytes ts
