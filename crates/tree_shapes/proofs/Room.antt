-- The bytes that a shape's tree takes.
use Rattle.tree_shapes.proofs.Shared.{◌≡◌, ℕ, ◌+◌, arith, refl, bare, size_of_payload, Tree, more, none, size, State, free_of, compound, Gives, KeepsRefusals, Stands, forest, given_told, given_free}
use Rattle.tree_shapes.proofs.Shared.{kind_of_pair, kind_of_single, Pair, Single}

-- a node's own bytes, and those of its children
pub pair_bytes : (p : Pair) (a b : Tree) → size (compound (kind_of_pair p) (more a (more b none))) ≡ size_of_payload (bare (kind_of_pair p)) + size a + size b
pair_bytes p a b = grind arith

pub single_bytes : (s : Single) (a : Tree) → size (compound (kind_of_single s) (more a none)) ≡ size_of_payload (bare (kind_of_single s)) + size a
single_bytes s a = grind arith
