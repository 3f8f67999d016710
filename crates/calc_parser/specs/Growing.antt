-- What one node in postfix order makes of the last trees.
use Rattle.std.specs.Prelude.{ℕ, ◌≡◌, Bool, true}
use Rattle.calc_terms.specs.{Payload.{Payload, size_of_payload}, Trees.{Tree, Trees, num, symbol, undef}}
use Rattle.calc_language.specs.Tokens.{literal, name}
use Rattle.tree_handles.specs.{Expressions.{compound, grown, takes, takes_kind}, Forest.{Forest, one_tree, before_last, last_trees}, Handed.{Ends}}
use Rattle.calc_parser.specs.{Postfix.{Node, leaf, parent}, Building.{bytes_of_node}}

-- how many of the last trees become its children
abbrev pub children_in : Node → ℕ
children_in (leaf t) = 0
children_in (parent k n) = n

-- its tree over these
abbrev pub tree_over : Node → Trees → Tree
tree_over (leaf (literal q)) ts = num q
tree_over (leaf (name x)) ts = symbol x
tree_over (leaf t) ts = undef
tree_over (parent k n) ts = compound k ts

-- it may have so many
abbrev pub takes_children : Node → Bool
takes_children (leaf t) = true
takes_children (parent k n) = takes_kind k n

-- the node was placed over the last trees
pub record Grows (n : Node) (old new : Forest) (id : ℕ) : Type 0 where
  pub payload : Payload
  pub ends : Ends id (one_tree id payload (last_trees (children_in n) old)) (before_last (children_in n) old) new
  pub tree_is : (ts : Trees) → grown payload ts ≡ tree_over n ts
  pub takes_them : takes_children n ≡ true → takes payload (children_in n) ≡ true
  pub bytes_are : size_of_payload payload ≡ bytes_of_node n
