-- The key of a tree in a pool, if it has one.
use Rattle.std.specs.{Prelude.{◌≡◌, Bool, true, false, Option, Some, MatchOption}, Ordering.{is_eq}}
use Rattle.calc_algebra.specs.TreeOrder.{tree_cmp}
use Rattle.calc_terms.specs.Trees.{Tree}
use Rattle.node_order.specs.{declared.keys.Key.{Key}, Keys.{IsKey, key_tree}}
use Rattle.tree_handles.specs.Forest.{Forest}

-- a tree has a key, and this is it
pub record IsKeyed (has_key : Tree → Bool) (key_of : Tree → Tree) (t : Tree) (f : Forest) (k : Key) : Type 0 where
  pub has : has_key t ≡ true
  pub valid : IsKey k f
  pub tree : key_tree k f ≡ key_of t

-- the key of a tree that has one, and none for another
abbrev pub IsKeyOf : (Tree → Bool) → (Tree → Tree) → Tree → Forest → Option Key → Type 0
IsKeyOf has_key key_of t f r = MatchOption r (has_key t ≡ false) (IsKeyed has_key key_of t f)

-- both are keys, of one tree
abbrev pub have_one_key : Forest → Option Key → Option Key → Bool
have_one_key f (Some a) (Some b) = is_eq (tree_cmp (key_tree a f) (key_tree b f))
have_one_key f _ _ = false
