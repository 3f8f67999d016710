-- Free bytes from call to call.
use Rattle.tree_handles.proofs.Shared.{◌≡◌, ℕ, ◌+◌, ◌≤◌, arith, Tree, num, size, State, free_of, plain, Gives, IsHanded, root_tree, without_root, Stands, forest, KeepsRefusals, num_least}
use Rattle.tree_handles.proofs.{Forests.{bytes_in-join}, Lasts.{last_tree}, FreeBytes.{bytes_without}, Places.{used_forest}, Plains.{size-plain}, Roots.{root_arity}}

-- a new tree takes its bytes
pub given_free : {s t : State} {i : ℕ} {Told : Tree → Type 0} → Stands s → Stands t → KeepsRefusals s t → Gives (forest s) (forest t) i Told → free_of s ≡ free_of t + size (plain (root_tree i (forest t)))
given_free h k r g = grind (arith, used_forest, bytes_in-join, size-plain, last_tree)

-- a tree that goes gives its bytes back
pub released_free : {s t : State} {i : ℕ} → Stands s → Stands t → KeepsRefusals s t → IsHanded i (forest s) → forest t ≡ without_root i (forest s) → free_of t ≡ free_of s + size (plain (root_tree i (forest s)))
released_free h k r o e = grind (arith, used_forest, bytes_without, size-plain, root_arity)

-- each tree has the bytes of its root
pub least_size : (t : Tree) → 8 ≤ size t
least_size (num q) = omega (arith, num_least q)
least_size t = omega arith
