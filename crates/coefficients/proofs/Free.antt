-- Free bytes while a child is taken out of a root.
use Rattle.coefficients.proofs.Shared.{◌≡◌, ℕ, ◌+◌, ◌≤◌, ◌<◌, arith, Payload, size_of_payload, factors_of, Full, replaced_free, refused_below, tree_of, IsHanded, Gives, Kind, Tree, mult, Trees}
use Rattle.coefficients.proofs.Shared.{size, sizes, IsOver, IsTaken, State, free_of, without_root, Stands, forest, KeepsRefusals, IsRefused, bytes_in-join, used_forest, size-plain, sizes-plains}
use Rattle.coefficients.proofs.Shared.{payload_most, bytes_put}

-- a child is taken out
pub taken_free : {k : Kind} {i n h : ℕ} {t : Tree} {ts others : Trees} {s u : State} → Stands s → Stands u → KeepsRefusals s u → IsOver k i ts (forest s)
    → IsTaken k i n t others (forest s) (forest u) h → sizes ts ≡ size t + sizes others → free_of u ≡ free_of s
taken_free h k r o a e = grind (arith, used_forest, bytes_in-join, size-plain, bytes_put, sizes-plains)

-- a tree is put into a product of its own, unless it is one
pub product_free : {i h : ℕ} {s u : State} {Told : Tree → Type 0} → Stands s → Stands u → KeepsRefusals s u → IsHanded i (forest s) → Gives (without_root i (forest s)) (forest u) h Told
    → size (tree_of h u) ≤ size (tree_of i s) + 8 → free_of s ≤ free_of u + 8
product_free st su r h g l = omega (arith, replaced_free st su r h g, l)

pub as_product_size : (t : Tree) → size (mult (factors_of t)) ≤ size t + 8
as_product_size t = grind arith

-- ---- refusals

pub number_refused : {s u : State} {g : Full} (x : Payload) → IsRefused (size_of_payload x) s u g → free_of s < 40
number_refused x r = omega (arith, refused_below r, payload_most x)
