-- Bytes at hand while the factors of a product are raised one by one.
use Rattle.power_reduce.proofs.Shared.{◌≡◌, ℕ, ◌+◌, ◌*◌, ◌<◌, ◌≤◌, ap, arith, mapped, Tree, mult, Trees, none, more, append, count, size, sizes, State, free_of, raised, bytes_in, tree_of, IsHanded}
use Rattle.power_reduce.proofs.{Shared.{tree_at, Stands, forest, KeepsRefusals, tree_of_root, size-plain, root_arity, IsPart, next_at, part_free, count_append}, Raising.{to_power}}
pub use Rattle.tree_handles.proofs.FreeBytes.{beside_bytes as handed_bytes}

-- a tree that is read
pub read_bytes : {s : State} {i j : ℕ} → Stands s → j ≡ i → IsHanded i (forest s) → bytes_in (tree_at j (forest s)) ≡ size (tree_of i s)
read_bytes h e k = grind (arith, tree_of_root, size-plain, root_arity)

-- ---- sizes

raised_least : (ts : Trees) (e : Tree) → sizes ts ≤ sizes (raised ts e)
raised_least none e = omega arith
raised_least (more t ts) e = omega (arith, raised_least ts e)

-- with one left, and with two
one_left : (first rest : Trees) (e : Tree) → 1 ≤ count rest → sizes (append (mapped (to_power e) first) rest) + 8 + size e ≤ sizes (raised (append first rest) e)
one_left none none e l = absurd (omega arith)
one_left none (more t ts) e l = omega (arith, raised_least ts e)
one_left (more u us) rest e l = omega (arith, one_left us rest e l)

two_left : (first rest : Trees) (e : Tree) → 2 ≤ count rest → sizes (append (mapped (to_power e) first) rest) + 16 + 2 * size e ≤ sizes (raised (append first rest) e)
two_left none none e l = absurd (omega arith)
two_left none (more t none) e l = absurd (omega arith)
two_left none (more t (more u ts)) e l = omega (arith, raised_least ts e)
two_left (more u us) rest e l = omega (arith, two_left us rest e l)

-- ---- the product with some factors raised

module _ {e : Tree} {i at : ℕ} {ts : Trees} {s t : State} (st : Stands s) (su : Stands t) (k : KeepsRefusals s t) (h : IsHanded i (forest s)) (w : tree_of i s ≡ mult ts) (p : IsPart mult (to_power e) i at ts (forest s) (forest t)) where
  -- a copy of the exponent, or the node over it, finds no bytes; the last node finds none
  pub next_lacks : at + 1 < count ts → free_of t < 8 + size e → free_of s + size (tree_of i s) + size e < size (mult (raised ts e))
  next_lacks l f =
      let x = next_at (to_power e) at ts (omega (arith, l)) in
      let many : 2 ≤ count (more x.t x.rest) = omega (arith, l, x.place, ap count x.split, count_append x.done (more x.t x.rest)) in
      omega (arith, f, ap size w, ap sizes x.split, part_free st su k h w p x, two_left x.done (more x.t x.rest) e many, ap (λ (us : Trees). sizes (raised us e)) x.split)

  pub last_lacks : at + 1 ≡ count ts → free_of t < 8 → free_of s + size (tree_of i s) + size e < size (mult (raised ts e))
  last_lacks l f =
      let x = next_at (to_power e) at ts (omega (arith, l)) in
      omega (arith, f, ap size w, ap sizes x.split, part_free st su k h w p x, one_left x.done (more x.t x.rest) e (omega arith), ap (λ (us : Trees). sizes (raised us e)) x.split)
