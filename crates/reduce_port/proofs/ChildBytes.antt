-- Free bytes where a child is taken out of a root, or is replaced by its own children.
use Rattle.reduce_port.proofs.Shared.{◌≡◌, ℕ, zero, suc, ◌+◌, ◌≤◌, ◌<◌, Bool, true, false, if◌then◌else◌, ap, arith, ◌==◌, payload_least, Payload, size_of_payload, State, free_of, bytes_in-join}
use Rattle.reduce_port.proofs.Shared.{first-rest, used_forest, Forest, empty, tree, join, arity, kids, bytes_in, first_trees, rest_trees, tree_nth, without_nth, merged_nth, Ends, has_root, root_tree}
use Rattle.reduce_port.proofs.Shared.{put, Stands, forest, KeepsRefusals}
use Rattle.calc_terms.proofs.Sizes.{payload_least as node_bytes}
use Rattle.tree_handles.proofs.Filling.{bytes_put as put_bytes}

-- the first trees, the one at a place and those behind it
nth_bytes : (n : ℕ) (f : Forest) → bytes_in (first_trees n f) + bytes_in (tree_nth n f) + bytes_in (rest_trees 1 (rest_trees n f)) ≡ bytes_in f
nth_bytes n f =
    let r : Forest = rest_trees n f in
    omega (arith, ap bytes_in (first-rest n f), bytes_in-join (first_trees n f) r, ap bytes_in (first-rest 1 r), bytes_in-join (first_trees 1 r) (rest_trees 1 r))

-- a child that becomes a root
pub taken_free : {s t : State} {h : ℕ} (i n : ℕ) → Stands s → Stands t → KeepsRefusals s t → has_root i (forest s) ≡ true
    → Ends h (tree_nth n (kids (root_tree i (forest s)))) (put i (without_nth n (kids (root_tree i (forest s)))) (forest s)) (forest t) → free_of t ≡ free_of s
taken_free {s = s} {t = t} i n a b r o d =
    let k : Forest = kids (root_tree i (forest s)) in
    omega (
      arith,
      used_forest s a,
      used_forest t b,
      r.size,
      ap bytes_in d.whole,
      bytes_in-join (put i (without_nth n k) (forest s)) (tree_nth n k),
      put_bytes i (without_nth n k) (forest s) o,
      bytes_in-join (first_trees n k) (rest_trees 1 (rest_trees n k)),
      nth_bytes n k,
    )

root_bytes : (n : ℕ) (f : Forest) → n < arity f → 8 + bytes_in (kids (tree_nth n f)) ≤ bytes_in (tree_nth n f)
root_bytes n empty l = absurd (omega arith)
root_bytes zero (tree l k r) h = omega (arith, node_bytes l.payload)
root_bytes (suc n) (tree l k r) h = root_bytes n r (omega arith)

-- a child whose own children stand in its place gives back the bytes of one node
pub merged_free : {s t : State} (i n : ℕ) → Stands s → Stands t → KeepsRefusals s t → has_root i (forest s) ≡ true → n < arity (kids (root_tree i (forest s)))
    → forest t ≡ put i (merged_nth n (kids (root_tree i (forest s)))) (forest s) → free_of s + 8 ≤ free_of t
merged_free {s = s} {t = t} i n a b r o l e =
    let k : Forest = kids (root_tree i (forest s)) in
    omega (
      arith,
      used_forest s a,
      used_forest t b,
      r.size,
      a.pool.fits,
      b.pool.fits,
      ap bytes_in e,
      put_bytes i (merged_nth n k) (forest s) o,
      bytes_in-join (first_trees n k) (join (kids (tree_nth n k)) (rest_trees 1 (rest_trees n k))),
      bytes_in-join (kids (tree_nth n k)) (rest_trees 1 (rest_trees n k)),
      nth_bytes n k,
      root_bytes n k l,
    )
