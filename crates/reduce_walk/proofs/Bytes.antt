-- The free bytes while a child is walked.
use Rattle.reduce_walk.proofs.Shared.{◌≡◌, ℕ, suc, ◌+◌, ◌≤◌, List, true, refl, sym, ap, ◌∙◌, arith, Payload, size_of_payload, Tree, num, Trees, more, append, count, root_size, size, sizes, State}
use Rattle.reduce_walk.proofs.Shared.{free_of, bytes_in-join, gives, gives_as, represents_handed, last_tree, size-plain, sizes-plains, root_arity, children_of, plain, takes, Forest, bytes_in, join}
use Rattle.reduce_walk.proofs.Shared.{tree, Ends, Gives, IsHanded, tree_of, root_tree, without_root, KeepsRefusals, Stands, forest, count_append, replaced_free, bytes_without, used_forest}
use Rattle.reduce_walk.proofs.{Parents.{handed_node, held_at}, Walks.{IsNextChild, IsWalked}}
use Rattle.breakers.specs.State.{State as BreakerState}

-- a node with children
parent_bytes : (x : Payload) (n : ℕ) → takes x (suc n) ≡ true → size_of_payload x ≡ 8
parent_bytes x n e = grind arith

-- the root of a tree that has a child
pub root_over : (t : Tree) (before : Trees) (c : Tree) (behind : Trees) → children_of t ≡ append before (more c behind) → root_size t ≡ 8
root_over t before c behind e = by t (omega (arith, ap count e, count_append before (more c behind)))
  where
    by : (u : Tree) → 1 ≤ count (children_of u) → root_size u ≡ 8
    by (num q) h = absurd (omega (arith, h))
    by u h = omega (arith, h)

-- the child that is taken, its parent's root, the answers before it and the trees behind it are the parent's bytes
pub child_free : {A : Tree → Tree → Type 0} {i leaves at h : ℕ} {s g : State} {now : Forest} {before after : List BreakerState} {w : IsWalked A i leaves at (forest s) now before after} (n : IsNextChild w) → Stands s → Stands g → KeepsRefusals s g → IsHanded i (forest s)
    → Gives (join (without_root i (forest s)) (tree w.label (join w.front n.others) w.behind)) (forest g) h (λ x. x ≡ n.child)
    → free_of g + size (tree_of h g) + (root_size (plain (root_tree i (forest s))) + sizes w.answers + sizes n.rest) ≡ free_of s + size (tree_of i s)
child_free {i = i} {h = h} {s = s} {g = g} {w = w} n st su k o a =
    let f : Forest = forest s in
    let node = handed_node o in
    let many : count (children_of (plain (root_tree i f))) ≡ suc (count w.done + count n.rest) = omega (arith, ap count n.split, count_append w.done (more n.child n.rest)) in
    let root = parent_bytes (held_at i f) (count w.done + count n.rest) (sym (ap (takes (held_at i f)) many) ∙ node.takes) in
    omega (
      arith,
      root,
      root_over (plain (root_tree i f)) w.done n.child n.rest n.split,
      ap size_of_payload w.payload,
      used_forest s st,
      used_forest g su,
      k.size,
      st.pool.fits,
      su.pool.fits,
      bytes_without i f o.root,
      size-plain (root_tree i f) (root_arity i f o.root) o.whole,
      ap bytes_in a.ends.whole,
      bytes_in-join (join (without_root i f) (tree w.label (join w.front n.others) w.behind)) a.tree,
      size-plain a.tree a.ends.alone a.whole,
      ap (λ (x : Forest). size (plain x)) (last_tree a.ends),
      bytes_in-join (without_root i f) (tree w.label (join w.front n.others) w.behind),
      bytes_in-join w.front n.others,
      bytes_in-join w.front w.behind,
      sizes-plains (join w.front w.behind) w.answered.whole,
      ap sizes w.answered.plain_trees,
      sizes-plains n.others n.left.whole,
      ap sizes n.left.plain_trees,
    )

-- a tree that stands last, in the place of another one
pub last_free : {i : ℕ} {s t : State} → Stands s → Stands t → KeepsRefusals s t → IsHanded i (forest s) → IsHanded i (forest t) → Ends i (root_tree i (forest t)) (without_root i (forest t)) (forest t) → without_root i (forest t) ≡ without_root i (forest s)
    → free_of t + size (tree_of i t) ≡ free_of s + size (tree_of i s)
last_free {i = i} {s = s} {t = t} st su k o p e r =
    let g : Gives (without_root i (forest t)) (forest t) i (λ u. u ≡ tree_of i t) = gives e (represents_handed p) refl in
    replaced_free st su k o (gives_as g r (λ u x. x))
