-- The bits of a child are at most those of its parent.
use Rattle.reduce_walk.proofs.Shared.{◌≡◌, ◌≤◌, ap, arith, Tree, Trees, none, more, append, children_of, bits_of, most_bits, most_bits_of}

pub own_bits : (t : Tree) → bits_of t ≤ most_bits t
own_bits t = grind arith

of_children : (t : Tree) → most_bits_of (children_of t) ≤ most_bits t
of_children t = grind arith

of_child : (before : Trees) (c : Tree) (behind : Trees) → most_bits c ≤ most_bits_of (append before (more c behind))
of_child none c behind = omega arith
of_child (more t ts) c behind = omega (arith, of_child ts c behind)

pub child_bits : (t : Tree) (before : Trees) (c : Tree) (behind : Trees) → children_of t ≡ append before (more c behind) → most_bits c ≤ most_bits t
child_bits t before c behind e = omega (arith, of_child before c behind, ap most_bits_of e, of_children t)
