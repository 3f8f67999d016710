-- A tree is as deep as it has nodes at most, and each node takes eight bytes at least.
use Rattle.tree_walks.proofs.Shared.{ℕ, ◌+◌, ◌*◌, ◌≤◌, ◌≡◌, ◌++◌, true, ap, length, arith, State, Stands, forest, holds, nodes_in, tree_at, flatten, length-append, Tree, Trees, add, depth, div, more}
use Rattle.tree_walks.proofs.Shared.{mult, neg, none, power, root, sub, used, place_of, since, until, IsBoundary, until-since, length_le_used, used-append, nodes-flatten, before, depths, nodes}
use Rattle.tree_walks.proofs.Shared.{nodes_of}

mutual
  pub depth_within : (t : Tree) → depth t ≤ nodes t
  depth_within (add ts) = omega (arith, depths_within ts)
  depth_within (mult ts) = omega (arith, depths_within ts)
  depth_within (power b e) = omega (arith, depth_within b, depth_within e)
  depth_within (root a) = omega (arith, depth_within a)
  depth_within (neg a) = omega (arith, depth_within a)
  depth_within (sub a b) = omega (arith, depth_within a, depth_within b)
  depth_within (div a b) = omega (arith, depth_within a, depth_within b)
  depth_within t = omega arith

  depths_within : (ts : Trees) → depths ts ≤ nodes_of ts
  depths_within none = omega arith
  depths_within (more t ts) = omega (arith, depth_within t, depths_within ts)

pub nodes_behind : (i at end : ℕ) (s : State) → Stands s → holds i (forest s) ≡ true → at ≡ place_of i s.nodes → IsBoundary at s.nodes → end ≡ used s.nodes
    → at + 8 * nodes_in (tree_at i (forest s)) ≤ end
nodes_behind i at end s st live e b u =
    let p = before i at s st live e in
    let all = since at s.nodes in
    let behind = flatten p.below ++ p.behind in
    omega (arith, ap nodes_in p.tree-is, nodes-flatten p.below, ap length p.nodes, length-append (flatten p.below) p.behind, length_le_used all, used-append (until at s.nodes) all, ap used (until-since at s.nodes), b)
