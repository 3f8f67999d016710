-- A tree in which a name is replaced is no smaller than before, and what its copies need and leave of the free bytes.
use Rattle.name_table.proofs.Shared.{◌≡◌, ℕ, zero, suc, ◌+◌, ◌-◌, ◌*◌, ◌≤◌, List, cond, leb, arith, le-leb, leb-false, leb-true, mul-le, IfOk, IfErr, bytes_eq, Tree, num, symbol, add, mult, power}
use Rattle.name_table.proofs.Shared.{root, neg, sub, div, Trees, none, more, depth, depths, nodes, nodes_of, root_size, size, bytes_of_replaced, depth_within, by_test, replaced, replaced_in}
use Rattle.name_table.proofs.Shared.{replacing}

-- ---- its nodes, and its depth

some_depth : (t : Tree) → 1 ≤ depth t
some_depth (num q) = omega arith
some_depth t = omega arith

symbol_nodes : (x y : List ℕ) (u : Tree) → 1 ≤ nodes (cond (bytes_eq y x) u (symbol y))
symbol_nodes x y u = omega (arith, some_depth (cond (bytes_eq y x) u (symbol y)), depth_within (cond (bytes_eq y x) u (symbol y)))

mutual
  pub grows : (x : List ℕ) (u t : Tree) → (nodes t ≤ nodes (replaced x u t)) × (depth t ≤ depth (replaced x u t))
  grows x u (symbol y) = (symbol_nodes x y u, some_depth (cond (bytes_eq y x) u (symbol y)))
  grows x u (add ts) = let h = all_grow x u ts in (omega (arith, h.0), omega (arith, h.1))
  grows x u (mult ts) = let h = all_grow x u ts in (omega (arith, h.0), omega (arith, h.1))
  grows x u (power b e) = let h = grows x u b in let k = grows x u e in (omega (arith, h.0, k.0), omega (arith, h.1, k.1))
  grows x u (root a) = let h = grows x u a in (omega (arith, h.0), omega (arith, h.1))
  grows x u (neg a) = let h = grows x u a in (omega (arith, h.0), omega (arith, h.1))
  grows x u (sub a b) = let h = grows x u a in let k = grows x u b in (omega (arith, h.0, k.0), omega (arith, h.1, k.1))
  grows x u (div a b) = let h = grows x u a in let k = grows x u b in (omega (arith, h.0, k.0), omega (arith, h.1, k.1))
  grows x u t = (omega arith, omega arith)

  all_grow : (x : List ℕ) (u : Tree) (ts : Trees) → (nodes_of ts ≤ nodes_of (replaced_in x u ts)) × (depths ts ≤ depths (replaced_in x u ts))
  all_grow x u none = (omega arith, omega arith)
  all_grow x u (more t ts) = let h = grows x u t in let k = all_grow x u ts in (omega (arith, h.0, k.0), omega (arith, h.1, k.1))

-- ---- its bytes

pub size_grows : (x : List ℕ) (u t : Tree) → root_size (symbol x) ≤ size u → size t ≤ size (replaced x u t)
size_grows x u t h = grind (arith, bytes_of_replaced)

-- ---- the bytes that are free

pub copies_leave : (copy leaf n free : ℕ) → IfOk (replacing free n copy leaf) (λ left. left + n * copy ≡ free + n * leaf)
copies_leave copy leaf zero free = grind arith
copies_leave copy leaf (suc n) free = grind (arith, copies_leave copy leaf n (free - copy + leaf))

first_fits : (copy leaf n free : ℕ) → leaf ≤ free → suc n * copy + leaf ≤ free + suc n * leaf → copy ≤ free
first_fits copy leaf n free h k = by_test (λ b. copy ≤ free) (leb leaf copy) (λ d. let more_there = mul-le n leaf n copy (omega arith) (leb-true leaf copy d) in omega (arith, k, more_there)) (λ d. omega (arith, h, leb-false leaf copy d))

-- where the bytes suffice before and behind all copies, each finds room
pub copies_fit : (copy leaf n free : ℕ) → leaf ≤ free → n * copy + leaf ≤ free + n * leaf → IfErr (replacing free n copy leaf) (λ full. ⊥)
copies_fit copy leaf zero free h k = tt
copies_fit copy leaf (suc n) free h k =
    let fits : copy ≤ free = first_fits copy leaf n free h k in
    rw (le-leb copy free fits) (copies_fit copy leaf n (free - copy + leaf) (omega arith) (omega (arith, k, fits)))
