-- How many bytes suffice for the node of a tree over reduced children.
use Rattle.node_bounds.proofs.Shared.{◌≡◌, ◌||◌, ℕ, negsuc, ◌+◌, ◌*◌, ◌^◌, ◌≤◌, ◌<◌, List, length, true, Result, arith, IfErr, pow_pos, IsAssignment, is_reduced, is_half_num, reduced_words, counted}
use Rattle.node_bounds.proofs.Shared.{SpansTree, num_bytes, tree_bytes, minus_one_fraction, Tree, num, mult, power, neg, Trees, none, more, count, is_add, is_mult, is_root, is_num, is_sub, is_div}
use Rattle.node_bounds.proofs.Shared.{root_kind, size, Kind, HasNodesFor, SpansNode, factors_room, IsCalmAtZero, whole_power_room, base_in, exponent_in, whole_is, IsFull, argument_of, LacksBelow, nth}
use Rattle.node_bounds.proofs.Shared.{children_of, NumberFault, IsCalm, zeros, product_count, sum_count, sum_room, product_room, power_room, product_power_room, simple_room, whole_number, counts_one}
use Rattle.node_bounds.proofs.{Shared.{product_at_most, scaled, numbers_and_others}, Clashes.{rational_number}, Calm.{calm_power}, JointCounts.{numbers_one}, PowerBytes.{needs_most}}
use Rattle.calc_terms.specs.declared.kind.Kind.TheVariants as kind

-- ---- sums and products

pub sum_fits : (t : Tree) (n m : ℕ) → is_add t ≡ true → HasNodesFor n t → sum_room (sum_count (children_of t)) m ≤ simple_room n m
sum_fits t n m h k = grind (arith, scaled)

product_fits : (ts : Trees) (n m : ℕ) → 1 ≤ m → (product_count ts ≤ n + 1) × (1 ≤ n) × (1 ≤ count ts → 2 ≤ n) → factors_room ts m ≤ simple_room n m
product_fits none n m hm (h, k, l) = omega (arith, hm, scaled 1 n m k)
product_fits (more t ts) n m hm (h, k, l) = omega (arith, scaled (product_count (more t ts)) (n + 1) m h, scaled 2 n m (l (omega arith)))

pub factors_fit : (t : Tree) (n m : ℕ) → 1 ≤ m → is_mult t ≡ true → HasNodesFor n t → factors_room (children_of t) m ≤ simple_room n m
factors_fit t n m h k a = grind (arith, product_fits)

pub some_factors : (ts : Trees) (m : ℕ) → 1 ≤ count ts → factors_room ts m ≡ product_room (product_count ts) m
some_factors ts m h = grind arith

pub no_factors : (ts : Trees) (m : ℕ) → count ts ≡ 0 → factors_room ts m ≡ 40
no_factors ts m h = grind arith

-- ---- powers and roots

pub power_fits : (t : Tree) (n m : ℕ) → t ≡ power (base_in t) (exponent_in t) → HasNodesFor n t → whole_power_room (base_in t) m ≤ simple_room n m
power_fits t n m h k = grind (arith, needs_most, scaled, counts_one)

pub half_fits : (t : Tree) (n m : ℕ) → t ≡ power (base_in t) (exponent_in t) → HasNodesFor n t → power_room (1 + counted (base_in t)) m ≤ simple_room n m
half_fits t n m h k = grind (arith, scaled, counts_one)

pub root_result : (gs : List ℕ) (t : Tree) (free n : ℕ) (r : Result ℕ NumberFault) → is_root t ≡ true → HasNodesFor n t → (IsFull r → is_num (argument_of t) ≡ true) → (IsFull r → free < 96)
    → IfErr r (LacksBelow (simple_room n (2 ^ length gs)) (free + size t))
root_result gs t free n r h k a b = grind (arith, num_bytes, scaled, pow_pos)

-- only a power has half of an odd number as its exponent
pub no_half_power : {A : Type 0} {k : Kind} (t : Tree) → k ≡ root_kind t → (kind.Pow ≡ k → ⊥) → is_half_num (exponent_in t) ≡ true → A
no_half_power t k n h = grind arith

-- what spans a node that is no root
pub node_spans : {k : Kind} (gs : List ℕ) (t : Tree) → k ≡ root_kind t → (kind.Root ≡ k → ⊥) → SpansNode gs t → SpansTree gs t
node_spans gs t h k a = grind arith

-- ---- opposites

opposite_count : (a : Tree) → product_count (more (num minus_one_fraction) (more a none)) ≤ 2 + counted a
opposite_count a = omega (arith, numbers_and_others (more (num minus_one_fraction) (more a none)), numbers_one (num minus_one_fraction) (more a none) (rational_number minus_one_fraction))

pub opposite_fits : (a : Tree) (m : ℕ) → product_room (product_count (more (num minus_one_fraction) (more a none))) m ≤ product_room (2 + counted a) m
opposite_fits a m = omega (arith, scaled (product_count (more (num minus_one_fraction) (more a none))) (2 + counted a) m (opposite_count a))

pub opposite_calm : {ns : List (List ℕ)} (a : Tree) → IsCalmAtZero ns a → IsCalmAtZero ns (mult (more (num minus_one_fraction) (more a none)))
opposite_calm a c = record { once = c.once; calm = (tt, (tt, (c.calm, tt))) }

pub opposite_spans : (gs : List ℕ) (a : Tree) → SpansTree gs a → SpansTree gs (mult (more (num minus_one_fraction) (more a none)))
opposite_spans gs a s = (tt, (tt, (s, tt)))

pub negated_calm : {ns : List (List ℕ)} (t : Tree) → t ≡ neg (nth 0 (children_of t)) → IsCalmAtZero ns t → IsCalmAtZero ns (nth 0 (children_of t))
negated_calm t h k = grind arith

pub negated_spans : (gs : List ℕ) (t : Tree) → t ≡ neg (nth 0 (children_of t)) → SpansTree gs t → SpansTree gs (nth 0 (children_of t))
negated_spans gs t h k = grind arith

-- the node of the opposite
pub negated_fits : (t : Tree) (n m : ℕ) → t ≡ neg (nth 0 (children_of t)) → HasNodesFor n t → product_room (2 + counted (nth 0 (children_of t))) m ≤ simple_room n m
negated_fits t n m h k = grind (arith, scaled, counts_one)

-- ---- inverses

pub inverse_calm : {ns : List (List ℕ)} (b : Tree) → IsCalmAtZero ns b → IsCalmAtZero ns (power b (num minus_one_fraction))
inverse_calm {ns} b c = calm_power c (record { once = c.once; calm = tt }) (whole_number (zeros ns) (num minus_one_fraction) (whole_is (negsuc 0)))

pub inverse_spans : (gs : List ℕ) (b : Tree) → SpansTree gs b → SpansTree gs (power b (num minus_one_fraction))
inverse_spans gs b s = (tt, s, tt)

-- ---- two sides

-- both are calm and spanned where their node is, and there are nodes for both
pub record AreSides (gs : List ℕ) (ns : List (List ℕ)) (n : ℕ) (a b : Tree) : Type 0 where
  pub once : IsAssignment (zeros ns)
  pub left_calm : IsCalm (zeros ns) a
  pub right_calm : IsCalm (zeros ns) b
  pub left_spanned : SpansTree gs a
  pub right_spanned : SpansTree gs b
  pub nodes : 1 + counted a + counted b ≤ n

pub node_sides : (gs : List ℕ) (ns : List (List ℕ)) (n : ℕ) (t : Tree) → (is_sub t || is_div t) ≡ true → HasNodesFor n t → IsCalmAtZero ns t → SpansTree gs t
    → AreSides gs ns n (nth 0 (children_of t)) (nth 1 (children_of t))
node_sides gs ns n t h k a b = grind arith

module _ (gs : List ℕ) (a b : Tree) (n : ℕ) (l : 1 + counted a + counted b ≤ n) where
  left_bytes : is_reduced a ≡ true → SpansTree gs a → size a ≤ 204 * counted a * 2 ^ length gs
  left_bytes r s = tree_bytes gs a (reduced_words a r) s

  all_nodes : (1 + counted a + counted b) * 2 ^ length gs ≤ n * 2 ^ length gs
  all_nodes = scaled (1 + counted a + counted b) n (2 ^ length gs) l

  some : (t : Tree) → 1 * 2 ^ length gs ≤ counted t * 2 ^ length gs
  some t = scaled 1 (counted t) (2 ^ length gs) (counts_one t)

  -- beside the left side, the opposite of the right or its inverse
  pub right_opposite_lacks : (bytes : ℕ) → is_reduced a ≡ true → SpansTree gs a → bytes < product_room (2 + counted b) (2 ^ length gs) → bytes + size a < simple_room n (2 ^ length gs)
  right_opposite_lacks bytes r s k = omega (arith, k, left_bytes r s, all_nodes, some a, some b)

  pub right_inverse_lacks : (bytes : ℕ) → is_reduced a ≡ true → SpansTree gs a → bytes < product_power_room (counted b) (2 ^ length gs) → bytes + size a < simple_room n (2 ^ length gs)
  right_inverse_lacks bytes r s k = omega (arith, k, left_bytes r s, all_nodes, some a, some b)

  -- then both sides, the right of which counts no more, or 1 more
  pub difference_fits : (c : Tree) → counted c ≤ counted b → sum_room (sum_count (more a (more c none))) (2 ^ length gs) ≤ simple_room n (2 ^ length gs)
  difference_fits c h = grind (arith, scaled)

  pub quotient_fits : (c : Tree) → counted c ≤ 1 + counted b → product_room (product_count (more a (more c none))) (2 ^ length gs) ≤ simple_room n (2 ^ length gs)
  quotient_fits c h =
      let few : product_count (more a (more c none)) ≤ 3 + counted a + counted b = omega (arith, product_at_most (more a (more c none)), h) in
      omega (arith, scaled (product_count (more a (more c none))) (3 + counted a + counted b) (2 ^ length gs) few, all_nodes, some a, some b)
