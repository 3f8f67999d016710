-- The bits of the parts of a tree, and highs of at least 1.
use Rattle.tree_bits.proofs.Shared.{◌≡◌, ℕ, ◌≤◌, ℤ, Bool, true, if◌then◌else◌, arith, Option, whole_literal, half_literal, or_literal, HighLow, power_bounds, bounds, high, bits, most_bits}
use Rattle.tree_bits.proofs.Shared.{most_bits_of, all_simple, Tree, num, symbol, undef, add, mult, power, root, neg, sub, div, Trees, none, more, AllParts, AllPartsOf, IsComplete, IsWithinBits}
use Rattle.tree_bits.proofs.Shared.{bits_limit}

-- ---- highs of at least 1

power_positive : (n : Option ℤ) (b : HighLow) → 1 ≤ b.high → 1 ≤ (power_bounds n b).high
power_positive n b h = grind arith

mutual
  pub high_positive : (t : Tree) → IsComplete t → 1 ≤ high t
  high_positive (num q) c = omega arith
  high_positive (symbol x) c = omega arith
  high_positive undef c = omega arith
  high_positive (add none) c = elim c.1 [ ]
  high_positive (add (more t ts)) c = let a : 1 ≤ high t = high_positive t (c.0).0 in omega arith
  high_positive (mult none) c = elim c.1 [ ]
  high_positive (mult (more t ts)) c = let a : 1 ≤ high t = high_positive t (c.0).0 in omega arith
  high_positive (power b e) c = power_positive (or_literal (whole_literal e) (half_literal e)) (bounds b) (high_positive b c.0)
  high_positive (root a) c = high_positive a c
  high_positive (neg a) c = high_positive a c
  high_positive (sub a b) c = omega arith
  high_positive (div a b) c = let a : 1 ≤ high a = high_positive a c.0 in omega arith

-- ---- few bits

mutual
  parts_within : (t : Tree) → most_bits t ≤ bits_limit → AllParts IsWithinBits t
  parts_within (num q) h = h
  parts_within (symbol x) h = h
  parts_within undef h = h
  parts_within (add ts) h = (omega arith, all_parts_within ts (omega arith))
  parts_within (mult ts) h = (omega arith, all_parts_within ts (omega arith))
  parts_within (power b e) h = (omega arith, parts_within b (omega arith), parts_within e (omega arith))
  parts_within (root a) h = (omega arith, parts_within a (omega arith))
  parts_within (neg a) h = (omega arith, parts_within a (omega arith))
  parts_within (sub a b) h = (omega arith, parts_within a (omega arith), parts_within b (omega arith))
  parts_within (div a b) h = (omega arith, parts_within a (omega arith), parts_within b (omega arith))

  all_parts_within : (ts : Trees) → most_bits_of ts ≤ bits_limit → AllPartsOf IsWithinBits ts
  all_parts_within none h = tt
  all_parts_within (more t ts) h = (parts_within t (omega arith), all_parts_within ts (omega arith))

few : (b : Bool) (n : ℕ) → (if b then n else 125) ≤ bits_limit → (b ≡ true) × (n ≤ bits_limit)
few b n h = grind arith

pub few_simple : (t : Tree) → bits t ≤ bits_limit → all_simple t ≡ true
few_simple t h = (few (all_simple t) (most_bits t) h).0

pub few_parts : (t : Tree) → bits t ≤ bits_limit → AllParts IsWithinBits t
few_parts t h = parts_within t (few (all_simple t) (most_bits t) h).1
