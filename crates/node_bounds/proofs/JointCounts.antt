-- What counts in a product while two of its factors are joined and their joint is reduced, and how many bytes stand beside it.
use Rattle.std.proofs.Common.{◌≡◌, ℕ, zero, suc, ◌+◌, ◌*◌, ◌≤◌, ◌<◌, Bool, true, if◌then◌else◌, ap, arith}
use Rattle.node_bounds.proofs.Shared.{and_parts, is_number, base_of, counted, counted_among, counted_number, counted_other, Tree, add, power, Trees, none, more, count, set_tree, removed, exponent_of}
use Rattle.node_bounds.proofs.{Shared.{is_partner, joint, IsPairAt, joined_pair, nth, exponent_count, numbers_among, product_count, counts_one, power_counts, not-true, one_base}, Calm.{one_whole}}
use Rattle.tree_room.proofs.Counts.{no_number as numbers_other}

-- ---- among factors

pub numbers_one : (t : Tree) (ts : Trees) → is_number t ≡ true → numbers_among (more t ts) ≡ suc (numbers_among ts)
numbers_one t ts h = omega (arith, ap (λ (z : Bool). (if z then 1 else 0) + numbers_among ts) h)

-- a factor counts as its base and its exponent do
pub factor_counts : (t : Tree) → counted (base_of t) + exponent_count (exponent_of t) ≡ counted t
factor_counts (power b e) = grind (arith, power_counts, one_whole)
factor_counts t = rw one_whole (omega arith)

-- the joint of two powers of b, whose exponents are not yet added, counts what these counted
abbrev pub joint_count : Tree → ℕ
joint_count (power b (add (more e (more f none)))) = 2 * counted b + exponent_count e + exponent_count f
joint_count t = counted t

pub joint_counts : (t u : Tree) → is_partner t u ≡ true → joint_count (joint t u) ≡ counted t + counted u
joint_counts t u h = omega (arith, factor_counts t, factor_counts u, ap counted (one_base t u h))

-- ---- two neighbours joined

-- what is left of ts beside the joint at a place, and the joint, count what ts counted
pub record CountsJoined (n : ℕ) (ts us : Trees) : Type 0 where
  pub numbers : numbers_among (removed n us) ≡ numbers_among ts
  pub others : counted_among (removed n us) + joint_count (nth n us) ≡ counted_among ts

pub pair_counts : (n : ℕ) (ts : Trees) → IsPairAt n ts → CountsJoined n ts (joined_pair n (suc n) ts)
pair_counts zero (more t (more u ts)) p = grind (arith, and_parts, counted_other, not-true, numbers_other, joint_counts)
pair_counts (suc n) (more t ts) p = grind (arith, pair_counts n ts (record { within = omega arith; pair = p.pair }))
pair_counts n ts p = absurd (let w = p.within in omega arith)

pub pair_joined_count : (n : ℕ) (ts : Trees) → IsPairAt n ts → (let us = joined_pair n (suc n) ts in joint_count (nth n us) + product_count (removed n us) ≤ product_count ts)
pair_joined_count n ts p = let c = pair_counts n ts p in omega (arith, c.numbers, c.others)

-- ---- another tree in its place

pub record CountsReplaced (n : ℕ) (r : Tree) (us : Trees) : Type 0 where
  pub product : product_count (set_tree n r us) ≤ counted r + product_count (removed n us)
  pub others : counted_among (set_tree n r us) ≤ counted r + counted_among (removed n us)

replaced_counts : (n : ℕ) (r : Tree) (us : Trees) → n < count us
    → (numbers_among (set_tree n r us) + counted_among (set_tree n r us) ≤ counted r + (numbers_among (removed n us) + counted_among (removed n us)))
    × (counted_among (set_tree n r us) ≤ counted r + counted_among (removed n us))
    × (numbers_among (removed n us) ≤ numbers_among (set_tree n r us))
replaced_counts n r none l = absurd (omega arith)
replaced_counts zero r (more t ts) l = grind (arith, numbers_one, counted_number, counts_one, numbers_other, counted_other)
replaced_counts (suc n) r (more t ts) l = let (a, b, c) = replaced_counts n r ts (omega arith) in (omega (arith, a), omega (arith, b), omega (arith, c))

pub replaced_count_is : (n : ℕ) (r : Tree) (us : Trees) → n < count us → CountsReplaced n r us
replaced_count_is n r us l = let (a, b, c) = replaced_counts n r us l in record { product = omega (arith, a, b, c, counts_one r); others = b }
