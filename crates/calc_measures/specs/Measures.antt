-- Bounds on the bytes and on the bits that the reduction of a tree takes.
use Rattle.std.specs.Prelude.{ℕ, zero, suc, ◌+◌, ◌*◌, ◌^◌, max, ℤ, pos, negsuc, nat_abs, Bool, true, false, ◌&&◌, ◌||◌, nat_le, if◌then◌else◌, Option, Some, None}
use Rattle.calc_terms.specs.Trees.{Tree, num, symbol, undef, add, mult, power, root, neg, sub, div, Trees, none, more, count, nodes, is_num, is_symbol}
use Rattle.calc_measures.specs.Literals.{whole_literal, half_literal, or_literal, is_whole_literal, is_half_literal}

-- ---- Room

-- how many of its nodes are roots, or powers with a half literal exponent
abbrev mutual
  pub roots : Tree → ℕ
  roots (add ts) = roots_of ts
  roots (mult ts) = roots_of ts
  roots (power b e) = (if is_half_literal e then 1 else 0) + roots b + roots e
  roots (root a) = suc (roots a)
  roots (neg a) = roots a
  roots (sub a b) = roots a + roots b
  roots (div a b) = roots a + roots b
  roots _ = 0

  pub roots_of : Trees → ℕ
  roots_of none = 0
  roots_of (more t ts) = roots t + roots_of ts

-- a whole or a half literal exponent, or a rational or symbol with a symbol as its exponent
abbrev pub is_simple_power : Tree → Tree → Bool
is_simple_power b e = is_whole_literal e || is_half_literal e || (is_num b || is_symbol b) && is_symbol e

-- every power in it is simple
abbrev mutual
  pub all_simple : Tree → Bool
  all_simple (add ts) = are_all_simple ts
  all_simple (mult ts) = are_all_simple ts
  all_simple (power b e) = is_simple_power b e && all_simple b && all_simple e
  all_simple (root a) = all_simple a
  all_simple (neg a) = all_simple a
  all_simple (sub a b) = all_simple a && all_simple b
  all_simple (div a b) = all_simple a && all_simple b
  all_simple _ = true

  pub are_all_simple : Trees → Bool
  are_all_simple none = true
  are_all_simple (more t ts) = all_simple t && are_all_simple ts

-- more bytes than any pool has
abbrev pub unbounded_room : ℕ
unbounded_room = 4294967295

-- the bytes within which the tree is reduced
abbrev pub room : Tree → ℕ
room t = if all_simple t then 1024 * nodes t * 2 ^ roots t else unbounded_room

-- ---- High and Low

-- k or the next number with n at most 2 to its power, within as many steps
abbrev pub least_exponent : ℕ → ℕ → ℕ → ℕ
least_exponent zero k n = k
least_exponent (suc steps) k n = elim (nat_le n (2 ^ k)) [ true ↦ k | false ↦ least_exponent steps (suc k) n ]

-- the least k with n at most 2 ^ k
abbrev pub ceil_log2 : ℕ → ℕ
ceil_log2 n = least_exponent n 0 n

-- bounds on the bits of numerators and of denominators
pub record HighLow : Type 0 where
  pub high : ℕ
  pub low : ℕ

abbrev pub div_bounds : HighLow → HighLow → HighLow
div_bounds a b = record { high = a.high + b.high + 2 * b.low; low = a.low + 2 * b.high + 2 * b.low }

-- by the exponent n, or n/2 of a half literal, and those of the base for any other
abbrev pub power_bounds : Option ℤ → HighLow → HighLow
power_bounds (Some (pos n)) b = record { high = max 1 n * b.high; low = max 1 n * b.low }
power_bounds (Some (negsuc n)) b = record { high = suc n * (b.high + 2 * b.low); low = suc n * (2 * b.high + 2 * b.low) }
power_bounds None b = b

abbrev mutual
  pub bounds : Tree → HighLow
  bounds (num q) = record { high = max 1 (ceil_log2 (nat_abs q.num)); low = ceil_log2 q.den }
  bounds (symbol x) = record { high = 1; low = 0 }
  bounds undef = record { high = 1; low = 0 }
  bounds (add ts) = let b = bounds_of_terms ts in record { high = b.high + ceil_log2 (count ts); low = b.low }
  bounds (mult ts) = bounds_of_factors ts
  bounds (power b e) = power_bounds (or_literal (whole_literal e) (half_literal e)) (bounds b)
  bounds (root a) = bounds a
  bounds (neg a) = bounds a
  bounds (sub a b) = let x = bounds a in let y = bounds b in record { high = max x.high y.high + 1; low = x.low + y.low }
  bounds (div a b) = div_bounds (bounds a) (bounds b)

  -- the largest and the sum
  pub bounds_of_terms : Trees → HighLow
  bounds_of_terms none = record { high = 0; low = 0 }
  bounds_of_terms (more t ts) = let x = bounds t in let y = bounds_of_terms ts in record { high = max x.high y.high; low = x.low + y.low }

  -- the sums
  pub bounds_of_factors : Trees → HighLow
  bounds_of_factors none = record { high = 0; low = 0 }
  bounds_of_factors (more t ts) = let x = bounds t in let y = bounds_of_factors ts in record { high = x.high + y.high; low = x.low + y.low }

abbrev pub high : Tree → ℕ
high t = (bounds t).high

abbrev pub low : Tree → ℕ
low t = (bounds t).low

-- ---- Bits

abbrev pub bits_of : Tree → ℕ
bits_of t = 2 * high t + 4 * low t

-- the largest of the tree and its parts
abbrev mutual
  pub most_bits : Tree → ℕ
  most_bits (add ts) = max (bits_of (add ts)) (most_bits_of ts)
  most_bits (mult ts) = max (bits_of (mult ts)) (most_bits_of ts)
  most_bits (power b e) = max (bits_of (power b e)) (max (most_bits b) (most_bits e))
  most_bits (root a) = max (bits_of (root a)) (most_bits a)
  most_bits (neg a) = max (bits_of (neg a)) (most_bits a)
  most_bits (sub a b) = max (bits_of (sub a b)) (max (most_bits a) (most_bits b))
  most_bits (div a b) = max (bits_of (div a b)) (max (most_bits a) (most_bits b))
  most_bits t = bits_of t

  pub most_bits_of : Trees → ℕ
  most_bits_of none = 0
  most_bits_of (more t ts) = max (most_bits t) (most_bits_of ts)

-- more bits than those within which nothing overflows
abbrev pub unbounded_bits : ℕ
unbounded_bits = 125

-- with at most 124, no number on the way overflows
abbrev pub bits : Tree → ℕ
bits t = if all_simple t then most_bits t else unbounded_bits
