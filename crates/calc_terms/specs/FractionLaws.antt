-- The laws of a commutative ring, and inverses, for fractions.
use Rattle.std.specs.Prelude.{ℕ, ◌≡◌, ◌<◌, ℤ, pos, negsuc, ◌*ℤ◌, neg_ℤ}
use Rattle.std.proofs.Common.{arith}
use Rattle.calc_terms.specs.Integers.{parts, diffs, eq_diff, combine}
use Rattle.calc_terms.specs.Fractions.{Fraction, lowest, plus, times, negative, zero_fraction, one_fraction, mul_pos, den_pos, same_lowest, lowest_parts, lowest_cross, plus_lowest, times_lowest}

one_pos : 0 < 1
one_pos = omega arith

negative_cross : (x : ℤ) (d : ℕ) (p : ℤ) (q : ℕ) → x *ℤ pos q ≡ p *ℤ pos d → neg_ℤ x *ℤ pos q ≡ neg_ℤ p *ℤ pos d
negative_cross x d p q e = combine _ _ (negsuc 0) _ _ (rw (parts x, parts p, parts (negsuc 0)) (simp diffs (eq_diff _ _ _ _ (omega arith)))) e

pub negative_lowest : (p : ℤ) (q : ℕ) → 0 < q → negative (lowest p q) ≡ lowest (neg_ℤ p) q
unfolding negative
negative_lowest p q h = same_lowest _ _ _ _ (den_pos (lowest p q)) h (negative_cross _ _ p q (lowest_cross p q h))

ruleset fractions = (plus_lowest, times_lowest, negative_lowest, mul_pos, one_pos)

module _ (p r t : ℤ) (q s u : ℕ) (hq : 0 < q) (hs : 0 < s) (hu : 0 < u) where
  times_comm_in : times (lowest p q) (lowest r s) ≡ times (lowest r s) (lowest p q)
  times_comm_in = simp fractions (same_lowest _ _ _ _ (mul_pos _ _ hq hs) (mul_pos _ _ hs hq) (rw (parts p, parts r) (simp diffs (eq_diff _ _ _ _ (omega arith)))))

  times_assoc_in : times (times (lowest p q) (lowest r s)) (lowest t u) ≡ times (lowest p q) (times (lowest r s) (lowest t u))
  times_assoc_in = simp fractions (same_lowest _ _ _ _ (mul_pos _ _ (mul_pos _ _ hq hs) hu) (mul_pos _ _ hq (mul_pos _ _ hs hu)) (rw (parts p, parts r, parts t) (simp diffs (eq_diff _ _ _ _ (omega arith)))))

  times_plus_in : times (lowest p q) (plus (lowest r s) (lowest t u)) ≡ plus (times (lowest p q) (lowest r s)) (times (lowest p q) (lowest t u))
  times_plus_in = simp fractions (same_lowest _ _ _ _ (mul_pos _ _ hq (mul_pos _ _ hs hu)) (mul_pos _ _ (mul_pos _ _ hq hs) (mul_pos _ _ hq hu)) (rw (parts p, parts r, parts t) (simp diffs (eq_diff _ _ _ _ (omega arith)))))

  zero_plus_in : plus (lowest (pos 0) 1) (lowest p q) ≡ lowest p q
  zero_plus_in = simp fractions (same_lowest _ _ _ _ (mul_pos _ _ one_pos hq) hq (rw (parts p) (simp diffs (eq_diff _ _ _ _ (omega arith)))))

  zero_times_in : times (lowest (pos 0) 1) (lowest p q) ≡ lowest (pos 0) 1
  zero_times_in = simp fractions (same_lowest _ _ _ _ (mul_pos _ _ one_pos hq) one_pos (rw (parts p) (simp diffs (eq_diff _ _ _ _ (omega arith)))))

  one_times_in : times (lowest (pos 1) 1) (lowest p q) ≡ lowest p q
  one_times_in = simp fractions (same_lowest _ _ _ _ (mul_pos _ _ one_pos hq) hq (rw (parts p) (simp diffs (eq_diff _ _ _ _ (omega arith)))))

  minus_in : plus (lowest p q) (negative (lowest p q)) ≡ lowest (pos 0) 1
  minus_in = simp fractions (same_lowest _ _ _ _ (mul_pos _ _ hq hq) one_pos (rw (parts p) (simp diffs (eq_diff _ _ _ _ (omega arith)))))

pub times_comm : (a b : Fraction) → times a b ≡ times b a
times_comm a b = rw (lowest_parts a, lowest_parts b) (times_comm_in _ _ (pos 0) _ _ 1 (den_pos a) (den_pos b) one_pos)

pub times_assoc : (a b c : Fraction) → times (times a b) c ≡ times a (times b c)
times_assoc a b c = rw (lowest_parts a, lowest_parts b, lowest_parts c) (times_assoc_in _ _ _ _ _ _ (den_pos a) (den_pos b) (den_pos c))

pub times_plus : (a b c : Fraction) → times a (plus b c) ≡ plus (times a b) (times a c)
times_plus a b c = rw (lowest_parts a, lowest_parts b, lowest_parts c) (times_plus_in _ _ _ _ _ _ (den_pos a) (den_pos b) (den_pos c))

pub zero_plus : (a : Fraction) → plus zero_fraction a ≡ a
unfolding zero_fraction
zero_plus a = rw (lowest_parts a) (zero_plus_in _ (pos 0) (pos 0) _ 1 1 (den_pos a) one_pos one_pos)

pub zero_times : (a : Fraction) → times zero_fraction a ≡ zero_fraction
unfolding zero_fraction
zero_times a = rw (lowest_parts a) (zero_times_in _ (pos 0) (pos 0) _ 1 1 (den_pos a) one_pos one_pos)

pub one_times : (a : Fraction) → times one_fraction a ≡ a
unfolding one_fraction
one_times a = rw (lowest_parts a) (one_times_in _ (pos 0) (pos 0) _ 1 1 (den_pos a) one_pos one_pos)

pub plus_negative : (a : Fraction) → plus a (negative a) ≡ zero_fraction
unfolding zero_fraction
plus_negative a = rw (lowest_parts a) (minus_in _ (pos 0) (pos 0) _ 1 1 (den_pos a) one_pos one_pos)
