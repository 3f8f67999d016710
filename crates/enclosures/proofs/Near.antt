-- Totals that leave a value open, and those that tell a sign.
use Rattle.std.proofs.Common.{◌≡◌, ℕ, ◌+◌, ◌*◌, ◌<◌, ◌≤◌, ℤ, pos, ◌+ℤ◌, ◌-ℤ◌, ◌*ℤ◌, ◌≤ℤ◌, neg_ℤ, arith, subst, List, ◌⊎◌, inl, inr}
use Rattle.std.proofs.{lemmas.Int.{ints}, Math.Nat.{le_of_mul-le-mul_right}}
use Rattle.calc_terms.specs.Fractions.{Fraction, zero_fraction, lowest, plus, quotient}
use Rattle.calc_algebra.specs.Surds.{Term}
use Rattle.enclosures.specs.{Order.{AtMost}, Enclosures.{Bounds, lower, upper}, Rounding.{Covers, IsAt, IsClose, IsNear, IsNegative, IsPositive, IsRounded, doubt, middle}}
use Rattle.enclosures.proofs.{OrderLaws.{IsDifference, own, lowest_at_most, plus_at_most, at_most_trans, order_of, below_by}, Meeting.{sums_meet}, Rounding.{sum_low, less, more, opposite}}

-- ---- what is left open

module _ (v : List Term) (bs : List Bounds) (total : ℤ) (slack unit : ℕ) (hu : 0 < unit) (c : Covers v bs total slack unit) (d : AtMost (quotient (2 * slack) unit) (doubt v)) where
  -- the upper end is the lower end and twice the slack
  ends : AtMost (lowest (total +ℤ pos slack) unit) (plus (lowest (total -ℤ pos slack) unit) (quotient (2 * slack) unit))
  ends = sum_low (total -ℤ pos slack) (pos (2 * slack)) (total +ℤ pos slack) unit hu (omega (arith, ints))

  pub near : (x : Fraction) → AtMost (lowest (total -ℤ pos slack) unit) x → AtMost x (lowest (total +ℤ pos slack) unit) → IsNear v x
  near x low high = record {
    from_below = λ cs k. at_most_trans _ _ _ (sums_meet v cs bs k c.enclosed) (at_most_trans _ _ _ c.from_above (at_most_trans _ _ _ ends (plus_at_most _ _ _ _ low d)));
    from_above = λ cs k. at_most_trans _ _ _ high (at_most_trans _ _ _ ends (plus_at_most _ _ _ _ (at_most_trans _ _ _ c.from_below (sums_meet v bs cs c.enclosed k)) d));
  }

twice_above : (n : ℕ) → IsDifference (pos 2 *ℤ pos n +ℤ pos 1) (2 * n + 1) 0
twice_above n = record { parts_are = omega (arith, ints) }

twice_below : (n : ℕ) → IsDifference (pos 2 *ℤ neg_ℤ (pos (n + 1)) +ℤ pos 1) 0 (2 * n + 1)
twice_below n = record { parts_are = omega (arith, ints) }

pub close_above : (v : List Term) (bs : List Bounds) (total slack unit scale n : ℕ) → 0 < unit → 0 < scale → Covers v bs (pos total) slack unit → AtMost (quotient (2 * slack) unit) (doubt v)
    → 2 * total * scale ≤ (2 * n + 1) * unit + 2 * slack * scale → (2 * n + 1) * unit ≤ 2 * total * scale + 2 * slack * scale → IsClose v scale
close_above v bs total slack unit scale n hu hs c d low high = record {
  lower_decimal = pos n;
  near_middle = near v bs (pos total) slack unit hu c d (middle (pos n) scale)
      (lowest_at_most _ _ total (0 + slack) (2 * n + 1) 0 _ _ (less (pos total) total 0 slack (own (pos total))) (twice_above n) hu (omega (arith, hs)) (omega (arith, low)))
      (lowest_at_most _ _ (2 * n + 1) 0 (total + slack) 0 _ _ (twice_above n) (more (pos total) total 0 slack (own (pos total))) (omega (arith, hs)) hu (omega (arith, high)));
}

pub close_below : (v : List Term) (bs : List Bounds) (total slack unit scale n : ℕ) → 0 < unit → 0 < scale → Covers v bs (neg_ℤ (pos total)) slack unit → AtMost (quotient (2 * slack) unit) (doubt v)
    → 2 * total * scale ≤ (2 * n + 1) * unit + 2 * slack * scale → (2 * n + 1) * unit ≤ 2 * total * scale + 2 * slack * scale → IsClose v scale
close_below v bs total slack unit scale n hu hs c d low high = record {
  lower_decimal = neg_ℤ (pos (n + 1));
  near_middle = near v bs (neg_ℤ (pos total)) slack unit hu c d (middle (neg_ℤ (pos (n + 1))) scale)
      (lowest_at_most _ _ 0 (total + slack) 0 (2 * n + 1) _ _ (less _ 0 total slack (opposite total)) (twice_below n) hu (omega (arith, hs)) (omega (arith, high)))
      (lowest_at_most _ _ 0 (2 * n + 1) (0 + slack) total _ _ (twice_below n) (more _ 0 total slack (opposite total)) (omega (arith, hs)) hu (omega (arith, low)));
}

-- ---- signs

apart_low : (a b slack : ℕ) → IsDifference (pos a -ℤ pos b -ℤ pos slack) a (b + slack)
apart_low a b slack = record { parts_are = omega (arith, ints) }

apart_high : (a b slack : ℕ) → IsDifference (pos a -ℤ pos b +ℤ pos slack) (a + slack) b
apart_high a b slack = record { parts_are = omega (arith, ints) }

module _ (v : List Term) (bs : List Bounds) (a b slack unit : ℕ) (hu : 0 < unit) (c : Covers v bs (pos a -ℤ pos b) slack unit) where
  pub tells_positive : b + slack < a → IsPositive v
  unfolding zero_fraction
  tells_positive h = record {
    bounds = bs;
    enclosed = c.enclosed;
    above_zero = below_by zero_fraction (lower v bs) (λ k. let o = order_of (pos a -ℤ pos b -ℤ pos slack) (pos 0) unit 1 hu (omega arith) (at_most_trans _ _ _ c.from_below k) in omega (arith, o, (apart_low a b slack).parts_are, h));
  }

  pub tells_negative : a + slack < b → IsNegative v
  unfolding zero_fraction
  tells_negative h = record {
    bounds = bs;
    enclosed = c.enclosed;
    below_zero = below_by (upper v bs) zero_fraction (λ k. let o = order_of (pos 0) (pos a -ℤ pos b +ℤ pos slack) 1 unit (omega arith) hu (at_most_trans _ _ _ k c.from_above) in omega (arith, o, (apart_high a b slack).parts_are, h));
  }

  pub near_zero : AtMost (quotient (2 * slack) unit) (doubt v) → a ≤ b + slack → b ≤ a + slack → IsNear v zero_fraction
  unfolding zero_fraction
  near_zero d h k = near v bs (pos a -ℤ pos b) slack unit hu c d (lowest (pos 0) 1)
      (lowest_at_most _ _ a (b + slack) 0 0 unit 1 (apart_low a b slack) (own (pos 0)) hu (omega arith) (omega (arith, h)))
      (lowest_at_most _ _ 0 0 (a + slack) b 1 unit (own (pos 0)) (apart_high a b slack) (omega arith) hu (omega (arith, k)))

-- ---- one decimal

int_near : (m n : ℤ) → n ≤ℤ (m +ℤ pos 1) → m ≤ℤ (n +ℤ pos 1) → (m ≡ n) ⊎ (n ≡ m +ℤ pos 1) ⊎ (m ≡ n +ℤ pos 1)
int_near m n h k = grind (arith, ints)

scaled_order : (a1 a2 b1 b2 s : ℕ) → 0 < s → a1 * s + b2 * s ≤ b1 * s + a2 * s → a1 + b2 ≤ b1 + a2
scaled_order a1 a2 b1 b2 s hs h = let k : (a1 + b2) * s ≤ (b1 + a2) * s = omega (arith, h) in le_of_mul-le-mul_right k hs

module _ (v : List Term) (scale : ℕ) (hs : 0 < scale) where
  at_most_next : (m n : ℤ) → IsRounded v scale m → IsRounded v scale n → n ≤ℤ (m +ℤ pos 1)
  at_most_next m n h k =
      let o = order_of (pos 2 *ℤ n -ℤ pos 1) (pos 2 *ℤ m +ℤ pos 1) (2 * scale) (2 * scale) (omega (arith, hs)) (omega (arith, hs)) (at_most_trans _ _ _ k.from_below (at_most_trans _ _ _ (sums_meet v k.bounds h.bounds k.enclosed h.enclosed) h.from_above)) in
      let l = scaled_order _ _ _ _ (2 * scale) (omega (arith, hs)) o in
      omega (arith, ints, l)

  middle_at : (m n : ℤ) → IsRounded v scale m → IsRounded v scale n → n ≡ m +ℤ pos 1 → IsAt v (middle m scale)
  middle_at m n h k e =
      let same : pos 2 *ℤ n -ℤ pos 1 ≡ pos 2 *ℤ m +ℤ pos 1 = omega (arith, ints, e) in
      record {
        below = k.bounds;
        enclosed_below = k.enclosed;
        at_least = subst (λ z. AtMost (lowest z (2 * scale)) (lower v k.bounds)) same k.from_below;
        above = h.bounds;
        enclosed_above = h.enclosed;
        at_most = h.from_above;
      }

  pub one : (m n : ℤ) → IsRounded v scale m → IsRounded v scale n → (m ≡ n) ⊎ ((n ≡ m +ℤ pos 1) × IsAt v (middle m scale)) ⊎ ((m ≡ n +ℤ pos 1) × IsAt v (middle n scale))
  one m n h k = by (int_near m n (at_most_next m n h k) (at_most_next n m k h))
    where
      by : (m ≡ n) ⊎ (n ≡ m +ℤ pos 1) ⊎ (m ≡ n +ℤ pos 1) → (m ≡ n) ⊎ ((n ≡ m +ℤ pos 1) × IsAt v (middle m scale)) ⊎ ((m ≡ n +ℤ pos 1) × IsAt v (middle n scale))
      by (inl e) = inl e
      by (inr (inl e)) = inr (inl (e, middle_at m n h k e))
      by (inr (inr e)) = inr (inr (e, middle_at n m k h e))
