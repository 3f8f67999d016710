-- A coefficient before a sum that is one factor, and in each addend of that sum, beside any others.
use Rattle.sum_reduce.proofs.Shared.{◌≡◌, ℕ, ◌+◌, ◌*◌, ◌^◌, ◌≤◌, ◌<◌, List, [], ◌∷◌, ◌++◌, map, sym, ap, subst, arith, mul-le, pow-add, pow-le-pow_right, Surd, surd_times, Parts, mass, parts_scale}
use Rattle.sum_reduce.proofs.Shared.{parts_times, mass_scale, mass_times, mul_pos, add, Trees, none, more, KeepsHeld, IsSumHeld, distributed, Addend, addend, addends, IsTreeHeld, sum_held}
use Rattle.sum_reduce.proofs.Shared.{AreWeighted, more_weighted, IsPartHeld, Weighted, weighted, PartsAll, lows, weighted_mass, AreHeld, weighted_both, one_counts, mul_comm, times_weighted}

-- ---- weighted terms

-- each coefficient times c
abbrev times_each : Surd → List Weighted → List Weighted
times_each c ws = map (λ (w : Weighted). weighted (surd_times c w.coefficient) w.high w.low) ws

-- over a product of denominators
times_parts : (d e : ℕ) (c : Surd) (vs ws : List Weighted) → Parts d c → PartsAll e vs → 0 < e → PartsAll d ws → PartsAll (d * e) (times_each c vs ++ ws)
times_parts d e c [] [] p q h s = tt
times_parts d e c [] (w ∷ ws) p q h s = (subst (λ (n : ℕ). Parts n w.coefficient) (mul_comm e d) (parts_scale e d w.coefficient h s.0), times_parts d e c [] ws p q h s.1)
times_parts d e c (v ∷ vs) ws p q h s = (parts_times d e c v.coefficient p q.0, times_parts d e c vs ws p q.1 h s)

times_lows : (c : Surd) (vs ws : List Weighted) → lows (times_each c vs ++ ws) ≡ lows vs + lows ws
times_lows c [] ws = omega arith
times_lows c (v ∷ vs) ws = omega (arith, times_lows c vs ws)

times_mass : (d e : ℕ) (c : Surd) (vs ws : List Weighted) → Parts d c → PartsAll e vs → PartsAll d ws
    → weighted_mass (d * e) (times_each c vs ++ ws) ≤ mass d c * weighted_mass e vs + e * weighted_mass d ws
times_mass d e c [] [] p q s = omega arith
times_mass d e c [] (w ∷ ws) p q s =
    let a : mass (d * e) w.coefficient ≤ e * mass d w.coefficient = subst (λ (n : ℕ). mass n w.coefficient ≤ e * mass d w.coefficient) (mul_comm e d) (mass_scale e d d w.coefficient s.0) in
    let b : mass (d * e) w.coefficient * 2 ^ w.high ≤ (e * mass d w.coefficient) * 2 ^ w.high = mul-le (mass (d * e) w.coefficient) (2 ^ w.high) (e * mass d w.coefficient) (2 ^ w.high) a (omega arith) in
    omega (arith, b, times_mass d e c [] ws p q s.1)
times_mass d e c (v ∷ vs) ws p q s =
    let a : mass (d * e) (surd_times c v.coefficient) ≤ mass d c * mass e v.coefficient = mass_times d e d e c v.coefficient p q.0 in
    let b : mass (d * e) (surd_times c v.coefficient) * 2 ^ v.high ≤ (mass d c * mass e v.coefficient) * 2 ^ v.high =
    mul-le (mass (d * e) (surd_times c v.coefficient)) (2 ^ v.high) (mass d c * mass e v.coefficient) (2 ^ v.high) a (omega arith) in
    omega (arith, b, times_mass d e c vs ws p q.1 s)

-- ---- the bounds

low_bound : (d e a b j q l : ℕ) → e * 2 ^ a ≤ 2 ^ j → j ≤ q → d * 2 ^ (q + b) ≤ 2 ^ l → (d * e) * 2 ^ (a + b) ≤ 2 ^ l
low_bound d e a b j q l x y z =
    let u : 2 ^ j ≤ 2 ^ q = pow-le-pow_right {n = 2} (omega arith) y in
    let v : e * 2 ^ a ≤ 2 ^ q = omega (arith, x, u) in
    let w : (d * 2 ^ b) * (e * 2 ^ a) ≤ (d * 2 ^ b) * 2 ^ q = mul-le (d * 2 ^ b) (e * 2 ^ a) (d * 2 ^ b) (2 ^ q) (omega arith) v in
    omega (arith, w, z, pow-add 2 a b, ap (λ (n : ℕ). (d * e) * n) (pow-add 2 a b), ap (λ (n : ℕ). d * n) (pow-add 2 q b))

high_bound : (m n k d e i p h t : ℕ) → t ≤ m * n + e * k → n ≤ e * 2 ^ i → i ≤ p → m * 2 ^ p + k ≤ d * 2 ^ h → t ≤ (d * e) * 2 ^ h
high_bound m n k d e i p h t a b c f =
    let u : 2 ^ i ≤ 2 ^ p = pow-le-pow_right {n = 2} (omega arith) c in
    let v : e * 2 ^ i ≤ e * 2 ^ p = mul-le e (2 ^ i) e (2 ^ p) (omega arith) u in
    let w : m * n ≤ m * (e * 2 ^ p) = mul-le m n m (e * 2 ^ p) (omega arith) (omega (arith, b, v)) in
    let x : e * (m * 2 ^ p + k) ≤ e * (d * 2 ^ h) = mul-le e (m * 2 ^ p + k) e (d * 2 ^ h) (omega arith) f in
    omega (arith, a, w, x)

-- ---- the sum

record IsOnce (us : Trees) (p q : ℕ) : Type 0 where
  high : ℕ
  low : ℕ
  few_high : high ≤ p
  few_low : low ≤ q
  held : IsTreeHeld (add us) high low

once : {us : Trees} {p q : ℕ} → IsPartHeld (more (add us) none) p q → IsOnce us p q
once h = grind (arith, one_counts)

pub held_distributed : (c : Surd) (us : Trees) → KeepsHeld (addend c (more (add us) none) ∷ []) (distributed c (addends (add us)))
held_distributed c us = record { keeps = λ zs h l k. by k.weighted k.held }
  where
    opened : {zs : List Addend} {ws : List Weighted} {h l p q : ℕ} → AreWeighted zs ws → AreHeld (weighted c p q ∷ ws) h l → (i j : ℕ) → i ≤ p → j ≤ q → IsTreeHeld (add us) i j
        → IsSumHeld (distributed c (addends (add us)) ++ zs) h l
    opened {ws = ws} {h = h} {l = l} {p = p} {q = q} r a i j x y (sum_held vs w b) = record {
      terms = times_each c vs ++ ws;
      weighted = weighted_both (times_weighted c w) r;
      held = record {
        denominator = a.denominator * b.denominator;
        positive = mul_pos a.denominator b.denominator a.positive b.positive;
        parts = times_parts a.denominator b.denominator c vs ws a.parts.0 b.parts b.positive a.parts.1;
        low = subst (λ (n : ℕ). (a.denominator * b.denominator) * 2 ^ n ≤ 2 ^ l) (sym (times_lows c vs ws)) (low_bound a.denominator b.denominator (lows vs) (lows ws) j q l b.low y a.low);
        scale = a.scale * b.scale;
        scale_positive = mul_pos a.scale b.scale a.scale_positive b.scale_positive;
        scaled = times_parts a.scale b.scale c vs ws a.scaled.0 b.scaled b.scale_positive a.scaled.1;
        high =
            high_bound (mass a.scale c) (weighted_mass b.scale vs) (weighted_mass a.scale ws) a.scale b.scale i p h (weighted_mass (a.scale * b.scale) (times_each c vs ++ ws))
            (times_mass a.scale b.scale c vs ws a.scaled.0 b.scaled a.scaled.1) b.high x a.high;
      };
    }

    by : {zs : List Addend} {ws : List Weighted} {h l : ℕ} → AreWeighted (addend c (more (add us) none) ∷ zs) ws → AreHeld ws h l → IsSumHeld (distributed c (addends (add us)) ++ zs) h l
    by (more_weighted p q f r) a = let o = once f in opened r a o.high o.low o.few_high o.few_low o.held
