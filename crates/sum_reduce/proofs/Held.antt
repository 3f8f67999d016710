-- Addends that change places, are left out, or are joined, beside any others.
use Rattle.sum_reduce.proofs.Shared.{◌≡◌, ℕ, ◌+◌, ◌*◌, ◌^◌, ◌≤◌, List, [], ◌∷◌, ◌++◌, sym, ap, subst, arith, append_assoc, append-nil, mul-le, pow_pos, pow-le-pow_right, Surd, Permuted, permuted_none}
use Rattle.sum_reduce.proofs.Shared.{permuted_more, permuted_swap, permuted_trans, HasFewBits, IsNoLarger, mass, IsHeld, parts_append, mass-append, parts_left, parts_right, Trees, none, KeepsHeld}
use Rattle.sum_reduce.proofs.Shared.{HaveFewBits, IsSumHeld, addends_of_each, Addend, addend, addends, AreWeighted, more_weighted, no_factor_held, Weighted, weighted, lows, weighted_mass, AreHeld}
use Rattle.sum_reduce.proofs.Shared.{addend_left_out, addend_to_front, addend_from_front, addends_joined}

-- ---- one after the other, and side by side

pub held_same : (xs : List Addend) → KeepsHeld xs xs
held_same xs = record { keeps = λ zs h l k. k }

pub held_after : {xs ys zs : List Addend} → KeepsHeld xs ys → KeepsHeld ys zs → KeepsHeld xs zs
held_after f g = record { keeps = λ ws h l k. g.keeps ws h l (f.keeps ws h l k) }

held_as : {xs ys : List Addend} (h l : ℕ) → xs ≡ ys → IsSumHeld xs h l → IsSumHeld ys h l
held_as h l e k = subst (λ (x : List Addend). IsSumHeld x h l) e k

pub held_equal : {xs ys : List Addend} → xs ≡ ys → KeepsHeld xs ys
held_equal e = record { keeps = λ zs h l k. held_as h l (ap (λ (x : List Addend). x ++ zs) e) k }

-- by themselves
pub holds : {xs ys : List Addend} {h l : ℕ} → KeepsHeld xs ys → IsSumHeld xs h l → IsSumHeld ys h l
holds {xs = xs} {ys = ys} {h = h} {l = l} f k = held_as h l (append-nil ys) (f.keeps [] h l (held_as h l (sym (append-nil xs)) k))

exchanged : (xs ys : List Addend) → KeepsHeld (xs ++ ys) (ys ++ xs)
exchanged [] ys = held_equal (sym (append-nil ys))
exchanged (x ∷ xs) ys = record { keeps = step (exchanged xs ys) }
  where
    step : KeepsHeld (xs ++ ys) (ys ++ xs) → (zs : List Addend) (h l : ℕ) → IsSumHeld (x ∷ ((xs ++ ys) ++ zs)) h l → IsSumHeld ((ys ++ (x ∷ xs)) ++ zs) h l
    step behind zs h l k =
        let a : IsSumHeld ((xs ++ ys) ++ (x ∷ zs)) h l = addend_from_front (xs ++ ys) x zs h l k in
        let b : IsSumHeld ((ys ++ xs) ++ (x ∷ zs)) h l = behind.keeps (x ∷ zs) h l a in
        let c : IsSumHeld (x ∷ ((ys ++ xs) ++ zs)) h l = addend_to_front (ys ++ xs) x zs h l b in
        let d : IsSumHeld (ys ++ (x ∷ (xs ++ zs))) h l = addend_from_front ys x (xs ++ zs) h l (held_as h l (ap (λ (w : List Addend). x ∷ w) (append_assoc ys xs zs)) c) in
        held_as h l (sym (append_assoc ys (x ∷ xs) zs)) d

held_before : {xs ys : List Addend} (ws : List Addend) → KeepsHeld xs ys → KeepsHeld (xs ++ ws) (ys ++ ws)
held_before {xs = xs} {ys = ys} ws f = record { keeps = λ zs h l k. held_as h l (sym (append_assoc ys ws zs)) (f.keeps (ws ++ zs) h l (held_as h l (append_assoc xs ws zs) k)) }

pub held_behind : (ws : List Addend) {xs ys : List Addend} → KeepsHeld xs ys → KeepsHeld (ws ++ xs) (ws ++ ys)
held_behind ws {xs = xs} {ys = ys} f = held_after (exchanged ws xs) (held_after (held_before ws f) (exchanged ys ws))

pub held_beside : {xs ys us vs : List Addend} → KeepsHeld xs ys → KeepsHeld us vs → KeepsHeld (xs ++ us) (ys ++ vs)
held_beside {ys = ys} {us = us} f g = held_after (held_before us f) (held_behind ys g)

-- ---- the addends of trees that change places

blocks : (xs ys zs : List Addend) → KeepsHeld (xs ++ (ys ++ zs)) (ys ++ (xs ++ zs))
blocks xs ys zs = held_after (held_equal (sym (append_assoc xs ys zs))) (held_after (held_before zs (exchanged xs ys)) (held_equal (append_assoc ys xs zs)))

pub held_permuted : {ts us : Trees} → Permuted ts us → KeepsHeld (addends_of_each ts) (addends_of_each us)
held_permuted permuted_none = held_same []
held_permuted (permuted_more {t} k) = held_behind (addends t) (held_permuted k)
held_permuted (permuted_swap {t} {u} {ts}) = blocks (addends t) (addends u) (addends_of_each ts)
held_permuted (permuted_trans k l) = held_after (held_permuted k) (held_permuted l)

-- ---- one less

pub held_left_out : (x : Addend) → KeepsHeld (x ∷ []) []
held_left_out x = record { keeps = λ zs h l k. addend_left_out x zs h l k }

pub held_joined : (c d s : Surd) (ts : Trees) → IsNoLarger (c ++ d) s → KeepsHeld (addend c ts ∷ addend d ts ∷ []) (addend s ts ∷ [])
held_joined c d s ts n = record { keeps = λ zs h l k. addends_joined c d s ts zs h l n k }

-- ---- one more

pub held_nothing : KeepsHeld [] (addend [] none ∷ [])
held_nothing = record { keeps = λ zs h l k. record { terms = weighted [] 0 0 ∷ k.terms; weighted = more_weighted 0 0 no_factor_held k.weighted; held = beside k.held } }
  where
    beside : {ws : List Weighted} {h l : ℕ} → AreHeld ws h l → AreHeld (weighted [] 0 0 ∷ ws) h l
    beside {ws = ws} {h = h} {l = l} a = record {
      denominator = a.denominator;
      positive = a.positive;
      parts = (record { positive = a.positive; whole = tt }, a.parts);
      low = let n : 0 + lows ws ≡ lows ws = omega arith in subst (λ (m : ℕ). a.denominator * 2 ^ m ≤ 2 ^ l) (sym n) a.low;
      scale = a.scale;
      scale_positive = a.scale_positive;
      scaled = (record { positive = a.scale_positive; whole = tt }, a.scaled);
      high = let x : weighted_mass a.scale ws ≤ a.scale * 2 ^ h = a.high in omega arith;
    }

-- a coefficient without factors is split
pub held_split : (c d : Surd) → KeepsHeld (addend (c ++ d) none ∷ []) (addend c none ∷ addend d none ∷ [])
held_split c d = record { keeps = λ zs h l k. by k.weighted k.held }
  where
    by : {zs : List Addend} {ws : List Weighted} {h l : ℕ} → AreWeighted (addend (c ++ d) none ∷ zs) ws → AreHeld ws h l → IsSumHeld (addend c none ∷ (addend d none ∷ zs)) h l
    by {h = h} {l = l} (more_weighted {ws = ws} p q f r) a = record {
      terms = weighted c 0 0 ∷ (weighted d 0 0 ∷ ws);
      weighted = more_weighted 0 0 no_factor_held (more_weighted 0 0 no_factor_held r);
      held = record {
        denominator = a.denominator;
        positive = a.positive;
        parts = (parts_left a.denominator c d a.parts.0, (parts_right a.denominator c d a.parts.0, a.parts.1));
        low =
            let x : 2 ^ lows ws ≤ 2 ^ (q + lows ws) = pow-le-pow_right {n = 2} (omega arith) (omega arith) in
            let y : a.denominator * 2 ^ lows ws ≤ a.denominator * 2 ^ (q + lows ws) = mul-le a.denominator (2 ^ lows ws) a.denominator (2 ^ (q + lows ws)) (omega arith) x in
            let z : a.denominator * 2 ^ (q + lows ws) ≤ 2 ^ l = a.low in
            let n : 0 + (0 + lows ws) ≡ lows ws = omega arith in
            subst (λ (m : ℕ). a.denominator * 2 ^ m ≤ 2 ^ l) (sym n) (omega (arith, y, z));
        scale = a.scale;
        scale_positive = a.scale_positive;
        scaled = (parts_left a.scale c d a.scaled.0, (parts_right a.scale c d a.scaled.0, a.scaled.1));
        high =
            let x : mass a.scale (c ++ d) ≡ mass a.scale c + mass a.scale d = mass-append a.scale a.scale c d in
            let y : mass a.scale (c ++ d) * 1 ≤ mass a.scale (c ++ d) * 2 ^ p = mul-le (mass a.scale (c ++ d)) 1 (mass a.scale (c ++ d)) (2 ^ p) (omega arith) (pow_pos p) in
            let z : mass a.scale (c ++ d) * 2 ^ p + weighted_mass a.scale ws ≤ a.scale * 2 ^ h = a.high in
            omega (arith, x, y, z);
      };
    }

-- ---- coefficients alone

pub both_held : {c d : Surd} {ts us : Trees} {zs : List Addend} {h l : ℕ} → IsSumHeld (addend c ts ∷ (addend d us ∷ zs)) h l → IsHeld (c ++ d) h l
both_held {c = c} {d = d} {ts = ts} {us = us} {zs = zs} {h = h} {l = l} k = by k.weighted k.held
  where
    by : {ws : List Weighted} → AreWeighted (addend c ts ∷ (addend d us ∷ zs)) ws → AreHeld ws h l → IsHeld (c ++ d) h l
    by (more_weighted p q f (more_weighted {ws = ws} i j g r)) a = record {
      denominator = a.denominator;
      parts = parts_append a.denominator c d a.parts.0 (a.parts.1).0;
      low =
          let x : a.denominator * 1 ≤ a.denominator * 2 ^ (q + (j + lows ws)) = mul-le a.denominator 1 a.denominator (2 ^ (q + (j + lows ws))) (omega arith) (pow_pos (q + (j + lows ws))) in
          let z : a.denominator * 2 ^ (q + (j + lows ws)) ≤ 2 ^ l = a.low in
          omega (arith, x, z);
      scale = a.scale;
      scaled = parts_append a.scale c d a.scaled.0 (a.scaled.1).0;
      high =
          let s : mass a.scale (c ++ d) ≡ mass a.scale c + mass a.scale d = mass-append a.scale a.scale c d in
          let x : mass a.scale c * 1 ≤ mass a.scale c * 2 ^ p = mul-le (mass a.scale c) 1 (mass a.scale c) (2 ^ p) (omega arith) (pow_pos p) in
          let y : mass a.scale d * 1 ≤ mass a.scale d * 2 ^ i = mul-le (mass a.scale d) 1 (mass a.scale d) (2 ^ i) (omega arith) (pow_pos i) in
          let z : mass a.scale c * 2 ^ p + (mass a.scale d * 2 ^ i + weighted_mass a.scale ws) ≤ a.scale * 2 ^ h = a.high in
          omega (arith, s, x, y, z);
    }

-- ---- few bits

pub few_after : {xs ys : List Addend} → KeepsHeld xs ys → HaveFewBits xs → HaveFewBits ys
few_after f b = record { high = b.high; low = b.low; held = holds f b.held; few = b.few }

pub few_of_both : {c d : Surd} {ts us : Trees} {zs : List Addend} → HaveFewBits (addend c ts ∷ (addend d us ∷ zs)) → HasFewBits (c ++ d)
few_of_both b = record { high = b.high; low = b.low; held = both_held b.held; few = b.few }
