-- What holds coefficients before parts.
use Rattle.tree_bits.proofs.Shared.{trans, lesser_power, ◌≡◌, ℕ, ◌+◌, ◌-◌, ◌*◌, ◌^◌, ◌≤◌, ◌<◌, ◌⊎◌, inl, inr, List, [], ◌∷◌, min, sym, ap, subst, arith, mul-le, pow-add, pow_pos, pow-le-pow_right}
use Rattle.tree_bits.proofs.Shared.{Term, Surd, Parts, mass, IsHeld, cancel_le, Weighted, weighted, coefficients, PartsAll, lows, weighted_mass, AreHeld, lesser}

order : (a b : ℕ) → (a ≤ b) ⊎ (b ≤ a)
order a b = grind arith

first_of : {c d : Surd} {cs ds : List Surd} → c ∷ cs ≡ d ∷ ds → c ≡ d
first_of e = cc

rest_of : {c d : Surd} {cs ds : List Surd} → c ∷ cs ≡ d ∷ ds → cs ≡ ds
rest_of e = cc

-- ---- the lesser bits

lows_first : (ws vs : List Weighted) → lows (lesser ws vs) ≤ lows ws
lows_first [] vs = omega arith
lows_first (w ∷ ws) [] = omega arith
lows_first (w ∷ ws) (v ∷ vs) = omega (arith, lows_first ws vs)

lows_second : (ws vs : List Weighted) → lows (lesser ws vs) ≤ lows vs
lows_second [] vs = omega arith
lows_second (w ∷ ws) [] = omega arith
lows_second (w ∷ ws) (v ∷ vs) = omega (arith, lows_second ws vs)

parts_first : (d : ℕ) (ws vs : List Weighted) → PartsAll d ws → PartsAll d (lesser ws vs)
parts_first d [] vs p = tt
parts_first d (w ∷ ws) [] p = tt
parts_first d (w ∷ ws) (v ∷ vs) (p, ps) = (p, parts_first d ws vs ps)

parts_second : (d : ℕ) (ws vs : List Weighted) → coefficients ws ≡ coefficients vs → PartsAll d vs → PartsAll d (lesser ws vs)
parts_second d [] vs e p = tt
parts_second d (w ∷ ws) [] e p = tt
parts_second d (w ∷ ws) (v ∷ vs) e (p, ps) = (subst (Parts d) (sym (first_of e)) p, parts_second d ws vs (rest_of e) ps)

mass_first : (e : ℕ) (ws vs : List Weighted) → weighted_mass e (lesser ws vs) ≤ weighted_mass e ws
mass_first e [] vs = omega arith
mass_first e (w ∷ ws) [] = omega arith
mass_first e (w ∷ ws) (v ∷ vs) =
    both (mass e w.coefficient * 2 ^ min w.high v.high) (mass e w.coefficient * 2 ^ w.high) (weighted_mass e (lesser ws vs)) (weighted_mass e ws)
    (lesser_power (mass e w.coefficient) (min w.high v.high) w.high (omega arith)) (mass_first e ws vs)
  where
    both : (a b c d : ℕ) → a ≤ b → c ≤ d → a + c ≤ b + d
    both a b c d h k = omega arith

mass_second : (e : ℕ) (ws vs : List Weighted) → coefficients ws ≡ coefficients vs → weighted_mass e (lesser ws vs) ≤ weighted_mass e vs
mass_second e [] vs f = omega arith
mass_second e (w ∷ ws) [] f = omega arith
mass_second e (w ∷ ws) (v ∷ vs) f =
    both (mass e w.coefficient * 2 ^ min w.high v.high) (mass e v.coefficient * 2 ^ v.high) (weighted_mass e (lesser ws vs)) (weighted_mass e vs)
    (subst (λ (c : Surd). mass e w.coefficient * 2 ^ min w.high v.high ≤ mass e c * 2 ^ v.high) (first_of f) (lesser_power (mass e w.coefficient) (min w.high v.high) v.high (omega arith)))
    (mass_second e ws vs (rest_of f))
  where
    both : (a b c d : ℕ) → a ≤ b → c ≤ d → a + c ≤ b + d
    both a b c d h k = omega arith

-- what bounds of denominators say, from the lesser of two
record HasLow (ws : List Weighted) (l : ℕ) : Type 0 where
  denominator : ℕ
  positive : 0 < denominator
  parts : PartsAll denominator ws
  low : denominator * 2 ^ lows ws ≤ 2 ^ l

record HasHigh (ws : List Weighted) (h : ℕ) : Type 0 where
  scale : ℕ
  positive : 0 < scale
  scaled : PartsAll scale ws
  high : weighted_mass scale ws ≤ scale * 2 ^ h

lesser_low : (ws vs : List Weighted) (h k l n : ℕ) → coefficients ws ≡ coefficients vs → AreHeld ws h l → AreHeld vs k n → HasLow (lesser ws vs) (min l n)
lesser_low ws vs h k l n e a b = by (order l n)
  where
    by : (l ≤ n) ⊎ (n ≤ l) → HasLow (lesser ws vs) (min l n)
    by (inl x) = record {
      denominator = a.denominator;
      positive = a.positive;
      parts = parts_first a.denominator ws vs a.parts;
      low = subst (λ m. a.denominator * 2 ^ lows (lesser ws vs) ≤ 2 ^ m) (least l n x) (trans _ _ _ (lesser_power a.denominator (lows (lesser ws vs)) (lows ws) (lows_first ws vs)) a.low);
    }
      where
        least : (l n : ℕ) → l ≤ n → l ≡ min l n
        least l n x = omega arith
    by (inr x) = record {
      denominator = b.denominator;
      positive = b.positive;
      parts = parts_second b.denominator ws vs e b.parts;
      low = subst (λ m. b.denominator * 2 ^ lows (lesser ws vs) ≤ 2 ^ m) (least l n x) (trans _ _ _ (lesser_power b.denominator (lows (lesser ws vs)) (lows vs) (lows_second ws vs)) b.low);
    }
      where
        least : (l n : ℕ) → n ≤ l → n ≡ min l n
        least l n x = omega arith

lesser_high : (ws vs : List Weighted) (h k l n : ℕ) → coefficients ws ≡ coefficients vs → AreHeld ws h l → AreHeld vs k n → HasHigh (lesser ws vs) (min h k)
lesser_high ws vs h k l n e a b = by (order h k)
  where
    by : (h ≤ k) ⊎ (k ≤ h) → HasHigh (lesser ws vs) (min h k)
    by (inl x) = record {
      scale = a.scale;
      positive = a.scale_positive;
      scaled = parts_first a.scale ws vs a.scaled;
      high = subst (λ m. weighted_mass a.scale (lesser ws vs) ≤ a.scale * 2 ^ m) (least h k x) (trans _ _ _ (mass_first a.scale ws vs) a.high);
    }
      where
        least : (l n : ℕ) → l ≤ n → l ≡ min l n
        least l n x = omega arith
    by (inr x) = record {
      scale = b.scale;
      positive = b.scale_positive;
      scaled = parts_second b.scale ws vs e b.scaled;
      high = subst (λ m. weighted_mass b.scale (lesser ws vs) ≤ b.scale * 2 ^ m) (least h k x) (trans _ _ _ (mass_second b.scale ws vs e) b.high);
    }
      where
        least : (l n : ℕ) → n ≤ l → n ≡ min l n
        least l n x = omega arith

pub held_by_both : (ws vs : List Weighted) (h k l n : ℕ) → coefficients ws ≡ coefficients vs → AreHeld ws h l → AreHeld vs k n → AreHeld (lesser ws vs) (min h k) (min l n)
held_by_both ws vs h k l n e a b =
    let x : HasLow (lesser ws vs) (min l n) = lesser_low ws vs h k l n e a b in
    let y : HasHigh (lesser ws vs) (min h k) = lesser_high ws vs h k l n e a b in
    record { denominator = x.denominator; positive = x.positive; parts = x.parts; low = x.low; scale = y.scale; scale_positive = y.positive; scaled = y.scaled; high = y.high }

-- ---- one coefficient

pub put_before : (c : Surd) (h l p q : ℕ) → IsHeld c h l → AreHeld (weighted c p q ∷ []) (h + p) (l + q)
put_before c h l p q k = record {
  denominator = k.denominator;
  positive = k.parts.positive;
  parts = (k.parts, tt);
  low =
      subst (λ n. k.denominator * 2 ^ n ≤ 2 ^ (l + q)) (none q)
      (let y : k.denominator * 2 ^ q ≤ 1 * 2 ^ (l + q) = times k.denominator 1 l q (let x : k.denominator ≤ 2 ^ l = k.low in omega arith) in omega arith);
  scale = k.scale;
  scale_positive = k.scaled.positive;
  scaled = (k.scaled, tt);
  high = let x : mass k.scale c * 2 ^ p ≤ k.scale * 2 ^ (h + p) = times (mass k.scale c) k.scale h p k.high in omega arith;
}
  where
    none : (q : ℕ) → q ≡ q + 0
    none q = omega arith

    times : (m e h p : ℕ) → m ≤ e * 2 ^ h → m * 2 ^ p ≤ e * 2 ^ (h + p)
    times m e h p x = let y : m * 2 ^ p ≤ (e * 2 ^ h) * 2 ^ p = mul-le m (2 ^ p) (e * 2 ^ h) (2 ^ p) x (omega arith) in subst (λ z. m * 2 ^ p ≤ e * z) (sym (pow-add 2 h p)) (omega arith)

-- more than its own 2 ^ h
exceeds : (e h p : ℕ) → 0 < e → h < p → e * 2 ^ p ≤ e * 2 ^ h → ⊥
exceeds e h p x y z =
    let a : 2 ^ (h + 1) ≤ 2 ^ p = pow-le-pow_right {n = 2} (omega arith) (omega arith) in
    let b : 2 ^ (h + 1) ≡ 2 ^ h * 2 ^ 1 = pow-add 2 h 1 in
    let c : 1 ≤ 2 ^ h = pow_pos h in
    let d : 2 ^ p ≤ 2 ^ h = cancel_le (2 ^ p) (2 ^ h) e x (omega (arith, z)) in
    absurd (omega (arith, a, b, c, d))

at_most : (m e h p : ℕ) → 0 < e → e ≤ m → m * 2 ^ p ≤ e * 2 ^ h → p ≤ h
at_most m e h p x y z = grind (arith, over)
  where
    over : h < p → ⊥
    over l = exceeds e h p x l (let a : e * 2 ^ p ≤ m * 2 ^ p = mul-le e (2 ^ p) m (2 ^ p) y (omega arith) in omega (arith, a, z))

left_over : (m e h p : ℕ) → p ≤ h → m * 2 ^ p ≤ e * 2 ^ h → m ≤ e * 2 ^ (h - p)
left_over m e h p s z =
    let b : 2 ^ ((h - p) + p) ≡ 2 ^ (h - p) * 2 ^ p = pow-add 2 (h - p) p in
    let c : m * 2 ^ p ≤ e * 2 ^ ((h - p) + p) = subst (λ k. m * 2 ^ p ≤ e * 2 ^ k) (back h p s) z in
    let d : e * 2 ^ ((h - p) + p) ≡ e * (2 ^ (h - p) * 2 ^ p) = ap (λ k. e * k) b in
    cancel_le m (e * 2 ^ (h - p)) (2 ^ p) (pow_pos p) (omega (arith, c, d))
  where
    back : (h p : ℕ) → p ≤ h → h ≡ (h - p) + p
    back h p s = omega arith

-- each term counts 1 at least
some_mass : (e : ℕ) (t : Term) (v : Surd) → e ≤ mass e (t ∷ v)
some_mass e t v = omega arith

pub split_off : (t : Term) (v : Surd) (h l p q : ℕ) → AreHeld (weighted (t ∷ v) p q ∷ []) h l → (p ≤ h) × (q ≤ l) × IsHeld (t ∷ v) (h - p) (l - q)
split_off t v h l p q k =
    let c : Surd = t ∷ v in
    let high : mass k.scale c * 2 ^ p ≤ k.scale * 2 ^ h = let x : mass k.scale c * 2 ^ p + 0 ≤ k.scale * 2 ^ h = k.high in omega arith in
    let low : k.denominator * 2 ^ q ≤ 1 * 2 ^ l = let x : k.denominator * 2 ^ (q + 0) ≤ 2 ^ l = k.low in let y : k.denominator * 2 ^ q ≤ 2 ^ l = subst (λ n. k.denominator * 2 ^ n ≤ 2 ^ l) (none q) x in omega arith in
    let most : p ≤ h = at_most (mass k.scale c) k.scale h p k.scale_positive (some_mass k.scale t v) high in
    let least : q ≤ l = at_most k.denominator 1 l q (omega arith) k.positive low in (
      most,
      least,
      record {
        denominator = k.denominator;
        parts = k.parts.0;
        low = let x : k.denominator ≤ 1 * 2 ^ (l - q) = left_over k.denominator 1 l q least low in omega arith;
        scale = k.scale;
        scaled = k.scaled.0;
        high = left_over (mass k.scale c) k.scale h p most high;
      },
    )
  where
    none : (q : ℕ) → q + 0 ≡ q
    none q = omega arith
