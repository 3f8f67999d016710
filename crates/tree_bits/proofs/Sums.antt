-- Sums of what is held, terms that are joined, and trees that are one addend.
use Rattle.tree_bits.proofs.Shared.{◌≡◌, ℕ, ◌+◌, ◌*◌, ◌^◌, ◌≤◌, ◌<◌, List, [], ◌∷◌, ◌++◌, Bool, true, false, pos, ◌==◌, if◌then◌else◌, refl, sym, ap, ◌∙◌, subst, arith, mul-le, pow-add}
use Rattle.tree_bits.proofs.Shared.{pow-le-pow_right, is_number, value, Surd, surd_one, IsNoLarger, mass, IsHeld, held_power, parts_scale, parts_append, mass-append, mass_scale, one_fraction, mul_pos}
use Rattle.tree_bits.proofs.Shared.{num_one, Tree, symbol, power, root, none, more, Counts, counts, multiple, counts_of, is_counted, Addend, addend, addend_of, addends, base_in, exponent_in}
use Rattle.tree_bits.proofs.Shared.{power_high, power_low, IsTreeHeld, undef_held, sum_held, AreWeighted, none_weighted, more_weighted, IsPartHeld, no_factor_held, factor_held, IsBaseHeld}
use Rattle.tree_bits.proofs.{Shared.{symbol_held, root_held, Weighted, weighted, PartsAll, lows, weighted_mass, AreHeld, whole_numerator, whole_denominator, mul_comm}, Numbers.{nothing_held}}
use Rattle.tree_bits.proofs.Weighted.{put_before}

-- ---- sums

parts_both : (d : ℕ) (ws vs : List Weighted) → PartsAll d ws → PartsAll d vs → PartsAll d (ws ++ vs)
parts_both d [] vs p q = q
parts_both d (w ∷ ws) vs (p, ps) q = (p, parts_both d ws vs ps q)

lows-append : (ws vs : List Weighted) → lows (ws ++ vs) ≡ lows ws + lows vs
lows-append [] vs = omega arith
lows-append (w ∷ ws) vs = omega (arith, lows-append ws vs)

mass-both : (e : ℕ) (ws vs : List Weighted) → weighted_mass e (ws ++ vs) ≡ weighted_mass e ws + weighted_mass e vs
mass-both e [] vs = omega arith
mass-both e (w ∷ ws) vs = omega (arith, mass-both e ws vs)

parts_multiple : (j d : ℕ) (ws : List Weighted) → 0 < j → PartsAll d ws → PartsAll (j * d) ws
parts_multiple j d [] h p = tt
parts_multiple j d (w ∷ ws) h (p, ps) = (parts_scale j d w.coefficient h p, parts_multiple j d ws h ps)

mass_multiple : (j e : ℕ) (ws : List Weighted) → PartsAll e ws → weighted_mass (j * e) ws ≤ j * weighted_mass e ws
mass_multiple j e [] p = omega arith
mass_multiple j e (w ∷ ws) (p, ps) =
    both (mass (j * e) w.coefficient) (mass e w.coefficient) (2 ^ w.high) (weighted_mass (j * e) ws) (weighted_mass e ws) j (mass_scale j e e w.coefficient p) (mass_multiple j e ws ps)
  where
    both : (a b p c d j : ℕ) → a ≤ j * b → c ≤ j * d → a * p + c ≤ j * (b * p + d)
    both a b p c d j h k = let x : a * p ≤ (j * b) * p = mul-le a p (j * b) p h (omega arith) in omega arith

low_together : (d e a b l n : ℕ) → d * 2 ^ a ≤ 2 ^ l → e * 2 ^ b ≤ 2 ^ n → (e * d) * 2 ^ (a + b) ≤ 2 ^ (l + n)
low_together d e a b l n h k =
    let x : (d * 2 ^ a) * (e * 2 ^ b) ≤ 2 ^ l * 2 ^ n = mul-le (d * 2 ^ a) (e * 2 ^ b) (2 ^ l) (2 ^ n) h k in
    subst (λ z. (e * d) * z ≤ 2 ^ (l + n)) (sym (pow-add 2 a b)) (subst (λ z. (e * d) * (2 ^ a * 2 ^ b) ≤ z) (sym (pow-add 2 l n)) (omega (arith, x)))

high_together : (t x y i j u w p q : ℕ) → t ≡ x + y → x ≤ j * u → y ≤ i * w → u ≤ i * p → w ≤ j * q → t ≤ (j * i) * (p + q)
high_together t x y i j u w p q e a b c d =
    let f : j * u ≤ j * (i * p) = mul-le j u j (i * p) (omega arith) c in
    let g : i * w ≤ i * (j * q) = mul-le i w i (j * q) (omega arith) d in
    omega arith

-- what holds a sum, by any bound x in place of 2 ^ h
pub record AreWithin (ws : List Weighted) (x l : ℕ) : Type 0 where
  pub denominator : ℕ
  pub positive : 0 < denominator
  pub parts : PartsAll denominator ws
  pub low : denominator * 2 ^ lows ws ≤ 2 ^ l
  pub scale : ℕ
  pub scale_positive : 0 < scale
  pub scaled : PartsAll scale ws
  pub high : weighted_mass scale ws ≤ scale * x

pub are_within : {ws : List Weighted} {h l : ℕ} → AreHeld ws h l → AreWithin ws (2 ^ h) l
are_within a = record { denominator = a.denominator; positive = a.positive; parts = a.parts; low = a.low; scale = a.scale; scale_positive = a.scale_positive; scaled = a.scaled; high = a.high }

pub held_within : {ws : List Weighted} {x l h n : ℕ} → x ≤ 2 ^ h → l ≤ n → AreWithin ws x l → AreHeld ws h n
held_within {ws = ws} {x = x} {l = l} {h = h} {n = n} p q a = record {
  denominator = a.denominator;
  positive = a.positive;
  parts = a.parts;
  low = let r : 2 ^ l ≤ 2 ^ n = pow-le-pow_right {n = 2} (omega arith) q in let s : a.denominator * 2 ^ lows ws ≤ 2 ^ l = a.low in omega arith;
  scale = a.scale;
  scale_positive = a.scale_positive;
  scaled = a.scaled;
  high = let r : a.scale * x ≤ a.scale * 2 ^ h = mul-le a.scale x a.scale (2 ^ h) (omega arith) p in let s : weighted_mass a.scale ws ≤ a.scale * x = a.high in omega arith;
}

pub sums_within : (ws vs : List Weighted) (x y l n : ℕ) → AreWithin ws x l → AreWithin vs y n → AreWithin (ws ++ vs) (x + y) (l + n)
sums_within ws vs x y l n a b = record {
  denominator = b.denominator * a.denominator;
  positive = mul_pos b.denominator a.denominator b.positive a.positive;
  parts =
      parts_both (b.denominator * a.denominator) ws vs (parts_multiple b.denominator a.denominator ws b.positive a.parts)
      (subst (λ d. PartsAll d vs) (mul_comm a.denominator b.denominator) (parts_multiple a.denominator b.denominator vs a.positive b.parts));
  low = subst (λ x. (b.denominator * a.denominator) * 2 ^ x ≤ 2 ^ (l + n)) (sym (lows-append ws vs)) (low_together a.denominator b.denominator (lows ws) (lows vs) l n a.low b.low);
  scale = b.scale * a.scale;
  scale_positive = mul_pos b.scale a.scale b.scale_positive a.scale_positive;
  scaled =
      parts_both (b.scale * a.scale) ws vs (parts_multiple b.scale a.scale ws b.scale_positive a.scaled)
      (subst (λ d. PartsAll d vs) (mul_comm a.scale b.scale) (parts_multiple a.scale b.scale vs a.scale_positive b.scaled));
  high =
      high_together (weighted_mass (b.scale * a.scale) (ws ++ vs)) (weighted_mass (b.scale * a.scale) ws) (weighted_mass (b.scale * a.scale) vs) a.scale b.scale (weighted_mass a.scale ws)
      (weighted_mass b.scale vs) x y
      (mass-both (b.scale * a.scale) ws vs) (mass_multiple b.scale a.scale ws a.scaled)
      (subst (λ e. weighted_mass e vs ≤ a.scale * weighted_mass b.scale vs) (mul_comm a.scale b.scale) (mass_multiple a.scale b.scale vs b.scaled)) a.high b.high;
}

pub sums_held : (ws vs : List Weighted) (h k l n g : ℕ) → AreHeld ws h l → AreHeld vs k n → 2 ^ h + 2 ^ k ≤ 2 ^ g → AreHeld (ws ++ vs) g (l + n)
sums_held ws vs h k l n g a b s = held_within s (omega arith) (sums_within ws vs (2 ^ h) (2 ^ k) l n (are_within a) (are_within b))

-- held by more
pub wider_held : {ws : List Weighted} {h l k n : ℕ} → h ≤ k → l ≤ n → AreHeld ws h l → AreHeld ws k n
wider_held x y a = held_within (pow-le-pow_right {n = 2} (omega arith) x) y (are_within a)

-- ---- terms of one part

pub joined_held : (c d s : Surd) (ws : List Weighted) (p q h l : ℕ) → IsNoLarger (c ++ d) s → AreHeld (weighted c p q ∷ weighted d p q ∷ ws) h l → AreHeld (weighted s p q ∷ ws) h l
joined_held c d s ws p q h l i k = record {
  denominator = k.denominator;
  positive = k.positive;
  parts = (i.parts k.denominator (parts_append k.denominator c d k.parts.0 (k.parts.1).0), (k.parts.1).1);
  low =
      let a : 2 ^ (q + lows ws) ≤ 2 ^ (q + (q + lows ws)) = pow-le-pow_right {n = 2} (omega arith) (omega arith) in
      let b : k.denominator * 2 ^ (q + lows ws) ≤ k.denominator * 2 ^ (q + (q + lows ws)) = mul-le k.denominator (2 ^ (q + lows ws)) k.denominator (2 ^ (q + (q + lows ws))) (omega arith) a in
      let f : k.denominator * 2 ^ (q + (q + lows ws)) ≤ 2 ^ l = k.low in
      omega arith;
  scale = k.scale;
  scale_positive = k.scale_positive;
  scaled = (i.parts k.scale (parts_append k.scale c d k.scaled.0 (k.scaled.1).0), (k.scaled.1).1);
  high =
      let e : mass k.scale (c ++ d) ≡ mass k.scale c + mass k.scale d = mass-append k.scale k.scale c d in
      let f : mass k.scale s ≤ mass k.scale (c ++ d) = i.mass k.scale k.scale (parts_append k.scale c d k.scaled.0 (k.scaled.1).0) in
      let g : mass k.scale c * 2 ^ p + (mass k.scale d * 2 ^ p + weighted_mass k.scale ws) ≤ k.scale * 2 ^ h = k.high in
      through (mass k.scale s) (mass k.scale c) (mass k.scale d) (2 ^ p) (weighted_mass k.scale ws) (k.scale * 2 ^ h) (omega arith) g;
}
  where
    through : (s c d p w b : ℕ) → s ≤ c + d → c * p + (d * p + w) ≤ b → s * p + w ≤ b
    through s c d p w b f g = let x : s * p ≤ (c + d) * p = mul-le s p (c + d) p f (omega arith) in omega arith

-- ---- trees that are one addend

-- the power of nothing is 1
one_held : IsHeld surd_one (0 * 0) (0 * 0)
one_held = held_power [] 0 0 0 (nothing_held 0 0)

pub one_weighted : (p q : ℕ) → AreHeld (weighted surd_one p q ∷ []) p q
one_weighted p q = grind (arith, put_before, one_held)

by_itself : (t : Tree) (h l : ℕ) → addends t ≡ addend surd_one (more t none) ∷ [] → IsPartHeld (more t none) h l → IsTreeHeld t h l
by_itself t h l e p =
    let w : AreWeighted (addend surd_one (more t none) ∷ []) (weighted surd_one h l ∷ []) = more_weighted h l p none_weighted in
    sum_held (weighted surd_one h l ∷ []) (subst (λ (x : List Addend). AreWeighted x (weighted surd_one h l ∷ [])) (sym e) w) (one_weighted h l)

power_addends : (b e : Tree) → addends (power b e) ≡ addend surd_one (more (power b e) none) ∷ []
unfolding is_number
power_addends b e = refl

symbol_addends : (x : List ℕ) → addends (symbol x) ≡ addend surd_one (more (symbol x) none) ∷ []
unfolding is_number
symbol_addends x = refl

pub power_is_held : (b e : Tree) (h l : ℕ) → is_counted e ≡ true → IsBaseHeld b h l → IsTreeHeld (power b e) (power_high (counts_of e) h l) (power_low (counts_of e) h l)
power_is_held b e h l c k = by_itself (power b e) (power_high (counts_of e) h l) (power_low (counts_of e) h l) (power_addends b e) (factor_held h l 0 0 c k no_factor_held (omega arith) (omega arith))

pub one_counted : is_counted num_one ≡ true
unfolding one_fraction
one_counted = ap (λ n. n == 1) (whole_denominator (pos 1))

pub one_counts : counts_of num_one ≡ counts 1 0
unfolding one_fraction
one_counts = ap (λ z. multiple z (counts 1 0)) (whole_numerator (pos 1))

base_alone : (t : Tree) (h l : ℕ) → exponent_in t ≡ num_one → base_in t ≡ t → addends t ≡ addend surd_one (more t none) ∷ [] → IsBaseHeld t h l → IsTreeHeld t h l
base_alone t h l e b a k =
    by_itself t h l a
    (factor_held h l 0 0 (ap is_counted e ∙ one_counted) (subst (λ (x : Tree). IsBaseHeld x h l) (sym b) k) no_factor_held
    (at_most (power_high (counts_of (exponent_in t)) h l) h (ap (λ (c : Counts). power_high c h l) (ap counts_of e ∙ one_counts) ∙ omega arith))
    (at_most (power_low (counts_of (exponent_in t)) h l) l (ap (λ (c : Counts). power_low c h l) (ap counts_of e ∙ one_counts) ∙ omega arith)))
  where
    at_most : (x h : ℕ) → x ≡ h → x + 0 ≤ h
    at_most x h e = omega arith

pub symbol_is_held : (x : List ℕ) → IsTreeHeld (symbol x) 1 0
symbol_is_held x = base_alone (symbol x) 1 0 refl refl (symbol_addends x) (symbol_held (omega arith))

pub root_is_held : (a : Tree) (h l : ℕ) → is_number (root a) ≡ false → 1 ≤ h → IsTreeHeld a h l → IsTreeHeld (root a) h l
root_is_held a h l n p k =
    base_alone (root a) h l refl refl (ap (λ (b : Bool). if b then addend (value (root a)) none ∷ [] else addend_of (root a) ∷ []) n) (root_held p n k)

-- ---- held by more

pub tree_wider : {t : Tree} {h l k n : ℕ} → h ≤ k → l ≤ n → IsTreeHeld t h l → IsTreeHeld t k n
tree_wider x y undef_held = undef_held
tree_wider x y (sum_held ws a b) = sum_held ws a (wider_held x y b)
