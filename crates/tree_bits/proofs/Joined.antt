-- Addends and factors that are joined, replaced, reordered or left out.
use Rattle.tree_bits.proofs.Shared.{ℕ, ◌+◌, ◌*◌, ◌^◌, ◌≤◌, List, [], ◌∷◌, ◌++◌, min, sym, subst, arith, mul-le, pow-le-pow_right, Surd, parts_append, mass-append, IsNoLarger, mass, Tree, Trees, none}
use Rattle.tree_bits.proofs.Shared.{more, append, IsSumHeld, Counts, counts_of, Addend, addend, exponent_in, power_high, power_low, AreWeighted, more_weighted, IsPartHeld, factor_held, IsBaseHeld}
use Rattle.tree_bits.proofs.{Shared.{Weighted, weighted, PartsAll, lows, weighted_mass, AreHeld, IsJoint}, HeldTrees.{wider, part_by_both, base_by_both, high_at_most, low_at_most, min_first}}
use Rattle.tree_bits.proofs.HeldTrees.{min_second}

-- ---- factors

pub factor_left_out : (t : Tree) (ts : Trees) (h l : ℕ) → IsPartHeld (more t ts) h l → IsPartHeld ts h l
factor_left_out t ts h l (factor_held p q k n c b r x y) = wider (omega arith) (omega arith) r

pub swapped : {t u : Tree} {ts : Trees} {h l : ℕ} → IsPartHeld (more t (more u ts)) h l → IsPartHeld (more u (more t ts)) h l
swapped {t = t} {u = u} (factor_held p q k n c b (factor_held i j m o d e r x y) z w) =
    factor_held i j (power_high (counts_of (exponent_in t)) p q + m) (power_low (counts_of (exponent_in t)) p q + o) d e (factor_held p q m o c b r (omega arith) (omega arith)) (omega arith)
    (omega arith)

pub factor_to_front : (ts : Trees) (t : Tree) (us : Trees) (h l : ℕ) → IsPartHeld (append ts (more t us)) h l → IsPartHeld (more t (append ts us)) h l
factor_to_front none t us h l a = a
factor_to_front (more s ts) t us h l (factor_held p q k n c b r x y) = swapped (factor_held p q k n c b (factor_to_front ts t us k n r) x y)

pub factor_from_front : (ts : Trees) (t : Tree) (us : Trees) (h l : ℕ) → IsPartHeld (more t (append ts us)) h l → IsPartHeld (append ts (more t us)) h l
factor_from_front none t us h l a = a
factor_from_front (more s ts) t us h l a = by (factor_from_front ts t us) (swapped a)
  where
    by : ((k n : ℕ) → IsPartHeld (more t (append ts us)) k n → IsPartHeld (append ts (more t us)) k n) → IsPartHeld (more s (more t (append ts us))) h l
        → IsPartHeld (more s (append ts (more t us))) h l
    by f (factor_held p q k n c b r x y) = factor_held p q k n c b (f k n r) x y

joint_bits : (u v w x y z p q : ℕ) → w ≤ u + x → z ≤ v + y → w * p + z * q ≤ (u * p + v * q) + (x * p + y * q)
joint_bits u v w x y z p q a b =
    let c : w * p ≤ (u + x) * p = mul-le w p (u + x) p a (omega arith) in
    let d : z * q ≤ (v + y) * q = mul-le z q (v + y) q b (omega arith) in
    omega arith

together : (v a b s t k m h : ℕ) → v ≤ a + b → a ≤ s → b ≤ t → s + k ≤ h → t + m ≤ k → v + m ≤ h
together v a b s t k m h x y z w u = omega arith

pub factors_joined : (t u v : Tree) (ts : Trees) (h l : ℕ) → IsJoint t u v → IsPartHeld (more t (more u ts)) h l → IsPartHeld (more v ts) h l
factors_joined t u v ts h l e (factor_held p q k n c b (factor_held i j m o d f r x y) z w) =
    let s : Counts = counts_of (exponent_in t) in
    let a : Counts = counts_of (exponent_in u) in
    let g : Counts = counts_of (exponent_in v) in
    let hi : ℕ = min p i in
    let lo : ℕ = min q j in
    factor_held hi lo m o e.counted (subst (λ (x : Tree). IsBaseHeld x hi lo) (sym e.base) (base_by_both b (subst (λ (x : Tree). IsBaseHeld x i j) e.same f))) r
    (together (power_high g hi lo) (power_high s hi lo) (power_high a hi lo) (power_high s p q) (power_high a i j) k m h
    (joint_bits s.up s.down g.up a.up a.down g.down hi (hi + 2 * lo) e.within.up e.within.down)
    (high_at_most s hi lo p q (min_first p i) (min_first q j)) (high_at_most a hi lo i j (min_second p i) (min_second q j)) z x)
    (together (power_low g hi lo) (power_low s hi lo) (power_low a hi lo) (power_low s p q) (power_low a i j) n o l
    (joint_bits s.up s.down g.up a.up a.down g.down lo (2 * hi + 2 * lo) e.within.up e.within.down)
    (low_at_most s hi lo p q (min_first p i) (min_first q j)) (low_at_most a hi lo i j (min_second p i) (min_second q j)) w y)

-- ---- addends

-- the common denominators of ws are some of vs, which have no more mass over them and no more bits in their parts
record AreNoMore (ws vs : List Weighted) : Type 0 where
  parts : (d : ℕ) → PartsAll d ws → PartsAll d vs
  lows : lows vs ≤ lows ws
  mass : (e : ℕ) → PartsAll e ws → weighted_mass e vs ≤ weighted_mass e ws

no_more_held : {ws vs : List Weighted} {h l : ℕ} → AreNoMore ws vs → AreHeld ws h l → AreHeld vs h l
no_more_held {ws = ws} {vs = vs} {h = h} {l = l} m a = record {
  denominator = a.denominator;
  positive = a.positive;
  parts = m.parts a.denominator a.parts;
  low =
      let p : 2 ^ lows vs ≤ 2 ^ lows ws = pow-le-pow_right {n = 2} (omega arith) m.lows in
      let q : a.denominator * 2 ^ lows vs ≤ a.denominator * 2 ^ lows ws = mul-le a.denominator (2 ^ lows vs) a.denominator (2 ^ lows ws) (omega arith) p in
      let r : a.denominator * 2 ^ lows ws ≤ 2 ^ l = a.low in
      omega arith;
  scale = a.scale;
  scale_positive = a.scale_positive;
  scaled = m.parts a.scale a.scaled;
  high = let p : weighted_mass a.scale vs ≤ weighted_mass a.scale ws = m.mass a.scale a.scaled in let q : weighted_mass a.scale ws ≤ a.scale * 2 ^ h = a.high in omega arith;
}

-- addends ys whose weighted terms are no more than ws
record AreFewer (ys : List Addend) (ws : List Weighted) : Type 0 where
  terms : List Weighted
  weighted : AreWeighted ys terms
  fewer : AreNoMore ws terms

fewer_held : {xs ys : List Addend} {h l : ℕ} → ((ws : List Weighted) → AreWeighted xs ws → AreFewer ys ws) → IsSumHeld xs h l → IsSumHeld ys h l
fewer_held f a = let b = f a.terms a.weighted in record { terms = b.terms; weighted = b.weighted; held = no_more_held b.fewer a.held }

pub addend_left_out : (x : Addend) (xs : List Addend) (h l : ℕ) → IsSumHeld (x ∷ xs) h l → IsSumHeld xs h l
addend_left_out x xs h l a = fewer_held (λ ws. by) a
  where
    by : {ws : List Weighted} → AreWeighted (x ∷ xs) ws → AreFewer xs ws
    by (more_weighted {ws = ws} p q f r) = record { terms = ws; weighted = r; fewer = record { parts = λ d s. s.1; lows = omega arith; mass = λ e s. omega arith } }

to_front : (xs : List Addend) (y : Addend) (zs : List Addend) {ws : List Weighted} → AreWeighted (xs ++ (y ∷ zs)) ws → AreFewer (y ∷ (xs ++ zs)) ws
to_front [] y zs {ws = ws} a = record { terms = ws; weighted = a; fewer = record { parts = λ d s. s; lows = omega arith; mass = λ e s. omega arith } }
to_front (x ∷ xs) y zs (more_weighted p q f r) = by (to_front xs y zs r)
  where
    by : {ws : List Weighted} → AreFewer (y ∷ (xs ++ zs)) ws → AreFewer (y ∷ (x ∷ (xs ++ zs))) (weighted x.coefficient p q ∷ ws)
    by {ws = ws} b = at b.weighted b.fewer
      where
        at : {vs : List Weighted} → AreWeighted (y ∷ (xs ++ zs)) vs → AreNoMore ws vs → AreFewer (y ∷ (x ∷ (xs ++ zs))) (weighted x.coefficient p q ∷ ws)
        at (more_weighted {ws = vs} k n g s) m = record {
          terms = weighted y.coefficient k n ∷ (weighted x.coefficient p q ∷ vs);
          weighted = more_weighted k n g (more_weighted p q f s);
          fewer = record {
            parts = λ d c. let z = m.parts d c.1 in (z.0, (c.0, z.1));
            lows = let z : n + lows vs ≤ lows ws = m.lows in omega arith;
            mass = λ e c. let z : mass e y.coefficient * 2 ^ k + weighted_mass e vs ≤ weighted_mass e ws = m.mass e c.1 in omega arith;
          };
        }

pub addend_to_front : (xs : List Addend) (y : Addend) (zs : List Addend) (h l : ℕ) → IsSumHeld (xs ++ (y ∷ zs)) h l → IsSumHeld (y ∷ (xs ++ zs)) h l
addend_to_front xs y zs h l a = fewer_held (λ ws. to_front xs y zs) a

from_front : (xs : List Addend) (y : Addend) (zs : List Addend) {ws : List Weighted} → AreWeighted (y ∷ (xs ++ zs)) ws → AreFewer (xs ++ (y ∷ zs)) ws
from_front [] y zs {ws = ws} a = record { terms = ws; weighted = a; fewer = record { parts = λ d s. s; lows = omega arith; mass = λ e s. omega arith } }
from_front (x ∷ xs) y zs (more_weighted k n g (more_weighted {ws = ws} p q f r)) = by (from_front xs y zs (more_weighted k n g r))
  where
    by : AreFewer (xs ++ (y ∷ zs)) (weighted y.coefficient k n ∷ ws) → AreFewer (x ∷ (xs ++ (y ∷ zs))) (weighted y.coefficient k n ∷ (weighted x.coefficient p q ∷ ws))
    by b = record {
      terms = weighted x.coefficient p q ∷ b.terms;
      weighted = more_weighted p q f b.weighted;
      fewer = record {
        parts = λ d c. ((c.1).0, b.fewer.parts d (c.0, (c.1).1));
        lows = let z : lows b.terms ≤ n + lows ws = b.fewer.lows in omega arith;
        mass = λ e c. let z : weighted_mass e b.terms ≤ mass e y.coefficient * 2 ^ k + weighted_mass e ws = b.fewer.mass e (c.0, (c.1).1) in omega arith;
      };
    }

pub addend_from_front : (xs : List Addend) (y : Addend) (zs : List Addend) (h l : ℕ) → IsSumHeld (y ∷ (xs ++ zs)) h l → IsSumHeld (xs ++ (y ∷ zs)) h l
addend_from_front xs y zs h l a = fewer_held (λ ws. from_front xs y zs) a

pub addend_replaced : (c s : Surd) (ts : Trees) (xs : List Addend) (h l : ℕ) → IsNoLarger c s → IsSumHeld (addend c ts ∷ xs) h l → IsSumHeld (addend s ts ∷ xs) h l
addend_replaced c s ts xs h l i a = fewer_held (λ ws. by) a
  where
    by : {ws : List Weighted} → AreWeighted (addend c ts ∷ xs) ws → AreFewer (addend s ts ∷ xs) ws
    by (more_weighted {ws = ws} p q f r) = record {
      terms = weighted s p q ∷ ws;
      weighted = more_weighted p q f r;
      fewer = record {
        parts = λ d k. (i.parts d k.0, k.1);
        lows = omega arith;
        mass = λ e k. let z : mass e s * 2 ^ p ≤ mass e c * 2 ^ p = mul-le (mass e s) (2 ^ p) (mass e c) (2 ^ p) (i.mass e e k.0) (omega arith) in omega arith;
      };
    }

pub addends_joined : (c d s : Surd) (ts : Trees) (xs : List Addend) (h l : ℕ) → IsNoLarger (c ++ d) s → IsSumHeld (addend c ts ∷ (addend d ts ∷ xs)) h l → IsSumHeld (addend s ts ∷ xs) h l
addends_joined c d s ts xs h l i a = fewer_held (λ ws. by) a
  where
    least : (e p k : ℕ) → mass e s ≤ mass e (c ++ d) → mass e s * 2 ^ min p k ≤ mass e c * 2 ^ p + mass e d * 2 ^ k
    least e p k x =
        let u : 2 ^ min p k ≤ 2 ^ p = pow-le-pow_right {n = 2} (omega arith) (omega arith) in
        let v : 2 ^ min p k ≤ 2 ^ k = pow-le-pow_right {n = 2} (omega arith) (omega arith) in
        let y : mass e s * 2 ^ min p k ≤ (mass e c + mass e d) * 2 ^ min p k = mul-le (mass e s) (2 ^ min p k) (mass e c + mass e d) (2 ^ min p k) (omega (arith, x, mass-append e e c d)) (omega arith) in
        let z : mass e c * 2 ^ min p k ≤ mass e c * 2 ^ p = mul-le (mass e c) (2 ^ min p k) (mass e c) (2 ^ p) (omega arith) u in
        let w : mass e d * 2 ^ min p k ≤ mass e d * 2 ^ k = mul-le (mass e d) (2 ^ min p k) (mass e d) (2 ^ k) (omega arith) v in
        omega arith

    by : {ws : List Weighted} → AreWeighted (addend c ts ∷ (addend d ts ∷ xs)) ws → AreFewer (addend s ts ∷ xs) ws
    by (more_weighted p q f (more_weighted {ws = ws} k n g r)) = record {
      terms = weighted s (min p k) (min q n) ∷ ws;
      weighted = more_weighted (min p k) (min q n) (part_by_both f g) r;
      fewer = record {
        parts = λ e m. (i.parts e (parts_append e c d m.0 (m.1).0), (m.1).1);
        lows = omega arith;
        mass = λ e m. let z : mass e s * 2 ^ min p k ≤ mass e c * 2 ^ p + mass e d * 2 ^ k = least e p k (i.mass e e (parts_append e c d m.0 (m.1).0)) in omega arith;
      };
    }
