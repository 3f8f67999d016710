-- Trees as factors, products, and coefficients that are distributed.
use Rattle.std.proofs.Common.{◌≡◌, ℕ, ◌+◌, ◌*◌, ◌^◌, ◌-◌, ◌≤◌, List, [], ◌∷◌, Bool, true, false, if◌then◌else◌, not, negsuc, refl, sym, ap, ◌∙◌, subst, arith}
use Rattle.tree_bits.proofs.Shared.{mul-le, pow-add, is_number, value, Surd, term, surd_one, surd_times, Parts, magnitude_over, mass, IsHeld, two_powers, parts_times, mass_times, abs_cross}
use Rattle.tree_bits.proofs.Shared.{den_divides, magnitude_is, root_least, HighLow, lowest, one_fraction, minus_one_fraction, mul_pos, num_one, Tree, symbol, root, add, Trees, none, more, is_add}
use Rattle.tree_bits.proofs.Shared.{is_undef, Counts, counts, counts_of, IsSumHeld, AreTreesHeld, ArePositive, high_sum, low_sum, as_factor, multiplied, product_of, distributed, surd_minus_one}
use Rattle.tree_bits.proofs.Shared.{Addend, addend, addend_of, addends, base_in, exponent_in, power_high, power_low, IsTreeHeld, AreWeighted, none_weighted, more_weighted, IsPartHeld, no_factor_held}
use Rattle.tree_bits.proofs.{Shared.{factor_held, IsBaseHeld, symbol_held, root_held, tree_held, Weighted, weighted, PartsAll, lows, weighted_mass, AreHeld}, Children.{tree_as_sum, sum_as_tree}}
use Rattle.tree_bits.proofs.{HeldTrees.{parts_multiply}, Numbers.{alone}, Weighted.{split_off}, Sums.{tree_wider, one_weighted, one_counted, one_counts}}

-- ---- trees as factors

no_sum : (t : Tree) → is_add t ≡ false → addends t ≡ as_factor t ∷ []
no_sum t h = grind arith

pub as_number : (t : Tree) → is_number t ≡ true → as_factor t ≡ addend (value t) none
as_number t h = ap (λ (b : Bool). if b then addend (value t) none else addend_of t) h

as_base : (ts : Trees) → is_number (add ts) ≡ false → as_factor (add ts) ≡ addend surd_one (more (add ts) none)
as_base ts h = ap (λ (b : Bool). if b then addend (value (add ts)) none else addend_of (add ts)) h

base_once : (ts : Trees) (h l : ℕ) → 1 ≤ h → IsTreeHeld (add ts) h l → IsPartHeld (more (add ts) none) h l
base_once ts h l x k = factor_held h l 0 0 one_counted (tree_held x refl k) no_factor_held
    (exactly (power_high (counts_of num_one) h l) h (ap (λ (c : Counts). power_high c h l) one_counts ∙ omega arith))
    (exactly (power_low (counts_of num_one) h l) l (ap (λ (c : Counts). power_low c h l) one_counts ∙ omega arith))
  where
    exactly : (x h : ℕ) → x ≡ h → x + 0 ≤ h
    exactly x h e = omega arith

pub factor_is_held : (t : Tree) (h l : ℕ) → is_undef t ≡ false → 1 ≤ h → IsTreeHeld t h l → IsSumHeld (as_factor t ∷ []) h l
factor_is_held t h l u x k = by t u k (is_number t) refl
  where
    held_as : (t : Tree) → addends t ≡ as_factor t ∷ [] → is_undef t ≡ false → IsTreeHeld t h l → IsSumHeld (as_factor t ∷ []) h l
    held_as t e u k = subst (λ (xs : List Addend). IsSumHeld xs h l) e (tree_as_sum u k)

    by : (t : Tree) → is_undef t ≡ false → IsTreeHeld t h l → (b : Bool) → is_number t ≡ b → IsSumHeld (as_factor t ∷ []) h l
    by (add ts) u k true n = held_as (add ts) (alone (add ts) n ∙ ap (λ (a : Addend). a ∷ []) (sym (as_number (add ts) n))) u k
    by (add ts) u k false n = subst (λ (a : Addend). IsSumHeld (a ∷ []) h l) (sym (as_base ts n)) (record {
      terms = weighted surd_one h l ∷ [];
      weighted = more_weighted h l (base_once ts h l x k) none_weighted;
      held = one_weighted h l;
    })
    by t u k b n = held_as t (no_sum t refl) u k

base_wider : {b : Tree} {h l k n : ℕ} → h ≤ k → l ≤ n → IsBaseHeld b h l → IsBaseHeld b k n
base_wider x y (symbol_held z) = symbol_held (omega arith)
base_wider x y (root_held z o a) = root_held (omega arith) o (tree_wider x y a)
base_wider x y (tree_held z o a) = tree_held (omega arith) o (tree_wider x y a)

-- what holds a base once holds it as a base
as_once : {t : Tree} {h l : ℕ} {ws : List Weighted} → exponent_in t ≡ num_one → base_in t ≡ t → AreWeighted (addend surd_one (more t none) ∷ []) ws → AreHeld ws h l → IsBaseHeld t h l
as_once {t = t} {h = h} {l = l} e g (more_weighted p q (factor_held i j k n c a r x y) none_weighted) b =
    let s : (p ≤ h) × (q ≤ l) × IsHeld surd_one (h - p) (l - q) = split_off (term one_fraction 1) [] h l p q b in
    let once : counts_of (exponent_in t) ≡ counts 1 0 = ap counts_of e ∙ one_counts in
    base_wider (within i (i + 2 * j) (power_high (counts_of (exponent_in t)) i j) k p h (ap (λ (c : Counts). power_high c i j) once) x s.0)
    (within j (2 * i + 2 * j) (power_low (counts_of (exponent_in t)) i j) n q l (ap (λ (c : Counts). power_low c i j) once) y s.1) (subst (λ (u : Tree). IsBaseHeld u i j) g a)
  where
    within : (i j x k p h : ℕ) → x ≡ 1 * i + 0 * j → x + k ≤ p → p ≤ h → i ≤ h
    within i j x k p h e u s = omega arith

-- what holds a sum as a base holds it as a tree
base_as_tree : {ts : Trees} {h l : ℕ} → IsBaseHeld (add ts) h l → IsTreeHeld (add ts) h l
base_as_tree (tree_held x o a) = a

pub tree_as_base : (t : Tree) (h l : ℕ) → 1 ≤ h → IsTreeHeld t h l → IsBaseHeld t h l
tree_as_base (symbol x) h l p a = symbol_held p
tree_as_base (root b) h l p a = by (is_number (root b)) refl
  where
    alone_as : is_number (root b) ≡ false → IsSumHeld (addend surd_one (more (root b) none) ∷ []) h l
    alone_as n = subst (λ (xs : List Addend). IsSumHeld xs h l) (ap (λ (c : Bool). if c then addend (value (root b)) none ∷ [] else addend_of (root b) ∷ []) n) (tree_as_sum refl a)

    by : (c : Bool) → is_number (root b) ≡ c → IsBaseHeld (root b) h l
    by true n = tree_held p (ap not n) a
    by false n = let s = alone_as n in as_once refl refl s.weighted s.held
tree_as_base t h l p a = tree_held p refl a

pub factor_as_tree : (t : Tree) (h l : ℕ) → IsSumHeld (as_factor t ∷ []) h l → IsTreeHeld t h l
factor_as_tree t h l a = by t a (is_number t) refl
  where
    tree_as : (t : Tree) → addends t ≡ as_factor t ∷ [] → IsSumHeld (as_factor t ∷ []) h l → IsTreeHeld t h l
    tree_as t e a = sum_as_tree t h l (subst (λ (xs : List Addend). IsSumHeld xs h l) (sym e) a)

    once : (ts : Trees) → IsSumHeld (addend surd_one (more (add ts) none) ∷ []) h l → IsTreeHeld (add ts) h l
    once ts a = base_as_tree (as_once refl refl a.weighted a.held)

    by : (t : Tree) → IsSumHeld (as_factor t ∷ []) h l → (b : Bool) → is_number t ≡ b → IsTreeHeld t h l
    by (add ts) a true n = tree_as (add ts) (alone (add ts) n ∙ ap (λ (x : Addend). x ∷ []) (sym (as_number (add ts) n))) a
    by (add ts) a false n = once ts (subst (λ (x : Addend). IsSumHeld (x ∷ []) h l) (as_base ts n) a)
    by t a b n = tree_as t (no_sum t refl) a

-- ---- products

low_times : (d e q s l n : ℕ) → d * 2 ^ (q + 0) ≤ 2 ^ l → e * 2 ^ (s + 0) ≤ 2 ^ n → (d * e) * 2 ^ ((q + s) + 0) ≤ 2 ^ (l + n)
low_times d e q s l n h k =
    let x : (d * 2 ^ (q + 0)) * (e * 2 ^ (s + 0)) ≤ 2 ^ l * 2 ^ n = mul-le (d * 2 ^ (q + 0)) (e * 2 ^ (s + 0)) (2 ^ l) (2 ^ n) h k in
    subst (λ z. (d * e) * 2 ^ z ≤ 2 ^ (l + n)) (together q s) (
    subst (λ z. (d * e) * z ≤ 2 ^ (l + n)) (sym (pow-add 2 (q + 0) (s + 0))) (subst (λ z. (d * e) * (2 ^ (q + 0) * 2 ^ (s + 0)) ≤ z) (sym (pow-add 2 l n)) (omega (arith, x))))
  where
    together : (q s : ℕ) → (q + 0) + (s + 0) ≡ (q + s) + 0
    together q s = omega arith

high_times : (m c d i e p r h k : ℕ) → m ≤ c * d → c * 2 ^ p + 0 ≤ i * 2 ^ h → d * 2 ^ r + 0 ≤ e * 2 ^ k → m * 2 ^ (p + r) + 0 ≤ (i * e) * 2 ^ (h + k)
high_times m c d i e p r h k x y z =
    let a : (c * 2 ^ p) * (d * 2 ^ r) ≤ (i * e) * 2 ^ (h + k) = two_powers (c * 2 ^ p) (d * 2 ^ r) i e h k (omega arith) (omega arith) in
    let b : m * (2 ^ p * 2 ^ r) ≤ (c * d) * (2 ^ p * 2 ^ r) = mul-le m (2 ^ p * 2 ^ r) (c * d) (2 ^ p * 2 ^ r) x (omega arith) in
    subst (λ t. m * t + 0 ≤ (i * e) * 2 ^ (h + k)) (sym (pow-add 2 p r)) (omega arith)

one_times_one : (c d : Surd) (p q r s h l k n : ℕ) → AreHeld (weighted c p q ∷ []) h l → AreHeld (weighted d r s ∷ []) k n → AreHeld (weighted (surd_times c d) (p + r) (q + s) ∷ []) (h + k) (l + n)
one_times_one c d p q r s h l k n a b = record {
  denominator = a.denominator * b.denominator;
  positive = mul_pos a.denominator b.denominator a.positive b.positive;
  parts = (parts_times a.denominator b.denominator c d a.parts.0 b.parts.0, tt);
  low = low_times a.denominator b.denominator q s l n a.low b.low;
  scale = a.scale * b.scale;
  scale_positive = mul_pos a.scale b.scale a.scale_positive b.scale_positive;
  scaled = (parts_times a.scale b.scale c d a.scaled.0 b.scaled.0, tt);
  high =
      high_times (mass (a.scale * b.scale) (surd_times c d)) (mass a.scale c) (mass b.scale d) a.scale b.scale p r h k
      (mass_times a.scale b.scale a.scale b.scale c d a.scaled.0 b.scaled.0) a.high b.high;
}

pub multiplied_held : (x y : Addend) (h l k n : ℕ) → IsSumHeld (x ∷ []) h l → IsSumHeld (y ∷ []) k n → IsSumHeld (multiplied x y ∷ []) (h + k) (l + n)
multiplied_held x y h l k n a b = by a.weighted a.held b.weighted b.held
  where
    by : {ws vs : List Weighted} → AreWeighted (x ∷ []) ws → AreHeld ws h l → AreWeighted (y ∷ []) vs → AreHeld vs k n → IsSumHeld (multiplied x y ∷ []) (h + k) (l + n)
    by (more_weighted p q f none_weighted) c (more_weighted r s g none_weighted) d = record {
      terms = weighted (surd_times x.coefficient y.coefficient) (p + r) (q + s) ∷ [];
      weighted = more_weighted (p + r) (q + s) (parts_multiply f g) none_weighted;
      held = one_times_one x.coefficient y.coefficient p q r s h l k n c d;
    }

pub products_held : (ts : Trees) (bs : List HighLow) → AreTreesHeld ts bs → ArePositive bs → IsSumHeld (product_of ts ∷ []) (high_sum bs) (low_sum bs)
products_held none [] k x = record { terms = weighted surd_one 0 0 ∷ []; weighted = more_weighted 0 0 no_factor_held none_weighted; held = one_weighted 0 0 }
products_held none (b ∷ bs) k x = elim k [ ]
products_held (more t ts) [] k x = elim k [ ]
products_held (more t ts) (b ∷ bs) (u, k, ks) (x, xs) =
    multiplied_held (as_factor t) (product_of ts) b.high b.low (high_sum bs) (low_sum bs) (factor_is_held t b.high b.low u x k) (products_held ts bs ks xs)

-- ---- distributed coefficients

-- each coefficient times c, the bits of the parts as before
abbrev times_each : Surd → List Weighted → List Weighted
times_each c [] = []
times_each c (w ∷ ws) = weighted (surd_times c w.coefficient) w.high w.low ∷ times_each c ws

times_lows : (c : Surd) (ws : List Weighted) → lows (times_each c ws) ≡ lows ws
times_lows c [] = refl
times_lows c (w ∷ ws) = ap (λ n. w.low + n) (times_lows c ws)

times_parts : (d e : ℕ) (c : Surd) (ws : List Weighted) → Parts d c → PartsAll e ws → PartsAll (d * e) (times_each c ws)
times_parts d e c [] p q = tt
times_parts d e c (w ∷ ws) p (q, qs) = (parts_times d e c w.coefficient p q, times_parts d e c ws p qs)

times_mass : (d e : ℕ) (c : Surd) (ws : List Weighted) → Parts d c → PartsAll e ws → weighted_mass (d * e) (times_each c ws) ≤ mass d c * weighted_mass e ws
times_mass d e c [] p q = omega arith
times_mass d e c (w ∷ ws) p (q, qs) =
    both (mass (d * e) (surd_times c w.coefficient)) (mass d c) (mass e w.coefficient) (2 ^ w.high) (weighted_mass (d * e) (times_each c ws)) (weighted_mass e ws)
    (mass_times d e d e c w.coefficient p q) (times_mass d e c ws p qs)
  where
    both : (m c d p x y : ℕ) → m ≤ c * d → x ≤ c * y → m * p + x ≤ c * (d * p + y)
    both m c d p x y h k = let a : m * p ≤ (c * d) * p = mul-le m p (c * d) p h (omega arith) in omega arith

pub times_weighted : {xs : List Addend} {ws : List Weighted} (c : Surd) → AreWeighted xs ws → AreWeighted (distributed c xs) (times_each c ws)
times_weighted c none_weighted = none_weighted
times_weighted c (more_weighted h l p a) = more_weighted h l p (times_weighted c a)

times_held : (c : Surd) (ws : List Weighted) (h l k n : ℕ) → IsHeld c k n → AreHeld ws h l → AreHeld (times_each c ws) (k + h) (n + l)
times_held c ws h l k n a b = record {
  denominator = a.denominator * b.denominator;
  positive = mul_pos a.denominator b.denominator a.parts.positive b.positive;
  parts = times_parts a.denominator b.denominator c ws a.parts b.parts;
  low =
      let x : a.denominator * (b.denominator * 2 ^ lows ws) ≤ 2 ^ n * 2 ^ l = mul-le a.denominator (b.denominator * 2 ^ lows ws) (2 ^ n) (2 ^ l) a.low b.low in
      subst (λ z. (a.denominator * b.denominator) * 2 ^ z ≤ 2 ^ (n + l)) (sym (times_lows c ws)) (omega (arith, x, pow-add 2 n l));
  scale = a.scale * b.scale;
  scale_positive = mul_pos a.scale b.scale a.scaled.positive b.scale_positive;
  scaled = times_parts a.scale b.scale c ws a.scaled b.scaled;
  high =
      let x : weighted_mass (a.scale * b.scale) (times_each c ws) ≤ mass a.scale c * weighted_mass b.scale ws = times_mass a.scale b.scale c ws a.scaled b.scaled in
      let y : mass a.scale c * weighted_mass b.scale ws ≤ (a.scale * b.scale) * 2 ^ (k + h) = two_powers (mass a.scale c) (weighted_mass b.scale ws) a.scale b.scale k h a.high b.high in
      omega arith;
}

pub distributed_held : (c : Surd) (xs : List Addend) (h l k n : ℕ) → IsHeld c k n → IsSumHeld xs h l → IsSumHeld (distributed c xs) (k + h) (n + l)
distributed_held c xs h l k n a b = record { terms = times_each c b.terms; weighted = times_weighted c b.weighted; held = times_held c b.terms h l k n a b.held }

minus_one_magnitude : magnitude_over 1 minus_one_fraction ≡ 1
minus_one_magnitude = magnitude_is 1 (lowest (negsuc 0) 1) 1 1 1 (den_divides (negsuc 0) 1 (omega arith)) (omega arith) (abs_cross (negsuc 0) 1 (omega arith)) refl

pub minus_one_held : IsHeld surd_minus_one 0 0
minus_one_held = grind (arith, root_least, minus_one_magnitude, den_divides)
