-- What holds trees: the lesser of two bounds, and products of parts.
use Rattle.tree_bits.proofs.Shared.{◌≡◌, ℕ, ◌+◌, ◌≤◌, List, ◌∷◌, min, Bool, true, false, not, refl, ap, arith, is_number, Surd, Tree, root, Trees, append, Counts, counts_of, Addend, exponent_in}
use Rattle.tree_bits.proofs.Shared.{power_high, power_low, IsTreeHeld, undef_held, sum_held, AreWeighted, none_weighted, more_weighted, IsPartHeld, no_factor_held, factor_held, IsBaseHeld}
use Rattle.tree_bits.proofs.{Shared.{symbol_held, root_held, tree_held, Weighted, coefficients, lesser}, Weighted.{held_by_both}}

-- ---- powers of a base that is held by less

pub high_at_most : (c : Counts) (p q h l : ℕ) → p ≤ h → q ≤ l → power_high c p q ≤ power_high c h l
high_at_most c p q h l x y = grind arith

pub low_at_most : (c : Counts) (p q h l : ℕ) → p ≤ h → q ≤ l → power_low c p q ≤ power_low c h l
low_at_most c p q h l x y = grind arith

pub min_first : (a b : ℕ) → min a b ≤ a
min_first a b = omega arith

pub min_second : (a b : ℕ) → min a b ≤ b
min_second a b = omega arith

at_least : (x a b k n h m : ℕ) → x ≤ a → x ≤ b → a + k ≤ h → b + n ≤ m → x + min k n ≤ min h m
at_least x a b k n h m s t u v = omega arith

positive_both : (a b : ℕ) → 1 ≤ a → 1 ≤ b → 1 ≤ min a b
positive_both a b x y = omega arith

same_coefficients : {all : List Addend} {ws vs : List Weighted} → AreWeighted all ws → AreWeighted all vs → coefficients ws ≡ coefficients vs
same_coefficients none_weighted none_weighted = refl
same_coefficients (more_weighted {a = a} h l p x) (more_weighted k n q y) = ap (λ (cs : List Surd). a.coefficient ∷ cs) (same_coefficients x y)

no_number : (b : Bool) → b ≡ false → not b ≡ false → ⊥
no_number b h k = grind arith

-- ---- the lesser of two bounds

mutual
  pub tree_by_both : {t : Tree} {h k l n : ℕ} → IsTreeHeld t h l → IsTreeHeld t k n → IsTreeHeld t (min h k) (min l n)
  tree_by_both undef_held y = undef_held
  tree_by_both (sum_held ws a x) undef_held = undef_held
  tree_by_both {h = h} {k = k} {l = l} {n = n} (sum_held ws a x) (sum_held vs b y) = sum_held (lesser ws vs) (weighted_by_both a b) (held_by_both ws vs h k l n (same_coefficients a b) x y)

  weighted_by_both : {all : List Addend} {ws vs : List Weighted} → AreWeighted all ws → AreWeighted all vs → AreWeighted all (lesser ws vs)
  weighted_by_both none_weighted none_weighted = none_weighted
  weighted_by_both (more_weighted h l p x) (more_weighted k n q y) = more_weighted (min h k) (min l n) (part_by_both p q) (weighted_by_both x y)

  pub part_by_both : {ts : Trees} {h k l n : ℕ} → IsPartHeld ts h l → IsPartHeld ts k n → IsPartHeld ts (min h k) (min l n)
  part_by_both no_factor_held no_factor_held = no_factor_held
  part_by_both (factor_held {t = t} p q k n c b r x y) (factor_held p' q' k' n' c' b' r' x' y') =
      factor_held (min p p') (min q q') (min k k') (min n n') c (base_by_both b b') (part_by_both r r')
      (at_least _ (power_high (counts_of (exponent_in t)) p q) (power_high (counts_of (exponent_in t)) p' q') k k' _ _ (high_at_most _ _ _ p q (min_first p p') (min_first q q')) (high_at_most _ _ _ p' q' (min_second p p') (min_second q q')) x x')
      (at_least _ (power_low (counts_of (exponent_in t)) p q) (power_low (counts_of (exponent_in t)) p' q') n n' _ _ (low_at_most _ _ _ p q (min_first p p') (min_first q q')) (low_at_most _ _ _ p' q' (min_second p p') (min_second q q')) y y')

  pub base_by_both : {b : Tree} {h k l n : ℕ} → IsBaseHeld b h l → IsBaseHeld b k n → IsBaseHeld b (min h k) (min l n)
  base_by_both (symbol_held x) (symbol_held y) = symbol_held (positive_both _ _ x y)
  base_by_both (root_held x i a) (root_held y j b) = root_held (positive_both _ _ x y) i (tree_by_both a b)
  base_by_both (tree_held x i a) (tree_held y j b) = tree_held (positive_both _ _ x y) i (tree_by_both a b)
  base_by_both (symbol_held x) (tree_held y j b) = absurd (let r : true ≡ false = j in cc)
  base_by_both (tree_held x i a) (symbol_held y) = absurd (let r : true ≡ false = i in cc)
  base_by_both (root_held {a = t} x i a) (tree_held y j b) = absurd (no_number (is_number (root t)) i j)
  base_by_both (tree_held x i a) (root_held {a = t} y j b) = absurd (no_number (is_number (root t)) j i)

-- ---- products of parts

more_bits : (x k h n : ℕ) → x + k ≤ h → x + (k + n) ≤ h + n
more_bits x k h n e = omega arith

pub wider : {ts : Trees} {h l k n : ℕ} → h ≤ k → l ≤ n → IsPartHeld ts h l → IsPartHeld ts k n
wider x y no_factor_held = no_factor_held
wider {h = h} {l = l} {k = k} {n = n} x y (factor_held {t = t} p q i j c b r u v) =
    factor_held p q i j c b r (through (power_high (counts_of (exponent_in t)) p q + i) h k u x) (through (power_low (counts_of (exponent_in t)) p q + j) l n v y)
  where
    through : (a b c : ℕ) → a ≤ b → b ≤ c → a ≤ c
    through a b c s t = omega arith

pub parts_multiply : {ts us : Trees} {h k l n : ℕ} → IsPartHeld ts h l → IsPartHeld us k n → IsPartHeld (append ts us) (h + k) (l + n)
parts_multiply {h = h} {k = k} {l = l} {n = n} no_factor_held s = wider (omega arith) (omega arith) s
parts_multiply {h = h} {k = k} {l = l} {n = n} (factor_held {t = t} p q i j c b r u v) s =
    factor_held p q (i + k) (j + n) c b (parts_multiply r s) (more_bits (power_high (counts_of (exponent_in t)) p q) i h k u) (more_bits (power_low (counts_of (exponent_in t)) p q) j l n v)
