-- What holds factors one by one, where two neighbours of one base are taken out and another factor is put in their place.
use Rattle.product_reduce.proofs.Shared.{List, [], ◌∷◌, ℕ, zero, suc, ◌+◌, ◌≤◌, ◌<◌, ◌≡◌, true, false, ◌&&◌, refl, sym, ◌∙◌, arith, true≢false, and_parts, is_number, natural_of, is_reduced}
use Rattle.product_reduce.proofs.Shared.{are_reduced, term, IsHeld, Fraction, Tree, num, root, mult, Trees, none, more, count, is_mult, removed, AreTreesHeld, ArePositive, high_sum, low_sum}
use Rattle.product_reduce.proofs.Shared.{IsPartHeld, factor_is_held, parts_multiply, nth, inserted, IsFactorHeld, AreFactorsHeld, none_held, factor_held, term_held, is_single, is_pair, IsPairAt}
use Rattle.product_reduce.proofs.{Shared.{reduced_parts, HighLow}, HeldFactors.{single_part, factors_held, root_number}}

-- ---- trees

pub trees_as_factors : (ts : Trees) (bs : List HighLow) → AreTreesHeld ts bs → ArePositive bs → AreFactorsHeld ts (high_sum bs) (low_sum bs)
trees_as_factors none [] k x = none_held
trees_as_factors none (b ∷ bs) k x = elim k [ ]
trees_as_factors (more t ts) [] k x = elim k [ ]
trees_as_factors (more t ts) (b ∷ bs) (u, k, ks) (x, xs) =
    factor_held b.high b.low (high_sum bs) (low_sum bs) (factor_is_held t b.high b.low u x k) (trees_as_factors ts bs ks xs) (omega arith) (omega arith)

pub product_as_factors : (us : Trees) (h l : ℕ) → is_reduced (mult us) ≡ true → IsFactorHeld (mult us) h l → AreFactorsHeld us h l
product_as_factors us h l r a = factors_held (mult us) (reduced_parts (mult us) r refl) a

-- ---- two neighbours

single_is : (t : Tree) → is_single t ≡ true → (is_number t ≡ false) × (is_mult t ≡ false)
single_is t h = grind arith

-- the two are held together, and what is held so may take their place
abbrev pub HoldsPair : ℕ → Trees → ℕ → ℕ → Type 0
HoldsPair at ts h l =
    (p q : ℕ) × (p ≤ h) × (q ≤ l) × IsPartHeld (more (nth at ts) (more (nth (suc at) ts) none)) p q
    × ((v : Tree) → IsFactorHeld v p q → AreFactorsHeld (inserted at (more v none) (removed at (removed (suc at) ts))) h l)

rational_no_single : (c : Fraction) → is_single (num c) ≡ true → ⊥
unfolding is_number
rational_no_single c e = cc

first_pair : (t u : Tree) (ts : Trees) {p q k n h l : ℕ} → is_single t ≡ true → is_single u ≡ true → IsFactorHeld t p q → AreFactorsHeld (more u ts) k n → p + k ≤ h → q + n ≤ l
    → HoldsPair 0 (more t (more u ts)) h l
first_pair t u ts {p = p} {q = q} s r a (factor_held i j m d b c x y) z w = (
  p + i,
  q + j,
  omega arith,
  omega arith,
  parts_multiply (single_part t (single_is t s).0 (single_is t s).1 a) (single_part u (single_is u r).0 (single_is u r).1 b),
  λ v f. factor_held (p + i) (q + j) m d f c (omega arith) (omega arith),
)
first_pair t (num c) ts s r a (term_held i j m d b e x y) z w = absurd (rational_no_single c r)

-- other factors in front
behind_one : (at : ℕ) (t : Tree) (ts : Trees) {p q k n h l : ℕ} → IsFactorHeld t p q → HoldsPair at ts k n → p + k ≤ h → q + n ≤ l → HoldsPair (suc at) (more t ts) h l
behind_one at t ts {p = p} {q = q} {k = k} {n = n} a (i, j, u, w, b, f) x y = (i, j, omega arith, omega arith, b, λ v g. factor_held p q k n a (f v g) x y)

behind_two : (at : ℕ) (c r : Fraction) (ts : Trees) {p q k n h l : ℕ} → IsHeld (term c (natural_of r.num) ∷ []) p q → HoldsPair at ts k n → p + k ≤ h → q + n ≤ l
    → HoldsPair (suc (suc at)) (more (num c) (more (root (num r)) ts)) h l
behind_two at c r ts {p = p} {q = q} {k = k} {n = n} a (i, j, u, w, b, f) x y = (i, j, omega arith, omega arith, b, λ v g. term_held p q k n a (f v g) x y)

root_no_single : (r : Fraction) → is_reduced (root (num r)) ≡ true → is_single (root (num r)) ≡ true → ⊥
root_no_single r e s = true≢false (sym (root_number r (reduced_parts (root (num r)) e refl)) ∙ (single_is (root (num r)) s).0)

reduced_tail : (t : Tree) (ts : Trees) → are_reduced (more t ts) ≡ true → are_reduced ts ≡ true
reduced_tail t ts h = (and_parts (is_reduced t) (are_reduced ts) h).1

both_single : (t u : Tree) → is_pair t u ≡ true → (is_single t ≡ true) × (is_single u ≡ true)
both_single t u e = and_parts (is_single t) (is_single u) (and_parts (is_single t && is_single u) _ e).0

pair_held : (at : ℕ) (ts : Trees) {h l : ℕ} → suc at < count ts → is_pair (nth at ts) (nth (suc at) ts) ≡ true → are_reduced ts ≡ true → AreFactorsHeld ts h l → HoldsPair at ts h l
pair_held at none w e r a = absurd (omega arith)
pair_held at (more t none) w e r a = absurd (omega arith)
pair_held zero (more t (more u ts)) w e r (factor_held p q k n a b x y) = first_pair t u ts (both_single t u e).0 (both_single t u e).1 a b x y
pair_held zero (more (num c) (more u ts)) w e r (term_held p q k n a b x y) = absurd (rational_no_single c (both_single (num c) u e).0)
pair_held (suc at) (more t (more u ts)) w e r (factor_held p q k n a b x y) = behind_one at t (more u ts) a (pair_held at (more u ts) (omega arith) e (reduced_tail t (more u ts) r) b) x y
pair_held (suc zero) (more (num c) (more (root (num d)) ts)) w e r (term_held p q k n a b x y) = grind (arith, root_no_single, reduced_tail, both_single)
pair_held (suc (suc at)) (more (num c) (more (root (num d)) ts)) w e r (term_held p q k n a b x y) =
    behind_two at c d ts a (pair_held at ts (omega arith) e (reduced_tail (root (num d)) ts (reduced_tail (num c) (more (root (num d)) ts) r)) b) x y

pub neighbours_held : (at : ℕ) (ts : Trees) (h l : ℕ) → IsPairAt at ts → are_reduced ts ≡ true → AreFactorsHeld ts h l → HoldsPair at ts h l
neighbours_held at ts h l p r a = pair_held at ts p.within p.pair r a
