-- Polynomials in two parts, one of which is joined to a sum: both are held as the whole is.
use Rattle.expand_forms.proofs.Shared.{◌≡◌, ℕ, zero, suc, ◌+◌, ◌^◌, ◌≤◌, ◌<◌, [], ◌∷◌, pos, true, refl, sym, ap, ◌∙◌, subst, arith, mul-le, pow-add, pow_below, magnitude_over}
use Rattle.expand_forms.proofs.Shared.{den_divides, magnitude_lowest, fraction_fits, sum_fits, Fraction, lowest, Tree, Trees, count, term_trees, AreWhole, IsHeld, mass, Polynomial, Summand}
use Rattle.expand_forms.proofs.{Shared.{polynomial_of, IsSum, coefficient_in, children_of, nth, ◌∣◌, sum_polynomial_is, term_coefficient, multiple_fits, sum_fits_over}, TermReadings.{sum_children}}

-- ---- what fits

small_denominator : {v : Polynomial} {h l : ℕ} (x : IsHeld v h l) → h + l < 127 → x.denominator < 2 ^ 127
small_denominator {v} {h} {l} x k = omega (arith, x.low, pow_below l 127 (omega arith))

small_mass : {v : Polynomial} {h l : ℕ} (x : IsHeld v h l) → h + l < 127 → mass x.denominator v < 2 ^ 127
small_mass {v} {h} {l} x k = omega (arith, x.high, mul-le x.denominator (2 ^ h) (2 ^ l) (2 ^ h) x.low (omega arith), pow-add 2 l h, pow_below (l + h) 127 (omega arith))

-- the first summand, and its sum with another
pub first_fits : (s : Summand) {v : Polynomial} {h l : ℕ} → IsHeld (s ∷ v) h l → h + l < 127 → fraction_fits s.coefficient ≡ true
first_fits s {v} {h} {l} x k =
    let d = x.denominator in
    multiple_fits d s.coefficient x.positive x.whole.0 (small_denominator x k) (omega (arith, small_mass x k))

pub nth_whole : (d n : ℕ) (v : Polynomial) → n < count (term_trees v) → AreWhole d v
    → ((coefficient_in (nth n (term_trees v))).den ∣ d) × (magnitude_over d (coefficient_in (nth n (term_trees v))) ≤ mass d v)
nth_whole d n [] l h = absurd (omega arith)
nth_whole d zero (s ∷ v) l h = (subst (λ (q : Fraction). q.den ∣ d) (sym (term_coefficient s)) h.0, omega (arith, ap (magnitude_over d) (term_coefficient s)))
nth_whole d (suc n) (s ∷ v) l h = let (a, b) = nth_whole d n v (omega (arith, l)) h.1 in (a, omega (arith, b))

pub sum_fits_beside : (s : Summand) {v : Polynomial} {h l : ℕ} (n : ℕ) → n < count (term_trees v) → IsHeld (s ∷ v) h l → h + l < 127
    → sum_fits (coefficient_in (nth n (term_trees v))) s.coefficient ≡ true
sum_fits_beside s {v} {h} {l} n few x k =
    let d = x.denominator in
    let (a, b) = nth_whole d n v few x.whole.1 in
    sum_fits_over (coefficient_in (nth n (term_trees v))) s.coefficient d x.positive a x.whole.0 (small_denominator x k) (omega (arith, small_mass x k, b))

-- its sum with the coefficient of a term of the sum
pub total_fits : {t : Tree} (s : IsSum t) (z : Summand) {h l : ℕ} (n : ℕ) → n < count (children_of t) → IsHeld (z ∷ polynomial_of t) h l → h + l < 127 → (a : Fraction)
    → a ≡ coefficient_in (nth n (children_of t)) → sum_fits a z.coefficient ≡ true
total_fits s z {h} {l} n few x k a e =
    let c = sum_children s in
    let held = subst (λ (p : Polynomial). IsHeld (z ∷ p) h l) (sum_polynomial_is s) x in
    ap (λ (q : Fraction). sum_fits q z.coefficient) (e ∙ ap (λ (ts : Trees). coefficient_in (nth n ts)) c) ∙ sum_fits_beside z n (subst (λ (ts : Trees). n < count ts) c few) held k

-- the sum of two exponents
pub exponents_fit : (f g : ℕ) → f + g < 2 ^ 127 → sum_fits (lowest (pos f) 1) (lowest (pos g) 1) ≡ true
exponents_fit f g l =
    let a = den_divides (pos f) 1 (omega arith) in
    let b = den_divides (pos g) 1 (omega arith) in
    sum_fits_over (lowest (pos f) 1) (lowest (pos g) 1) 1 (omega arith) a b (omega arith)
    (omega (arith, magnitude_lowest 1 (pos f) 1 f (omega arith) a refl, magnitude_lowest 1 (pos g) 1 g (omega arith) b refl, l))
