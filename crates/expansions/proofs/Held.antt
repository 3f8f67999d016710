-- Polynomials that are held by bits: their sums, products and powers, and their normal forms.
use Rattle.expansions.proofs.Shared.{one_magnitude, ◌≡◌, ℕ, zero, suc, ◌+◌, ◌*◌, ◌^◌, ◌≤◌, ◌<◌, pos, negsuc, [], ◌∷◌, sym, subst, arith, one-dvd, pow-le-pow_right, mul-le, pow-add, dvd_trans}
use Rattle.expansions.proofs.Shared.{magnitude_over, ◌++◌, den_divides, magnitude_lowest, lowest, minus_one_fraction, mul_pos, one_fraction, zero_fraction, Tree, expanded, normal, sum_tree}
use Rattle.expansions.proofs.Shared.{term_trees, IsHeld, mass, AreMonomials, IsMonomial, Polynomial, constant, product, raised, scaled, polynomial_of, ◌∣◌, two_powers}
use Rattle.expansions.proofs.{AllMonomials.{AllHave, normal_all}, Gathered.{gathered_held, gathered_normal}, Masses.{mass_product, more_exponents, product_exponents, whole_product, whole_right}}
use Rattle.expansions.proofs.{Masses.{mass_append, exponents_right}, SameCoefficients.{constant_product}, TermPolynomials.{terms_polynomial, term_polynomial}, TreeMonomials.{all_monomials}}

-- ---- more bits

pub held_more : {v : Polynomial} {h l g k : ℕ} → IsHeld v h l → h ≤ g → l ≤ k → IsHeld v g k
held_more {v} {h} {l} {g} {k} x a b = record {
  denominator = x.denominator;
  positive = x.positive;
  whole = x.whole;
  low = omega (arith, x.low, pow-le-pow_right {n = 2} (omega arith) b);
  high = omega (arith, x.high, mul-le x.denominator (2 ^ h) x.denominator (2 ^ g) (omega arith) (pow-le-pow_right {n = 2} (omega arith) a));
  exponents = more_exponents h g v a x.exponents;
}

-- ---- normal forms

pub held_normal : {v : Polynomial} {h l : ℕ} → IsHeld v h l → IsHeld (normal v) h l
held_normal {v} x = gathered_held (gathered_normal v) x

zero_den : (d : ℕ) → 0 < d → zero_fraction.den ∣ d
unfolding zero_fraction
zero_den d h = dvd_trans (lowest (pos 0) 1).den (den_divides (pos 0) 1 (omega arith)) (one-dvd d)

zero_magnitude : (d : ℕ) → 0 < d → magnitude_over d zero_fraction ≡ 0
unfolding zero_fraction
zero_magnitude d h = magnitude_lowest d (pos 0) 1 0 (omega arith) (zero_den d h) (omega arith)

-- the polynomial of an expanded tree
pub held_expanded : (v : Polynomial) {h l : ℕ} → AreMonomials (normal v) → IsHeld v h l → IsHeld (polynomial_of (expanded v)) h l
held_expanded v {h} {l} m x = by (normal v) m (held_normal x)
  where
    by : (w : Polynomial) → AreMonomials w → IsHeld w h l → IsHeld (polynomial_of (sum_tree (term_trees w))) h l
    by [] m y = record {
      denominator = y.denominator;
      positive = y.positive;
      whole = (zero_den y.denominator y.positive, tt);
      low = y.low;
      high = omega (arith, zero_magnitude y.denominator y.positive);
      exponents = (tt, tt);
    }
    by (s ∷ []) m y = subst (λ (u : Polynomial). IsHeld u h l) (sym (term_polynomial s m.0)) y
    by (s ∷ t ∷ w) m y = subst (λ (u : Polynomial). IsHeld u h l) (sym (terms_polynomial (s ∷ t ∷ w) m)) y

pub answer_held : {t : Tree} {v : Polynomial} {h l : ℕ} → AllHave IsMonomial v → t ≡ expanded v → IsHeld v h l → IsHeld (polynomial_of t) h l
answer_held {t} {v} {h} {l} m e x = subst (λ (u : Tree). IsHeld (polynomial_of u) h l) (sym e) (held_expanded v (all_monomials (normal v) (normal_all IsMonomial v m)) x)

-- ---- products

pub held_product : {v w : Polynomial} {h l k n : ℕ} → AllHave IsMonomial v → IsHeld v h l → IsHeld w k n → IsHeld (product v w) (h + k) (l + n)
held_product {v} {w} {h} {l} {k} {n} m x y =
    let d = x.denominator in
    let e = y.denominator in
    record {
      denominator = d * e;
      positive = mul_pos d e x.positive y.positive;
      whole = whole_product d e v w x.whole y.whole;
      low = omega (arith, mul-le d e (2 ^ l) (2 ^ n) x.low y.low, pow-add 2 l n);
      high = omega (arith, mass_product d e v w x.whole y.whole, two_powers (mass d v) (mass e w) d e h k x.high y.high);
      exponents = product_exponents h k v w m x.exponents y.exponents;
    }

pub one_den : one_fraction.den ∣ 1
unfolding one_fraction
one_den = den_divides (pos 1) 1 (omega arith)

pub one_held : IsHeld (constant one_fraction) 0 0
one_held = record {
  denominator = 1;
  positive = omega arith;
  whole = (one_den, tt);
  low = omega arith;
  high = omega (arith, one_magnitude);
  exponents = (tt, tt);
}

pub held_raised : {v : Polynomial} {h l : ℕ} (n : ℕ) → AllHave IsMonomial v → IsHeld v h l → IsHeld (raised v n) (n * h) (n * l)
held_raised zero m x = held_more one_held (omega arith) (omega arith)
held_raised {v} {h} {l} (suc n) m x = held_more (held_product m x (held_raised n m x)) (omega arith) (omega arith)

-- ---- opposites

minus_held : IsHeld (constant minus_one_fraction) 0 0
minus_held = record {
  denominator = 1;
  positive = omega arith;
  whole = (den_divides (negsuc 0) 1 (omega arith), tt);
  low = omega arith;
  high = omega (arith, magnitude_lowest 1 (negsuc 0) 1 1 (omega arith) (den_divides (negsuc 0) 1 (omega arith)) (omega arith));
  exponents = (tt, tt);
}

pub held_opposite : {v : Polynomial} {h l : ℕ} → IsHeld v h l → IsHeld (scaled minus_one_fraction v) h l
held_opposite {v} {h} {l} x = subst (λ (u : Polynomial). IsHeld u h l) (constant_product minus_one_fraction v) (held_more (held_product (tt, tt) minus_held x) (omega arith) (omega arith))

-- ---- the part that stands behind

pub held_behind : (v w : Polynomial) {h l : ℕ} → IsHeld (v ++ w) h l → IsHeld w h l
held_behind v w x = grind (arith, whole_right, mass_append, exponents_right)
