-- The polynomial of a tree is held by the tree's bits.
use Rattle.expansions.proofs.Shared.{◌≡◌, ℕ, zero, suc, ◌+◌, ◌*◌, ◌^◌, ◌≤◌, ◌<◌, max, pos, negsuc, ℤ, List, [], ◌++◌, append-nil, Bool, true, false, refl, sym, ap, ◌∙◌, subst, arith, nat_abs, neg_ℤ}
use Rattle.expansions.proofs.Shared.{Option, not, dvd_refl, le-max_left, le-max_right, max-le, pow-le-pow_right, and_parts, mul-le, pow-add, magnitude_over, cancel_right, den_divides, magnitude_cross}
use Rattle.expansions.proofs.Shared.{magnitude_lowest, half_literal, or_literal, whole_literal, HighLow, bounds, bounds_of_terms, ceil_log2, high, low, power_bounds, Fraction, den_pos, inverse}
use Rattle.expansions.proofs.Shared.{inverse_of, minus_one_fraction, mul_pos, int_is_zero, Tree, num, symbol, undef, add, mult, power, root, neg, sub, div, Trees, none, more, count, negative_parts}
use Rattle.expansions.proofs.Shared.{AreHeldTogether, AreWhole, HaveExponents, IsHeld, mass, Polynomial, constant, scaled, variable, are_polynomials, divisor_of, exponent_of, is_divisor, is_exponent}
use Rattle.expansions.proofs.{Shared.{is_polynomial, is_small, natural_of, polynomial_of, product_of, sum_of, ceil_log2_is, one_magnitude}, Held.{held_more, held_opposite, held_product, held_raised}}
use Rattle.expansions.proofs.{Held.{one_den, one_held}, Masses.{exponents_append, mass_append, mass_scale, more_exponents, whole_append, whole_scale}, SameCoefficients.{constant_product}}
use Rattle.expansions.proofs.TreeMonomials.{tree_monomials}
use Rattle.rational128.proofs.Reciprocals.{abs_negative as opposite_abs}
use Rattle.calc_terms.proofs.Names.{not_true as no_not}

-- ---- rationals

magnitude_itself : (q : Fraction) → magnitude_over q.den q ≡ nat_abs q.num
magnitude_itself q = cancel_right (magnitude_over q.den q) (nat_abs q.num) q.den (den_pos q) (magnitude_cross q.den q (dvd_refl q.den))

-- more by a factor
times_more : (d n : ℕ) → 0 < d → n ≤ d * n
times_more d n h = omega (arith, mul-le 1 n d n h (omega arith))

pub constant_held : (q : Fraction) (h l : ℕ) → nat_abs q.num ≤ 2 ^ h → q.den ≤ 2 ^ l → IsHeld (constant q) h l
constant_held q h l a b = record {
  denominator = q.den;
  positive = den_pos q;
  whole = (dvd_refl q.den, tt);
  low = b;
  high = omega (arith, magnitude_itself q, a, times_more q.den (2 ^ h) (den_pos q));
  exponents = (tt, tt);
}

opposite_zero : (n : ℤ) → int_is_zero (neg_ℤ n) ≡ int_is_zero n
opposite_zero n = grind arith

-- of an inverse
inverse_by : (n : ℤ) (d : ℕ) (h l : ℕ) → int_is_zero n ≡ false → 0 < d → nat_abs n ≤ 2 ^ h → d ≤ 2 ^ l → IsHeld (constant (inverse_of n d)) (h + 2 * l) (2 * h + 2 * l)
inverse_by (pos zero) d h l z p a b = cc
inverse_by (pos (suc n)) d h l z p a b = record {
  denominator = suc n;
  positive = omega arith;
  whole = (den_divides (pos d) (suc n) (omega arith), tt);
  low = omega (arith, a, pow-le-pow_right {n = 2} (omega arith) {i = h} {j = 2 * h + 2 * l} (omega arith));
  high = omega (
    arith,
    magnitude_lowest (suc n) (pos d) (suc n) d (omega arith) (den_divides (pos d) (suc n) (omega arith)) refl,
    b,
    pow-le-pow_right {n = 2} (omega arith) {i = l} {j = h + 2 * l}
        (omega arith),
    times_more (suc n) (2 ^ (h + 2 * l)) (omega arith),
  );
  exponents = (tt, tt);
}
inverse_by (negsuc n) d h l z p a b = record {
  denominator = suc n;
  positive = omega arith;
  whole = (den_divides (neg_ℤ (pos d)) (suc n) (omega arith), tt);
  low = omega (arith, a, pow-le-pow_right {n = 2} (omega arith) {i = h} {j = 2 * h + 2 * l} (omega arith));
  high = omega (
    arith,
    magnitude_lowest (suc n) (neg_ℤ (pos d)) (suc n) d (omega arith) (den_divides (neg_ℤ (pos d)) (suc n) (omega arith))
        (ap (λ (k : ℕ). k * suc n) (sym (opposite_abs (pos d)))),
    b,
    pow-le-pow_right {n = 2} (omega arith) {i = l} {j = h + 2 * l} (omega arith),
    times_more (suc n) (2 ^ (h + 2 * l)) (omega arith),
  );
  exponents = (tt, tt);
}

rational_high : (q : Fraction) → nat_abs q.num ≤ 2 ^ high (num q)
rational_high q = omega (
  arith,
  (ceil_log2_is (nat_abs q.num)).enough,
  pow-le-pow_right {n = 2} (omega arith) {i = ceil_log2 (nat_abs q.num)} {j = max 1 (ceil_log2 (nat_abs q.num))}
      (le-max_right 1 (ceil_log2 (nat_abs q.num))),
)

rational_low : (q : Fraction) → q.den ≤ 2 ^ low (num q)
rational_low q = (ceil_log2_is q.den).enough

-- of a divisor, and of the rational under its sign
divisor_held : (c : Tree) → is_divisor c ≡ true → IsHeld (constant (inverse (divisor_of c))) (high c + 2 * low c) (2 * high c + 2 * low c)
divisor_held c h = grind (arith, inverse_by, no_not, rational_high, rational_low, negative_parts, opposite_zero, opposite_abs)

-- ---- several trees

-- the polynomials of the second trees are held by the bits of the first
abbrev pub AreHeldFrom : Trees → Trees → Type 0
AreHeldFrom none none = Unit {0}
AreHeldFrom none (more u us) = ⊥
AreHeldFrom (more t ts) none = ⊥
AreHeldFrom (more t ts) (more u us) = IsHeld (polynomial_of u) (high t) (low t) × AreHeldFrom ts us

-- a sum of n polynomials, each of which is held by h
record IsSumHeld (v : Polynomial) (n h l : ℕ) : Type 0 where
  pub denominator : ℕ
  pub positive : 0 < denominator
  pub whole : AreWhole denominator v
  pub low : denominator ≤ 2 ^ l
  pub high : mass denominator v ≤ denominator * (n * 2 ^ h)
  pub exponents : HaveExponents h v

one_more : {v w : Polynomial} {n h l g k : ℕ} → IsHeld v h l → IsSumHeld w n g k → IsSumHeld (v ++ w) (suc n) (max h g) (l + k)
one_more {v} {w} {n} {h} {l} {g} {k} x y =
    let d = x.denominator in
    let e = y.denominator in
    let top = max h g in
    let first = mul-le e (mass d v) e (d * 2 ^ top) (omega arith) (omega (arith, x.high, mul-le d (2 ^ h) d (2 ^ top) (omega arith) (pow-le-pow_right {n = 2} (omega arith) (le-max_left h g)))) in
    let rest = mul-le d (mass e w) d (e * (n * 2 ^ top)) (omega arith) (omega (arith, y.high, mul-le (e * n) (2 ^ g) (e * n) (2 ^ top) (omega arith) (pow-le-pow_right {n = 2} (omega arith) (le-max_right h g)))) in
    let left : mass (d * e) v ≡ e * mass d v = ap (λ (j : ℕ). mass j v) (omega arith) ∙ mass_scale e d v x.whole in
    record {
      denominator = d * e;
      positive = mul_pos d e x.positive y.positive;
      whole = whole_append (d * e) v w (subst (λ (j : ℕ). AreWhole j v) (omega arith) (whole_scale e d v x.whole)) (whole_scale d e w y.whole);
      low = omega (arith, mul-le d e (2 ^ l) (2 ^ k) x.low y.low, pow-add 2 l k);
      high = omega (arith, mass_append (d * e) v w, left, mass_scale d e w y.whole, first, rest);
      exponents = exponents_append top v w (more_exponents h top v (le-max_left h g) x.exponents) (more_exponents g top w (le-max_right h g) y.exponents);
    }

nothing : IsSumHeld [] 0 0 0
nothing = record { denominator = 1; positive = omega arith; whole = tt; low = omega arith; high = omega arith; exponents = tt }

sum_from : (ts us : Trees) → AreHeldFrom ts us → IsSumHeld (sum_of us) (count ts) (bounds_of_terms ts).high (bounds_of_terms ts).low
sum_from none none e = nothing
sum_from none (more u us) e = absurd e
sum_from (more t ts) none e = absurd e
sum_from (more t ts) (more u us) e = one_more e.0 (sum_from ts us e.1)

sum_as_held : {v : Polynomial} {n h l : ℕ} (c : ℕ) → n ≤ 2 ^ c → IsSumHeld v n h l → IsHeld v (h + c) l
sum_as_held {v} {n} {h} {l} c few x =
    let d = x.denominator in
    let all = mul-le (d * 2 ^ h) n (d * 2 ^ h) (2 ^ c) (omega arith) few in
    record {
      denominator = d;
      positive = x.positive;
      whole = x.whole;
      low = x.low;
      high = omega (arith, x.high, all, ap (λ (k : ℕ). d * k) (pow-add 2 h c));
      exponents = more_exponents h (h + c) v (omega arith) x.exponents;
    }

pub sum_held : (ts us : Trees) → AreHeldFrom ts us → IsHeld (sum_of us) (high (add ts)) (low (add ts))
sum_held ts us e = sum_as_held (ceil_log2 (count ts)) (ceil_log2_is (count ts)).enough (sum_from ts us e)

pub product_held : (ts us : Trees) → AreHeldFrom ts us → IsHeld (product_of us) (high (mult ts)) (low (mult ts))
product_held none none e = one_held
product_held none (more u us) e = absurd e
product_held (more t ts) none e = absurd e
product_held (more t ts) (more u us) e = held_product (tree_monomials u) e.0 (product_held ts us e.1)

pub held_together : (ts us : Trees) → AreHeldFrom ts us → AreHeldTogether us (high (mult ts)) (low (mult ts))
held_together none none e = tt
held_together none (more u us) e = absurd e
held_together (more t ts) none e = absurd e
held_together (more t ts) (more u us) e = (high t, low t, high (mult ts), low (mult ts), e.0, held_together ts us e.1, omega arith, omega arith)

-- the difference of two
pub difference_held : {v w : Polynomial} {h l g k : ℕ} → IsHeld v h l → IsHeld w g k → IsHeld (v ++ scaled minus_one_fraction w) (max h g + 1) (l + k)
difference_held {v} {w} {h} {l} {g} {k} x y =
    let both = sum_as_held 1 (omega arith) (one_more x (one_more (held_opposite y) nothing)) in
    subst (λ (u : Polynomial). IsHeld (v ++ u) (max h g + 1) (l + k)) (append-nil (scaled minus_one_fraction w))
    (held_more both (omega (arith, max-le {k = max h g} (le-max_left h g) (max-le {a = g} {b = 0} {k = max h g} (le-max_right h g) (omega arith)))) (omega arith))

-- ---- powers

literal_natural : (z : Option ℤ) → is_small z ≡ true → (half : Option ℤ) (b : HighLow)
    → (natural_of z * b.high ≤ (power_bounds (or_literal z half) b).high) × (natural_of z * b.low ≤ (power_bounds (or_literal z half) b).low)
literal_natural z h half b = grind arith

pub power_within : (b e : Tree) → is_exponent e ≡ true → (exponent_of e * high b ≤ high (power b e)) × (exponent_of e * low b ≤ low (power b e))
power_within b e h = literal_natural (whole_literal e) h (half_literal e) (bounds b)

pub quotient_held : (a c : Tree) {v : Polynomial} → is_divisor c ≡ true → IsHeld v (high a) (low a) → IsHeld (scaled (inverse (divisor_of c)) v) (high (div a c)) (low (div a c))
quotient_held a c {v} h x =
    subst (λ (u : Polynomial). IsHeld u (high (div a c)) (low (div a c))) (constant_product (inverse (divisor_of c)) v)
    (held_more (held_product (tt, tt) (divisor_held c h) x) (omega arith) (omega arith))

-- ---- all trees

variable_held : (x : List ℕ) → IsHeld (variable x) 1 0
variable_held x = grind (arith, one_den, one_magnitude)

mutual
  pub tree_held : (t : Tree) → is_polynomial t ≡ true → IsHeld (polynomial_of t) (high t) (low t)
  tree_held (num q) p = constant_held q (high (num q)) (low (num q)) (rational_high q) (rational_low q)
  tree_held (symbol x) p = variable_held x
  tree_held undef p = cc
  tree_held (add ts) p = sum_held ts ts (trees_held ts p)
  tree_held (mult ts) p = product_held ts ts (trees_held ts p)
  tree_held (power b e) p =
      let (x, y) = and_parts (is_polynomial b) (is_exponent e) p in
      let (m, n) = power_within b e y in
      held_more (held_raised (exponent_of e) (tree_monomials b) (tree_held b x)) m n
  tree_held (root a) p = cc
  tree_held (neg a) p = held_opposite (tree_held a p)
  tree_held (sub a b) p = let (x, y) = and_parts (is_polynomial a) (is_polynomial b) p in difference_held (tree_held a x) (tree_held b y)
  tree_held (div a c) p =
      let (x, y) = and_parts (is_polynomial a) (is_divisor c) p in
      quotient_held a c y (tree_held a x)

  pub trees_held : (ts : Trees) → are_polynomials ts ≡ true → AreHeldFrom ts ts
  trees_held none p = tt
  trees_held (more t ts) p = let (x, y) = and_parts (is_polynomial t) (are_polynomials ts) p in (tree_held t x, trees_held ts y)
