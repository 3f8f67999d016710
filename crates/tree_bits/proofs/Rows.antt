-- What the bounds on the bits of a node hold, where those of its children hold what these become.
use Rattle.tree_bits.proofs.Shared.{◌≡◌, ℕ, suc, ◌+◌, ◌*◌, ◌^◌, ◌≤◌, ◌<◌, List, [], ◌∷◌, ◌++◌, max, ℤ, negsuc, true, false, refl, sym, ap, subst, arith, Option, mul-le, pow-add, pow_pos}
use Rattle.tree_bits.proofs.Shared.{pow-le-pow_right, dvd_refl, is_number, surd_of, magnitude_over, root_above, IsHeld, cancel_right, magnitude_cross, root_least, whole_literal, half_literal}
use Rattle.tree_bits.proofs.Shared.{or_literal, HighLow, ceil_log2, power_bounds, bounds, bounds_of_terms, bounds_of_factors, high, low, Fraction, den_pos, Tree, num, symbol, add, mult, power, root}
use Rattle.tree_bits.proofs.Shared.{neg, sub, div, Trees, none, more, count, IsComplete, AreComplete, IsSumHeld, addends_of_each, AreTreesHeld, ArePositive, largest_high, high_sum, low_sum, Counts}
use Rattle.tree_bits.proofs.Shared.{counts, multiple, counts_of, is_counted, multiplied, product_of, distributed, surd_minus_one, Addend, power_high, power_low, IsTreeHeld, symbol_held, tree_held}
use Rattle.tree_bits.proofs.{Shared.{IsWithin, IsAddendPower, IsZeroAlone, raised_high, raised_low, bounds_of_each, ceil_log2_is}, Children.{weighted_both, trees_by_count}, Factors.{tree_as_base}}
use Rattle.tree_bits.proofs.{Factors.{multiplied_held, products_held, distributed_held, minus_one_held}, FewBits.{high_positive}, Numbers.{nothing_held, number_held}, Powers.{addend_raised}}
use Rattle.tree_bits.proofs.Sums.{sums_held, wider_held, tree_wider, root_is_held, power_is_held}
use Rattle.std.specs.Prelude.{nat_abs, Some}

sum_wider : {xs : List Addend} {h l k n : ℕ} → h ≤ k → l ≤ n → IsSumHeld xs h l → IsSumHeld xs k n
sum_wider x y a = record { terms = a.terms; weighted = a.weighted; held = wider_held x y a.held }

-- ---- rationals

whole_magnitude : (q : Fraction) → magnitude_over q.den q ≡ nat_abs q.num
whole_magnitude q = cancel_right (magnitude_over q.den q) (nat_abs q.num) q.den (den_pos q) (magnitude_cross q.den q (dvd_refl q.den))

rational_mass : (d r h : ℕ) → 0 < d → r ≤ 2 ^ h → max d r + 0 ≤ d * 2 ^ h
rational_mass d r h x y =
    let p : 1 ≤ 2 ^ h = pow_pos h in
    let a : d * 1 ≤ d * 2 ^ h = mul-le d 1 d (2 ^ h) (omega arith) p in
    let b : 1 * 2 ^ h ≤ d * 2 ^ h = mul-le 1 (2 ^ h) d (2 ^ h) x (omega arith) in
    omega arith

rational_held : (q : Fraction) → IsHeld (surd_of q) (high (num q)) (low (num q))
rational_held q = record {
  denominator = q.den;
  parts = record { positive = den_pos q; whole = (dvd_refl q.den, tt) };
  low = (ceil_log2_is q.den).enough;
  scale = q.den;
  scaled = record { positive = den_pos q; whole = (dvd_refl q.den, tt) };
  high =
      let m : ℕ = nat_abs q.num in
      let a : root_above (magnitude_over q.den q * magnitude_over q.den q * 1) ≤ m = root_least _ m (omega (arith, ap (λ k. k * k * 1) (whole_magnitude q))) in
      let b : m ≤ 2 ^ ceil_log2 m = (ceil_log2_is m).enough in
      let c : 2 ^ ceil_log2 m ≤ 2 ^ max 1 (ceil_log2 m) = pow-le-pow_right {n = 2} (omega arith) (omega arith) in
      rational_mass q.den (root_above (magnitude_over q.den q * magnitude_over q.den q * 1)) (max 1 (ceil_log2 m)) (den_pos q) (omega (arith, a, b, c));
}

pub rational_is_number : (q : Fraction) → is_number (num q) ≡ true
unfolding is_number
rational_is_number q = refl

pub rational_row : (q : Fraction) → IsTreeHeld (num q) (high (num q)) (low (num q))
rational_row q = grind (arith, number_held, rational_is_number, nothing_held, rational_held)

-- ---- sums

same_count : (ts us : Trees) → AreTreesHeld us (bounds_of_each ts) → count us ≡ count ts
same_count none none k = refl
same_count none (more u us) k = elim k [ ]
same_count (more t ts) none k = elim k [ ]
same_count (more t ts) (more u us) (x, y, k) = ap suc (same_count ts us k)

largest_of_terms : (ts : Trees) → largest_high (bounds_of_each ts) ≡ (bounds_of_terms ts).high
largest_of_terms none = refl
largest_of_terms (more t ts) = ap (λ n. max (high t) n) (largest_of_terms ts)

lows_of_terms : (ts : Trees) → low_sum (bounds_of_each ts) ≡ (bounds_of_terms ts).low
lows_of_terms none = refl
lows_of_terms (more t ts) = ap (λ n. low t + n) (lows_of_terms ts)

pub sum_row : (ts us : Trees) → AreTreesHeld us (bounds_of_each ts) → IsSumHeld (addends_of_each us) (high (add ts)) (low (add ts))
sum_row ts us k = grind (arith, trees_by_count, largest_of_terms, same_count, ceil_log2_is, lows_of_terms)

pub opposite_row : (a : Tree) (xs : List Addend) → IsSumHeld xs (high a) (low a) → IsSumHeld (distributed surd_minus_one xs) (high (neg a)) (low (neg a))
opposite_row a xs k = sum_wider (omega arith) (omega arith) (distributed_held surd_minus_one xs (high a) (low a) 0 0 minus_one_held k)

pub two_powers_within : (h k : ℕ) → 2 ^ h + 2 ^ k ≤ 2 ^ (max h k + 1)
two_powers_within h k =
    let a : 2 ^ h ≤ 2 ^ max h k = pow-le-pow_right {n = 2} (omega arith) (omega arith) in
    let b : 2 ^ k ≤ 2 ^ max h k = pow-le-pow_right {n = 2} (omega arith) (omega arith) in
    omega (arith, pow-add 2 (max h k) 1)

pub difference_row : (a b : Tree) (xs ys : List Addend) → IsSumHeld xs (high a) (low a) → IsSumHeld ys (high b) (low b)
    → IsSumHeld (xs ++ distributed surd_minus_one ys) (high (sub a b)) (low (sub a b))
difference_row a b xs ys x y =
    let z : IsSumHeld (distributed surd_minus_one ys) (high b) (low b) = opposite_row b ys y in
    record {
      terms = x.terms ++ z.terms;
      weighted = weighted_both x.weighted z.weighted;
      held = sums_held x.terms z.terms (high a) (high b) (low a) (low b) (max (high a) (high b) + 1) x.held z.held (two_powers_within (high a) (high b));
    }

-- ---- products

highs_of_factors : (ts : Trees) → high_sum (bounds_of_each ts) ≡ (bounds_of_factors ts).high
highs_of_factors none = refl
highs_of_factors (more t ts) = ap (λ n. high t + n) (highs_of_factors ts)

lows_of_factors : (ts : Trees) → low_sum (bounds_of_each ts) ≡ (bounds_of_factors ts).low
lows_of_factors none = refl
lows_of_factors (more t ts) = ap (λ n. low t + n) (lows_of_factors ts)

all_positive : (ts : Trees) → AreComplete ts → ArePositive (bounds_of_each ts)
all_positive none c = tt
all_positive (more t ts) (c, cs) = (high_positive t c, all_positive ts cs)

pub product_row : (ts us : Trees) → AreComplete ts → AreTreesHeld us (bounds_of_each ts) → IsSumHeld (product_of us ∷ []) (high (mult ts)) (low (mult ts))
product_row ts us c k = sum_wider (omega (arith, highs_of_factors ts)) (omega (arith, lows_of_factors ts)) (products_held us (bounds_of_each ts) k (all_positive ts c))

pub quotient_row : (a b : Tree) (x y z : Addend) → IsAddendPower (negsuc 0) y z → IsZeroAlone y → IsSumHeld (x ∷ []) (high a) (low a) → IsSumHeld (y ∷ []) (high b) (low b)
    → IsSumHeld (multiplied x z ∷ []) (high (div a b)) (low (div a b))
quotient_row a b x y z e o s t =
    sum_wider (omega arith) (omega arith)
    (multiplied_held x z (high a) (low a) (raised_high (negsuc 0) (high b) (low b)) (raised_low (negsuc 0) (high b) (low b)) s (addend_raised (negsuc 0) y z (high b) (low b) e o t))

-- ---- powers

pub raised_within : (n : ℤ) (b : HighLow) → (raised_high n b.high b.low ≤ (power_bounds (Some n) b).high) × (raised_low n b.high b.low ≤ (power_bounds (Some n) b).low)
raised_within n b = grind arith

by_exponent : (b e : Tree) (n : ℤ) (x y : ℕ) → or_literal (whole_literal e) (half_literal e) ≡ Some n → (x ≤ (power_bounds (Some n) (bounds b)).high) × (y ≤ (power_bounds (Some n) (bounds b)).low)
    → (x ≤ high (power b e)) × (y ≤ low (power b e))
by_exponent b e n x y o k = subst (λ (m : Option ℤ). (x ≤ (power_bounds m (bounds b)).high) × (y ≤ (power_bounds m (bounds b)).low)) (sym o) k

pub power_row : (b e : Tree) (n : ℤ) (x y : Addend) → or_literal (whole_literal e) (half_literal e) ≡ Some n → IsAddendPower n x y → IsZeroAlone x → IsSumHeld (x ∷ []) (high b) (low b)
    → IsSumHeld (y ∷ []) (high (power b e)) (low (power b e))
power_row b e n x y o p z k =
    let w = by_exponent b e n (raised_high n (high b) (low b)) (raised_low n (high b) (low b)) o (raised_within n (bounds b)) in
    sum_wider w.0 w.1 (addend_raised n x y (high b) (low b) p z k)

-- counted n times at most, and in the other direction not at all
one_way : (u v n x y : ℕ) → u ≤ n * 1 → v ≤ n * 0 → u * x + v * y ≤ n * x
one_way u v n x y a b = grind arith

kept_bits : (c : Counts) (n : ℤ) (h l : ℕ) → IsWithin c (multiple n (counts 1 0)) → (power_high c h l ≤ raised_high n h l) × (power_low c h l ≤ raised_low n h l)
kept_bits c n h l w = grind (arith, one_way)

pub kept_row : (b e c d : Tree) (n : ℤ) → or_literal (whole_literal e) (half_literal e) ≡ Some n → is_counted d ≡ true → IsWithin (counts_of d) (multiple n (counts 1 0))
    → IsComplete b → IsTreeHeld c (high b) (low b) → IsTreeHeld (power c d) (high (power b e)) (low (power b e))
kept_row b e c d n o i w f k =
    let r = raised_within n (bounds b) in
    let s = kept_bits (counts_of d) n (high b) (low b) w in
    let v = by_exponent b e n (power_high (counts_of d) (high b) (low b)) (power_low (counts_of d) (high b) (low b)) o (omega (arith, s.0, r.0), omega (arith, s.1, r.1)) in
    tree_wider v.0 v.1 (power_is_held c d (high b) (low b) i (tree_as_base c (high b) (low b) (high_positive b f) k))

pub rational_to_symbol : (q : Fraction) (x : List ℕ) → IsTreeHeld (power (num q) (symbol x)) (high (power (num q) (symbol x))) (low (power (num q) (symbol x)))
rational_to_symbol q x = tree_wider (omega arith) (omega arith) (power_is_held (num q) (symbol x) (high (num q)) (low (num q)) refl (tree_held (omega arith) refl (rational_row q)))

pub symbol_to_symbol : (x y : List ℕ) → IsTreeHeld (power (symbol x) (symbol y)) (high (power (symbol x) (symbol y))) (low (power (symbol x) (symbol y)))
symbol_to_symbol x y = tree_wider (omega arith) (omega arith) (power_is_held (symbol x) (symbol y) 1 0 refl (symbol_held (omega arith)))

pub root_row : (a b : Tree) → IsComplete a → is_number (root b) ≡ false → IsTreeHeld b (high a) (low a) → IsTreeHeld (root b) (high (root a)) (low (root a))
root_row a b c n k = root_is_held b (high a) (low a) n (high_positive a c) k
