-- What a polynomial tree means is what its polynomial is worth.
use Rattle.expansions.proofs.Shared.{whole_by, negative_not_zero, ◌≡◌, ◌≢◌, ◌≤◌, ℕ, zero, suc, ℤ, pos, negsuc, true, refl, sym, ap, ◌∙◌, arith, Option, Some, None, ◌==◌, neg_ℤ, ◌*ℤ◌, and_parts, ints}
use Rattle.expansions.proofs.Shared.{Assignment, IsAssignment, IsWholePower, Means, MeansSum, MeansProduct, Surd, surd_of, Inverts-surd_of, inverse_times_itself, Same-sym, one_meaning}
use Rattle.expansions.proofs.Shared.{surd_power-surd_of, exponent_is, Same-trans, Agree-Same, Same-append, Same-eq, Same-refl, Same-surd_power, Same-surd_scale, Same-surd_times, joined_radicand}
use Rattle.expansions.proofs.Shared.{zero_term, opposite, whole_literal, whole_value, no_zero, fraction_power, times_comm, Fraction, inverse, lowest, minus_one_fraction, one_fraction, plus, times}
use Rattle.expansions.proofs.Shared.{times_lowest, whole_fraction, zero_fraction, Tree, num, symbol, undef, add, mult, power, root, neg, sub, div, Trees, none, more, scaled, are_polynomials}
use Rattle.expansions.proofs.Shared.{divisor_of, exponent_of, is_divisor, is_exponent, is_nonzero, is_polynomial, is_small, natural_of, polynomial_of, product_of, sum_of, polynomial_value, Same}
use Rattle.expansions.proofs.ValueLaws.{append_value, constant_value, given_is, product_value, raised_value, scaled_value, variable_value}
use Rattle.calc_measures.proofs.Inverses.{times_minus_one as minus_one_times}
use Rattle.calc_algebra.proofs.MeaningLaws.{one_inverse' as inverse_of_same}

-- ---- whole literals

small_is : (l : Option ℤ) → is_small l ≡ true → l ≡ Some (pos (natural_of l))
small_is l h = grind arith

small_positive : (l : Option ℤ) → is_small l ≡ true → 1 ≤ natural_of l
small_positive l h = grind arith

minus_whole : (m : ℤ) → times minus_one_fraction (whole_fraction m) ≡ whole_fraction (neg_ℤ m)
minus_whole m = times_lowest (negsuc 0) m 1 1 (omega arith) (omega arith) ∙ ap (λ (z : ℤ). lowest z 1) (let e : negsuc 0 *ℤ m ≡ neg_ℤ m = omega (arith, ints) in e)

opposite_by : (v : Option ℤ) (q : Fraction) (n : ℤ) → whole_value q ≡ v → opposite v ≡ Some n → times minus_one_fraction q ≡ whole_fraction n
opposite_by (Some m) q n d h = ap (times minus_one_fraction) (whole_by (q.den == 1) q m refl d) ∙ minus_whole m ∙ ap whole_fraction (let is : neg_ℤ m ≡ n = cc in is)
opposite_by None q n d h = absurd cc

-- what an exponent that is a whole literal means
literal_means : (f : Assignment) (e : Tree) (n : ℤ) → whole_literal e ≡ Some n → Means e f (surd_of (whole_fraction n))
literal_means f (num q) n h = Same-eq (ap surd_of (sym (whole_by (q.den == 1) q n refl h)))
literal_means f (neg (num q)) n h = (surd_of q, Same-refl (surd_of q), Same-eq (ap surd_of (sym (opposite_by (whole_value q) q n refl h))))
literal_means f e n h = cc

-- ---- divisors

-- a divisor means a fraction that is not 0
pub record MeansDivisor (f : Assignment) (c : Tree) : Type 0 where
  pub means : Means c f (surd_of (divisor_of c))
  pub not_zero : divisor_of c ≢ zero_fraction

nonzero_means : (f : Assignment) (c : Tree) → is_nonzero c ≡ true → MeansDivisor f c
nonzero_means f c h = grind (arith, Same-refl, no_zero)

opposite_means : (f : Assignment) (a : Tree) → is_nonzero a ≡ true → MeansDivisor f (neg a)
opposite_means f (num q) h = record { means = (surd_of q, Same-refl (surd_of q), Same-eq (ap surd_of (sym (minus_one_times q)))); not_zero = negative_not_zero q (no_zero q h) }
opposite_means f a h = cc

divisor_means : (f : Assignment) (c : Tree) → is_divisor c ≡ true → MeansDivisor f c
divisor_means f (neg a) h = opposite_means f a h
divisor_means f c h = nonzero_means f c h

-- ---- trees

power_of_rational : (n : ℕ) (p : Fraction) (w v : Surd) → 1 ≤ n → IsWholePower (pos n) w v → Same w (surd_of p) → Same v (surd_of (fraction_power p n))
power_of_rational zero p w v l h e = absurd (omega arith)
power_of_rational (suc n) p w v l h e = Same-trans h (Same-trans (Same-surd_power (suc n) e) (surd_power-surd_of p (suc n)))

module _ (f : Assignment) (once : IsAssignment f) where
  mutual
    pub tree_worth : (t : Tree) (v : Surd) → is_polynomial t ≡ true → Means t f v → Same v (surd_of (polynomial_value f (polynomial_of t)))
    tree_worth (num q) v h m = Same-trans m (Same-eq (ap surd_of (sym (constant_value f q))))
    tree_worth (symbol x) v h (q, g, m) = Same-trans m (Same-eq (ap surd_of (sym (variable_value f x ∙ given_is f once x q g))))
    tree_worth undef v h m = absurd m
    tree_worth (add ts) v h (w, m, e) = Same-trans e (sum_worth ts w h m)
    tree_worth (mult ts) v h (w, m, e) = Same-trans e (product_worth ts w h m)
    tree_worth (power b e) v h (w, x, mb, me, p) =
        let (hb, he) = and_parts (is_polynomial b) (is_exponent e) h in
        let n : ℕ = exponent_of e in
        let exponent : Same x (surd_of (whole_fraction (pos n))) =
        Agree-Same (one_meaning f once e x (surd_of (whole_fraction (pos n))) me (literal_means f e (pos n) (small_is (whole_literal e) he))) in
        Same-trans
        (power_of_rational n (polynomial_value f (polynomial_of b)) w v (small_positive (whole_literal e) he) (exponent_is (pos n) w x v exponent p) (tree_worth b w hb mb))
        (Same-eq (ap surd_of (sym (raised_value f (polynomial_of b) n))))
    tree_worth (root a) v h m = cc
    tree_worth (neg a) v h (w, m, e) =
        Same-trans e (Same-trans (Same-surd_scale minus_one_fraction (tree_worth a w h m)) (Same-eq (ap surd_of (sym (scaled_value f minus_one_fraction (polynomial_of a))))))
    tree_worth (sub a b) v h (w, u, m, n, e) =
        let (ha, hb) = and_parts (is_polynomial a) (is_polynomial b) h in
        let p : Fraction = polynomial_value f (polynomial_of a) in
        let q : Fraction = polynomial_value f (polynomial_of b) in
        Same-trans e
        (Same-trans (Same-append (tree_worth a w ha m) (Same-surd_scale minus_one_fraction (tree_worth b u hb n)))
        (Same-trans (joined_radicand p (times minus_one_fraction q) 1)
        (Same-eq (ap surd_of (sym (append_value f (polynomial_of a) (scaled minus_one_fraction (polynomial_of b)) ∙ ap (plus p) (scaled_value f minus_one_fraction (polynomial_of b))))))))
    tree_worth (div a c) v h (w, u, y, m, n, i, e) =
        let (ha, hc) = and_parts (is_polynomial a) (is_divisor c) h in
        let d = divisor_means f c hc in
        let p : Fraction = polynomial_value f (polynomial_of a) in
        let r : Fraction = inverse (divisor_of c) in
        let is : Same y (surd_of r) =
        Agree-Same (inverse_of_same y (surd_of r) u (surd_of (divisor_of c)) i (Inverts-surd_of (divisor_of c) r (inverse_times_itself (divisor_of c) d.not_zero))
        (one_meaning f once c u (surd_of (divisor_of c)) n d.means)) in
        Same-trans e
        (Same-trans (Same-surd_times (tree_worth a w ha m) is) (Same-eq (ap surd_of (times_comm p r ∙ sym (scaled_value f r (polynomial_of a))))))

    sum_worth : (ts : Trees) (v : Surd) → are_polynomials ts ≡ true → MeansSum ts f v → Same v (surd_of (polynomial_value f (sum_of ts)))
    sum_worth none v h m = Same-trans (Same-eq m) (Same-sym (zero_term 1))
    sum_worth (more t ts) v h (a, b, m, n, e) =
        let (ht, hts) = and_parts (is_polynomial t) (are_polynomials ts) h in
        Same-trans (Same-eq e)
        (Same-trans (Same-append (tree_worth t a ht m) (sum_worth ts b hts n))
        (Same-trans (joined_radicand (polynomial_value f (polynomial_of t)) (polynomial_value f (sum_of ts)) 1)
        (Same-eq (ap surd_of (sym (append_value f (polynomial_of t) (sum_of ts)))))))

    product_worth : (ts : Trees) (v : Surd) → are_polynomials ts ≡ true → MeansProduct ts f v → Same v (surd_of (polynomial_value f (product_of ts)))
    product_worth none v h m = Same-trans (Same-eq m) (Same-eq (ap surd_of (sym (constant_value f one_fraction))))
    product_worth (more t ts) v h (a, b, m, n, e) =
        let (ht, hts) = and_parts (is_polynomial t) (are_polynomials ts) h in
        Same-trans (Same-eq e)
        (Same-trans (Same-surd_times (tree_worth t a ht m) (product_worth ts b hts n))
        (Same-eq (ap surd_of (sym (product_value f (polynomial_of t) (product_of ts))))))
