-- The derivative of a tree means the slope of each pair of it.
use Rattle.dual_diff.proofs.Shared.{whole_by, ◌≡◌, ℕ, zero, suc, List, [], ◌++◌, Bool, true, false, refl, sym, ap, ◌∙◌, subst, inl, inr, append-nil, arith, pos, neg_ℤ, ◌==◌, ◌||◌, if◌then◌else◌}
use Rattle.dual_diff.proofs.Shared.{Option, Some, None, Fraction, times, minus_one_fraction, whole_fraction, quotient, Tree, num, symbol, undef, add, mult, power, root, neg, sub, div, Trees, none}
use Rattle.dual_diff.proofs.Shared.{more, append, whole_num, Assignment, IsWholePower, Means, MeansSum, MeansProduct, Same, Inverts, Surd, surd_of, surd_one, surd_scale, surd_times, surd_power}
use Rattle.dual_diff.proofs.Shared.{Inverts-surd_times, Means-Same, Same-sym, Same-trans, Same-Agree, Agree, Agree-refl, Agree-sym, Agree-trans, Agree-eq, Agree-append, Agree-Same, surd_times-nil}
use Rattle.dual_diff.proofs.Shared.{surd_times-surd_one, surd_times-surd_of, Same-refl, Same-eq, whole_value, opposite, whole_literal, occurs, occurs_in, Pair, SamePair, pair_over, HasPair}
use Rattle.dual_diff.proofs.Shared.{HasPairSum, HasPairProduct, IsPowerSlope, IsRootPair, two, where_occurs, quotient_rule, lowered, power_rule, literal_power_rule, root_rule, sum_of_products}
use Rattle.dual_diff.proofs.Shared.{derivative, derivatives, products, ints, bytes_eq, one_fraction, negsuc, ◌*ℤ◌, product_more, product_one, product_two, product_append, whole_times}
use Rattle.dual_diff.proofs.{Shared.{power_whole}, Occurring.{neither}, SlopeLaws.{zero_number, product_slope, product_still, quotient_slope, quotient_still, scale_right, half_inverts}, Still.{still}}
use Rattle.std.specs.Prelude.{ℤ, ◌-ℤ◌}

-- ---- small cases

zero_means : (f : Assignment) (d : Surd) → Agree d [] → Means (whole_num 0) f d
zero_means f d a = Agree-Same (Agree-trans a zero_number)

one_means : (f : Assignment) (d : Surd) → Same d surd_one → Means (whole_num 1) f d
unfolding one_fraction
one_means f d s = s

-- the derivative of a tree that holds the name, or 0
guarded : (b : Bool) (t : Tree) (f : Assignment) (d : Surd) → (b ≡ false → Agree d []) → Means t f d → Means (where_occurs b t) f d
guarded true t f d z m = m
guarded false t f d z m = zero_means f d (z refl)

guarded_held : (b : Bool) (t : Tree) (f : Assignment) (d : Surd) → b ≡ true → Means t f d → Means (where_occurs b t) f d
guarded_held b t f d h m = grind arith

guarded_absent : (b : Bool) (t : Tree) (f : Assignment) (d : Surd) → b ≡ false → Agree d [] → Means (where_occurs b t) f d
guarded_absent true t f d h z = absurd cc
guarded_absent false t f d h z = zero_means f d z

symbol_means : (b : Bool) (f : Assignment) (d : Surd) → Same d (if b then surd_one else []) → Means (if b then whole_num 1 else whole_num 0) f d
symbol_means true f d s = one_means f d s
symbol_means false f d s = zero_means f d (Same-Agree s)

-- ---- products

sum_means : (us : Trees) (f : Assignment) (d e : Surd) → MeansSum us f e → Agree d e → Means (sum_of_products us) f d
sum_means none f d e m a = zero_means f d (Agree-trans a (Agree-eq m))
sum_means (more t none) f d e (v, w, m, n, s) a =
    Means-Same t f v d m (Agree-Same (Agree-sym (Agree-trans a (Agree-eq (s ∙ ap (λ (z : Surd). v ++ z) n ∙ append-nil v)))))
sum_means (more t (more u us)) f d e m a = (e, m, Agree-Same a)

-- ---- quotients

quotient_means : (f : Assignment) (a a' b b' : Tree) (d w w' u u' y : Surd) → Means a f w → Means a' f w' → Means b f u → Means b' f u' → Inverts y u
    → Agree d (surd_times w' y ++ surd_scale minus_one_fraction (surd_times w (surd_times u' (surd_times y y)))) → Means (quotient_rule a a' b b') f d
quotient_means f a a' b b' d w w' u u' y ma ma' mb mb' i h =
    let first = surd_times w' u in
    let second = surd_times w u' in
    let above = first ++ surd_scale minus_one_fraction second in
    let square = surd_times u u in (
      above,
      square,
      surd_times y y,
      (first, second, product_two f a' b first w' u ma' mb (Same-refl first), product_two f a b' second w u' ma mb' (Same-refl second), Same-refl above),
      power_whole f b (pos 2) u square mb (Same-refl square),
      Inverts-surd_times y u y u i i,
      Agree-Same (Agree-trans h (quotient_slope w w' u u' y i)),
    )

-- the quotient, as its divisor holds the name, only its dividend does, or neither
divided : (b c : Bool) (f : Assignment) (t t' u u' : Tree) (p q r : Pair) (y : Surd) → (b ≡ false → Agree r.slope []) → (b ≡ false → c ≡ false → Agree p.slope [])
    → Means t f q.value → Means t' f q.slope → Means u f r.value → Means u' f r.slope → Inverts y r.value → SamePair p (pair_over q r y)
    → Means (if b then quotient_rule t t' u u' else where_occurs c (div t' u)) f p.slope
divided true c f t t' u u' p q r y z n mt mt' mu mu' i s = quotient_means f t t' u u' p.slope q.value q.slope r.value r.slope y mt mt' mu mu' i (Same-Agree s.slopes)
divided false c f t t' u u' p q r y z n mt mt' mu mu' i s =
    guarded c (div t' u) f p.slope (n refl)
    (q.slope, r.value, y, mt', mu, i, Agree-Same (Agree-trans (Same-Agree s.slopes) (quotient_still q.value q.slope r.slope y (z refl))))

-- ---- powers

lowered_means : (f : Assignment) (n m : ℤ) (b b' : Tree) (d w w' v : Surd) → n -ℤ pos 1 ≡ m → Means b f w → Means b' f w' → IsWholePower m w v
    → Same d (surd_scale (whole_fraction n) (surd_times v w')) → Means (lowered n b b') f d
lowered_means f n m b b' d w w' v e mb mb' p s =
    let rest = surd_times v w' in
    let less : Means (power b (num (whole_fraction (n -ℤ pos 1)))) f v = subst (λ (k : ℤ). Means (power b (num (whole_fraction k))) f v) (sym e) (power_whole f b m w v mb p) in
    product_more f (num (whole_fraction n)) (two (power b (num (whole_fraction (n -ℤ pos 1)))) b') d (surd_of (whole_fraction n)) rest
    (Same-refl (surd_of (whole_fraction n))) (product_two f (power b (num (whole_fraction (n -ℤ pos 1)))) b' rest v w' less mb' (Same-refl rest))
    (Same-trans s (Agree-Same (Agree-sym (surd_times-surd_of (whole_fraction n) rest))))

power_means : (f : Assignment) (n : ℤ) (b b' : Tree) (d : Surd) (q : Pair) → Means b f q.value → Means b' f q.slope → IsPowerSlope n q d → Means (power_rule n b b') f d
power_means f (pos zero) b b' d q mb mb' s = zero_means f d (Same-Agree s)
power_means f (pos (suc zero)) b b' d q mb mb' s = Means-Same b' f q.slope d mb' (Same-sym s)
power_means f (pos (suc (suc n))) b b' d q mb mb' s =
    lowered_means f (pos (suc (suc n))) (pos (suc n)) b b' d q.value q.slope (surd_power q.value (suc n)) (omega (arith, ints)) mb mb' (Same-refl (surd_power q.value (suc n))) s
power_means f (negsuc n) b b' d q mb mb' (y, i, s) =
    lowered_means f (negsuc n) (negsuc (suc n)) b b' d q.value q.slope (surd_power y (suc (suc n))) (omega (arith, ints)) mb mb' (y, i, Same-refl (surd_power y (suc (suc n)))) s

literal_means : (f : Assignment) (l : Option ℤ) (n : ℤ) (b b' : Tree) (d : Surd) → l ≡ Some n → Means (power_rule n b b') f d → Means (literal_power_rule l b b') f d
literal_means f l n b b' d e m = subst (λ (z : Option ℤ). Means (literal_power_rule z b b') f d) (sym e) m

rational_literal : (q : Fraction) (n : ℤ) → whole_value q ≡ Some n → Same (surd_of (whole_fraction n)) (surd_of q)
rational_literal q n h = Same-eq (ap (λ (z : Fraction). surd_of z) (sym (whole_by (q.den == 1) q n refl h)))

opposite_by : (v : Option ℤ) (q : Fraction) (n : ℤ) → whole_value q ≡ v → opposite v ≡ Some n → whole_fraction n ≡ times minus_one_fraction q
opposite_by (Some m) q n d h =
    let same : n ≡ negsuc 0 *ℤ m = sym (let is : neg_ℤ m ≡ n = cc in is) ∙ omega (arith, ints) in
    ap whole_fraction same ∙ sym (whole_times (negsuc 0) m) ∙ ap (times minus_one_fraction) (sym (whole_by (q.den == 1) q m refl d))
opposite_by None q n d h = absurd cc

opposite_literal : (q : Fraction) (n : ℤ) → opposite (whole_value q) ≡ Some n → whole_fraction n ≡ times minus_one_fraction q
opposite_literal q n h = opposite_by (whole_value q) q n refl h

no_literal : {A : Type 0} {n : ℤ} → None ≡ Some n → A
no_literal h = absurd cc

-- what an exponent that is a whole literal means
literal_value : (f : Assignment) (e : Tree) (n : ℤ) → whole_literal e ≡ Some n → Means e f (surd_of (whole_fraction n))
literal_value f (num q) n h = rational_literal q n h
literal_value f (neg (num q)) n h = (surd_of q, Same-refl (surd_of q), Same-eq (ap (λ (z : Fraction). surd_of z) (opposite_literal q n h)))
literal_value f e n h = no_literal h

whole_power_means : (f : Assignment) (b e : Tree) (n : ℤ) (w v : Surd) → whole_literal e ≡ Some n → Means b f w → IsWholePower n w v → Means (power b e) f v
whole_power_means f b e n w v l m p = (w, surd_of (whole_fraction n), m, literal_value f e n l, inl (n, Same-refl (surd_of (whole_fraction n)), p))

-- ---- roots

root_means : (f : Assignment) (a a' : Tree) (q p : Pair) → Means a f q.value → Means a' f q.slope → IsRootPair q p → Means (root_rule a a') f p.slope
root_means f a a' q p ma ma' r =
    let half = surd_times (surd_of (quotient 1 2)) r.inverse in
    let below = surd_times (surd_of (whole_fraction (pos 2))) p.value in (
      q.slope,
      below,
      half,
      ma',
      product_two f (whole_num 2) (root a) below (surd_of (whole_fraction (pos 2))) p.value (Same-refl (surd_of (whole_fraction (pos 2)))) (q.value, ma, r.value) (Same-refl below),
      half_inverts r.inverse p.value r.inverts,
      Agree-Same (Agree-trans (Same-Agree r.slope) (Agree-sym (scale_right (quotient 1 2) q.slope r.inverse))),
    )

-- ---- every tree

module _ (x : List ℕ) (f : Assignment) where
  -- the products that are to be added, for factors that mean p before those of which d is the slope
  pub record MeansProducts (us : Trees) (p d : Surd) : Type 0 where
    pub sum : Surd
    pub means : MeansSum us f sum
    pub same : Agree sum (surd_times p d)

  by_factor : (b : Bool) (t : Tree) (us : Trees) (p a a' c c' v d : Surd) → (b ≡ false → Agree a' []) → Means t f v → Agree v (surd_times p (surd_times a' c)) → MeansProducts us (surd_times p a) c'
      → d ≡ surd_times a c' ++ surd_times a' c → MeansProducts (if b then more t us else us) p d
  by_factor true t us p a a' c c' v d z m s h e = record {
    sum = v ++ h.sum;
    means = (v, h.sum, m, h.means, refl);
    same = Agree-trans (Agree-append s (Agree-refl h.sum))
        (Agree-trans (product_slope p a a' c c' h.sum h.same) (Agree-eq (ap (surd_times p) (sym e))));
  }
  by_factor false t us p a a' c c' v d z m s h e = record { sum = h.sum; means = h.means; same = Agree-trans (product_still p a a' c c' h.sum (z refl) h.same) (Agree-eq (ap (surd_times p) (sym e))) }

  mutual
    pub value_means : (t : Tree) (p : Pair) → HasPair x t f p → Means t f p.value
    value_means (num q) p (m, s) = m
    value_means (symbol y) p (m, s) = m
    value_means undef p h = absurd h
    value_means (add ts) p (q, h, s) = (q.value, values_sum ts q h, s.values)
    value_means (mult ts) p (q, h, s) = (q.value, values_product ts q h, s.values)
    value_means (neg a) p (q, h, s) = (q.value, value_means a q h, s.values)
    value_means (sub a b) p (q, r, h, k, s) = (q.value, r.value, value_means a q h, value_means b r k, s.values)
    value_means (div a b) p (q, r, y, h, k, i, s) = (q.value, r.value, y, value_means a q h, value_means b r k, i, s.values)
    value_means (power b e) p (inl s) = s.value
    value_means (power b e) p (inr (q, n, h, held, l, s)) = whole_power_means f b e n q.value p.value l (value_means b q h) s.value
    value_means (root a) p (inl s) = s.value
    value_means (root a) p (inr (q, h, held, s)) = (q.value, value_means a q h, s.value)

    values_sum : (ts : Trees) (p : Pair) → HasPairSum x ts f p → MeansSum ts f p.value
    values_sum none p e = ap (λ (z : Pair). z.value) e
    values_sum (more t ts) p (q, r, h, k, e) = (q.value, r.value, value_means t q h, values_sum ts r k, ap (λ (z : Pair). z.value) e)

    values_product : (ts : Trees) (p : Pair) → HasPairProduct x ts f p → MeansProduct ts f p.value
    values_product none p e = ap (λ (z : Pair). z.value) e
    values_product (more t ts) p (q, r, h, k, e) = (q.value, r.value, value_means t q h, values_product ts r k, ap (λ (z : Pair). z.value) e)

  mutual
    pub slope_means : (t : Tree) (p : Pair) → HasPair x t f p → Means (derivative x t) f p.slope
    slope_means (num q) p (m, s) = zero_means f p.slope (Same-Agree s)
    slope_means (symbol y) p (m, s) = symbol_means (bytes_eq y x) f p.slope s
    slope_means undef p h = absurd h
    slope_means (add ts) p (q, h, s) =
        guarded (occurs_in x ts) (add (derivatives x ts)) f p.slope (λ o. still x f (add ts) p o (q, h, s)) (q.slope, slopes_sum ts q h, s.slopes)
    slope_means (mult ts) p (q, h, s) =
        let r = slopes_product ts none surd_one q (surd_one, refl, Same-refl surd_one) h in
        sum_means (products x none ts) f p.slope r.sum r.means (Agree-trans (Same-Agree s.slopes) (Agree-sym (Agree-trans r.same (Agree-eq (surd_times-surd_one q.slope)))))
    slope_means (neg a) p (q, h, s) = guarded (occurs x a) (neg (derivative x a)) f p.slope (λ o. still x f (neg a) p o (q, h, s)) (q.slope, slope_means a q h, s.slopes)
    slope_means (sub a b) p (q, r, h, k, s) =
        guarded (occurs x a || occurs x b) (sub (derivative x a) (derivative x b)) f p.slope (λ o. still x f (sub a b) p o (q, r, h, k, s))
        (q.slope, r.slope, slope_means a q h, slope_means b r k, s.slopes)
    slope_means (div a b) p (q, r, y, h, k, i, s) =
        divided (occurs x b) (occurs x a) f a (derivative x a) b (derivative x b) p q r y (λ o. still x f b r o k)
        (λ o z. still x f (div a b) p (neither (occurs x a) (occurs x b) z o) (q, r, y, h, k, i, s))
        (value_means a q h) (slope_means a q h) (value_means b r k) (slope_means b r k) i s
    slope_means (power b e) p (inl s) = guarded_absent (occurs x b || occurs x e) (literal_power_rule (whole_literal e) b (derivative x b)) f p.slope s.absent (Same-Agree s.slope)
    slope_means (power b e) p (inr (q, n, h, held, l, s)) =
        guarded_held (occurs x b || occurs x e) (literal_power_rule (whole_literal e) b (derivative x b)) f p.slope held
        (literal_means f (whole_literal e) n b (derivative x b) p.slope l (power_means f n b (derivative x b) p.slope q (value_means b q h) (slope_means b q h) s.slope))
    slope_means (root a) p (inl s) = guarded_absent (occurs x a) (root_rule a (derivative x a)) f p.slope s.absent (Same-Agree s.slope)
    slope_means (root a) p (inr (q, h, held, s)) = guarded_held (occurs x a) (root_rule a (derivative x a)) f p.slope held
        (root_means f a (derivative x a) q p (value_means a q h) (slope_means a q h) s)

    slopes_sum : (ts : Trees) (p : Pair) → HasPairSum x ts f p → MeansSum (derivatives x ts) f p.slope
    slopes_sum none p e = ap (λ (z : Pair). z.slope) e
    slopes_sum (more t ts) p (q, r, h, k, e) = (q.slope, r.slope, slope_means t q h, slopes_sum ts r k, ap (λ (z : Pair). z.slope) e)

    slopes_product : (ts earlier : Trees) (v : Surd) (p : Pair) → Means (mult earlier) f v → HasPairProduct x ts f p → MeansProducts (products x earlier ts) v p.slope
    slopes_product none earlier v p m e = record { sum = []; means = refl; same = Agree-eq (sym (ap (λ (z : Pair). surd_times v z.slope) e ∙ surd_times-nil v)) }
    slopes_product (more t ts) earlier v p m (q, r, h, k, e) =
        let others : Means (mult ts) f r.value = (r.value, values_product ts r k, Same-refl r.value) in
        let behind = surd_times q.slope r.value in
        let whole = surd_times v behind in
        let next = surd_times v q.value in
        by_factor (occurs x t) (mult (append earlier (more (derivative x t) ts))) (products x (append earlier (more t none)) ts) v q.value q.slope r.value r.slope whole p.slope
        (λ o. still x f t q o h)
        (product_append f earlier (more (derivative x t) ts) whole v behind m
        (product_more f (derivative x t) ts behind q.slope r.value (slope_means t q h) others (Same-refl behind)) (Same-refl whole))
        (Agree-refl whole)
        (slopes_product ts (append earlier (more t none)) next r (product_append f earlier (more t none) next v q.value m (product_one f t q.value (value_means t q h)) (Same-refl next)) k)
        (ap (λ (z : Pair). z.slope) e)
