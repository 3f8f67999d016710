-- A face keeps each meaning of its tree.
use Rattle.beautify.proofs.Shared.{◌≡◌, ℕ, zero, suc, ◌*◌, ◌<◌, ◌++◌, [], ℤ, pos, negsuc, nat_abs, Bool, true, false, not, refl, sym, ap, ◌∙◌, arith, subst, append_assoc, append-nil, inl, inr, ⊤}
use Rattle.beautify.proofs.Shared.{int_is_negative, parts, diffs, eq_diff, Fraction, lowest, times, whole_fraction, minus_one_fraction, lowest_parts, same_lowest, times_lowest, den_pos, mul_pos, Tree}
use Rattle.beautify.proofs.Shared.{num, symbol, undef, add, mult, power, root, neg, sub, div, Trees, none, more, AllParts, AllPartsOf, is_num, whole_num, Surd, surd_of, surd_one, surd_scale}
use Rattle.beautify.proofs.Shared.{surd_times, surd_power, Assignment, Means, MeansSum, MeansProduct, IsPower, IsWholePower, SoFar, single, summed, as_tree, face, has_minus, with_minus, unsigned_face}
use Rattle.beautify.proofs.Shared.{unless_one, product_of, fraction_of, power_below, exponent_below, below_zero, factor_above, factor_below, factors_above, factors_below, face_of_sum, next_term}
use Rattle.beautify.proofs.Shared.{next_terms, IsTerm, none_is, split_product, is_reduced, NoneIs, HasForm, IsReduced, append, reduced_words, AllParts-map, ints, and_parts, one_fraction, is_number}
use Rattle.beautify.proofs.Shared.{◌*ℤ◌, Agree, Agree-refl, Agree-sym, Agree-trans, Agree-eq, Agree-Same, Agree-append, Agree-surd_times, Agree-surd_times_right, surd_times_assoc, surd_times-surd_one}
use Rattle.beautify.proofs.Shared.{surd_times-one, surd_times_left_comm, surd_times-surd_of, inverse_times, inverse_power, Same-refl, Same-Agree, Means-Same, exponent_is}
use Rattle.beautify.proofs.Trees.{unless_one_test, power_below_test}

-- in each product, no factor but the first is a rational
abbrev pub LeadsOnly : Tree → Type 0
LeadsOnly (mult (more t ts)) = none_is is_num ts ≡ true
LeadsOnly _ = ⊤

-- the children of two sums side by side
sum_joined : (ts us : Trees) (f : Assignment) (v w : Surd) → MeansSum ts f v → MeansSum us f w → MeansSum (append ts us) f (v ++ w)
sum_joined none us f v w h k = rw h k
sum_joined (more t ts) us f v w (a, b, m, n, e) k = (a, b ++ w, m, sum_joined ts us f b w n k, ap (λ x. x ++ w) e ∙ append_assoc a b w)

-- ---- one fraction

-- its value without its sign
abbrev magnitude : Fraction → Fraction
magnitude q = lowest (pos (nat_abs q.num)) q.den

over_is : (p : ℤ) (d : ℕ) → 0 < d → times (whole_fraction p) (lowest (pos 1) d) ≡ lowest p d
over_is p d h = times_lowest p (pos 1) 1 d (omega arith) h ∙ same_lowest (p *ℤ pos 1) p (1 * d) d (mul_pos 1 d (omega arith) h) h (rw (parts p) (simp diffs (eq_diff _ _ _ _ (omega arith))))

inverse_of_whole : (d : ℕ) → 0 < d → times (lowest (pos 1) d) (whole_fraction (pos d)) ≡ one_fraction
unfolding one_fraction
inverse_of_whole d h = times_lowest (pos 1) (pos d) d 1 h (omega arith) ∙ same_lowest (pos (1 * d)) (pos 1) (d * 1) 1 (mul_pos d 1 h (omega arith)) (omega arith) (ap pos (omega arith))

minus : (n : ℕ) → negsuc 0 *ℤ pos (suc n) ≡ negsuc n
minus n = omega (arith, ints)

opposite : (n d : ℕ) → 0 < d → times minus_one_fraction (lowest (pos (suc n)) d) ≡ lowest (negsuc n) d
opposite n d h =
    times_lowest (negsuc 0) (pos (suc n)) 1 d (omega arith) h
    ∙ same_lowest (negsuc 0 *ℤ pos (suc n)) (negsuc n) (1 * d) d (mul_pos 1 d (omega arith) h) h (ap (λ z. z *ℤ pos d) (minus n) ∙ ap (λ k. negsuc n *ℤ pos k) (sym (one_times' d)))
  where
    one_times' : (d : ℕ) → 1 * d ≡ d
    one_times' d = omega arith

-- the value behind a sign
abbrev turned : Bool → Surd → Surd
turned true u = surd_scale minus_one_fraction u
turned false u = u

module _ (f : Assignment) where
  -- a value, and the face without its sign that means it up to the sign
  record Unsigned (t : Tree) (v : Surd) : Type 0 where
    value : Surd
    means : Means (unsigned_face t) f value
    same : Agree v (turned (has_minus t) value)

  signed : (b : Bool) (t : Tree) (v u : Surd) → Means t f u → Agree v (turned b u) → Means (with_minus b t) f v
  signed b t v u m e = grind (arith, Agree-Same, Means-Same, Agree-sym)

  with_sign : (t : Tree) (v : Surd) → Unsigned t v → Means (face t) f v
  with_sign t v h = signed (has_minus t) (unsigned_face t) v h.value h.means h.same

  -- ---- above and below the line

  -- v is what is above, times the inverse of what is below
  record Sides (above below : Trees) (v : Surd) : Type 0 where
    top : Surd
    bottom : Surd
    inverse : Surd
    above_means : MeansProduct above f top
    below_means : MeansProduct below f bottom
    inverts : Agree (surd_times inverse bottom) surd_one
    same : Agree v (surd_times top inverse)

  no_factors : Sides none none surd_one
  no_factors = record { top = surd_one; bottom = surd_one; inverse = surd_one; above_means = refl; below_means = refl; inverts = Agree-eq (surd_times-surd_one surd_one); same = Agree-sym (Agree-eq (surd_times-surd_one surd_one)) }

  same_sides : (above below : Trees) (v w : Surd) → Sides above below v → Agree w v → Sides above below w
  same_sides above below v w h e = record { top = h.top; bottom = h.bottom; inverse = h.inverse; above_means = h.above_means; below_means = h.below_means; inverts = h.inverts; same = Agree-trans e h.same }

  one_above : (t : Tree) (above below : Trees) (p v : Surd) → Means t f p → Sides above below v → Sides (more t above) below (surd_times p v)
  one_above t above below p v m h = record {
    top = surd_times p h.top;
    bottom = h.bottom;
    inverse = h.inverse;
    above_means = (p, h.top, m, h.above_means, refl);
    below_means = h.below_means;
    inverts = h.inverts;
    same = Agree-trans (Agree-surd_times_right p h.same) (Agree-sym (Agree-eq (surd_times_assoc p h.top h.inverse)));
  }

  one_below : (t : Tree) (above below : Trees) (p y v : Surd) → Means t f p → Agree (surd_times y p) surd_one → Sides above below v → Sides above (more t below) (surd_times y v)
  one_below t above below p y v m i h = record {
    top = h.top;
    bottom = surd_times p h.bottom;
    inverse = surd_times y h.inverse;
    above_means = h.above_means;
    below_means = (p, h.bottom, m, h.below_means, refl);
    inverts = inverse_times y p h.inverse h.bottom i h.inverts;
    same = Agree-trans (Agree-surd_times_right y h.same) (surd_times_left_comm y h.top h.inverse);
  }

  product_means : (ts : Trees) (v : Surd) → MeansProduct ts f v → Means (product_of ts) f v
  unfolding one_fraction
  product_means ts v e = grind (arith, Agree-Same, Agree-eq, Means-Same, Agree-sym, Agree-trans, surd_times-one, Same-refl)

  fraction_means : (above below : Trees) (v : Surd) → Sides above below v → Means (fraction_of above below) f v
  fraction_means above none v h =
      let y : Agree h.inverse surd_one = Agree-trans (Agree-sym (surd_times-one h.inverse)) (Agree-trans (Agree-eq (ap (surd_times h.inverse) (sym h.below_means))) h.inverts) in
      Means-Same (product_of above) f h.top v (product_means above h.top h.above_means)
      (Agree-Same (Agree-sym (Agree-trans h.same (Agree-trans (Agree-surd_times_right h.top y) (surd_times-one h.top)))))
  fraction_means above (more t ts) v h =
      (h.top, h.bottom, h.inverse, product_means above h.top h.above_means, product_means (more t ts) h.bottom h.below_means, Agree-Same h.inverts, Agree-Same h.same)

  -- ---- a whole number above or below, unless it is 1

  whole_above : (n : ℕ) (above below : Trees) (v : Surd) → Sides above below v → Sides (unless_one n above) below (surd_times (surd_of (whole_fraction (pos n))) v)
  unfolding one_fraction
  whole_above n above below v h =
      unless_one_test (λ us. Sides us below (surd_times (surd_of (whole_fraction (pos n))) v)) n above
      (λ e. same_sides above below v _ h (Agree-eq (ap (λ k. surd_times (surd_of (whole_fraction (pos k))) v) e ∙ surd_times-surd_one v))) (one_above (whole_num n) above below _ v (Same-refl _) h)

  whole_below : (d : ℕ) (above below : Trees) (v : Surd) → 0 < d → Sides above below v → Sides above (unless_one d below) (surd_times (surd_of (lowest (pos 1) d)) v)
  unfolding one_fraction
  whole_below d above below v p h =
      unless_one_test (λ us. Sides above us (surd_times (surd_of (lowest (pos 1) d)) v)) d below
      (λ e. same_sides above below v _ h (Agree-eq (ap (λ k. surd_times (surd_of (lowest (pos 1) k)) v) e ∙ surd_times-surd_one v)))
      (one_below (whole_num d) above below (surd_of (whole_fraction (pos d))) (surd_of (lowest (pos 1) d)) v (Same-refl _) (Agree-eq (ap surd_of (inverse_of_whole d p))) h)

  leading : (q : Fraction) (above below : Trees) (v : Surd) → Sides above below v → Sides (unless_one (nat_abs q.num) above) (unless_one q.den below) (surd_times (surd_of (magnitude q)) v)
  leading q above below v h =
      same_sides _ _ _ _ (whole_above (nat_abs q.num) above (unless_one q.den below) _ (whole_below q.den above below v (den_pos q) h))
      (Agree-trans (Agree-eq (ap (λ x. surd_times (surd_of x) v) (sym (over_is (pos (nat_abs q.num)) q.den (den_pos q)))))
      (Agree-eq (surd_times_assoc (surd_of (whole_fraction (pos (nat_abs q.num)))) (surd_of (lowest (pos 1) q.den)) v)))

  leading_sign : (q : Fraction) (v : Surd) → Agree (surd_times (surd_of q) v) (turned (int_is_negative q.num) (surd_times (surd_of (magnitude q)) v))
  leading_sign q v = Agree-trans (Agree-eq (ap (λ x. surd_times (surd_of x) v) (lowest_parts q))) (by q.num)
    where
      by : (z : ℤ) → Agree (surd_times (surd_of (lowest z q.den)) v) (turned (int_is_negative z) (surd_times (surd_of (lowest (pos (nat_abs z)) q.den)) v))
      by (pos n) = Agree-refl _
      by (negsuc n) =
          Agree-trans (Agree-eq (ap (λ x. surd_times (surd_of x) v) (sym (opposite n q.den (den_pos q)))))
          (Agree-trans (Agree-eq (surd_times_assoc (surd_of minus_one_fraction) (surd_of (lowest (pos (suc n)) q.den)) v))
          (surd_times-surd_of minus_one_fraction (surd_times (surd_of (lowest (pos (suc n)) q.den)) v)))

  -- ---- powers below the line

  -- an exponent that stands below as n + 1 means -(n + 1)
  inverse_exponent : (e : Tree) (n : ℕ) (w x v : Surd) → exponent_below e ≡ suc n → Means e f x → IsPower w x v → IsWholePower (negsuc n) w v
  inverse_exponent (num q) n w x v h m i = exponent_is (negsuc n) w x v (Agree-Same (Agree-trans (Same-Agree m) (Agree-eq (ap surd_of q_is)))) i
    where
      parts_are : (z : ℤ) (d : ℕ) → below_zero z d ≡ suc n → (z ≡ negsuc n) × (d ≡ 1)
      parts_are (negsuc p) (suc zero) e = (let g : p ≡ n = cc in ap negsuc g, refl)
      parts_are z d e = cc

      q_is : q ≡ whole_fraction (negsuc n)
      q_is = let (a, b) = parts_are q.num q.den h in lowest_parts q ∙ (λ i. lowest (a i) (b i))
  inverse_exponent e n w x v h m i = cc

  power_below_means : (b : Tree) (n : ℕ) (w : Surd) → Means b f w → Means (power_below b (suc n)) f (surd_power w (suc n))
  power_below_means b n w m =
      power_below_test (λ t. Means t f (surd_power w (suc n))) b (suc n) (λ e. let z : zero ≡ n = omega (arith, e) in subst (λ k. Means b f (surd_power w (suc k))) z m)
      (w, surd_of (whole_fraction (pos (suc n))), m, Same-refl _, inl (pos (suc n), Same-refl _, Same-refl _))

  inverted : (b : Tree) (n : ℕ) (w v : Surd) (above below : Trees) (r : Surd) → Means b f w → IsWholePower (negsuc n) w v → Sides above below r → Sides above (more (power_below b (suc n)) below) (surd_times v r)
  inverted b n w v above below r m (y, i, e) h =
      same_sides _ _ _ _ (one_below (power_below b (suc n)) above below (surd_power w (suc n)) (surd_power y (suc n)) r (power_below_means b n w m) (inverse_power n y w (Same-Agree i)) h)
      (Agree-surd_times (Same-Agree e) (Agree-refl r))

  power_face : (b e : Tree) (w x v : Surd) → Means (face b) f w → Means (face e) f x → Means e f x → IsPower w x v → Unsigned (power b e) v
  power_face b e w x v m n n' i = let (u, k, s) = by (exponent_below e) refl in record { value = u; means = k; same = s }
    where
      by : (k : ℕ) → exponent_below e ≡ k
          → (u : Surd) × Means (elim k [ zero ↦ power (face b) (face e) | suc p ↦ fraction_of none (more (power_below (face b) (suc p)) none) ]) f u × Agree v u
      by zero g = (v, (w, x, m, n, i), Agree-refl v)
      by (suc p) g = (
        surd_times v surd_one,
        fraction_means none (more (power_below (face b) (suc p)) none) _ (inverted (face b) p w v none none surd_one m (inverse_exponent e p w x v g n' i) no_factors),
        Agree-sym (surd_times-one v),
      )

  power_factor : (b e : Tree) (w x v : Surd) → Means (face b) f w → Means (face e) f x → Means e f x → IsPower w x v
      → (above below : Trees) (r : Surd) → Sides above below r → Sides (factor_above (power b e) above) (factor_below (power b e) below) (surd_times v r)
  power_factor b e w x v m n n' i above below r s = by (exponent_below e) refl
    where
      by : (k : ℕ) → exponent_below e ≡ k
          → Sides (elim k [ zero ↦ more (power (face b) (face e)) above | suc p ↦ above ]) (elim k [ zero ↦ below | suc p ↦ more (power_below (face b) (suc p)) below ]) (surd_times v r)
      by zero g = one_above (power (face b) (face e)) above below v r (w, x, m, n, i) s
      by (suc p) g = inverted (face b) p w v above below r m (inverse_exponent e p w x v g n' i) s

  -- ---- sums

  one_more : (s : SoFar) (b : Bool) (t : Tree) (x a u : Surd) → Means (as_tree s) f x → Means t f u → Agree a (turned b u) → Means (as_tree (next_term s b t)) f (x ++ a)
  one_more s true t x a u m n e = (x, u, m, n, Agree-Same (Agree-append (Agree-refl x) e))
  one_more (summed us) false t x a u (w, m, k) n e =
      (w ++ (u ++ []), sum_joined us (more t none) f w (u ++ []) m (u, [], n, refl, refl), Agree-Same (Agree-append (Same-Agree k) (Agree-trans e (Agree-eq (sym (append-nil u))))))
  one_more s false t x a u m n e = (x ++ (u ++ []), (x, u ++ [], m, (u, [], n, refl, refl), refl), Agree-Same (Agree-append (Agree-refl x) (Agree-trans e (Agree-eq (sym (append-nil u))))))

  mutual
    unsigned : (t : Tree) → AllParts LeadsOnly t → (v : Surd) → Means t f v → Unsigned t v
    unsigned (num q) h v m = record {
      value = surd_times (surd_of (magnitude q)) surd_one;
      means = fraction_means (unless_one (nat_abs q.num) none) (unless_one q.den none) _ (leading q none none surd_one no_factors);
      same = Agree-trans (Same-Agree m) (Agree-trans (Agree-sym (surd_times-one (surd_of q))) (leading_sign q surd_one));
    }
    unsigned (symbol x) h v m = record { value = v; means = m; same = Agree-refl v }
    unsigned undef h v m = absurd m
    unsigned (add ts) h v (w, m, e) = record { value = w; means = sum_face ts h.1 w m; same = Same-Agree e }
    unsigned (mult none) h v (w, m, e) = record { value = w; means = product_means none w m; same = Same-Agree e }
    unsigned (mult (more (num q) ts)) h v (w, (a, b, m, n, k), e) = record {
      value = surd_times (surd_of (magnitude q)) b;
      means = fraction_means (unless_one (nat_abs q.num) (factors_above ts)) (unless_one q.den (factors_below ts)) _ (leading q (factors_above ts) (factors_below ts) b (factors_face ts h.0 h.1.1 b n));
      same = Agree-trans (Same-Agree e) (Agree-trans (Agree-eq k) (Agree-trans (Agree-surd_times (Same-Agree m) (Agree-refl b)) (leading_sign q b)));
    }
    unsigned (mult (more t ts)) h v (w, (a, b, m, n, k), e) = record {
      value = w;
      means = fraction_means (factor_above t (factors_above ts)) (factor_below t (factors_below ts)) w
          (same_sides _ _ _ _ (factor_face t refl h.1.0 a m (factors_above ts) (factors_below ts) b (factors_face ts h.0 h.1.1 b n)) (Agree-eq k));
      same = Same-Agree e;
    }
    unsigned (power b e) h v (w, x, m, n, i) = power_face b e w x v (with_sign b w (unsigned b h.1 w m)) (with_sign e x (unsigned e h.2 x n)) n i
    unsigned (root a) h v (x, m, i) = record { value = v; means = (x, with_sign a x (unsigned a h.1 x m), i); same = Agree-refl v }
    unsigned (neg a) h v (w, m, e) = record { value = v; means = (w, with_sign a w (unsigned a h.1 w m), e); same = Agree-refl v }
    unsigned (sub a b) h v (w, u, m, n, e) = record { value = v; means = (w, u, with_sign a w (unsigned a h.1 w m), with_sign b u (unsigned b h.2 u n), e); same = Agree-refl v }
    unsigned (div a b) h v (w, u, y, m, n, i, e) = record { value = v; means = (w, u, y, with_sign a w (unsigned a h.1 w m), with_sign b u (unsigned b h.2 u n), i, e); same = Agree-refl v }

    sum_face : (ts : Trees) → AllPartsOf LeadsOnly ts → (v : Surd) → MeansSum ts f v → Means (face_of_sum ts) f v
    sum_face none h v m = (v, m, Same-refl v)
    sum_face (more t ts) h v (a, b, m, n, e) = subst (λ x. Means (face_of_sum (more t ts)) f x) (sym e) (terms_face (single (face t)) a (with_sign t a (unsigned t h.0 a m)) ts h.1 b n)

    terms_face : (s : SoFar) (x : Surd) → Means (as_tree s) f x → (ts : Trees) → AllPartsOf LeadsOnly ts → (v : Surd) → MeansSum ts f v → Means (as_tree (next_terms s ts)) f (x ++ v)
    terms_face s x m none h v e = subst (λ y. Means (as_tree s) f y) (sym (ap (λ y. x ++ y) e ∙ append-nil x)) m
    terms_face s x m (more t ts) h v (a, b, k, n, e) =
        let u = unsigned t h.0 a k in
        subst (λ y. Means (as_tree (next_terms s (more t ts))) f y) (append_assoc x a b ∙ ap (λ y. x ++ y) (sym e))
        (terms_face (next_term s (has_minus t) (unsigned_face t)) (x ++ a) (one_more s (has_minus t) (unsigned_face t) x a u.value m u.means u.same) ts h.1 b n)

    factors_face : (ts : Trees) → none_is is_num ts ≡ true → AllPartsOf LeadsOnly ts → (v : Surd) → MeansProduct ts f v → Sides (factors_above ts) (factors_below ts) v
    factors_face none g h v e = same_sides none none surd_one v no_factors (Agree-eq e)
    factors_face (more t ts) g h v (a, b, m, n, e) =
        let (p, q) = and_parts (not (is_num t)) (none_is is_num ts) g in
        same_sides _ _ _ _ (factor_face t p h.0 a m (factors_above ts) (factors_below ts) b (factors_face ts q h.1 b n)) (Agree-eq e)

    factor_face : (t : Tree) → not (is_num t) ≡ true → AllParts LeadsOnly t → (a : Surd) → Means t f a → (above below : Trees) (r : Surd) → Sides above below r → Sides (factor_above t above) (factor_below t below) (surd_times a r)
    factor_face (num q) g h a m above below r s = cc
    factor_face (power b e) g h a (w, x, m, n, i) above below r s = power_factor b e w x a (with_sign b w (unsigned b h.1 w m)) (with_sign e x (unsigned e h.2 x n)) n i above below r s
    factor_face (root c) g h a (x, m, i) above below r s = one_above (root (face c)) above below a r (x, with_sign c x (unsigned c h.1 x m), i) s
    factor_face (add ts) g h a (w, m, e) above below r s = one_above (face_of_sum ts) above below a r (Means-Same (face_of_sum ts) f w a (sum_face ts h.1 w m) (Agree-Same (Agree-sym (Same-Agree e)))) s
    factor_face t g h a m above below r s = one_above t above below a r m s

-- a face means what its tree means
pub face_means : (t : Tree) → AllParts LeadsOnly t → (f : Assignment) (v : Surd) → Means t f v → Means (face t) f v
face_means t h f v m = with_sign f t v (unsigned f t h v m)

-- ---- reduced trees

none_num : (ts : Trees) → NoneIs is_number ts → none_is is_num ts ≡ true
unfolding is_number
none_num none h = refl
none_num (more (num q) ts) h = cc
none_num (more t ts) h = none_num ts h.1

-- a product of one term has a rational in front at most
number_leads : (t : Tree) (ts : Trees) → IsTerm (mult (more t ts)) → none_is is_num ts ≡ true
number_leads t ts h = grind arith

-- in a product's form there is none behind the coefficient
product_leads : (t : Tree) (ts : Trees) → NoneIs is_number (split_product (more t ts)).factors → none_is is_num ts ≡ true
product_leads t ts h = grind (arith, none_num)

pub form_leads : (t : Tree) → HasForm t → LeadsOnly t
form_leads t h = grind (arith, number_leads, product_leads)

-- the face of a reduced tree keeps its meanings
pub reduced_face_means : (t : Tree) → is_reduced t ≡ true → (f : Assignment) (v : Surd) → Means t f v → Means (face t) f v
reduced_face_means t h f v m = by (reduced_words t h)
  where
    by : IsReduced t → Means (face t) f v
    by (inl e) = absurd (subst (λ u. Means u f v) e m)
    by (inr g) = face_means t (AllParts-map HasForm LeadsOnly form_leads t g) f v m
