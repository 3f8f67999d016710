-- Coefficients made whole and primitive.
use Rattle.std.proofs.Common.{◌≡◌, ◌≢◌, ℕ, zero, suc, ◌+◌, ◌-◌, ◌*◌, ◌/◌, ◌<◌, ℤ, pos, negsuc, ◌*ℤ◌, ◌<ℤ◌, neg_ℤ, nat_abs, Bool, true, false, List, [], ◌∷◌, ◌++◌, map, length, get_or, take, refl, sym, ap, ◌∙◌, subst, arith, below_more}
use Rattle.std.proofs.lemmas.{Int.{ints}, List.{length-map, map-append, take_more}}
use Rattle.std.specs.Int.{IsGcd}
use Rattle.std.proofs.lemmas.Nat.Gcd.{dvd_trans}
use native.Mathlib.Nat.{div-mul_cancel, mul-div_cancel', dvd-mul_left}
use Prim.Native.Nat.{◌∣◌}
use Rattle.calc_terms.specs.{Fractions.{Fraction, times, whole_fraction, zero_fraction, mul_pos, den_pos, same_lowest, times_lowest, lowest_parts, over, over_back}, Integers.{parts, diffs, eq_diff}, Ratio.{with_sign}}
use Rattle.calc_terms.specs.FractionLaws.{one_times, times_assoc, times_comm}
use Rattle.calc_terms.specs.{Fractions.{inverse}, Integers.{int_is_negative}}
use Rattle.calc_terms.proofs.Signs.{abs-with_sign}
use Rattle.calc_algebra.proofs.InverseLaws.{factor_not_zero, inverse_times_itself, product_not_zero}
use Rattle.equation_roots.specs.{Coefficients.{Dense, HasLeading, at}, Wholes.{IsMultiple, fractions, leading}}
use Rattle.equation_roots.proofs.{Linear.{leading-at}, RootQuotients.{zero_above}, Steps.{product_positive}, Values.{at_scaled}, Wide.{abs_zero, times_comm_int, times_zero_int, minus_minus}}

-- ---- least common multiples

quotient_back : (a g : ℕ) → g ∣ a → g * (a / g) ≡ a
quotient_back a g d = mul-div_cancel' g d

swapped_product : (g x y : ℕ) → (g * x) * y ≡ x * (g * y)
swapped_product g x y = omega arith

pub second_divides : (a b g m : ℕ) → IsGcd a b g → m ≡ a * (b / g) → b ∣ m
second_divides a b g m is e =
    subst (λ n. b ∣ n) (sym (e ∙ ap (λ x. x * (b / g)) (sym (quotient_back a g is.0)) ∙ swapped_product g (a / g) (b / g) ∙ ap (λ x. (a / g) * x) (quotient_back b g is.1))) (dvd-mul_left b (a / g))

positive_of : (x g b : ℕ) → g * x ≡ b → 0 < b → 0 < x
positive_of zero g b e h = absurd (omega (arith, e, h))
positive_of (suc x) g b e h = omega arith

pub multiple_positive : (a b g m : ℕ) → IsGcd a b g → 0 < a → 0 < b → m ≡ a * (b / g) → 0 < m
multiple_positive a b g m is p q e = subst (λ n. 0 < n) (sym e) (mul_pos a (b / g) p (positive_of (b / g) g b (quotient_back b g is.1) q))

-- ---- entries of lists that are mapped

pub map_more : {A B : Type 0} (f : A → B) (ds : List A) (i : ℕ) (d : A) (fs : List B) (x : B) → i < length ds → fs ≡ map f (take i ds) → x ≡ f (get_or ds i d) → fs ++ x ∷ [] ≡ map f (take (i + 1) ds)
map_more f ds i d fs x h e g = (λ j. e j ++ g j ∷ []) ∙ sym (ap (map f) (take_more ds i d h) ∙ map-append f (take i ds) (get_or ds i d ∷ []))

scale_cross : (p : ℤ) (k d : ℕ) → (p *ℤ pos k) *ℤ pos (1 * d) ≡ (pos (k * d) *ℤ p) *ℤ pos 1
scale_cross p k d = rw (parts p) (simp diffs (eq_diff _ _ _ _ (omega arith)))

pub scaled_entry : (q : Fraction) (common : ℕ) → q.den ∣ common → whole_fraction (q.num *ℤ pos (common / q.den)) ≡ times (whole_fraction (pos common)) q
scaled_entry q common d =
    same_lowest (q.num *ℤ pos (common / q.den)) (pos common *ℤ q.num) 1 (1 * q.den) (omega arith) (mul_pos 1 q.den (omega arith) (den_pos q))
    (scale_cross q.num (common / q.den) q.den ∙ ap (λ n. (pos n *ℤ q.num) *ℤ pos 1) (div-mul_cancel q.den d))
    ∙ sym (times_lowest (pos common) q.num 1 q.den (omega arith) (den_pos q)) ∙ ap (times (whole_fraction (pos common))) (sym (lowest_parts q))

-- ---- a common factor

pub factor_more : (s g m at : ℕ) (ws : List ℤ) → IsGcd s m g → m ≡ nat_abs (get_or ws at (pos 0)) → ((k : ℕ) → k < at → s ∣ nat_abs (get_or ws k (pos 0))) → (k : ℕ) → k < at + 1 → g ∣ nat_abs (get_or ws k (pos 0))
factor_more s g m at ws is e h = below_more (λ k. g ∣ nat_abs (get_or ws k (pos 0))) at (λ k l. dvd_trans g is.0 (h k l)) (subst (λ n. g ∣ n) e is.1)

zero_divides : (n : ℕ) → 0 ∣ n → n ≡ 0
zero_divides n d = sym (div-mul_cancel 0 d) ∙ nothing (n / 0)
  where
    nothing : (x : ℕ) → x * 0 ≡ 0
    nothing x = omega arith

not_empty : (ws : List ℤ) → leading ws ≢ pos 0 → 0 < length ws
not_empty [] h = absurd (h refl)
not_empty (w ∷ ws) h = omega arith

pub factor_positive : (s : ℕ) (ws : List ℤ) → leading ws ≢ pos 0 → ((k : ℕ) → k < length ws → s ∣ nat_abs (get_or ws k (pos 0))) → 0 < s
factor_positive zero ws h d =
    let p = not_empty ws h in
    absurd (h (leading-at ws p ∙ abs_zero _ (zero_divides _ (d (length ws - 1) (omega (arith, p))))))
factor_positive (suc s) ws h d = omega arith

pub signed_kept : (z q : ℤ) (d : ℕ) → d ∣ nat_abs z → q ≡ over z d → with_sign false d *ℤ q ≡ z
signed_kept z q d h e = ap (λ x. pos d *ℤ x) e ∙ times_comm_int (pos d) (over z d) ∙ over_back z d h

pub signed_turned : (z q : ℤ) (d : ℕ) → d ∣ nat_abs z → q ≡ neg_ℤ (over z d) → with_sign true d *ℤ q ≡ z
signed_turned z q d h e = ap (λ x. neg_ℤ (pos d) *ℤ x) e ∙ minus_minus (pos d) (over z d) ∙ times_comm_int (pos d) (over z d) ∙ over_back z d h

pub item_value : {A B : Type 0} (f : A → B) (xs : List A) (i : ℕ) (x : A) (d : B) → i < length xs → x ≡ get_or xs i x → f x ≡ get_or (map f xs) i d
item_value f [] i x d h e = absurd (omega (arith, h))
item_value f (y ∷ xs) zero x d h e = ap f e
item_value f (y ∷ xs) (suc i) x d h e = item_value f xs i x d (omega (arith, h)) e

-- ---- the primitive polynomial

whole_zero : (w : ℤ) → w ≡ pos 0 → whole_fraction w ≡ zero_fraction
unfolding zero_fraction
whole_zero w e = ap whole_fraction e

pub leading_not_zero : (l : Fraction) (p : Dense) (ws : List ℤ) → l ≢ zero_fraction → fractions ws ≡ map (times l) p → HasLeading p → leading ws ≢ pos 0
leading_not_zero l [] ws n e h = absurd h
leading_not_zero l (q ∷ []) [] n e h = cc
leading_not_zero l (q ∷ []) (w ∷ []) n e h = λ z. product_not_zero l q n h (let f : whole_fraction w ≡ times l q = cc in sym f ∙ whole_zero w z)
leading_not_zero l (q ∷ []) (w ∷ v ∷ ws) n e h = cc
leading_not_zero l (q ∷ r ∷ p) [] n e h = cc
leading_not_zero l (q ∷ r ∷ p) (w ∷ []) n e h = cc
leading_not_zero l (q ∷ r ∷ p) (w ∷ v ∷ ws) n e h = leading_not_zero l (r ∷ p) (v ∷ ws) n (let f : fractions (v ∷ ws) ≡ map (times l) (r ∷ p) = cc in f) h

pub common_not_zero : (n : ℕ) → 0 < n → whole_fraction (pos n) ≢ zero_fraction
common_not_zero n h e = let z : pos n ≡ pos 0 = zero_above (pos n) 1 (omega arith) e in absurd (omega (arith, h, ap nat_abs z))

multiples : (g : ℤ) (zs : List ℤ) → fractions (map (λ z. g *ℤ z) zs) ≡ map (times (whole_fraction g)) (fractions zs)
multiples g [] = refl
multiples g (z ∷ zs) = let e = sym (times_lowest g z 1 1 (omega arith) (omega arith)) in λ i. (e i) ∷ multiples g zs i

leading_multiple : (g : ℤ) (zs : List ℤ) → leading (map (λ z. g *ℤ z) zs) ≡ g *ℤ leading zs
leading_multiple g [] = sym (times_zero_int g)
leading_multiple g (z ∷ []) = refl
leading_multiple g (z ∷ y ∷ zs) = leading_multiple g (y ∷ zs)

opposite_product : (a x : ℤ) → a *ℤ x ≡ neg_ℤ (neg_ℤ a *ℤ x)
opposite_product a x = rw (parts a, parts x) (simp diffs (eq_diff _ _ _ _ (omega arith)))

pos_above : (n : ℕ) → pos n ≢ pos 0 → pos 0 <ℤ pos n
pos_above zero h = absurd (h refl)
pos_above (suc n) h = omega (arith, ints)

sign_positive : (l x : ℤ) (n : ℕ) → l ≢ pos 0 → with_sign (int_is_negative l) n *ℤ x ≡ l → pos 0 <ℤ x
sign_positive (pos m) x n z e = product_positive n x (subst (λ (y : ℤ). pos 0 <ℤ y) (sym e) (pos_above m z))
sign_positive (negsuc m) x n z e = product_positive n x (subst (λ (y : ℤ). pos 0 <ℤ y) (sym (opposite_product (pos n) x ∙ ap neg_ℤ e)) (pos_above (suc m) (λ f. absurd (omega (arith, ap nat_abs f)))))

pub is_primitive : (p : Dense) (ws made : List ℤ) (common shared : ℕ) (turned : Bool) → 0 < common → 0 < shared → turned ≡ int_is_negative (leading ws) → HasLeading p
    → fractions ws ≡ map (times (whole_fraction (pos common))) p → map (λ z. with_sign turned shared *ℤ z) made ≡ ws → IsMultiple p made
is_primitive p ws made common shared turned c s t h e f = record {
  factor = times I G;
  not_zero = product_not_zero I G (factor_not_zero C I (times_comm C I ∙ inverse_times_itself C nonzero)) g_not_zero;
  equal = λ k.
      sym (one_times (at k p)) ∙ ap (λ x. times x (at k p)) (sym (inverse_times_itself C nonzero)) ∙ times_assoc I C (at k p)
      ∙ ap (times I) (sym (at_scaled C p k) ∙ ap (at k) (sym e ∙ ap fractions (sym f) ∙ multiples g made) ∙ at_scaled G (fractions made) k) ∙ sym (times_assoc I G (at k (fractions made)));
  long = sym (length-map made (λ z. g *ℤ z)) ∙ ap length f ∙ sym (length-map ws whole_fraction) ∙ ap length e ∙ length-map p (times C);
  positive = sign_positive (leading ws) (leading made) shared (leading_not_zero C p ws nonzero e h) (ap (λ b. with_sign b shared *ℤ leading made) (sym t) ∙ sym (leading_multiple g made) ∙ ap leading f);
}
  where
    C : Fraction
    C = whole_fraction (pos common)

    I : Fraction
    I = inverse C

    g : ℤ
    g = with_sign turned shared

    G : Fraction
    G = whole_fraction g

    nonzero : C ≢ zero_fraction
    nonzero = common_not_zero common c

    g_not_zero : G ≢ zero_fraction
    g_not_zero z = let y : g ≡ pos 0 = zero_above g 1 (omega arith) z in absurd (omega (arith, s, sym (abs-with_sign turned shared) ∙ ap nat_abs y))
