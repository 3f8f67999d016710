-- Powers: laws of exponents for natural and for whole exponents, powers of products, of powers and of roots, and powers of rationals.
use Rattle.calc_algebra.proofs.Shared.{refl, ◌≡◌, ℕ, zero, suc, ◌+◌, ◌*◌, ◌<◌, ◌⊎◌, inl, inr, ℤ, pos, negsuc, neg_ℤ, ◌+ℤ◌, ◌*ℤ◌, sym, ap, ◌∙◌, arith, subst, ints, fraction_power, Fraction, lowest, []}
use Rattle.calc_algebra.proofs.Shared.{times, zero_fraction, same_lowest, lowest_parts, den_pos, times_lowest, mul_pos, whole_fraction, gcd, parts, diff_eq, mul_diff, IsWholePower, IsRootOf, IsRoot}
use Rattle.calc_algebra.proofs.{Shared.{Same, Inverts, Surd, surd_of, surd_one, surd_times, surd_power, up, down}, MeaningLaws.{class_coefficient-surd_of, Same-sym}}
use Rattle.calc_algebra.proofs.{SquareClassLaws.{Same-Agree, Same-trans}, SurdLaws.{Agree, Agree-refl, Agree-sym, Agree-trans, Agree-eq, Agree-Same, Agree-surd_times, Agree-surd_times_right}}
use Rattle.calc_algebra.proofs.{SurdLaws.{Agree-surd_power, surd_times_comm, surd_times_assoc, surd_times-surd_one, surd_times-one, surd_times_exchange}, TermLaws.{Same-refl, Same-eq}}
use Rattle.calc_algebra.proofs.{TermLaws.{Same-surd_times, Same-surd_power, zero_term, extracted}, InverseLaws.{Inverts-sym, Inverts-Same, Inverts-surd_times, Inverts-surd_one, Inverts-surd_power}}
use Rattle.calc_algebra.proofs.InverseLaws.{Inverts-not_zero, Inverts-one, Same-times_zero}

-- ---- natural exponents

pub Agree-power_suc : (v : Surd) (n : ℕ) → Agree (surd_power v (suc n)) (surd_times v (surd_power v n))
Agree-power_suc v n = grind (arith, Agree-sym, surd_times-one, Agree-refl)

pub Agree-power_add : (v : Surd) (a b : ℕ) → Agree (surd_power v (a + b)) (surd_times (surd_power v a) (surd_power v b))
Agree-power_add v zero b = let plain : 0 + b ≡ b = omega arith in Agree-trans (Agree-eq (ap (surd_power v) plain)) (Agree-eq (sym (surd_times-surd_one (surd_power v b))))
Agree-power_add v (suc a) b =
    let moved : suc a + b ≡ suc (a + b) = omega arith in
    Agree-trans (Agree-eq (ap (surd_power v) moved))
    (Agree-trans (Agree-power_suc v (a + b))
    (Agree-trans (Agree-surd_times_right v (Agree-power_add v a b))
    (Agree-trans (Agree-eq (sym (surd_times_assoc v (surd_power v a) (surd_power v b))))
    (Agree-surd_times (Agree-sym (Agree-power_suc v a)) (Agree-refl (surd_power v b))))))

pub Agree-power_mul : (v : Surd) (a b : ℕ) → Agree (surd_power v (a * b)) (surd_power (surd_power v a) b)
Agree-power_mul v a zero = let none : a * 0 ≡ 0 = omega arith in Agree-eq (ap (surd_power v) none)
Agree-power_mul v a (suc b) =
    let split : a * suc b ≡ a + a * b = omega arith in
    Agree-trans (Agree-eq (ap (surd_power v) split))
    (Agree-trans (Agree-power_add v a (a * b))
    (Agree-trans (Agree-surd_times_right (surd_power v a) (Agree-power_mul v a b)) (Agree-sym (Agree-power_suc (surd_power v a) b))))

pub Agree-power_times : (u w : Surd) (n : ℕ) → Agree (surd_power (surd_times u w) n) (surd_times (surd_power u n) (surd_power w n))
Agree-power_times u w zero = Agree-eq (sym (surd_times-surd_one surd_one))
Agree-power_times u w (suc n) =
    Agree-trans (Agree-power_suc (surd_times u w) n)
    (Agree-trans (Agree-surd_times_right (surd_times u w) (Agree-power_times u w n))
    (Agree-trans (surd_times_exchange u w (surd_power u n) (surd_power w n))
    (Agree-surd_times (Agree-sym (Agree-power_suc u n)) (Agree-sym (Agree-power_suc w n)))))

pub Agree-power_one : (n : ℕ) → Agree (surd_power surd_one n) surd_one
Agree-power_one zero = Agree-refl surd_one
Agree-power_one (suc n) = Agree-trans (Agree-power_suc surd_one n) (Agree-trans (Agree-eq (surd_times-surd_one (surd_power surd_one n))) (Agree-power_one n))

-- powers of zero
pub surd_power-zero : (w : Surd) (n : ℕ) → Same w [] → Same (surd_power w (suc n)) []
surd_power-zero w n h = Same-trans (Agree-Same (Agree-power_suc w n)) (Agree-Same (Agree-surd_times (Same-Agree h) (Agree-refl (surd_power w n))))

-- a step of squaring
pub surd_power-squared : (v x : Surd) (n : ℕ) → Same x (surd_power v n) → Same (surd_times x x) (surd_power v (2 * n))
surd_power-squared v x n h =
    let twice : n + n ≡ 2 * n = omega arith in
    Same-trans (Same-surd_times h h) (Same-trans (Same-sym (Agree-Same (Agree-power_add v n n))) (Same-eq (ap (surd_power v) twice)))

-- a step of multiplying
pub surd_power-multiplied : (v x : Surd) (n : ℕ) → Same x (surd_power v n) → Same (surd_times x v) (surd_power v (suc n))
surd_power-multiplied v x n h = Same-trans (Agree-Same (surd_times_comm x v)) (Same-trans (Same-surd_times (Same-refl v) h) (Same-sym (Agree-Same (Agree-power_suc v n))))

-- powers of a rational are those of fractions
pub surd_power-surd_of : (q : Fraction) (n : ℕ) → Same (surd_power (surd_of q) n) (surd_of (fraction_power q n))
surd_power-surd_of q zero = Same-refl surd_one
surd_power-surd_of q (suc n) = Same-trans (Agree-Same (Agree-power_suc (surd_of q) n)) (Same-surd_times (Same-refl (surd_of q)) (surd_power-surd_of q n))

-- ---- whole exponents of what has an inverse

-- p factors w and q factors y
abbrev power_over : Surd → Surd → ℕ → ℕ → Surd
power_over w y p q = surd_times (surd_power w p) (surd_power y q)

-- w to the power n, where y inverts w
abbrev pub integer_power : Surd → Surd → ℤ → Surd
integer_power w y n = power_over w y (up n) (down n)

module _ (w y : Surd) (h : Inverts y w) where
  unit : (s : ℕ) → Agree (power_over w y s s) surd_one
  unit s = Agree-trans (surd_times_comm (surd_power w s) (surd_power y s)) (Same-Agree (Inverts-surd_power s y w h))

  gathered : (p q r s : ℕ) → Agree (surd_times (power_over w y p q) (power_over w y r s)) (power_over w y (p + r) (q + s))
  gathered p q r s =
      Agree-trans (surd_times_exchange (surd_power w p) (surd_power y q) (surd_power w r) (surd_power y s))
      (Agree-surd_times (Agree-sym (Agree-power_add w p r)) (Agree-sym (Agree-power_add y q s)))

  widened : (p q s : ℕ) → Agree (power_over w y p q) (power_over w y (p + s) (q + s))
  widened p q s =
      Agree-trans (Agree-sym (surd_times-one (power_over w y p q)))
      (Agree-trans (Agree-surd_times_right (power_over w y p q) (Agree-sym (unit s))) (gathered p q s s))

  same_over : (p q r s : ℕ) → p + s ≡ r + q → Agree (power_over w y p q) (power_over w y r s)
  same_over p q r s e =
      let turned : q + s ≡ s + q = omega arith in
      Agree-trans (widened p q s) (Agree-trans (Agree-eq (λ i. power_over w y (e i) (turned i))) (Agree-sym (widened r s q)))

  pub integer_power-add : (m n : ℤ) → Agree (integer_power w y (m +ℤ n)) (surd_times (integer_power w y m) (integer_power w y n))
  integer_power-add m n =
      Agree-trans (same_over (up (m +ℤ n)) (down (m +ℤ n)) (up m + up n) (down m + down n) (omega (arith, ints)))
      (Agree-sym (gathered (up m) (down m) (up n) (down n)))

  -- a meaning of the power, by its inverse
  pub whole_power_is : (n : ℤ) (v : Surd) → IsWholePower n w v → Agree v (integer_power w y n)
  whole_power_is (pos zero) v (a, k) = Agree-trans (Same-Agree k) (Agree-eq (sym (surd_times-surd_one surd_one)))
  whole_power_is (pos (suc n)) v k = Agree-trans (Same-Agree k) (Agree-sym (surd_times-one (surd_power w (suc n))))
  whole_power_is (negsuc n) v (x, i, k) =
      Agree-trans (Same-Agree k)
      (Agree-trans (Agree-surd_power (suc n) (Same-Agree (Inverts-one x y w i h))) (Agree-eq (sym (surd_times-surd_one (surd_power y (suc n))))))

  pub whole_power_from : (n : ℤ) (v : Surd) → Agree v (integer_power w y n) → IsWholePower n w v
  whole_power_from n v k = grind (arith, Inverts-not_zero, Agree-Same, Agree-trans, Agree-eq, surd_times-surd_one, surd_times-one)

  -- the inverse of a power
  pub Inverts-integer_power : (n : ℤ) → Inverts (integer_power y w n) (integer_power w y n)
  Inverts-integer_power n = grind (arith, Inverts-surd_times, Inverts-surd_power, Inverts-sym)

  powers_over : (p q r s : ℕ) → Agree (power_over (power_over w y p q) (power_over y w p q) r s) (power_over w y (p * r + q * s) (p * s + q * r))
  powers_over p q r s =
      let turned : q * r + p * s ≡ p * s + q * r = omega arith in
      Agree-trans (Agree-surd_times (one w y r) (Agree-trans (one y w s) (surd_times_comm (surd_power y (p * s)) (surd_power w (q * s)))))
      (Agree-trans (gathered (p * r) (q * r) (q * s) (p * s)) (Agree-eq (λ i. power_over w y (p * r + q * s) (turned i))))
    where
      one : (a b : Surd) (r : ℕ) → Agree (surd_power (power_over a b p q) r) (surd_times (surd_power a (p * r)) (surd_power b (q * r)))
      one a b r = Agree-trans (Agree-power_times (surd_power a p) (surd_power b q) r) (Agree-surd_times (Agree-sym (Agree-power_mul a p r)) (Agree-sym (Agree-power_mul b q r)))

  product_parts : (m n : ℤ) → up (m *ℤ n) + (up m * down n + down m * up n) ≡ (up m * up n + down m * down n) + down (m *ℤ n)
  product_parts m n = diff_eq _ _ _ _ (sym (parts (m *ℤ n)) ∙ (λ i. parts m i *ℤ parts n i) ∙ mul_diff (up m) (down m) (up n) (down n))

  pub integer_power-mul : (m n : ℤ) → Agree (integer_power (integer_power w y m) (integer_power y w m) n) (integer_power w y (m *ℤ n))
  integer_power-mul m n =
      Agree-trans (powers_over (up m) (down m) (up n) (down n))
      (Agree-sym (same_over (up (m *ℤ n)) (down (m *ℤ n)) (up m * up n + down m * down n) (up m * down n + down m * up n) (product_parts m n)))

-- ---- whole exponents

-- the same base and the same value
pub IsWholePower-Same : (n : ℤ) {w x v u : Surd} → Same w x → Same v u → IsWholePower n w v → IsWholePower n x u
IsWholePower-Same (pos zero) a b (h, k) = ((λ z. h (Same-trans a z)), Same-trans (Same-sym b) k)
IsWholePower-Same (pos (suc n)) a b h = Same-trans (Same-sym b) (Same-trans h (Same-surd_power (suc n) a))
IsWholePower-Same (negsuc n) a b (y, i, k) = (y, Inverts-Same (Same-refl y) a i, Same-trans (Same-sym b) k)

natural_power_is : (n : ℕ) (w v : Surd) → IsWholePower (pos n) w v → Same v (surd_power w n)
natural_power_is n w v k = grind arith

natural_power_from : (n : ℕ) (w v : Surd) → (n ≡ 0 → ¬ (Same w [])) → Same v (surd_power w n) → IsWholePower (pos n) w v
natural_power_from n w v h k = grind arith

not_zero_to_zero : (n : ℕ) (w v : Surd) → IsWholePower (pos n) w v → n ≡ 0 → ¬ (Same w [])
not_zero_to_zero n w v k e = grind arith

-- w^m * w^n where w has an inverse
by_inverse : (m n : ℤ) (w u v y : Surd) → Inverts y w → IsWholePower m w u → IsWholePower n w v → IsWholePower (m +ℤ n) w (surd_times u v)
by_inverse m n w u v y i h k =
    whole_power_from w y i (m +ℤ n) (surd_times u v)
    (Agree-trans (Agree-surd_times (whole_power_is w y i m u h) (whole_power_is w y i n v k)) (Agree-sym (integer_power-add w y i m n)))

-- w^m * w^n is w^(m + n), for all signs
pub whole_power_add : (m n : ℤ) (w u v : Surd) → IsWholePower m w u → IsWholePower n w v → IsWholePower (m +ℤ n) w (surd_times u v)
whole_power_add (pos a) (pos b) w u v h k =
    natural_power_from (a + b) w (surd_times u v) (λ e. not_zero_to_zero a w u h (omega arith))
    (Same-trans (Same-surd_times (natural_power_is a w u h) (natural_power_is b w v k)) (Same-sym (Agree-Same (Agree-power_add w a b))))
whole_power_add (pos a) (negsuc b) w u v h (y, i, k) = by_inverse (pos a) (negsuc b) w u v y i h (y, i, k)
whole_power_add (negsuc a) n w u v (y, i, h) k = by_inverse (negsuc a) n w u v y i (y, i, h) k

-- (w^m)^n where w has an inverse
powers_by_inverse : (m n : ℤ) (w u v y : Surd) → Inverts y w → IsWholePower m w u → IsWholePower n u v → IsWholePower (m *ℤ n) w v
powers_by_inverse m n w u v y i h k =
    let z : Surd = integer_power y w m in
    let e : Agree u (integer_power w y m) = whole_power_is w y i m u h in
    let j : Inverts z u = Inverts-Same (Same-refl z) (Agree-Same (Agree-sym e)) (Inverts-integer_power w y i m) in
    whole_power_from w y i (m *ℤ n) v
    (Agree-trans (whole_power_is u z j n v k)
    (Agree-trans (Agree-surd_times (Agree-surd_power (up n) e) (Agree-refl (surd_power z (down n)))) (integer_power-mul w y i m n)))

-- where a power has an inverse, the base has
inverse_of_base : (a : ℕ) (w u y : Surd) → Same u (surd_power w (suc a)) → Inverts y u → Inverts (surd_times y (surd_power w a)) w
inverse_of_base a w u y h i =
    Agree-Same (Agree-trans (Agree-eq (surd_times_assoc y (surd_power w a) w))
    (Agree-trans (Agree-surd_times_right y (Agree-trans (surd_times_comm (surd_power w a) w) (Agree-trans (Agree-sym (Agree-power_suc w a)) (Agree-sym (Same-Agree h))))) (Same-Agree i)))

-- (w^m)^n is w^(m * n), for all signs
pub whole_power_mul : (m n : ℤ) (w u v : Surd) → IsWholePower m w u → IsWholePower n u v → IsWholePower (m *ℤ n) w v
whole_power_mul (negsuc a) n w u v (y, i, h) k = powers_by_inverse (negsuc a) n w u v y i (y, i, h) k
whole_power_mul (pos a) (pos b) w u v h k =
    natural_power_from (a * b) w v (λ e z. by a b h k e z (factor a b e))
    (Same-trans (natural_power_is b u v k) (Same-trans (Same-surd_power b (natural_power_is a w u h)) (Same-sym (Agree-Same (Agree-power_mul w a b)))))
  where
    factor : (a b : ℕ) → a * b ≡ 0 → (a ≡ 0) ⊎ (b ≡ 0)
    factor zero b e = inl refl
    factor (suc a) zero e = inr refl
    factor (suc a) (suc b) e = absurd (omega arith)

    vanishes : (a : ℕ) → IsWholePower (pos a) w u → Same w [] → Same u []
    vanishes zero (h, k) z = absurd (h z)
    vanishes (suc a) h z = Same-trans h (surd_power-zero w a z)

    by : (a b : ℕ) → IsWholePower (pos a) w u → IsWholePower (pos b) u v → a * b ≡ 0 → Same w [] → (a ≡ 0) ⊎ (b ≡ 0) → ⊥
    by a b h k e z (inl f) = not_zero_to_zero a w u h f z
    by a b h k e z (inr f) = not_zero_to_zero b u v k f (vanishes a h z)
whole_power_mul (pos zero) (negsuc b) w u v (h, e) (y, i, k) =
    let zero_product : pos 0 ≡ pos 0 *ℤ negsuc b = omega (arith, ints) in
    subst (λ n. IsWholePower n w v) zero_product
    (h, Same-trans k (Same-trans (Same-surd_power (suc b) (Inverts-one y surd_one u i (Inverts-Same (Same-refl surd_one) (Same-sym e) Inverts-surd_one))) (Agree-Same (Agree-power_one (suc b)))))
whole_power_mul (pos (suc a)) (negsuc b) w u v h (y, i, k) = powers_by_inverse (pos (suc a)) (negsuc b) w u v (surd_times y (surd_power w a)) (inverse_of_base a w u y h i) h (y, i, k)

-- the power of a product is the product of the powers
pub whole_power_of_product : (n : ℤ) (u w v : Surd) → IsWholePower n (surd_times u w) v → (p q : Surd) × IsWholePower n u p × IsWholePower n w q × Same v (surd_times p q)
whole_power_of_product (pos zero) u w v (h, k) = (
  surd_one,
  surd_one,
  ((λ z. h (Agree-Same (Agree-surd_times (Same-Agree z) (Agree-refl w)))), Same-refl surd_one),
  ((λ z. h (Same-times_zero u w z)), Same-refl surd_one),
  Same-trans k (Same-eq (sym (surd_times-surd_one surd_one))),
)
whole_power_of_product (pos (suc n)) u w v h = (surd_power u (suc n), surd_power w (suc n), Same-refl _, Same-refl _, Same-trans h (Agree-Same (Agree-power_times u w (suc n))))
whole_power_of_product (negsuc n) u w v (z, i, k) = (
  surd_power (surd_times z w) (suc n),
  surd_power (surd_times z u) (suc n),
  (surd_times z w, Agree-Same (left w u (Agree-trans (Agree-surd_times_right z (surd_times_comm w u)) (Same-Agree i))), Same-refl _),
  (surd_times z u, Agree-Same (left u w (Same-Agree i)), Same-refl _),
  Same-trans k (Same-trans (Same-surd_power (suc n) (Agree-Same whole)) (Agree-Same (Agree-power_times (surd_times z w) (surd_times z u) (suc n)))),
)
  where
    left : (a b : Surd) → Agree (surd_times z (surd_times a b)) surd_one → Agree (surd_times (surd_times z a) b) surd_one
    left a b h = Agree-trans (Agree-eq (surd_times_assoc z a b)) h

    whole : Agree z (surd_times (surd_times z w) (surd_times z u))
    whole =
        Agree-sym (Agree-trans (surd_times_exchange z w z u)
        (Agree-trans (Agree-eq (surd_times_assoc z z (surd_times w u)))
        (Agree-trans (Agree-surd_times_right z (Agree-trans (Agree-surd_times_right z (surd_times_comm w u)) (Same-Agree i))) (surd_times-one z))))

-- powers of 1 are 1
pub whole_power_of_one : (n : ℤ) (v : Surd) → IsWholePower n surd_one v → Same v surd_one
whole_power_of_one (pos zero) v (h, k) = k
whole_power_of_one (pos (suc n)) v k = Same-trans k (Agree-Same (Agree-power_one (suc n)))
whole_power_of_one (negsuc n) v (y, i, k) = Same-trans k (Same-trans (Same-surd_power (suc n) (Inverts-one y surd_one surd_one i Inverts-surd_one)) (Agree-Same (Agree-power_one (suc n))))

-- w^-n is the power n of an inverse
pub whole_power_negative : (n : ℕ) (w v y : Surd) → Inverts y w → IsWholePower (negsuc n) w v → Same v (surd_power y (suc n))
whole_power_negative n w v y i (x, j, k) = Same-trans k (Same-surd_power (suc n) (Inverts-one x y w j i))

-- ---- powers of rationals

-- a rational is zero only as 0
pub surd_of_zero : (q : Fraction) → Same (surd_of q) [] → q ≡ zero_fraction
surd_of_zero q h = sym (class_coefficient-surd_of q) ∙ (Same-Agree h).at 1

pub zero_surd_of : (q : Fraction) → q ≡ zero_fraction → Same (surd_of q) []
zero_surd_of q e = Same-trans (Same-eq (ap surd_of e)) (zero_term 1)

pub rational_power : (q : Fraction) (n : ℕ) → IsWholePower (pos (suc n)) (surd_of q) (surd_of (fraction_power q (suc n)))
rational_power q n = Same-sym (surd_power-surd_of q (suc n))

-- zero has no power with an exponent of at most 0
pub no_power_of_zero : (n : ℕ) (w v : Surd) → Same w [] → IsWholePower (neg_ℤ (pos n)) w v → ⊥
no_power_of_zero n w v z h = grind (arith, Inverts-not_zero)

-- ---- powers of roots

root_of_squared : (z : ℤ) (d : ℕ) (v : Surd) → 0 < d → IsRootOf z d v → Same (surd_times v v) (surd_of (lowest z d))
unfolding zero_fraction
root_of_squared (pos zero) d v h k =
    Same-trans (Same-times_zero v v k)
    (Same-sym (zero_surd_of (lowest (pos 0) d) (same_lowest (pos 0) (pos 0) d 1 h (omega arith) (ap pos (omega arith)))))
root_of_squared (pos (suc p)) d v h k =
    let q : Fraction = lowest (pos 1) d in
    Same-trans (Same-surd_times k k)
    (Same-trans (extracted (times q q) (suc p * d * (suc p * d)) (suc p * d) 1 (omega arith)) (Same-eq (ap surd_of value)))
  where
    value : times (times (lowest (pos 1) d) (lowest (pos 1) d)) (whole_fraction (pos (suc p * d))) ≡ lowest (pos (suc p)) d
    value =
        let cross : 1 * 1 * (suc p * d) * d ≡ suc p * (d * d * 1) = omega arith in
        ap (λ x. times x (whole_fraction (pos (suc p * d)))) (times_lowest (pos 1) (pos 1) d d h h)
        ∙ times_lowest (pos (1 * 1)) (pos (suc p * d)) (d * d) 1 (mul_pos d d h h) (omega arith)
        ∙ same_lowest (pos (1 * 1 * (suc p * d))) (pos (suc p)) (d * d * 1) d (mul_pos (d * d) 1 (mul_pos d d h h) (omega arith)) h (ap pos cross)
root_of_squared (negsuc p) d v h k = absurd k

-- the square of a root is its argument
pub root_squared : (x v : Surd) → IsRoot x v → Same (surd_times v v) x
root_squared x v (q, s, k) = Same-trans (root_of_squared q.num q.den v (den_pos q) k) (Same-trans (Same-eq (ap surd_of (sym (lowest_parts q)))) (Same-sym s))

root_of_zero : (z : ℤ) (d : ℕ) (v : Surd) → z ≡ pos 0 → IsRootOf z d v → Same v []
root_of_zero z d v e k = grind arith

-- only zero has the root zero
pub root_zero : (x v : Surd) → IsRoot x v → Same x [] → Same v []
unfolding zero_fraction lowest gcd
root_zero x v (q, s, k) z = root_of_zero q.num q.den v (ap (λ a. a.num) (surd_of_zero q (Same-trans (Same-sym s) z))) k

-- an even power of a root is a power of its argument
pub even_power_of_root : (n k : ℤ) (x v u : Surd) → n ≡ k +ℤ k → IsRoot x v → IsWholePower n v u → IsWholePower k x u
even_power_of_root n k x v u e r h = by k (subst (λ m. IsWholePower m v u) e h)
  where
    square : Same (surd_times v v) x
    square = root_squared x v r

    by : (k : ℤ) → IsWholePower (k +ℤ k) v u → IsWholePower k x u
    by (pos zero) (a, b) = ((λ z. a (root_zero x v r z)), b)
    by (pos (suc a)) b =
        let twice : suc a + suc a ≡ 2 * suc a = omega arith in
        Same-trans (natural_power_is (suc a + suc a) v u b)
        (Same-trans (Same-eq (ap (surd_power v) twice))
        (Same-trans (Agree-Same (Agree-power_mul v 2 (suc a))) (Same-surd_power (suc a) square)))
    by (negsuc a) (y, i, b) = let doubled : suc (suc (a + a)) ≡ 2 * suc a = omega arith in (
      surd_times y y,
      Inverts-Same (Same-refl (surd_times y y)) square (Inverts-surd_times y v y v i i),
      Same-trans b (Same-trans (Same-eq (ap (surd_power y) doubled)) (Agree-Same (Agree-power_mul y 2 (suc a)))),
    )
