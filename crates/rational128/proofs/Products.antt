-- The product of two fractions, after each numerator and the other denominator are divided by what they share.
use Rattle.rational128.proofs.Shared.{◌≡◌, ℕ, ◌*◌, ◌/◌, ◌<◌, ◌^◌, ℤ, pos, ◌*ℤ◌, true, false, refl, sym, ap, ◌∙◌, subst, arith, nat_abs, IsGcd, ◌∣◌, unsigned_abs-mul, mul-div_cancel'}
use Rattle.rational128.proofs.Shared.{pos_of_dvd_of_pos, parts, diffs, eq_diff, Fraction, times, lowest, over, over_back, over_abs, den_pos, mul_pos, fraction_fits, positive_factor}
use Rattle.rational128.proofs.Coprime.{IsCoprime, IsGcd-from_coprime, IsCoprime-swap, IsCoprime-divisors, IsCoprime-mul, quotients_coprime, factor_divides}
use Rattle.rational128.proofs.{LowestTerms.{HasParts, parts_by_cross, fraction_coprime}, FitTests.{fits_no}}

-- the numbers of two fractions, and the greatest common divisors of each numerator and the other denominator
pub record Factors (a b : Fraction) (p : ℤ) (q : ℕ) (r : ℤ) (s g h : ℕ) : Type 0 where
  pub p_is : p ≡ a.num
  pub q_is : q ≡ a.den
  pub r_is : r ≡ b.num
  pub s_is : s ≡ b.den
  pub first : IsGcd (nat_abs p) s g
  pub second : IsGcd (nat_abs r) q h

-- (x*g)*(y*h) over (k*h)*(m*g) is x*y over k*m
cross : (x y p r : ℤ) (k m g h : ℕ) → x *ℤ pos g ≡ p → y *ℤ pos h ≡ r → (x *ℤ y) *ℤ pos ((h * k) * (g * m)) ≡ (p *ℤ r) *ℤ pos (k * m)
cross x y p r k m g h e f = rw (← e, ← f, parts x, parts y) (simp diffs (eq_diff _ _ _ _ (omega arith)))

module _ (a b : Fraction) (p : ℤ) (q : ℕ) (r : ℤ) (s g h : ℕ) (f : Factors a b p q r s g h) where
  q-positive : 0 < q
  q-positive = rw f.q_is (den_pos a)

  s-positive : 0 < s
  s-positive = rw f.s_is (den_pos b)

  pub first_positive : 0 < g
  first_positive = pos_of_dvd_of_pos (f.first.1) s-positive

  pub second_positive : 0 < h
  second_positive = pos_of_dvd_of_pos (f.second.1) q-positive

  q-whole : h * (q / h) ≡ q
  q-whole = mul-div_cancel' h (f.second.1)

  s-whole : g * (s / g) ≡ s
  s-whole = mul-div_cancel' g (f.first.1)

  p-lowest : IsCoprime (nat_abs p) q
  p-lowest = rw (f.p_is, f.q_is) (fraction_coprime a)

  r-lowest : IsCoprime (nat_abs r) s
  r-lowest = rw (f.r_is, f.s_is) (fraction_coprime b)

  -- the magnitudes after dividing
  x : ℕ
  x = nat_abs p / g

  y : ℕ
  y = nat_abs r / h

  x-divides : x ∣ nat_abs p
  unfolding x
  x-divides = factor_divides g (nat_abs p / g) (nat_abs p) (mul-div_cancel' g (f.first.0))

  y-divides : y ∣ nat_abs r
  unfolding y
  y-divides = factor_divides h (nat_abs r / h) (nat_abs r) (mul-div_cancel' h (f.second.0))

  x-lowest : IsCoprime x ((q / h) * (s / g))
  unfolding x
  x-lowest = IsCoprime-mul _ _ _ (IsCoprime-divisors _ _ _ _ x-divides (factor_divides h (q / h) q q-whole) p-lowest) (quotients_coprime (nat_abs p) s g s-positive f.first)

  y-lowest : IsCoprime y ((q / h) * (s / g))
  unfolding y
  y-lowest = IsCoprime-mul _ _ _ (quotients_coprime (nat_abs r) q h q-positive f.second) (IsCoprime-divisors _ _ _ _ y-divides (factor_divides g (s / g) s s-whole) r-lowest)

  pub product_den_positive : 0 < (q / h) * (s / g)
  product_den_positive = mul_pos _ _ (positive_factor h (q / h) q q-whole q-positive) (positive_factor g (s / g) s s-whole s-positive)

  pub product_lowest : IsGcd (nat_abs (over p g *ℤ over r h)) ((q / h) * (s / g)) 1
  unfolding x y
  product_lowest =
      let size : nat_abs (over p g *ℤ over r h) ≡ x * y = unsigned_abs-mul (over p g) (over r h) ∙ (λ i. over_abs p g i * over_abs r h i) in
      IsGcd-from_coprime _ _ (rw size (IsCoprime-swap _ _ (IsCoprime-mul _ _ _ (IsCoprime-swap _ _ x-lowest) (IsCoprime-swap _ _ y-lowest))))

  pub product_parts : HasParts (times a b) (over p g *ℤ over r h) ((q / h) * (s / g))
  unfolding times
  product_parts =
      let e : (over p g *ℤ over r h) *ℤ pos ((h * (q / h)) * (g * (s / g))) ≡ (p *ℤ r) *ℤ pos ((q / h) * (s / g)) = cross (over p g) (over r h) p r (q / h) (s / g) g h (over_back p g (f.first.0)) (over_back r h (f.second.0)) in
      let e' : (over p g *ℤ over r h) *ℤ pos (q * s) ≡ (p *ℤ r) *ℤ pos ((q / h) * (s / g)) = (λ i. (over p g *ℤ over r h) *ℤ pos (sym q-whole i * sym s-whole i)) ∙ e in
      let same : lowest (p *ℤ r) (q * s) ≡ times a b = rw (f.p_is, f.q_is, f.r_is, f.s_is) refl in
      subst (λ c. HasParts c (over p g *ℤ over r h) ((q / h) * (s / g))) same (parts_by_cross _ _ _ _ product_den_positive product_lowest (mul_pos q s q-positive s-positive) e')

-- ---- what fits, for a fraction with these parts

pub unfit_num : (f : Fraction) (n : ℤ) (d m : ℕ) → HasParts f n d → nat_abs n ≡ m → ¬ (m < 2 ^ 127) → fraction_fits f ≡ false
unfit_num f n d m h e k = rw (fits_no f.num m (ap nat_abs h.num ∙ e) k) refl

pub unfit_den : (f : Fraction) (n : ℤ) (d : ℕ) → HasParts f n d → ¬ (d < 2 ^ 127) → fraction_fits f ≡ false
unfit_den f n d h k = grind arith

pub parts_fit : (f : Fraction) (n : ℤ) (d : ℕ) → HasParts f n d → nat_abs n < 2 ^ 127 → d < 2 ^ 127 → fraction_fits f ≡ true
parts_fit f n d h k l = grind arith
