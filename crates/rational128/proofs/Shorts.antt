-- Sums and products of short numbers, as the code finds them.
use Rattle.rational128.proofs.Shared.{◌≡◌, ℕ, ◌<◌, ◌≤◌, ◌^◌, ◌+ℤ◌, ◌*ℤ◌, ℤ, refl, sym, ap, ◌∙◌, subst, arith, to_z, of_z, FitsSigned, nat_abs, true, IsGcd, one-dvd, w64, w128, mul-le, ints}
use Rattle.rational128.proofs.Shared.{fits_signed_from_abs, unsigned_abs-mul, short_parts, fraction_fits, sum_fits, Fraction, lowest, plus, times, plus_lowest, times_lowest, ratio_of, value_of, IsRat}
use Rattle.rational128.proofs.{Shared.{whole, is_short, Rat, whole_denominator, whole_numerator}, Signed.{told}, LowestTerms.{ratio_parts}, Products.{parts_fit}, Sums.{Operands, reduces}}

-- a short number, and its numerator as the code hands it on
pub record IsShortOne (r : Rat) (z : ℤ) : Type 0 where
  pub numerator : to_z w128 (of_z w128 z) ≡ (ratio_of r).num
  pub small : nat_abs (ratio_of r).num ≤ 2 ^ 63
  pub value : value_of r ≡ lowest (ratio_of r).num 1

small_abs : (z : ℤ) → FitsSigned w64 z → nat_abs z ≤ 2 ^ 63
small_abs z h = omega (arith, ints)

pub short_one : (r : Rat) (z : ℤ) → is_short (value_of r) ≡ true → z ≡ (ratio_of r).num → IsRat (ratio_of r) → IsShortOne r z
short_one r z h e is =
    let s = short_parts (ratio_of r) is h in
    let small = small_abs (ratio_of r).num s.fits in
    record {
      numerator = ap (λ (y : ℤ). to_z w128 (of_z w128 y)) e ∙ told (ratio_of r).num (omega arith);
      small = small;
      value = ap (lowest (ratio_of r).num) s.whole;
    }

-- what the code makes of two of them
pub record IsMadeOf (made exact : ℤ) : Type 0 where
  pub fits : FitsSigned w128 made
  pub small : nat_abs (to_z w128 (of_z w128 made)) < 2 ^ 127
  pub told : to_z w128 (of_z w128 made) ≡ exact

made_of : (made exact : ℤ) → made ≡ exact → nat_abs exact < 2 ^ 127 → IsMadeOf made exact
made_of made exact e l =
    let small : nat_abs made < 2 ^ 127 = subst (λ y. nat_abs y < 2 ^ 127) (sym e) l in
    record { fits = fits_signed_from_abs w128 made small; small = subst (λ y. nat_abs y < 2 ^ 127) (sym (told made small)) small; told = told made small ∙ e }

sum_small : (x y : ℤ) → nat_abs x ≤ 2 ^ 63 → nat_abs y ≤ 2 ^ 63 → nat_abs (x +ℤ y) < 2 ^ 127
sum_small x y h k = omega (arith, ints)

pub short_sum : (a b : Rat) (x y : ℤ) → IsShortOne a x → IsShortOne b y → IsMadeOf (to_z w128 (of_z w128 x) +ℤ to_z w128 (of_z w128 y)) ((ratio_of a).num +ℤ (ratio_of b).num)
short_sum a b x y p q = made_of _ _ (λ i. p.numerator i +ℤ q.numerator i) (sum_small (ratio_of a).num (ratio_of b).num p.small q.small)

whole_plus : (m n : ℤ) → plus (lowest m 1) (lowest n 1) ≡ lowest (m +ℤ n) 1
whole_plus m n = plus_lowest m n 1 1 (omega arith) (omega arith) ∙ ap (λ z. lowest z 1) (omega (arith, ints))

pub sum_value : (a b r : Rat) (x y z : ℤ) → IsShortOne a x → IsShortOne b y → ratio_of r ≡ whole z → z ≡ (ratio_of a).num +ℤ (ratio_of b).num → value_of r ≡ plus (value_of a) (value_of b)
sum_value a b r x y z p q e k =
    ap (λ f. lowest f.num f.den) e ∙ ap (λ n. lowest n 1) k ∙ sym (whole_plus (ratio_of a).num (ratio_of b).num) ∙ sym (λ i. plus (p.value i) (q.value i))

pub short_product : (a b : Rat) (x y : ℤ) → IsShortOne a x → IsShortOne b y → IsMadeOf (to_z w128 (of_z w128 x) *ℤ to_z w128 (of_z w128 y)) ((ratio_of a).num *ℤ (ratio_of b).num)
short_product a b x y p q =
    let m = (ratio_of a).num in
    let n = (ratio_of b).num in
    made_of _ _ (λ i. p.numerator i *ℤ q.numerator i) (omega (arith, unsigned_abs-mul m n, mul-le (nat_abs m) (nat_abs n) (2 ^ 63) (2 ^ 63) p.small q.small))

pub product_value : (a b r : Rat) (x y z : ℤ) → IsShortOne a x → IsShortOne b y → ratio_of r ≡ whole z → z ≡ (ratio_of a).num *ℤ (ratio_of b).num → value_of r ≡ times (value_of a) (value_of b)
product_value a b r x y z p q e k =
    ap (λ f. lowest f.num f.den) e ∙ ap (λ n. lowest n 1) k ∙ sym (times_lowest (ratio_of a).num (ratio_of b).num 1 1 (omega arith) (omega arith)) ∙ sym (λ i. times (p.value i) (q.value i))

-- ---- that they fit

-- a rational of the code fits
pub rational_fits : (r : Rat) (f : Fraction) → value_of r ≡ f → fraction_fits f ≡ true
rational_fits r f e = ap fraction_fits (sym e) ∙ parts_fit (value_of r) (ratio_of r).num (ratio_of r).den (ratio_parts r) r.fits r.den_fits

-- two fractions without denominators, whose sum fits
whole_fits : (a b : Fraction) → a.den ≡ 1 → b.den ≡ 1 → nat_abs a.num < 2 ^ 127 → nat_abs b.num < 2 ^ 127 → nat_abs (a.num +ℤ b.num) < 2 ^ 127 → sum_fits a b ≡ true
whole_fits a b d e h k l =
    let o : Operands a b a.num 1 b.num 1 1 = record { p_is = refl; q_is = sym d; r_is = refl; s_is = sym e; shared = one 1 } in
    (reduces a b a.num b.num (a.num +ℤ b.num) 1 1 1 1 o (omega (arith, ints)) (omega arith) (omega arith) l (one _)).accepted (omega arith)
  where
    one : (n : ℕ) → IsGcd n 1 1
    one n = (one-dvd n, one-dvd 1, λ d u v. v)

pub short_fits : (a b : Rat) (x y : ℤ) → IsShortOne a x → IsShortOne b y → sum_fits (value_of a) (value_of b) ≡ true
short_fits a b x y p q =
    let m = (ratio_of a).num in
    let n = (ratio_of b).num in
    let fits : sum_fits (lowest m 1) (lowest n 1) ≡ true = whole_fits (lowest m 1) (lowest n 1) (whole_denominator m) (whole_denominator n) (rw whole_numerator (omega arith)) (rw whole_numerator (omega arith)) (rw (whole_numerator m, whole_numerator n) (sum_small m n p.small q.small)) in
    (λ i. sum_fits (p.value i) (q.value i)) ∙ fits
