-- Powers of fractions by their parts.
use Rattle.rational128.proofs.Shared.{◌≡◌, ◌≢◌, ℕ, zero, suc, ◌*◌, ◌%◌, ◌^◌, ◌<◌, ℤ, pos, negsuc, ◌*ℤ◌, neg_ℤ, Bool, true, false, cond, ◌==◌, refl, sym, ap, ◌∙◌, subst, arith, nat_abs, IsGcd, int_pow}
use Rattle.rational128.proofs.Shared.{eqb-true, eqb-false, pow-zero, pow-succ', one-le-pow, Fraction, lowest, times, one_fraction, den_pos, lowest_parts, times_lowest, fraction_power}
use Rattle.rational128.proofs.{Coprime.{IsCoprime, IsCoprime-swap, IsCoprime-mul, IsGcd-from_coprime}, LowestTerms.{HasParts, parts_themselves, is_lowest_from, fraction_coprime}}

-- ---- powers of signed numbers

negative_once : (a m : ℕ) → negsuc a *ℤ pos m ≡ neg_ℤ (pos (suc a * m))
negative_once a m = refl

negative_twice : (a m : ℕ) → negsuc a *ℤ neg_ℤ (pos m) ≡ pos (suc a * m)
negative_twice a m = grind arith

-- one factor more
pub int_pow-suc : (z : ℤ) (n : ℕ) → int_pow z (suc n) ≡ z *ℤ int_pow z n
int_pow-suc (pos a) n = ap pos (pow-succ' a n)
int_pow-suc (negsuc a) n = by (n % 2 == 0) (suc n % 2 == 0) refl refl
  where
    by : (r s : Bool) → (n % 2 == 0) ≡ r → (suc n % 2 == 0) ≡ s → cond s (pos (suc a ^ suc n)) (neg_ℤ (pos (suc a ^ suc n))) ≡ negsuc a *ℤ cond r (pos (suc a ^ n)) (neg_ℤ (pos (suc a ^ n)))
    by true true e f = absurd (omega (arith, eqb-true (n % 2) 0 e, eqb-true (suc n % 2) 0 f))
    by true false e f = ap (λ m. neg_ℤ (pos m)) (pow-succ' (suc a) n) ∙ sym (negative_once a (suc a ^ n))
    by false true e f = ap pos (pow-succ' (suc a) n) ∙ sym (negative_twice a (suc a ^ n))
    by false false e f =
        let odd : n % 2 ≢ 0 = eqb-false (n % 2) 0 e in
        let even : suc n % 2 ≢ 0 = eqb-false (suc n % 2) 0 f in
        absurd (omega arith)

pub int_pow-abs : (z : ℤ) (n : ℕ) → nat_abs (int_pow z n) ≡ nat_abs z ^ n
int_pow-abs z n = grind arith

int_pow-zero : (z : ℤ) → int_pow z 0 ≡ pos 1
int_pow-zero (pos a) = ap pos (pow-zero a)
int_pow-zero (negsuc a) = ap pos (pow-zero (suc a))

-- ---- powers of fractions

fraction_power_is : (f : Fraction) (n : ℕ) → fraction_power f n ≡ lowest (int_pow f.num n) (f.den ^ n)
unfolding one_fraction
fraction_power_is f zero = (λ i. lowest (sym (int_pow-zero f.num) i) (sym (pow-zero f.den) i))
fraction_power_is f (suc n) =
    ap (times f) (fraction_power_is f n)
    ∙ ap (λ g. times g (lowest (int_pow f.num n) (f.den ^ n))) (lowest_parts f)
    ∙ times_lowest f.num (int_pow f.num n) f.den (f.den ^ n) (den_pos f) (one-le-pow n f.den (den_pos f))
    ∙ (λ i. lowest (sym (int_pow-suc f.num n) i) (sym (pow-succ' f.den n) i))

IsCoprime-pow : (a b n : ℕ) → IsCoprime a b → IsCoprime a (b ^ n)
IsCoprime-pow a b zero h = rw (pow-zero b) (record { common = λ d da d1. d1 })
IsCoprime-pow a b (suc n) h = rw (pow-succ' b n) (IsCoprime-mul a b (b ^ n) h (IsCoprime-pow a b n h))

-- z is the power of the numerator of f, and d that of its denominator
pub record IsPower (f : Fraction) (n : ℕ) (z : ℤ) (d : ℕ) : Type 0 where
  pub lowest : IsGcd (nat_abs z) d 1
  pub positive : 0 < d
  pub parts : HasParts (fraction_power f n) z d

pub power_parts : (f : Fraction) (n : ℕ) (p z : ℤ) (q d : ℕ) → p ≡ f.num → q ≡ f.den → z ≡ int_pow p n → d ≡ q ^ n → IsPower f n z d
power_parts f n p z q d p-is q-is z-is d-is =
    let power : IsPower f n (int_pow f.num n) (f.den ^ n) = record { lowest = coprime; positive = positive; parts = subst (λ g. HasParts g (int_pow f.num n) (f.den ^ n)) (sym (fraction_power_is f n)) own } in
    rw (z-is, d-is, p-is, q-is) power
  where
    positive : 0 < f.den ^ n
    positive = one-le-pow n f.den (den_pos f)

    coprime : IsGcd (nat_abs (int_pow f.num n)) (f.den ^ n) 1
    coprime = rw (int_pow-abs f.num n) (IsGcd-from_coprime (nat_abs f.num ^ n) (f.den ^ n) (IsCoprime-pow (nat_abs f.num ^ n) f.den n (IsCoprime-swap f.den (nat_abs f.num ^ n) (IsCoprime-pow f.den (nat_abs f.num) n (IsCoprime-swap (nat_abs f.num) f.den (fraction_coprime f))))))

    own : HasParts (lowest (int_pow f.num n) (f.den ^ n)) (int_pow f.num n) (f.den ^ n)
    own = parts_themselves (int_pow f.num n) (f.den ^ n) (is_lowest_from (int_pow f.num n) (f.den ^ n) positive coprime)
