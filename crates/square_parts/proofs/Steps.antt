-- A step of trial division keeps what was found.
use Rattle.square_parts.proofs.Shared.{◌≡◌, ◌≢◌, ℕ, zero, suc, ◌+◌, ◌*◌, ◌/◌, ◌%◌, ◌^◌, ◌<◌, ◌≤◌, ◌⊎◌, inl, inr, ap, ◌∙◌, subst, arith, IsGcd, ◌∣◌, cases_lt, dvd_refl, dvd_trans, le_of_dvd}
use Rattle.square_parts.proofs.Shared.{dvd_of_mod-eq-zero, mod-eq-zero_of_dvd, mul-div_cancel', dvd-mul_left, mul-dvd-mul, dvd_of_mul-dvd-mul_right, eq-one_of_dvd-one, trial_limit, IsClean, IsCoprime}
use Rattle.square_parts.proofs.Shared.{IsCoprime-swap, IsCoprime-from_gcd, IsGcd-from_coprime, IsCoprime-divisors, IsCoprime-mul, other_factor, positive_factor, Found, IsSmooth, IsSquareFree}
use Rattle.square_parts.proofs.{Shared.{HasNoDivisorBelow, number_of, IsFound}, SmoothNumbers.{common_or_coprime, IsSmooth-small, IsSmooth-mul}}

-- what a step to g leaves true of f
pub record IsStep (f g : Found) (d : ℕ) : Type 0 where
  pub same : number_of g ≡ number_of f
  pub found : IsFound g
  pub below : HasNoDivisorBelow d g.rest
  pub less : g.rest < f.rest
  pub root_fits : g.root < 2 ^ 127
  pub clean_fits : g.clean < 2 ^ 127

pub root_at_most : (r c q : ℕ) → 1 ≤ r * r * (c * q) → r ≤ r * r * (c * q)
root_at_most zero c q h = omega arith
root_at_most (suc r) zero q h = absurd (omega arith)
root_at_most (suc r) (suc c) zero h = absurd (omega arith)
root_at_most (suc r) (suc c) (suc q) h = omega arith

pub clean_at_most : (r c q : ℕ) → 1 ≤ r * r * (c * q) → c ≤ r * r * (c * q)
clean_at_most zero c q h = absurd (omega arith)
clean_at_most (suc r) zero q h = omega arith
clean_at_most (suc r) (suc c) zero h = absurd (omega arith)
clean_at_most (suc r) (suc c) (suc q) h = omega arith

pub rest_positive : (r c q : ℕ) → 1 ≤ r * r * (c * q) → 0 < q
rest_positive r c q h = grind arith

pub clean_positive : (r c q : ℕ) → 1 ≤ r * r * (c * q) → 0 < c
clean_positive r c q h = grind arith

less_quotient : (d q n : ℕ) → 2 ≤ d → d * q ≡ n → 0 < q → q < n
less_quotient d q n two e h = grind arith

fewer_divisors : (d n m : ℕ) → m ∣ n → HasNoDivisorBelow d n → HasNoDivisorBelow d m
fewer_divisors d n m h k = record { none = λ e two lt em. k.none e two lt (dvd_trans e em h) }

moved : (r d c q : ℕ) → (r * d) * (r * d) * (c * q) ≡ r * r * (c * (d * (d * q)))
moved r d c q = omega arith

moved_once : (r d c q : ℕ) → r * r * ((c * d) * q) ≡ r * r * (c * (d * q))
moved_once r d c q = omega arith

-- the square of d goes to the square part
pub square_step : (f : Found) (d : ℕ) → IsFound f → HasNoDivisorBelow d f.rest → 2 ≤ d → d ≤ trial_limit → f.rest % d ≡ 0 → f.rest / d % d ≡ 0
    → IsStep f (record { root = f.root * d; clean = f.clean; rest = f.rest / d / d }) d
square_step f d found none two le once twice = record {
  same = same;
  found = record { positive = positive; fits = fits; square_free = found.square_free; smooth = found.smooth; apart = apart; untaken = untaken };
  below = fewer_divisors d f.rest q q-divides none;
  less = less;
  root_fits = omega (arith, fits, root_at_most (f.root * d) f.clean q positive);
  clean_fits = omega (arith, fits, clean_at_most (f.root * d) f.clean q positive);
}
  where
    q : ℕ
    q = f.rest / d / d

    once-whole : d * (f.rest / d) ≡ f.rest
    once-whole = mul-div_cancel' d (dvd_of_mod-eq-zero d once)

    twice-whole : d * q ≡ f.rest / d
    twice-whole = mul-div_cancel' d (dvd_of_mod-eq-zero d twice)

    whole : d * (d * q) ≡ f.rest
    whole = ap (λ n. d * n) twice-whole ∙ once-whole

    same : (f.root * d) * (f.root * d) * (f.clean * q) ≡ f.root * f.root * (f.clean * f.rest)
    same = moved f.root d f.clean q ∙ ap (λ n. f.root * f.root * (f.clean * n)) whole

    positive : 1 ≤ (f.root * d) * (f.root * d) * (f.clean * q)
    positive = rw same found.positive

    fits : (f.root * d) * (f.root * d) * (f.clean * q) < 2 ^ 127
    fits = rw same found.fits

    q-positive : 0 < q
    q-positive = rest_positive (f.root * d) f.clean q positive

    less : q < f.rest
    less =
        let once-positive : 0 < f.rest / d = positive_factor d (f.rest / d) f.rest once-whole (rest_positive f.root f.clean f.rest found.positive) in
        omega (arith, less_quotient d q (f.rest / d) two twice-whole q-positive, less_quotient d (f.rest / d) f.rest two once-whole once-positive)

    q-divides : q ∣ f.rest
    q-divides = subst (λ n. q ∣ n) whole (dvd_trans q (dvd-mul_left q d) (dvd-mul_left (d * q) d))

    apart : IsGcd f.clean q 1
    apart = IsGcd-from_coprime f.clean q (IsCoprime-divisors f.clean f.rest f.clean q (dvd_refl f.clean) q-divides (IsCoprime-from_gcd f.clean f.rest found.apart))

    -- a number with the square of d is not clean
    square : d * d ∣ (f.root * d) * (f.root * d) * (f.clean * q)
    square = subst (λ n. d * d ∣ n) (omega arith) (dvd-mul_left (d * d) (f.root * f.root * (f.clean * q)))

    untaken : IsClean ((f.root * d) * (f.root * d) * (f.clean * q)) → f.root * d ≡ 1
    untaken clean = absurd (clean.no_square d two le square)

-- a number d that divides what is left has no divisor below d
no_divisor : (d n : ℕ) → d ∣ n → HasNoDivisorBelow d n → HasNoDivisorBelow d d
no_divisor d n h k = fewer_divisors d n d h k

-- so that it divides a number or has no divisor in common with it
divides_or_coprime : (d e : ℕ) → 2 ≤ d → HasNoDivisorBelow d d → (d ∣ e) ⊎ IsCoprime e d
divides_or_coprime d e two none = by (common_or_coprime e d (omega arith))
  where
    whole : (g : ℕ) → 2 ≤ g → g ∣ e → g ∣ d → (g < d) ⊎ (d ≤ g) → d ∣ e
    whole g g-two ge gd (inl lt) = absurd (none.none g g-two lt gd)
    whole g g-two ge gd (inr le) =
        let d-positive : 0 < d = omega arith in
        let below : g ≤ d = le_of_dvd d-positive gd in
        let same : g ≡ d = omega arith in
        subst (λ n. n ∣ e) same ge

    order : (g : ℕ) → (g < d) ⊎ (d ≤ g)
    order g = cases_lt g d

    by : ((g : ℕ) × (2 ≤ g) × (g ∣ e) × (g ∣ d)) ⊎ IsCoprime e d → (d ∣ e) ⊎ IsCoprime e d
    by (inl (g, g-two, ge, gd)) = inl (whole g g-two ge gd (order g))
    by (inr apart) = inr apart

-- the clean part stays without squares when it takes such a d
square_free_more : (c d : ℕ) → 2 ≤ d → HasNoDivisorBelow d d → IsCoprime c d → IsSquareFree c → IsSquareFree (c * d)
square_free_more c d two none apart free = record { only_one = λ e h. by e h (divides_or_coprime d e two none) }
  where
    by : (e : ℕ) → e * e ∣ c * d → (d ∣ e) ⊎ IsCoprime e d → e ≡ 1
    by e h (inl de) =
        let d-positive : 0 < d = omega arith in
        let square : d * d ∣ c * d = dvd_trans (d * d) (mul-dvd-mul d d de de) h in
        let one : d ∣ 1 = apart.common d (dvd_of_mul-dvd-mul_right d d-positive square) (dvd_refl d) in
        let e-one : d ≡ 1 = eq-one_of_dvd-one one in
        absurd (omega arith)
    by e h (inr coprime) =
        let square : IsCoprime d (e * e) = IsCoprime-mul d e e (IsCoprime-swap e d coprime) (IsCoprime-swap e d coprime) in
        free.only_one e (other_factor (e * e) d c square h)

-- d itself goes to the clean part
pub clean_step : (f : Found) (d : ℕ) → IsFound f → HasNoDivisorBelow d f.rest → 2 ≤ d → d ≤ trial_limit → f.rest % d ≡ 0 → f.rest / d % d ≢ 0
    → IsStep f (record { root = f.root; clean = f.clean * d; rest = f.rest / d }) d
clean_step f d found none two le once not_twice = record {
  same = same;
  found = record { positive = positive; fits = fits; square_free = square_free_more f.clean d two own apart_from_d found.square_free; smooth = smooth; apart = apart; untaken = λ clean. found.untaken (subst IsClean same clean) };
  below = fewer_divisors d f.rest q q-divides none;
  less = less_quotient d q f.rest two whole q-positive;
  root_fits = omega (arith, fits, root_at_most f.root (f.clean * d) q positive);
  clean_fits = omega (arith, fits, clean_at_most f.root (f.clean * d) q positive);
}
  where
    q : ℕ
    q = f.rest / d

    divides : d ∣ f.rest
    divides = dvd_of_mod-eq-zero d once

    whole : d * q ≡ f.rest
    whole = mul-div_cancel' d divides

    same : f.root * f.root * ((f.clean * d) * q) ≡ f.root * f.root * (f.clean * f.rest)
    same = moved_once f.root d f.clean q ∙ ap (λ n. f.root * f.root * (f.clean * n)) whole

    positive : 1 ≤ f.root * f.root * ((f.clean * d) * q)
    positive = rw same found.positive

    fits : f.root * f.root * ((f.clean * d) * q) < 2 ^ 127
    fits = rw same found.fits

    q-positive : 0 < q
    q-positive = rest_positive f.root (f.clean * d) q positive

    q-divides : q ∣ f.rest
    q-divides = subst (λ n. q ∣ n) whole (dvd-mul_left q d)

    own : HasNoDivisorBelow d d
    own = no_divisor d f.rest divides none

    coprime : IsCoprime f.clean f.rest
    coprime = IsCoprime-from_gcd f.clean f.rest found.apart

    apart_from_d : IsCoprime f.clean d
    apart_from_d = IsCoprime-divisors f.clean f.rest f.clean d (dvd_refl f.clean) divides coprime

    smooth : IsSmooth (f.clean * d)
    smooth = IsSmooth-mul f.clean d (clean_positive f.root f.clean f.rest found.positive) found.smooth (IsSmooth-small d (let h : 0 < d = omega arith in h) le)

    d-and-rest : (d ∣ q) ⊎ IsCoprime q d → IsCoprime d q
    d-and-rest (inl h) = absurd (not_twice (mod-eq-zero_of_dvd d h))
    d-and-rest (inr h) = IsCoprime-swap q d h

    apart : IsGcd (f.clean * d) q 1
    apart = IsGcd-from_coprime (f.clean * d) q
        (IsCoprime-swap q (f.clean * d)
        (IsCoprime-mul q f.clean d (IsCoprime-swap f.clean q (IsCoprime-divisors f.clean f.rest f.clean q (dvd_refl f.clean) q-divides coprime)) (IsCoprime-swap d q (d-and-rest (divides_or_coprime d q two own)))))

-- once d divides what is left no more, nothing up to d does
pub done_with : (d n : ℕ) → HasNoDivisorBelow d n → n % d ≢ 0 → HasNoDivisorBelow (d + 1) n
done_with d n none last = record { none = λ e two lt en. by e two en lt (cases_lt e d) }
  where
    by : (e : ℕ) → 2 ≤ e → e ∣ n → e < d + 1 → (e < d) ⊎ (d ≤ e) → ⊥
    by e two en lt (inl below) = none.none e two below en
    by e two en lt (inr le) = let same : e ≡ d = omega arith in last (mod-eq-zero_of_dvd d (subst (λ x. x ∣ n) same en))

-- ---- the same at the numbers that the program computes

pub square_found : (f : Found) (d d' once rest : ℕ) → IsFound f → HasNoDivisorBelow d f.rest → 2 ≤ d → d ≤ trial_limit → f.rest % d ≡ 0 → once ≡ f.rest / d → once % d ≡ 0 → d' ≡ d → rest ≡ once / d
    → IsStep f (record { root = f.root * d'; clean = f.clean; rest = rest }) d
square_found f d d' once rest found none two le divides once-is again d-is rest-is =
    rw (rest-is, once-is, d-is) (square_step f d found none two le divides (subst (λ n. n % d ≡ 0) once-is again))

pub clean_found : (f : Found) (d d' once : ℕ) → IsFound f → HasNoDivisorBelow d f.rest → 2 ≤ d → d ≤ trial_limit → f.rest % d ≡ 0 → once ≡ f.rest / d → once % d ≢ 0 → d' ≡ d
    → IsStep f (record { root = f.root; clean = f.clean * d'; rest = once }) d
clean_found f d d' once found none two le divides once-is not_again d-is =
    rw (once-is, d-is) (clean_step f d found none two le divides (subst (λ n. n % d ≢ 0) once-is not_again))
