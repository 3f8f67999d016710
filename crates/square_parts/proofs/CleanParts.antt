-- The parts that trial division leaves are clean.
use Rattle.square_parts.proofs.Shared.{◌≡◌, ◌≢◌, ℕ, ◌+◌, ◌*◌, ◌^◌, ◌<◌, ◌≤◌, ◌⊎◌, inl, inr, refl, sym, ap, ◌∙◌, subst, arith, ◌∣◌, cases_lt, dvd_refl, dvd_trans, le_of_dvd, dvd-mul_right, mul-dvd-mul}
use Rattle.square_parts.proofs.Shared.{eq-one_of_dvd-one, trial_limit, left_of, IsClean, square_le, IsCoprime, IsCoprime-swap, IsCoprime-from_gcd, IsGcd-from_coprime, IsCoprime-divisors}
use Rattle.square_parts.proofs.{Shared.{IsCoprime-mul, other_factor, Found, IsSmooth, HasNoDivisorBelow, HasNoOtherDivisor, number_of, IsFound}, SmoothNumbers.{IsRough, common_or_coprime}}
use Rattle.square_parts.proofs.{SmoothNumbers.{IsSmooth-one, IsSmooth-small, IsSmooth-mul}, LeftOf.{left_of_part}, Steps.{rest_positive, clean_positive, root_at_most}}

no_root_of_one : (s : ℕ) → 1 < s → 1 ≡ s * s → ⊥
no_root_of_one s h e = grind arith

square_above : (n : ℕ) → 2 ≤ n → n * n ≤ n → ⊥
square_above n h le = grind arith

-- nothing is left of a smooth number, so it is clean where it has no square
smooth_clean : (c : ℕ) → 0 < c → IsSmooth c → ((d : ℕ) → 2 ≤ d → d ≤ trial_limit → d * d ∣ c → ⊥) → IsClean c
smooth_clean c positive smooth free = record {
  no_square = free;
  no_rest = λ s above e. no_root_of_one s above (sym (left_of_part c 1 c positive (omega arith) (omega arith) smooth (record { none = λ d two le d1. let one : d ≡ 1 = eq-one_of_dvd-one d1 in omega arith })) ∙ e);
}

-- the clean part alone
pub clean_alone : (f : Found) → IsFound f → IsClean f.clean
clean_alone f found =
    smooth_clean f.clean (clean_positive f.root f.clean f.rest found.positive) found.smooth
    (λ d two le h. let one : d ≡ 1 = found.square_free.only_one d h in omega arith)

-- the clean part times a rest that is no square
pub clean_with_rest : (f : Found) → IsFound f → HasNoOtherDivisor f.rest → ((s : ℕ) → 1 < s → f.rest ≢ s * s) → IsClean (f.clean * f.rest)
clean_with_rest f found only not_square = record { no_square = no_square; no_rest = no_rest }
  where
    c-positive : 0 < f.clean
    c-positive = clean_positive f.root f.clean f.rest found.positive

    n-positive : 0 < f.rest
    n-positive = rest_positive f.root f.clean f.rest found.positive

    apart : IsCoprime f.clean f.rest
    apart = IsCoprime-from_gcd f.clean f.rest found.apart

    of_clean : (d g : ℕ) → d * d ∣ f.clean * f.rest → 2 ≤ g → g ∣ d → g ∣ f.clean → ⊥
    of_clean d g h two gd gc =
        let square : g * g ∣ f.clean * f.rest = dvd_trans (g * g) (mul-dvd-mul g g gd gd) h in
        let g-rest : IsCoprime f.rest g = IsCoprime-swap g f.rest (IsCoprime-divisors f.clean f.rest g f.rest gc (dvd_refl f.rest) apart) in
        let one : g ≡ 1 = found.square_free.only_one g (other_factor (g * g) f.rest f.clean (IsCoprime-mul f.rest g g g-rest g-rest) square) in
        omega arith

    of_rest : (d : ℕ) → 2 ≤ d → d ≤ trial_limit → d * d ∣ f.rest → ⊥
    of_rest d two le h =
        let same : d ≡ f.rest = only.whole d two le (dvd_trans d (dvd-mul_right d d) h) in
        square_above d two (subst (λ n. d * d ≤ n) (sym same) (le_of_dvd n-positive h))

    by : (d : ℕ) → 2 ≤ d → d ≤ trial_limit → d * d ∣ f.clean * f.rest → ((g : ℕ) × (2 ≤ g) × (g ∣ d) × (g ∣ f.clean)) ⊎ IsCoprime d f.clean → ⊥
    by d two le h (inl (g, g-two, gd, gc)) = of_clean d g h g-two gd gc
    by d two le h (inr coprime) =
        let squares : IsCoprime f.clean (d * d) = IsCoprime-mul f.clean d d (IsCoprime-swap d f.clean coprime) (IsCoprime-swap d f.clean coprime) in
        let turned : d * d ∣ f.rest * f.clean = subst (λ n. d * d ∣ n) (omega arith) h in
        of_rest d two le (other_factor (d * d) f.clean f.rest squares turned)

    no_square : (d : ℕ) → 2 ≤ d → d ≤ trial_limit → d * d ∣ f.clean * f.rest → ⊥
    no_square d two le h = by d two le h (common_or_coprime d f.clean c-positive)

    whole-positive : 0 < f.clean * f.rest
    whole-positive = grind arith

    -- a rest up to the limit is divided out too, and a greater one is all that is left
    left : (trial_limit < f.rest) ⊎ (f.rest ≤ trial_limit) → (s : ℕ) → 1 < s → left_of (f.clean * f.rest) ≢ s * s
    left (inl above) s big e =
        let rough : IsRough f.rest = record { none = λ d two le h. let same : d ≡ f.rest = only.whole d two le h in omega arith } in
        not_square s big (sym (left_of_part (f.clean * f.rest) f.rest f.clean whole-positive n-positive (omega arith) found.smooth rough) ∙ e)
    left (inr small) s big e = (smooth_clean (f.clean * f.rest) whole-positive (IsSmooth-mul f.clean f.rest c-positive found.smooth (IsSmooth-small f.rest n-positive small)) no_square).no_rest s big e

    no_rest : (s : ℕ) → 1 < s → left_of (f.clean * f.rest) ≢ s * s
    no_rest = left (cases_lt trial_limit f.rest)

-- ---- squares

-- a rest up to the square of the limit is no square
pub small_no_square : (n : ℕ) → HasNoOtherDivisor n → n ≤ 100000000 → (s : ℕ) → 1 < s → n ≢ s * s
small_no_square n only small s big e = by (cases_lt trial_limit s)
  where
    above : (s : ℕ) → 10000 < s → 100000000 < s * s
    above s h = grind arith

    by : (trial_limit < s) ⊎ (s ≤ trial_limit) → ⊥
    by (inl far) = absurd (omega (arith, above s far))
    by (inr near) =
        let same : s ≡ n = only.whole s (omega arith) near (subst (λ m. s ∣ m) (sym e) (dvd-mul_right s s)) in
        square_above s (omega arith) (omega arith)

-- the root rounded down decides
pub rounded_no_square : (n r : ℕ) → r * r ≤ n → n < (r + 1) * (r + 1) → r * r ≢ n → (s : ℕ) → 1 < s → n ≢ s * s
rounded_no_square n r h k l s m e = grind (arith, square_le)

-- where the rest is a great square the number is not clean
pub square_not_clean : (f : Found) (m : ℕ) → IsFound f → HasNoOtherDivisor f.rest → 100000000 < f.rest → m * m ≡ f.rest → IsClean (number_of f) → ⊥
square_not_clean f m found only far e clean =
    let c-positive : 0 < f.clean = clean_positive f.root f.clean f.rest found.positive in
    let n-positive : 0 < f.rest = omega arith in
    let whole-positive : 0 < f.clean * f.rest = grind arith in
    let rough : IsRough f.rest = record { none = λ d two le h. let same : d ≡ f.rest = only.whole d two le h in omega arith } in
    let left : left_of (f.clean * f.rest) ≡ f.rest = left_of_part (f.clean * f.rest) f.rest f.clean whole-positive n-positive (omega arith) found.smooth rough in
    let itself : number_of f ≡ f.clean * f.rest = ap (λ n. n * n * (f.clean * f.rest)) (found.untaken clean) ∙ one_times (f.clean * f.rest) in
    clean.no_rest m (above m (omega arith)) (ap left_of itself ∙ left ∙ sym e)
  where
    one_times : (n : ℕ) → 1 * 1 * n ≡ n
    one_times n = omega arith

    above : (m : ℕ) → 1 < m * m → 1 < m
    above m h = grind arith

-- ---- the numbers of the answer

pub square_product : (f : Found) (m : ℕ) → m * m ≡ f.rest → number_of f ≡ (f.root * m) * (f.root * m) * f.clean
square_product f m e = ap (λ n. f.root * f.root * (f.clean * n)) (sym e) ∙ omega arith

pub square_fits : (f : Found) (m : ℕ) → IsFound f → m * m ≡ f.rest → f.root * m < 2 ^ 127
square_fits f m found e =
    let same : number_of f ≡ (f.root * m) * (f.root * m) * (f.clean * 1) = square_product f m e ∙ omega arith in
    let positive : 1 ≤ (f.root * m) * (f.root * m) * (f.clean * 1) = rw (← same) found.positive in
    let fits : (f.root * m) * (f.root * m) * (f.clean * 1) < 2 ^ 127 = rw (← same) found.fits in
    omega (arith, root_at_most (f.root * m) f.clean 1 positive)

-- ---- the number itself, before any division

pub whole_found : (r : ℕ) → 1 ≤ r → r < 2 ^ 127 → IsFound (record { root = 1; clean = 1; rest = r })
whole_found r positive fits = record {
  positive = omega arith;
  fits = omega arith;
  square_free = record { only_one = λ e h. eq-one_of_dvd-one (dvd_trans e (dvd-mul_right e e) h) };
  smooth = IsSmooth-one;
  apart = IsGcd-from_coprime 1 r (record { common = λ d d1 dr. d1 });
  untaken = λ clean. refl;
}

pub nothing_below_two : (n : ℕ) → HasNoDivisorBelow 2 n
nothing_below_two n = record { none = λ e two lt en. absurd (omega arith) }
