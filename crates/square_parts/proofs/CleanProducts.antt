-- Products of clean numbers over what they share.
use Rattle.square_parts.proofs.Shared.{◌≡◌, ℕ, zero, suc, ◌*◌, ◌/◌, ◌^◌, ◌<◌, ◌≤◌, ◌⊎◌, inl, inr, subst, arith, IsGcd, ◌∣◌, dvd_refl, dvd_trans, dvd-zero, le_of_dvd, mul-div_cancel', dvd-mul_right}
use Rattle.square_parts.proofs.Shared.{mul-dvd-mul, trial_limit, left_of, IsClean, IsCoprime, IsCoprime-swap, IsCoprime-divisors, IsCoprime-mul, other_factor, quotients_coprime, factor_divides}
use Rattle.square_parts.proofs.{Shared.{positive_factor, clean_positive}, SmoothNumbers.{common_or_coprime}, LeftOf.{left_of_is}, CleanLaws.{clean_square_free}}

-- no square of a number from 2 to b divides n
pub record HasNoSquareTo (b n : ℕ) : Type 0 where
  pub none : (e : ℕ) → 2 ≤ e → e ≤ b → e * e ∣ n → ⊥

-- nor does one divide the product of two such numbers without a common divisor
pub no_square_in_product : (b x y : ℕ) → 0 < x → IsCoprime x y → HasNoSquareTo b x → HasNoSquareTo b y → HasNoSquareTo b (x * y)
no_square_in_product b x y positive apart h k = record { none = λ d two le square. by d two le square (common_or_coprime d x positive) }
  where
    by : (d : ℕ) → 2 ≤ d → d ≤ b → d * d ∣ x * y → ((g : ℕ) × (2 ≤ g) × (g ∣ d) × (g ∣ x)) ⊎ IsCoprime d x → ⊥
    by d two le square (inl (g, g-two, gd, gx)) =
        let d-positive : 0 < d = omega arith in
        let below : g ≤ d = le_of_dvd d-positive gd in
        let g-square : g * g ∣ x * y = dvd_trans (g * g) (mul-dvd-mul g g gd gd) square in
        let g-y : IsCoprime y g = IsCoprime-swap g y (IsCoprime-divisors x y g y gx (dvd_refl y) apart) in
        h.none g g-two (omega arith) (other_factor (g * g) y x (IsCoprime-mul y g g g-y g-y) g-square)
    by d two le square (inr coprime) =
        let turned : IsCoprime x d = IsCoprime-swap d x coprime in
        let swapped : d * d ∣ y * x = subst (λ n. d * d ∣ n) (omega arith) square in
        k.none d two le (other_factor (d * d) x y (IsCoprime-mul x d d turned turned) swapped)

no_square_in_part : (b g n : ℕ) → g ∣ n → HasNoSquareTo b n → HasNoSquareTo b (n / g)
no_square_in_part b g n h k = record { none = λ e two le square. k.none e two le (dvd_trans (e * e) square (factor_divides g (n / g) n (mul-div_cancel' g h))) }

no_square_over_shared : (b r s g : ℕ) → 0 < r → 0 < s → IsGcd r s g → HasNoSquareTo b r → HasNoSquareTo b s → HasNoSquareTo b ((r / g) * (s / g))
no_square_over_shared b r s g r-positive s-positive is h k =
    no_square_in_product b (r / g) (s / g) (positive_factor g (r / g) r (mul-div_cancel' g is.0) r-positive) (quotients_coprime r s g s-positive is)
    (no_square_in_part b g r is.0 h) (no_square_in_part b g s is.1 k)

-- no square of a number from 2 to the trial limit divides the product of two clean numbers over what they share
pub clean_over_shared : (r s g d : ℕ) → IsClean r → IsClean s → IsGcd r s g → 2 ≤ d → d ≤ trial_limit → d * d ∣ (r / g) * (s / g) → ⊥
clean_over_shared r s g d r-clean s-clean is two le square =
    (no_square_over_shared trial_limit r s g (clean_positive r r-clean) (clean_positive s s-clean) is (record { none = r-clean.no_square }) (record { none = s-clean.no_square })).none d two le square

-- a number above 0 without a square is clean
square_free_clean : (n : ℕ) → 0 < n → ((d : ℕ) → 2 ≤ d → d * d ∣ n → ⊥) → IsClean n
square_free_clean n positive free = record {
  no_square = λ d two le square. free d two square;
  no_rest = λ s above e.
      let rest = left_of_is n positive in
      free s (omega arith) (subst (λ m. m ∣ n) e (subst (λ m. left_of n ∣ m) (let w : left_of n * rest.factor ≡ n = cc in w) (dvd-mul_right (left_of n) rest.factor)));
}

-- below 10^12 that product is clean
pub clean_below_over_shared : (r s g : ℕ) → IsClean r → IsClean s → r < 10 ^ 12 → s < 10 ^ 12 → IsGcd r s g → IsClean ((r / g) * (s / g))
clean_below_over_shared r s g r-clean s-clean r-small s-small is =
    square_free_clean ((r / g) * (s / g)) positive
    (λ d two square. (no_square_over_shared d r s g r-positive s-positive is (record { none = λ e e-two le h. clean_square_free r r-clean r-small e (omega arith) h }) (record { none = λ e e-two le h. clean_square_free s s-clean s-small e (omega arith) h })).none d two (omega arith) square)
  where
    r-positive : 0 < r
    r-positive = clean_positive r r-clean

    s-positive : 0 < s
    s-positive = clean_positive s s-clean

    positive : 0 < (r / g) * (s / g)
    positive =
        let x : 0 < r / g = positive_factor g (r / g) r (mul-div_cancel' g is.0) r-positive in
        let y : 0 < s / g = positive_factor g (s / g) s (mul-div_cancel' g is.1) s-positive in
        grind arith
