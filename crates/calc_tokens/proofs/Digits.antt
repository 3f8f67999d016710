-- What digits spell, and what stays of them without the zeros at their end.
use Rattle.calc_tokens.proofs.Shared.{ℕ, suc, ◌+◌, ◌-◌, ◌*◌, ◌≡◌, ◌≤◌, ◌<◌, List, [], ◌∷◌, ◌++◌, Bool, true, false, ◌==◌, length, if◌then◌else◌}
use Rattle.calc_tokens.proofs.Shared.{refl, ap, ◌∙◌, arith, drop, eqb-true, digits_value, kept_before, trimmed}
use Rattle.std.specs.Prelude.{◌/◌, ◌^◌, ◌≢◌}
use Rattle.std.proofs.{Common.{get_or, drop-cons, pow-suc}, Math.Nat.pow-le-pow_right}

trimmed_zero : (front : List ℕ) → trimmed (front ++ 48 ∷ []) ≡ trimmed front
trimmed_zero [] = refl
trimmed_zero (d ∷ front) = ap (kept_before d) (trimmed_zero front)

kept_some : (d : ℕ) (front : List ℕ) (last : ℕ) → kept_before d (front ++ last ∷ []) ≡ d ∷ (front ++ last ∷ [])
kept_some d [] last = refl
kept_some d (e ∷ front) last = refl

trimmed_other : (front : List ℕ) (last : ℕ) → last ≢ 48 → trimmed (front ++ last ∷ []) ≡ front ++ last ∷ []
trimmed_other [] last h = by (last == 48) refl
  where
    by : (x : Bool) → (last == 48) ≡ x → (if x then [] else last ∷ []) ≡ last ∷ []
    by true e = absurd (h (eqb-true last 48 e))
    by false e = refl
trimmed_other (d ∷ front) last h = ap (kept_before d) (trimmed_other front last h) ∙ kept_some d front last

-- the same, of digits that end in this one
pub trimmed_at_zero : (digits front : List ℕ) (last : ℕ) → digits ≡ front ++ last ∷ [] → last ≡ 48 → trimmed digits ≡ trimmed front
trimmed_at_zero digits front last e h = rw (e, h) (trimmed_zero front)

pub trimmed_at_other : (digits front : List ℕ) (last : ℕ) → digits ≡ front ++ last ∷ [] → last ≢ 48 → trimmed digits ≡ digits
trimmed_at_other digits front last e h = rw e (trimmed_other front last h)

pub digits_value-append : (n : ℕ) (a b : List ℕ) → digits_value n (a ++ b) ≡ digits_value (digits_value n a) b
digits_value-append n [] b = refl
digits_value-append n (d ∷ a) b = digits_value-append (10 * n + (d - 48)) a b

pub digits_value_grows : (n : ℕ) (ds : List ℕ) → n ≤ digits_value n ds
digits_value_grows n [] = omega arith
digits_value_grows n (d ∷ ds) = let h : 10 * n + (d - 48) ≤ digits_value (10 * n + (d - 48)) ds = digits_value_grows (10 * n + (d - 48)) ds in omega arith

-- a digit more makes the number too large, whatever follows
pub one_digit_too_many : (value digit at : ℕ) (digits : List ℕ) → at < length digits → digit ≡ get_or digits at 0 - 48
    → (170141183460469231731687303715884105727 - digit) / 10 < value → digits_value value (drop at digits) < 170141183460469231731687303715884105728 → ⊥
one_digit_too_many value digit at digits inside is large =
    let grows : 10 * value + (get_or digits at 0 - 48) ≤ digits_value (10 * value + (get_or digits at 0 - 48)) (drop (suc at) digits)
    = digits_value_grows (10 * value + (get_or digits at 0 - 48)) (drop (suc at) digits) in
    rw (drop-cons digits at 0 inside) (λ fits. omega arith)

-- a power of ten that is too large stays so
pub power_too_large : (power at exponent : ℕ) → at < exponent → power ≡ 10 ^ at → 17014118346046923173168730371588410572 < power → 10 ^ exponent < 170141183460469231731687303715884105728 → ⊥
power_too_large power at exponent inside is large fits =
    let next : 10 ^ suc at ≤ 10 ^ exponent = pow-le-pow_right (omega arith) inside in
    let step : 10 ^ suc at ≡ 10 ^ at * 10 = pow-suc 10 at in
    omega arith
