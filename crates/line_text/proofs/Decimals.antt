-- The digits of the text rules are those that std writes.
use Rattle.line_text.proofs.Shared.{◌≡◌, ◌∙◌, ℕ, zero, suc, ◌+◌, ◌/◌, ◌%◌, ◌^◌, ◌<◌, ◌≤◌, List, [], ◌∷◌, length, refl, ap, arith, append-nil, cases_lt, digits_before}
use Rattle.std.proofs.{Common.{inl, inr}, lemmas.Fmt.{PrependsLastDigit, decimal_from_prepends_wide, length-decimal-le_wide, length-decimal-le_succ}}
use Rattle.std.specs.Fmt.{decimal}
use Rattle.calc_language.specs.Texts as texts

prepends : PrependsLastDigit digits_before
prepends = grind arith

-- a number has at most as many digits as that, and one
few : (n : ℕ) → n < 10 ^ 64 → length (decimal n) ≤ suc n
few n h = elim (cases_lt n 64) [ inl p ↦ omega (arith, length-decimal-le_succ n (omega arith)) | inr p ↦ omega (arith, length-decimal-le_wide 64 n (omega arith) h) ]

pub decimal_is : (n : ℕ) → n < 10 ^ 64 → texts.decimal n ≡ decimal n
unfolding texts.decimal
decimal_is n h = decimal_from_prepends_wide digits_before prepends (suc n) n [] h (few n h) ∙ append-nil (decimal n)

-- those of a number of 63 bits, and of one of 127 bits
pub decimal_shorter : (n : ℕ) → n ≤ 2 ^ 63 → length (texts.decimal n) ≤ 19
decimal_shorter n h = omega (arith, ap length (decimal_is n (omega arith)), length-decimal-le_wide 19 n (omega arith) (omega arith) (omega arith))

pub decimal_short : (n : ℕ) → n < 2 ^ 127 → length (texts.decimal n) ≤ 39
decimal_short n h = omega (arith, ap length (decimal_is n (omega arith)), length-decimal-le_wide 39 n (omega arith) (omega arith) (omega arith))

-- that of one digit
pub one_digit : (n : ℕ) → n < 10 → texts.decimal n ≡ (48 + n) ∷ []
unfolding texts.decimal
one_digit n h = by (n / 10) (omega arith)
  where
    by : (m : ℕ) → m ≡ 0 → ◌≡◌ {A = List ℕ} (elim m [ zero ↦ (48 + n) ∷ [] | suc k ↦ digits_before n (n / 10) ((48 + n % 10) ∷ []) ]) ((48 + n) ∷ [])
    by zero e = refl
    by (suc k) e = absurd (omega (arith, e))

-- those of two
pub two_digits : (n : ℕ) → 10 ≤ n → n < 100 → texts.decimal n ≡ (48 + n / 10) ∷ (48 + n % 10) ∷ []
unfolding texts.decimal
two_digits zero h l = absurd (omega arith)
two_digits (suc k) h l = outer (suc k / 10) (omega arith)
  where
    inner : (m : ℕ) → m ≡ 0 → ◌≡◌ {A = List ℕ} (elim m [ zero ↦ (48 + suc k / 10) ∷ (48 + suc k % 10) ∷ [] | suc j ↦ digits_before k (suc k / 10 / 10) ((48 + suc k / 10 % 10) ∷ (48 + suc k % 10) ∷ []) ]) ((48 + suc k / 10) ∷ (48 + suc k % 10) ∷ [])
    inner zero e = refl
    inner (suc j) e = absurd (omega (arith, e))

    outer : (m : ℕ) → 0 < m → ◌≡◌ {A = List ℕ} (elim m [ zero ↦ (48 + suc k) ∷ [] | suc j ↦ digits_before (suc k) (suc k / 10) ((48 + suc k % 10) ∷ []) ]) ((48 + suc k / 10) ∷ (48 + suc k % 10) ∷ [])
    outer zero e = absurd (omega (arith, e))
    outer (suc j) e = inner (suc k / 10 / 10) (omega arith)
