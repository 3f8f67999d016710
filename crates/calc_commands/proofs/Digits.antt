-- Lemmas on decimal digits.
use Rattle.calc_commands.proofs.Shared.{arith, ◌≡◌, ℕ, List, true, Some, None, Result, list_all, is_ascii_digit, result_ok, digits_value, MatchResult, rules, IsUtf8-from_ascii, IsAscii-from_digits}
use Rattle.calc_commands.proofs.Shared.{IsNumeralModel, numerals_by_value, IsUtf8}

abbrev pub AreDigits : List ℕ → Type 0
AreDigits text = list_all is_ascii_digit text ≡ true

-- this test tells the numerals of std
pub digits_are_numerals : IsNumeralModel AreDigits (digits_value 10)
digits_are_numerals = numerals_by_value _ (search rules)

pub digits_are_utf8 : (text : List ℕ) → AreDigits text → IsUtf8 text
digits_are_utf8 text h = IsUtf8-from_ascii text (IsAscii-from_digits text (digits_are_numerals.to text h))

-- what stands in a result
pub at_some : {X E : Type 0} (r : Result X E) (P : X → Type 0) (Q : E → Type 0) (x : X) → Some x ≡ result_ok r → MatchResult r P Q → P x
at_some r P Q x e h = grind arith

pub at_none : {X E : Type 0} (r : Result X E) (P : X → Type 0) (U : Type 0) (V : E → Type 0) → None ≡ result_ok r → MatchResult r P (λ e. (¬ U) × V e) → ¬ U
at_none r P U V e h = grind arith
