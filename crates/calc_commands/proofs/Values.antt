-- The value of a text of digits.
use Rattle.calc_commands.proofs.Shared.{arith, ◌≡◌, ℕ, ◌<◌, ◌≤◌, List, [], length, refl, false, Some, None, Result, sym, ap, lt-ltb, list_all, is_ascii_digit, result_ok, ParsesUnsigned, digits_value, ◌^◌, Ok}
use Rattle.calc_commands.proofs.{Shared.{Err, parse_digits, le-leb}, Digits.{AreDigits, digits_are_numerals}}
use Rattle.calc_commands.specs.Numbers.{value_of}

pub too_many_digits : (text : List ℕ) → 20 < length text → value_of text ≡ None
unfolding value_of
too_many_digits text l = grind arith

pub no_digits : value_of [] ≡ None
unfolding value_of
no_digits = refl

pub not_digits : (text : List ℕ) → list_all is_ascii_digit text ≡ false → value_of text ≡ None
unfolding value_of
not_digits text n = grind arith

no_value : (text : List ℕ) → AreDigits text → length text ≤ 20 → (0 < length text × digits_value 10 text < 2 ^ 64 → ⊥) → value_of text ≡ None
unfolding value_of
no_value text h l fails = grind arith

-- what `parse` gives of digits is their value
pub value_from_parse : {E : Type 0} (text : List ℕ) (r : Result ℕ E) → AreDigits text → length text ≤ 20 → ParsesUnsigned 64 10 text r → value_of text ≡ result_ok r
unfolding value_of
value_from_parse {E} text (Ok v) h l p =
    let k : (0 < length text × digits_value 10 text < 2 ^ 64) × (v ≡ digits_value 10 text) = parse_digits digits_are_numerals {E = E} 64 text (Ok v) p h in
    rw (lt-ltb 0 (length text) k.0.0, h, le-leb (length text) 20 l, lt-ltb (digits_value 10 text) (2 ^ 64) k.0.1) (ap (λ n. Some n) (sym k.1))
value_from_parse {E} text (Err d) h l p = no_value text h l (parse_digits digits_are_numerals {E = E} 64 text (Err d) p h)
