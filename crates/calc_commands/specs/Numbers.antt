-- Numbers in decimal digits.
use Rattle.std.specs.{Prelude.{ℕ, ◌^◌, List, length, Bool, ◌&&◌, nat_le, nat_lt, if◌then◌else◌, Option, Some, None}, List.{list_all}, Str.Parse.{digits_value}, Char.{is_ascii_digit}}

-- one or more decimal digits
abbrev pub is_digits : List ℕ → Bool
is_digits text = nat_lt 0 (length text) && list_all is_ascii_digit text

-- the value of 1 to 20 decimal digits, where it is at most 2^64 - 1
unfoldable pub value_of : List ℕ → Option ℕ
value_of text = if is_digits text && nat_le (length text) 20 && nat_lt (digits_value 10 text) (2 ^ 64) then Some (digits_value 10 text) else None
