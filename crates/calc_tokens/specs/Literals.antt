-- The literal at the front of bytes: its parts, and whether they fit.
use Rattle.std.specs.Prelude.{ℕ, ◌^◌, List, [], ◌∷◌, ◌++◌, length, Bool, false, ◌&&◌, ◌==◌, nat_lt, if◌then◌else◌}
use Rattle.calc_terms.specs.{Limits.{number_limit}, Name.{is_digit}}
use Rattle.calc_language.specs.Tokens.{leading_run, decimals, digits_value}

-- a digit in front of what is left of the digits behind it
abbrev pub kept_before : ℕ → List ℕ → List ℕ
kept_before d [] = if d == 48 then [] else d ∷ []
kept_before d (e ∷ es) = d ∷ e ∷ es

-- digits without the zeros at their end
abbrev pub trimmed : List ℕ → List ℕ
trimmed [] = []
trimmed (d ∷ ds) = kept_before d (trimmed ds)

-- the digits before the point
abbrev pub whole_digits : List ℕ → List ℕ
whole_digits bytes = (leading_run is_digit bytes).0

-- the decimals without the zeros at their end
abbrev pub kept_decimals : List ℕ → List ℕ
kept_decimals bytes = trimmed ((decimals ((leading_run is_digit bytes).1)).0)

-- what the digits spell without the point
abbrev pub unscaled : List ℕ → List ℕ → ℕ
unscaled whole kept = digits_value 0 (whole ++ kept)

-- the power of ten that it is over
abbrev pub scale : List ℕ → ℕ
scale kept = 10 ^ length kept

-- both are below the limit of numbers
abbrev pub parts_fit : List ℕ → List ℕ → Bool
parts_fit whole kept = nat_lt (unscaled whole kept) number_limit && nat_lt (scale kept) number_limit

abbrev pub literal_fits : List ℕ → Bool
literal_fits bytes = parts_fit (whole_digits bytes) (kept_decimals bytes)

-- the bytes begin with a point
abbrev pub has_point : List ℕ → Bool
has_point [] = false
has_point (b ∷ bs) = b == 46
