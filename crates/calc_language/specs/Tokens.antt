-- Tokens, and how the bytes of a line are cut into them.
use Rattle.std.specs.Prelude.{ℕ, ◌+◌, ◌-◌, ◌*◌, ◌^◌, ◌≡◌, List, [], ◌∷◌, ◌++◌, length, Bool, true, false, ◌&&◌, ◌||◌, ◌==◌, nat_le, if◌then◌else◌, Option, Some, None, pos, codes}
use Rattle.calc_terms.specs.{Fractions.{Fraction, lowest}, Name.{is_digit, is_letter, is_name_byte}}

-- a literal by its value, a name by its bytes, or a mark
pub data Token : Type 0 where
  literal : Fraction → Token
  name : List ℕ → Token
  undef_mark root_mark plus_mark minus_mark times_mark slash_mark caret_mark left_mark right_mark arrow_mark : Token

-- ---- bytes

-- what stands between tokens: spaces and tabs
abbrev pub is_blank : ℕ → Bool
is_blank b = (b == 32) || (b == 9)

-- ×
abbrev pub times_sign : List ℕ
times_sign = 195 ∷ 151 ∷ []

-- √
abbrev pub root_sign : List ℕ
root_sign = 226 ∷ 136 ∷ 154 ∷ []

-- →
abbrev pub arrow_sign : List ℕ
arrow_sign = 226 ∷ 134 ∷ 146 ∷ []

-- ·
abbrev pub dot_sign : List ℕ
dot_sign = 194 ∷ 183 ∷ []

-- ---- runs

abbrev pub keep : Bool → ℕ → List ℕ → List ℕ × List ℕ → List ℕ × List ℕ
keep true b bs r = (b ∷ r.0, r.1)
keep false b bs r = ([], b ∷ bs)

-- the bytes in front that pass, and the rest
abbrev pub leading_run : (ℕ → Bool) → List ℕ → List ℕ × List ℕ
leading_run p [] = ([], [])
leading_run p (b ∷ bs) = let r = leading_run p bs in keep (p b) b bs r

-- ---- literals

-- the number that the digits write behind those of n
abbrev pub digits_value : ℕ → List ℕ → ℕ
digits_value n [] = n
digits_value n (d ∷ ds) = digits_value (10 * n + (d - 48)) ds

-- the digits behind a point, where a point and a digit stand in front, and the rest
abbrev pub decimals : List ℕ → List ℕ × List ℕ
decimals (b ∷ c ∷ bs) = let r = leading_run is_digit (c ∷ bs) in elim ((b == 46) && is_digit c) [ true ↦ r | false ↦ ([], b ∷ c ∷ bs) ]
decimals bs = ([], bs)

-- digits, then at most once a point with digits: their number over a power of ten
unfoldable pub literal_at : List ℕ → Token × List ℕ
literal_at bs =
    let (a, rest) = leading_run is_digit bs in
    let (d, after) = decimals rest in
    (literal (lowest (pos (digits_value 0 (a ++ d))) (10 ^ length d)), after)

-- ---- words

abbrev pub same_bytes : List ℕ → List ℕ → Bool
same_bytes [] [] = true
same_bytes (a ∷ as') (b ∷ bs) = (a == b) && same_bytes as' bs
same_bytes _ _ = false

-- two words are marks, any other is a name
abbrev pub token_of_word : List ℕ → Token
token_of_word x = if same_bytes x (codes "sqrt") then root_mark else if same_bytes x (codes "undef") then undef_mark else name x

-- a letter and the letters and digits that follow, at most 7 in all
unfoldable pub word_at : List ℕ → Option (Token × List ℕ)
word_at bs = let (x, rest) = leading_run is_name_byte bs in if nat_le (length x) 7 then Some (token_of_word x, rest) else None

-- ---- marks

abbrev pub if_so : Bool → Option (List ℕ) → Option (List ℕ)
if_so true r = r
if_so false r = None

-- what follows the bytes p, where the text begins with them
abbrev pub rest_after : List ℕ → List ℕ → Option (List ℕ)
rest_after [] bs = Some bs
rest_after (p ∷ ps) [] = None
rest_after (p ∷ ps) (b ∷ bs) = let r = rest_after ps bs in if_so (p == b) r

pub record Mark : Type 0 where
  pub bytes : List ℕ
  pub token : Token

abbrev pub mark : List ℕ → Token → Mark
mark bytes t = record { bytes = bytes; token = t }

-- the longest in front where one begins like another
abbrev pub marks : List Mark
marks = mark (codes "->") arrow_mark ∷ mark arrow_sign arrow_mark ∷ mark root_sign root_mark
    ∷ mark (codes "+") plus_mark ∷ mark (codes "-") minus_mark ∷ mark (codes "*") times_mark ∷ mark times_sign times_mark ∷ mark dot_sign times_mark
    ∷ mark (codes "/") slash_mark ∷ mark (codes "^") caret_mark ∷ mark (codes "(") left_mark ∷ mark (codes ")") right_mark ∷ []

abbrev pub or_else : Option (List ℕ) → Token → Option (Token × List ℕ) → Option (Token × List ℕ)
or_else (Some rest) t r = Some (t, rest)
or_else None t r = r

-- the first mark of the list that the text begins with
abbrev pub first_mark : List Mark → List ℕ → Option (Token × List ℕ)
first_mark [] bs = None
first_mark (m ∷ ms) bs = let r = first_mark ms bs in or_else (rest_after m.bytes bs) m.token r

-- ---- a text

-- the longest token at the front, and what follows it
abbrev pub token_at : List ℕ → Option (Token × List ℕ)
token_at [] = None
token_at (b ∷ bs) = if is_digit b then Some (literal_at (b ∷ bs)) else if is_letter b then word_at (b ∷ bs) else first_mark marks (b ∷ bs)

-- the text is cut into these tokens, and blanks between them are skipped
pub data Scans : List ℕ → List Token → Type 0 where
  at_end : Scans [] []
  at_blank : {b : ℕ} {bs : List ℕ} {ts : List Token} → is_blank b ≡ true → Scans bs ts → Scans (b ∷ bs) ts
  at_token : {bs rest : List ℕ} {t : Token} {ts : List Token} → token_at bs ≡ Some (t, rest) → Scans rest ts → Scans bs (t ∷ ts)
