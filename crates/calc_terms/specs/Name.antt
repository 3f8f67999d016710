-- Names: which bytes are one, and how eight bytes hold it.
use Rattle.std.specs.Prelude.{ℕ, ◌-◌, ◌≡◌, ◌≢◌, ◌≤◌, List, [], ◌∷◌, ◌++◌, Bool, true, false, ◌&&◌, ◌||◌, ◌==◌, not, nat_le, nat_eq, if◌then◌else◌, length, codes, replicate, All, IsTrue}
use Rattle.std.specs.{List.{list_all}, Cmp.Lexicographic.{pointwise}}

-- the ten digits of ASCII
abbrev pub is_digit : ℕ → Bool
is_digit b = nat_le 48 b && nat_le b 57

-- the letters of ASCII, capital and small
abbrev pub is_letter : ℕ → Bool
is_letter b = nat_le 65 b && nat_le b 90 || nat_le 97 b && nat_le b 122

-- what may stand behind a name's first letter
abbrev pub is_name_byte : ℕ → Bool
is_name_byte b = is_letter b || is_digit b

-- the words that the language keeps for itself
abbrev pub is_reserved : List ℕ → Bool
is_reserved word = pointwise nat_eq word (codes "sqrt") || pointwise nat_eq word (codes "undef")

abbrev pub begins_with_letter : List ℕ → Bool
begins_with_letter [] = false
begins_with_letter (b ∷ bs) = is_letter b

-- a name: a letter, then letters and digits, at most seven bytes, and no reserved word
abbrev pub is_name : List ℕ → Bool
is_name bytes = begins_with_letter bytes && list_all is_name_byte bytes && nat_le (length bytes) 7 && not (is_reserved bytes)

-- the same, sentence by sentence
pub record IsName (bytes : List ℕ) : Type 0 where
  pub begins : IsTrue (begins_with_letter bytes)
  pub spelled : All (λ b. IsTrue (is_name_byte b)) bytes
  pub short : length bytes ≤ 7
  pub not_sqrt : bytes ≢ codes "sqrt"
  pub not_undef : bytes ≢ codes "undef"

-- the bytes before the first zero
abbrev pub before_zero : List ℕ → List ℕ
before_zero [] = []
before_zero (b ∷ bs) = if b == 0 then [] else b ∷ before_zero bs

-- zeros up to eight bytes
abbrev pub padded : List ℕ → List ℕ
padded bytes = bytes ++ replicate (8 - length bytes) 0

-- eight bytes that hold a name
pub record HoldsName (text : List ℕ) : Type 0 where
  pub name : is_name (before_zero text) ≡ true
  pub whole : text ≡ padded (before_zero text)
