-- A line and its tokens with their places, or its first fault.
use Rattle.std.specs.Prelude.{ℕ, suc, ◌-◌, ◌≡◌, List, [], ◌∷◌, length, Bool, true, false, not, ◌&&◌, Some, None}
use Rattle.calc_language.specs.Tokens.{Token, is_blank, token_at}
use Rattle.calc_terms.specs.Name.{is_digit}
use Rattle.calc_tokens.specs.{Placed.{Placed}, Literals.{literal_fits}}

-- the place in the line of the first of the bytes that are left, counted from 1
abbrev pub place : List ℕ → List ℕ → ℕ
place line rest = suc (length line - length rest)

-- where bytes are left
abbrev pub begins : List ℕ → Bool
begins [] = false
begins (b ∷ bytes) = true

-- what begins with a blank
abbrev pub begins_blank : List ℕ → Bool
begins_blank [] = false
begins_blank (b ∷ bytes) = is_blank b

-- what begins with a literal that is too wide
abbrev pub begins_wide : List ℕ → Bool
begins_wide [] = false
begins_wide (b ∷ bytes) = is_digit b && not (literal_fits (b ∷ bytes))

-- at the first byte, which is no blank, no token begins
pub record BeginsNoToken (bytes : List ℕ) : Type 0 where
  pub some : begins bytes ≡ true
  pub no_blank : begins_blank bytes ≡ false
  pub no_token : token_at bytes ≡ None

-- the longest token at the front, which fits, and what stands behind it
pub record BeginsToken (bytes : List ℕ) (t : Token) (behind : List ℕ) : Type 0 where
  pub longest : token_at bytes ≡ Some (t, behind)
  pub fits : begins_wide bytes ≡ false

-- from the left, with blanks between them, the bytes are these tokens, and then the rest
pub data Leads (line : List ℕ) : List ℕ → List Placed → List ℕ → Type 0 where
  nothing : {rest : List ℕ} → Leads line rest [] rest
  blank : {b : ℕ} {bytes rest : List ℕ} {ts : List Placed} → is_blank b ≡ true → Leads line bytes ts rest → Leads line (b ∷ bytes) ts rest
  token : {bytes behind rest : List ℕ} {t : Token} {ts : List Placed} → BeginsToken bytes t behind → Leads line behind ts rest
      → Leads line bytes (record { token = t; at = place line bytes } ∷ ts) rest

-- the line is these tokens
abbrev pub AreTokensOf : List Placed → List ℕ → Type 0
AreTokensOf ts line = Leads line line ts []

-- behind tokens alone the first byte that begins none is at this place
pub record IsFirstCharacter (line : List ℕ) (at : ℕ) : Type 0 where
  pub tokens : List Placed
  pub rest : List ℕ
  pub before : Leads line line tokens rest
  pub here : BeginsNoToken rest
  pub place_is : at ≡ place line rest

-- behind tokens alone the first literal that is too wide is at this place
pub record IsFirstWide (line : List ℕ) (at : ℕ) : Type 0 where
  pub tokens : List Placed
  pub rest : List ℕ
  pub before : Leads line line tokens rest
  pub here : begins_wide rest ≡ true
  pub place_is : at ≡ place line rest
