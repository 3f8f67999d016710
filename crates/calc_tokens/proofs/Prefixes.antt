-- What follows a prefix.
use Rattle.calc_tokens.proofs.Shared.{ℕ, ◌≡◌, List, [], ◌∷◌, Bool, true, false, ◌&&◌, ◌==◌, nat_eq, length, Option, Some, None, pointwise, option_map, refl, arith, Token, if_so, rest_after, or_else}
use Rattle.calc_tokens.proofs.Shared.{front_of, take, Bor, option_or, nat_tests, What}
use Rattle.std.specs.Prelude.{drop}

turned : (a b : ℕ) → (a == b) ≡ (b == a)
turned a b = grind (arith, nat_tests)

no_prefix : (prefix bytes : List ℕ) → pointwise nat_eq (take (length prefix) bytes) prefix ≡ false → rest_after prefix bytes ≡ None
no_prefix [] bytes e = cc
no_prefix (p ∷ prefix) [] e = refl
no_prefix (p ∷ prefix) (b ∷ bytes) e = rw (turned p b) (by (b == p) (no_prefix prefix bytes) e)
  where
    by : (x : Bool) → (pointwise nat_eq (take (length prefix) bytes) prefix ≡ false → rest_after prefix bytes ≡ None) → (x && pointwise nat_eq (take (length prefix) bytes) prefix) ≡ false
        → if_so x (rest_after prefix bytes) ≡ None
    by true h e = h e
    by false h e = refl

whole_prefix : (prefix bytes : List ℕ) → pointwise nat_eq (take (length prefix) bytes) prefix ≡ true → rest_after prefix bytes ≡ Some (drop (length prefix) bytes)
whole_prefix [] bytes e = refl
whole_prefix (p ∷ prefix) [] e = cc
whole_prefix (p ∷ prefix) (b ∷ bytes) e = rw (turned p b) (by (b == p) (whole_prefix prefix bytes) e)
  where
    by : (x : Bool) → (pointwise nat_eq (take (length prefix) bytes) prefix ≡ true → rest_after prefix bytes ≡ Some (drop (length prefix) bytes))
        → (x && pointwise nat_eq (take (length prefix) bytes) prefix) ≡ true → if_so x (rest_after prefix bytes) ≡ Some (drop (length prefix) bytes)
    by true h e = h e
    by false h e = cc

-- a token, and what follows the rest of its bytes
abbrev pub then_token : Token → List ℕ → List ℕ → Option (Token × List ℕ)
then_token t others rest = option_map (λ after. (t, after)) (rest_after others rest)

pub not_continued : (t : Token) (others rest : List ℕ) → pointwise nat_eq (take (length others) rest) others ≡ false → None ≡ then_token t others rest
not_continued t others rest e = rw (no_prefix others rest e) refl

pub is_continued : (t : Token) (others rest behind : List ℕ) → pointwise nat_eq (take (length others) rest) others ≡ true → behind ≡ drop (length others) rest → Some (t, behind) ≡ then_token t others rest
is_continued t others rest behind e f = rw (whole_prefix others rest e, f) refl

-- one or the other
pub either_token : (a b : Option (What × Bor (List ℕ))) (x y : Option (List ℕ)) (t u : Token)
    → option_map front_of a ≡ option_map (λ after. (t, after)) x → option_map front_of b ≡ option_map (λ after. (u, after)) y → option_map front_of (option_or a b) ≡ or_else x t (or_else y u None)
either_token a b x y t u e f = grind arith
