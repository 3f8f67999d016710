-- Behind a token fewer bytes are left.
use Rattle.calc_tokens.proofs.Shared.{ℕ, ◌+◌, ◌≡◌, ◌≤◌, ◌<◌, List, [], ◌∷◌, length, Bool, true, false, ◌&&◌, ◌==◌, nat_le, nat_lt, if◌then◌else◌, Option, Some, None, refl, subst, arith, is_digit}
use Rattle.calc_tokens.proofs.Shared.{is_name_byte, Token, leading_run, decimals, token_of_word, if_so, rest_after, or_else, token_at, ltb-true, is_letter, Mark, marks, first_mark}
use Rattle.calc_tokens.proofs.Runs.{run_back_lt, decimals_le}
use Rattle.calc_terms.proofs.Names.{both as first_holds}
use Rattle.calc_language.specs.Tokens.{literal_at, word_at}

-- what stands behind, where there is a token
abbrev pub Leaves : List ℕ → Option (Token × List ℕ) → Type 0
Leaves bytes None = Unit {0}
Leaves bytes (Some p) = length (p.1) < length bytes

literal_leaves : (b : ℕ) (bytes : List ℕ) → is_digit b ≡ true → length ((literal_at (b ∷ bytes)).1) < length (b ∷ bytes)
unfolding literal_at
literal_leaves b bytes h =
    let run : length ((leading_run is_digit (b ∷ bytes)).1) < length (b ∷ bytes) = run_back_lt is_digit b bytes h in
    let behind : length ((decimals ((leading_run is_digit (b ∷ bytes)).1)).1) ≤ length ((leading_run is_digit (b ∷ bytes)).1) = decimals_le ((leading_run is_digit (b ∷ bytes)).1) in
    omega arith

word_leaves : (b : ℕ) (bytes : List ℕ) → is_letter b ≡ true → Leaves (b ∷ bytes) (word_at (b ∷ bytes))
unfolding word_at
word_leaves b bytes h = by (nat_le (length ((leading_run is_name_byte (b ∷ bytes)).0)) 7) (run_back_lt is_name_byte b bytes (rw h refl))
  where
    run : List ℕ × List ℕ
    run = leading_run is_name_byte (b ∷ bytes)

    by : (x : Bool) → length (run.1) < length (b ∷ bytes) → Leaves (b ∷ bytes) (if x then Some (token_of_word (run.0), run.1) else None)
    by true k = k
    by false k = tt

abbrev pub LeavesRest : List ℕ → List ℕ → Option (List ℕ) → Type 0
LeavesRest prefix bytes None = Unit {0}
LeavesRest prefix bytes (Some rest) = length rest + length prefix ≡ length bytes

prefix_leaves : (prefix bytes : List ℕ) → LeavesRest prefix bytes (rest_after prefix bytes)
prefix_leaves [] bytes = omega arith
prefix_leaves (p ∷ prefix) [] = tt
prefix_leaves (p ∷ prefix) (b ∷ bytes) = by (p == b) (rest_after prefix bytes) (prefix_leaves prefix bytes)
  where
    by : (x : Bool) (r : Option (List ℕ)) → LeavesRest prefix bytes r → LeavesRest (p ∷ prefix) (b ∷ bytes) (if_so x r)
    by false r h = tt
    by true None h = tt
    by true (Some rest) h = omega arith

abbrev have_bytes : List Mark → Bool
have_bytes [] = true
have_bytes (m ∷ ms) = nat_lt 0 (length m.bytes) && have_bytes ms

mark_leaves : (ms : List Mark) (bytes : List ℕ) → have_bytes ms ≡ true → Leaves bytes (first_mark ms bytes)
mark_leaves [] bytes h = tt
mark_leaves (m ∷ ms) bytes h =
    let parts = first_holds (nat_lt 0 (length m.bytes)) (have_bytes ms) h in
    by (rest_after m.bytes bytes) (prefix_leaves m.bytes bytes) (ltb-true 0 (length m.bytes) (parts.0)) (mark_leaves ms bytes (parts.1))
  where
    by : (r : Option (List ℕ)) → LeavesRest m.bytes bytes r → 0 < length m.bytes → Leaves bytes (first_mark ms bytes) → Leaves bytes (or_else r m.token (first_mark ms bytes))
    by (Some rest) k some h = omega arith
    by None k some h = h

pub token_leaves : (bytes : List ℕ) → Leaves bytes (token_at bytes)
token_leaves [] = tt
token_leaves (b ∷ bytes) = by (is_digit b) (is_letter b) refl refl
  where
    by : (x y : Bool) → is_digit b ≡ x → is_letter b ≡ y
        → Leaves (b ∷ bytes) (if x then Some (literal_at (b ∷ bytes)) else (if y then word_at (b ∷ bytes) else first_mark marks (b ∷ bytes)))
    by true y e f = literal_leaves b bytes e
    by false true e f = word_leaves b bytes f
    by false false e f = mark_leaves marks (b ∷ bytes) refl

-- behind a token fewer bytes are left
pub token_shorter : (bytes : List ℕ) (t : Token) (behind : List ℕ) → token_at bytes ≡ Some (t, behind) → length behind < length bytes
token_shorter bytes t behind e = subst (Leaves bytes) e (token_leaves bytes)
