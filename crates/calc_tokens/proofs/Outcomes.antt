-- What is answered, from what was found.
use Rattle.calc_tokens.proofs.Shared.{ℕ, ◌≡◌, List, Ok, Err, arith, ap, subst, Placed, AreTokensOf, IsFirstCharacter, IsFirstWide, Result, MatchResult, IsOkAnd, ◌↔◌, TokenFault, Character, Number}
use Rattle.calc_tokens.proofs.{Shared.{IsFaultOf}, OneScan.{character_or_all, wide_or_all, character_or_wide, one_character, one_wide, one_list}}

-- the tokens of a line behind Ok, or its fault
abbrev pub Found : {T : Type 0} → (T → List Placed) → List ℕ → Result T TokenFault → Type 0
Found tokens line r = MatchResult r (λ x. AreTokensOf (tokens x) line) (λ fault. IsFaultOf line fault)

pub character_exact : {T : Type 0} (tokens : T → List Placed) (line : List ℕ) (r : Result T TokenFault) → Found tokens line r → (at : ℕ) → (r ≡ Err (Character at)) ↔ IsFirstCharacter line at
character_exact {T} tokens line r h at = (λ e. subst (Found tokens line) e h, back r h)
  where
    back : (r : Result T TokenFault) → Found tokens line r → IsFirstCharacter line at → r ≡ Err (Character at)
    back (Ok x) h f = absurd (character_or_all line at (tokens x) f h)
    back (Err (Character p)) h f = ap (λ n. Err (Character n)) (one_character line p at h f)
    back (Err (Number p)) h f = absurd (character_or_wide line at p f h)

pub number_exact : {T : Type 0} (tokens : T → List Placed) (line : List ℕ) (r : Result T TokenFault) → Found tokens line r → (at : ℕ) → (r ≡ Err (Number at)) ↔ IsFirstWide line at
number_exact {T} tokens line r h at = (λ e. subst (Found tokens line) e h, back r h)
  where
    back : (r : Result T TokenFault) → Found tokens line r → IsFirstWide line at → r ≡ Err (Number at)
    back (Ok x) h f = absurd (wide_or_all line at (tokens x) f h)
    back (Err (Character p)) h f = absurd (character_or_wide line p at h f)
    back (Err (Number p)) h f = ap (λ n. Err (Number n)) (one_wide line p at h f)

pub accepted : {T : Type 0} (tokens : T → List Placed) (line : List ℕ) (r : Result T TokenFault) → Found tokens line r → (ts : List Placed) → AreTokensOf ts line → IsOkAnd r (λ x. tokens x ≡ ts)
accepted tokens line r h ts d = grind (arith, one_list, character_or_all, wide_or_all)

-- a fault that is told exactly is the fault of the line
pub fault_found : {T : Type 0} (line : List ℕ) (r : Result T TokenFault) (fault : TokenFault) → r ≡ Err fault → ((at : ℕ) → (r ≡ Err (Character at)) ↔ IsFirstCharacter line at) → ((at : ℕ) → (r ≡ Err (Number at)) ↔ IsFirstWide line at) → IsFaultOf line fault
fault_found line r fault e h k = grind arith
