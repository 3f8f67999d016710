-- What `Parser::read` answers, from what it found.
use Rattle.calc_parser.proofs.Shared.{ℕ, ◌≡◌, ◌≤◌, ◌↔◌, List, Option, Result, Ok, Err, MatchResult, IsOk, arith, refl, ap, subst, option_map, Token, Name, name_of, Tree, depth, Placed, bare, IsLine}
use Rattle.calc_parser.proofs.Shared.{IsShallow, IsFaultOf, ParseFault, Syntax, Deep, AreTokensOf, TokenFault, character_or_all, wide_or_all, character_or_wide, one_character, one_wide, one_list}
use Rattle.calc_parser.proofs.{Shared.{IsLineFaultOf, LineFault}, Answered.{accepted, not_deep}}
use Rattle.calc_tokens.specs.{Faults.IsFaultOf as IsTokenFaultOf}
use Rattle.calc_parser.specs.declared.parser.LineFault.TheVariants as line_fault

-- the tokens of a line, which is shallow, or its fault
abbrev pub Answers : List ℕ → Result (Option Name) LineFault → Type 0
Answers line r = MatchResult r (λ store. (ts : List Placed) × AreTokensOf ts line × IsShallow (bare ts) store) (IsLineFaultOf line)

-- a line with tokens has no fault of a token
no_token_fault : (line : List ℕ) (ts : List Placed) (fault : TokenFault) → AreTokensOf ts line → IsTokenFaultOf line fault → ⊥
no_token_fault line ts fault d f = grind (arith, character_or_all, wide_or_all)

one_token_fault : (line : List ℕ) (f g : TokenFault) → IsTokenFaultOf line f → IsTokenFaultOf line g → f ≡ g
one_token_fault line f g h k = grind (arith, one_character, character_or_wide, one_wide)

no_parse_fault : (ts : List Token) (store : Option Name) (fault : ParseFault) → IsShallow ts store → IsFaultOf ts fault → ⊥
no_parse_fault ts store Syntax h n = n (option_map name_of store) h.tree h.line
no_parse_fault ts store Deep h o = not_deep ts store h o

one_parse_fault : (ts : List Token) (f g : ParseFault) → IsFaultOf ts f → IsFaultOf ts g → f ≡ g
one_parse_fault ts f g h k = grind arith

pub faults_exact : (line : List ℕ) (r : Result (Option Name) LineFault) → Answers line r → (fault : LineFault) → (r ≡ Err fault) ↔ IsLineFaultOf line fault
faults_exact line r h fault = (λ e. subst (Answers line) e h, back r h fault)
  where
    back : (r : Result (Option Name) LineFault) → Answers line r → (fault : LineFault) → IsLineFaultOf line fault → r ≡ Err fault
    back (Ok store) (ts, d, s) (line_fault.Token f) k = absurd (no_token_fault line ts f d k)
    back (Ok store) (ts, d, s) (line_fault.Parse f) (us, e, k) = absurd (no_parse_fault (bare ts) store f s (subst (λ xs. IsFaultOf (bare xs) f) (one_list line us ts e d) k))
    back (Err (line_fault.Token f)) h (line_fault.Token g) k = ap (λ x. Err (line_fault.Token x)) (one_token_fault line f g h k)
    back (Err (line_fault.Token f)) h (line_fault.Parse g) (us, e, k) = absurd (no_token_fault line us f e h)
    back (Err (line_fault.Parse f)) (ts, d, h) (line_fault.Token g) k = absurd (no_token_fault line ts g d k)
    back (Err (line_fault.Parse f)) (ts, d, h) (line_fault.Parse g) (us, e, k) =
        ap (λ x. Err (line_fault.Parse x)) (one_parse_fault (bare ts) f g h (subst (λ xs. IsFaultOf (bare xs) g) (one_list line us ts e d) k))

pub line_accepted : (line : List ℕ) (r : Result (Option Name) LineFault) → Answers line r → (ts : List Placed) (x : Option (List ℕ)) (t : Tree) → AreTokensOf ts line → IsLine (bare ts) x t → depth t ≤ 64 → IsOk r
line_accepted line (Ok store) h ts x t d l s = refl
line_accepted line (Err (line_fault.Token f)) h ts x t d l s = absurd (no_token_fault line ts f d h)
line_accepted line (Err (line_fault.Parse f)) (us, e, h) ts x t d l s = accepted (bare us) (Err f) h x t (subst (λ xs. IsLine (bare xs) x t) (one_list line ts us d e) l) s
