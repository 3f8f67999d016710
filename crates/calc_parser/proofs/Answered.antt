-- What `check` answers, from what it found.
use Rattle.calc_parser.proofs.Shared.{ℕ, ◌≡◌, ◌≤◌, ◌↔◌, List, Option, Result, Ok, Err, MatchResult, IsOk, refl, ap, subst, arith, Token, Name, Tree, depth, ParseFault}
use Rattle.calc_parser.proofs.{Shared.{Syntax, Deep, IsLine, IsNoLine, IsLineOver, IsShallow, IsFaultOf}, Checks.one_line}

abbrev pub Found : List Token → Result (Option Name) ParseFault → Type 0
Found ts r = MatchResult r (IsShallow ts) (IsFaultOf ts)

same_depth : (ts : List Token) (x y : Option (List ℕ)) (t u : Tree) → IsLine ts x t → IsLine ts y u → depth t ≡ depth u
same_depth ts x y t u d e = ap depth ((one_line ts x y t u d e).trees)

pub not_deep : (ts : List Token) (store : Option Name) → IsShallow ts store → IsLineOver 64 ts → ⊥
not_deep ts store h o = grind (arith, same_depth)

pub accepted : (ts : List Token) (r : Result (Option Name) ParseFault) → Found ts r → (x : Option (List ℕ)) (t : Tree) → IsLine ts x t → depth t ≤ 64 → IsOk r
accepted ts r h x t d s = grind (arith, same_depth)

pub syntax_exact : (ts : List Token) (r : Result (Option Name) ParseFault) → Found ts r → (r ≡ Err Syntax) ↔ IsNoLine ts
syntax_exact ts r h = grind arith

pub deep_exact : (ts : List Token) (r : Result (Option Name) ParseFault) → Found ts r → (r ≡ Err Deep) ↔ IsLineOver 64 ts
deep_exact ts r h = (λ e. subst (Found ts) e h, back r h)
  where
    back : (r : Result (Option Name) ParseFault) → Found ts r → IsLineOver 64 ts → r ≡ Err Deep
    back (Ok store) h o = absurd (not_deep ts store h o)
    back (Err Syntax) h o = absurd (h o.store o.tree o.line)
    back (Err Deep) h o = refl
