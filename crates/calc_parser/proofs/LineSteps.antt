-- The steps of a line's tree, from the sum before its store.
use Rattle.calc_parser.proofs.Shared.{ℕ, ◌≡◌, List, [], ◌∷◌, ◌++◌, map, Option, Some, None, refl, sym, ap, ◌∙◌, subst, arith, append-nil, Token, name, arrow_mark, IsSum, one_sum_tree, Tree, Placed}
use Rattle.calc_parser.proofs.{Shared.{bare, placed, finish, run, start, postfix, node_of, tokens_in, IsLine, IsNoLine, IsSplit, Step, AreStepsOf}, Runs.{no_sum}}
use Rattle.calc_parser.proofs.Checks.{bare-placed, short_stores_nothing, sum_of_line}
use Rattle.calc_tokens.specs.declared.tokens.Token.{Token as Listed}

-- the tokens behind the sum of a line
abbrev store_of : Option (List ℕ) → List Token
store_of (Some x) = arrow_mark ∷ name x ∷ []
store_of None = []

whole_line : (ts us : List Token) (store : Option (List ℕ)) → IsSplit ts us store → us ++ store_of store ≡ ts
whole_line ts us (Some x) e = sym e
whole_line ts us None (e, n) = append-nil us ∙ sym e

pub steps_of_sum : (steps : List Step) (ts us : List Token) (store : Option (List ℕ)) (t : Tree) → IsSplit ts us store → IsSum us t → ((b : List Token) → map (node_of (us ++ b)) steps ≡ postfix t) → AreStepsOf steps ts
steps_of_sum steps ts us store t s d e = λ u line.
    subst (λ xs. map (node_of xs) steps ≡ postfix u) (whole_line ts us store s) (e (store_of store) ∙ ap postfix (one_sum_tree us t u d (sum_of_line ts us store line.0 u s line.1)))

-- any steps, where the tokens are no line
pub steps_of_none : (steps : List Step) (ts : List Token) → IsNoLine ts → AreStepsOf steps ts
steps_of_none steps ts n = λ u line. absurd (n line.0 u line.1)

nothing_read : run start [] ≡ None
unfolding run finish
nothing_read = refl

no_line_of_nothing : (store : Option (List ℕ)) (t : Tree) → IsLine [] store t → ⊥
no_line_of_nothing None t d = no_sum [] nothing_read t d
no_line_of_nothing (Some x) t (us, e, d) = short_stores_nothing [] (omega arith) us x e

pub steps_of_nothing : (steps : List Step) (ts : List Token) → ts ≡ [] → AreStepsOf steps ts
steps_of_nothing steps ts e = subst (AreStepsOf steps) (sym e) (steps_of_none steps [] no_line_of_nothing)

-- the same of the tokens without their places
pub same_tokens : (items : List Listed) (ps : List Placed) → map placed items ≡ ps → tokens_in items ≡ bare ps
same_tokens items ps e = sym (bare-placed items) ∙ ap bare e

pub same_split : (items : List Listed) (ps : List Placed) (us : List Token) (store : Option (List ℕ)) → map placed items ≡ ps → IsSplit (tokens_in items) us store → IsSplit (bare ps) us store
same_split items ps us store e s = subst (λ ts. IsSplit ts us store) (same_tokens items ps e) s
