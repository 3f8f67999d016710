-- Lines, and what stands before an arrow and a name at their end.
use Rattle.calc_parser.proofs.Shared.{ℕ, ◌+◌, ◌≡◌, ◌≤◌, List, [], ◌∷◌, ◌++◌, length, map, Option, Some, None, refl, sym, ap, ◌∙◌, subst, arith, length-append}
use Rattle.calc_parser.proofs.Shared.{append_assoc, map-append, Token, name, arrow_mark, Tree, IsSum, one_sum_tree, token_of, placed, bare, postfix, State, step, then_run, run, start, IsLine}
use Rattle.calc_parser.proofs.{Shared.{stored, IsSplit, tokens_in}, ReadsSums.sum_is_read}
use Rattle.calc_tokens.specs.declared.tokens.Token.{Token as Placed}

-- two lists that end in two elements
pub record SameEnds (us vs : List Token) (a b c d : Token) : Type 0 where
  pub fronts : us ≡ vs
  pub firsts : a ≡ c
  pub seconds : b ≡ d

tail_is : (x y : Token) (us vs : List Token) → x ∷ us ≡ y ∷ vs → us ≡ vs
tail_is x y us vs e = cc

head_is : (x y : Token) (us vs : List Token) → x ∷ us ≡ y ∷ vs → x ≡ y
head_is x y us vs e = cc

too_long : (a : Token) (vs : List Token) (c d : Token) → a ∷ [] ≡ vs ++ c ∷ d ∷ [] → ⊥
too_long a vs c d e = let long : length (vs ++ c ∷ d ∷ []) ≡ length vs + 2 = length-append vs (c ∷ d ∷ []) in let same : 1 ≡ length (vs ++ c ∷ d ∷ []) = ap length e in omega arith

pub same_ends : (us vs : List Token) (a b c d : Token) → us ++ a ∷ b ∷ [] ≡ vs ++ c ∷ d ∷ [] → SameEnds us vs a b c d
same_ends [] [] a b c d e = record { fronts = refl; firsts = head_is a c (b ∷ []) (d ∷ []) e; seconds = head_is b d [] [] (tail_is a c (b ∷ []) (d ∷ []) e) }
same_ends [] (v ∷ vs) a b c d e = absurd (too_long b vs c d (tail_is a v (b ∷ []) (vs ++ c ∷ d ∷ []) e))
same_ends (u ∷ us) [] a b c d e = absurd (too_long d us a b (sym (tail_is u c (us ++ a ∷ b ∷ []) (d ∷ []) e)))
same_ends (u ∷ us) (v ∷ vs) a b c d e = grind (arith, head_is, tail_is, same_ends us vs a b c d (tail_is u v (us ++ a ∷ b ∷ []) (vs ++ c ∷ d ∷ []) e))

-- no arrow stands in a sum
arrow_step : (st : State) → step st arrow_mark ≡ None
unfolding step
arrow_step st = grind arith

arrow_run : (us : List Token) (st : State) (c : List Token) → run st (us ++ arrow_mark ∷ c) ≡ None
unfolding run
arrow_run [] st c = ap (λ r. then_run r (λ st'. run st' c)) (arrow_step st)
arrow_run (m ∷ us) st c = by (step st m) (λ st'. arrow_run us st' c)
  where
    by : (r : Option State) → ((st' : State) → run st' (us ++ arrow_mark ∷ c) ≡ None) → then_run r (λ st'. run st' (us ++ arrow_mark ∷ c)) ≡ None
    by None h = refl
    by (Some st') h = h st'

pub no_arrow : (us c : List Token) (t : Tree) → IsSum (us ++ arrow_mark ∷ c) t → ⊥
no_arrow us c t d =
    let read : run start (us ++ arrow_mark ∷ c) ≡ Some (postfix t) = sum_is_read (us ++ arrow_mark ∷ c) t d in
    let none : run start (us ++ arrow_mark ∷ c) ≡ None = arrow_run us start c in
    cc

-- ---- lines

pub line_of_sum : (ts us : List Token) (store : Option (List ℕ)) (t : Tree) → IsSplit ts us store → IsSum us t → IsLine ts store t
line_of_sum ts us store t e d = grind arith

pub sum_of_line : (ts us : List Token) (store y : Option (List ℕ)) (t : Tree) → IsSplit ts us store → IsLine ts y t → IsSum us t
sum_of_line ts us (Some x) None t e d = absurd (no_arrow us (name x ∷ []) t (subst (λ x. IsSum x t) e d))
sum_of_line ts us (Some x) (Some y) t e (vs, f, d) = grind (arith, same_ends)
sum_of_line ts us None None t (e, n) d = subst (λ x. IsSum x t) e d
sum_of_line ts us None (Some y) t (e, n) (vs, f, d) = absurd (n vs y f)

name_is : (x y : List ℕ) → name x ≡ name y → x ≡ y
name_is x y e = cc

pub record SameLine (x y : Option (List ℕ)) (t u : Tree) : Type 0 where
  pub stores : x ≡ y
  pub trees : t ≡ u

pub one_line : (ts : List Token) (x y : Option (List ℕ)) (t u : Tree) → IsLine ts x t → IsLine ts y u → SameLine x y t u
one_line ts None None t u d e = record { stores = refl; trees = one_sum_tree ts t u d e }
one_line ts None (Some y) t u d (vs, f, e) = absurd (no_arrow vs (name y ∷ []) t (subst (λ x. IsSum x t) f d))
one_line ts (Some x) None t u (us, f, d) e = absurd (no_arrow us (name x ∷ []) u (subst (λ x. IsSum x u) f e))
one_line ts (Some x) (Some y) t u (us, f, d) (vs, g, e) =
    let same : SameEnds us vs arrow_mark (name x) arrow_mark (name y) = same_ends us vs arrow_mark (name x) arrow_mark (name y) (sym f ∙ g) in
    record { stores = ap Some (name_is x y same.seconds); trees = one_sum_tree us t u d (subst (λ x. IsSum x u) (sym same.fronts) e) }

-- ---- where no name stands behind an arrow at the end

abbrev pub StoresNothing : List Token → Type 0
StoresNothing ts = (vs : List Token) (x : List ℕ) → ts ≡ vs ++ arrow_mark ∷ name x ∷ [] → ⊥

pub short_stores_nothing : (ts : List Token) → length ts ≤ 1 → StoresNothing ts
short_stores_nothing ts h = grind (arith, length-append)

pub unstored : (ts us : List Token) (a b : Token) → ts ≡ us ++ a ∷ b ∷ [] → None ≡ stored a b → StoresNothing ts
unstored ts us a b e n = grind (arith, same_ends)

-- ---- lists of tokens with and without places

pub bare-placed : (tokens : List Placed) → bare (map placed tokens) ≡ tokens_in tokens
bare-placed [] = refl
bare-placed (t ∷ tokens) = ap (λ ts. token_of t.what ∷ ts) (bare-placed tokens)

pub tokens_before_last : (tokens front : List Placed) (last : Placed) → tokens ≡ front ++ last ∷ [] → tokens_in tokens ≡ tokens_in front ++ token_of last.what ∷ []
tokens_before_last tokens front last e = ap tokens_in e ∙ map-append (λ t. token_of t.what) front (last ∷ [])

pub tokens_before_two : (tokens front sum : List Placed) (arrow last : Placed) → tokens ≡ front ++ last ∷ [] → front ≡ sum ++ arrow ∷ [] → tokens_in tokens ≡ tokens_in sum ++ token_of arrow.what ∷ token_of last.what ∷ []
tokens_before_two tokens front sum arrow last e f =
    tokens_before_last tokens front last e ∙ ap (λ x. x ++ token_of last.what ∷ []) (tokens_before_last front sum arrow f)
    ∙ append_assoc (tokens_in sum) (token_of arrow.what ∷ []) (token_of last.what ∷ [])
