-- A run over a list of tokens, by place.
use Rattle.calc_parser.proofs.Shared.{ℕ, suc, ◌+◌, ◌≡◌, ◌≤◌, ◌<◌, List, [], ◌∷◌, ◌++◌, length, drop, Option, Some, None, Result, Ok, Err, MatchResult, OnOk, arith, refl, sym, ap, ◌∙◌, get_or}
use Rattle.calc_parser.proofs.Shared.{drop-cons, add-one, get_or_append_left, get_or-map, drop_all, Token, undef_mark, Tree, IsSum, token_of, Node, postfix, State, step, then_run, finish, run, start}
use Rattle.calc_parser.proofs.{Shared.{token_in, tokens_in, OnErr, NoSum}, ReadsSums.{sum_is_read}, OnlySums.{only_sums}}
use Rattle.calc_tokens.specs.declared.tokens.Token.{Token as Placed}

pub count_tokens : (tokens : List Placed) → length (tokens_in tokens) ≡ length tokens
count_tokens [] = refl
count_tokens (t ∷ tokens) = ap suc (count_tokens tokens)

-- one token further
module _ (tokens : List Placed) (at : ℕ) (t : Placed) (inside : at < length tokens) (is : t ≡ get_or tokens at t) where
  token_at : token_in (tokens_in tokens) at ≡ token_of t.what
  token_at = get_or-map (λ t. token_of t.what) tokens at t undef_mark inside ∙ ap (λ t. token_of t.what) (sym is)

  within : at < length (tokens_in tokens)
  within = omega (arith, count_tokens tokens)

  -- it is the same, whatever stands behind
  pub here : (behind : List Token) → token_in (tokens_in tokens ++ behind) at ≡ token_of t.what
  here behind = get_or_append_left (tokens_in tokens) behind undef_mark at within ∙ token_at

  parted : (st : State) → run st (drop at (tokens_in tokens)) ≡ then_run (step st (token_of t.what)) (λ st'. run st' (drop (at + 1) (tokens_in tokens)))
  unfolding run
  parted st = rw (add-one, drop-cons (tokens_in tokens) at undef_mark within) (ap (λ m. then_run (step st m) (λ st'. run st' (drop (suc at) (tokens_in tokens)))) token_at)

  module _ (st : State) (r : Option (List Node)) (from : run st (drop at (tokens_in tokens)) ≡ r) where
    pub run_on : (st' : State) → step st (token_of t.what) ≡ Some st' → run st' (drop (at + 1) (tokens_in tokens)) ≡ r
    run_on st' e = sym (ap (λ n. then_run n (λ st'. run st' (drop (at + 1) (tokens_in tokens)))) e) ∙ sym (parted st) ∙ from

    pub run_stops : step st (token_of t.what) ≡ None → r ≡ None
    run_stops e = sym from ∙ parted st ∙ ap (λ n. then_run n (λ st'. run st' (drop (at + 1) (tokens_in tokens)))) e

-- all the tokens
pub run_all : (ts : List Token) (st : State) (at : ℕ) (r : Option (List Node)) → length ts ≤ at → run st (drop at ts) ≡ r → finish st ≡ r
unfolding run
run_all ts st at r past e = ap (run st) (sym (drop_all at ts past)) ∙ e

-- where no nodes are found the tokens are no sum
pub no_sum : (ts : List Token) → run start ts ≡ None → (t : Tree) → IsSum ts t → ⊥
no_sum ts e t d = let f : run start ts ≡ Some (postfix t) = sum_is_read ts t d in cc

pub on_err : {T E : Type 0} (P : Type 0) (r : Result T E) → P → OnErr r P
on_err P r p = grind arith

abbrev pub Finishes : {T : Type 0} → State → List Node → Result T NoSum → Type 0
Finishes st nodes r = MatchResult r (λ x. finish st ≡ Some nodes) (λ fault. finish st ≡ None)

-- the nodes are those of the sum's tree, whatever stands behind
pub finished_sum : {T : Type 0} (ts : List Token) (st : List Token → State) (nodes : List Token → List Node) (r : Result T NoSum) → ((b : List Token) → finish (st b) ≡ run start ts) → ((b : List Token) → Finishes (st b) (nodes b) r)
    → OnOk r ((t : Tree) × IsSum ts t × ((b : List Token) → nodes b ≡ postfix t))
finished_sum ts st nodes (Err fault) e h = tt
finished_sum ts st nodes (Ok x) e h = let (t, d, is) = only_sums ts (nodes []) (sym (e []) ∙ h []) in (t, d, all t d)
  where
    all : (t : Tree) → IsSum ts t → (b : List Token) → nodes b ≡ postfix t
    all t d b = let whole : run start ts ≡ Some (postfix t) = sum_is_read ts t d in let found : finish (st b) ≡ Some (nodes b) = h b in cc (e b)

pub finished_none : {T : Type 0} (ts : List Token) (st : State) (nodes : List Node) (r : Result T NoSum) → finish st ≡ run start ts → Finishes st nodes r → OnErr r ((t : Tree) → IsSum ts t → ⊥)
finished_none ts st nodes (Ok x) e h = tt
finished_none ts st nodes (Err fault) e h = no_sum ts (sym e ∙ h)
