-- The grammar of a line over its tokens, a rule of inference for each of its alternatives.
use Rattle.std.specs.Prelude.{ℕ, ◌≡◌, List, [], ◌∷◌, ◌++◌, Bool, true, false}
use Rattle.calc_terms.specs.{Fractions.{Fraction}, Trees.{Tree, num, symbol, undef, add, mult, power, root, neg, sub, div, Trees, none, more, append}}
use Rattle.calc_language.specs.Tokens.{Token, literal, name, undef_mark, root_mark, plus_mark, minus_mark, times_mark, slash_mark, caret_mark, left_mark, right_mark, arrow_mark}

-- what a sum or a product has made so far: one tree, or the children of an Add or Mult of its own
pub data SoFar : Type 0 where
  single : Tree → SoFar
  summed : Trees → SoFar
  multiplied : Trees → SoFar

abbrev pub as_tree : SoFar → Tree
as_tree (single t) = t
as_tree (summed ts) = add ts
as_tree (multiplied ts) = mult ts

-- `+` adds a child to the Add that this same sum made, and else makes one
abbrev pub plus_term : SoFar → Tree → SoFar
plus_term (summed ts) u = summed (append ts (more u none))
plus_term s u = summed (more (as_tree s) (more u none))

abbrev pub minus_term : SoFar → Tree → SoFar
minus_term s u = single (sub (as_tree s) u)

-- `×` adds a child to the Mult that this same product made, and else makes one
abbrev pub times_factor : SoFar → Tree → SoFar
times_factor (multiplied ts) u = multiplied (append ts (more u none))
times_factor s u = multiplied (more (as_tree s) (more u none))

abbrev pub over_factor : SoFar → Tree → SoFar
over_factor s u = single (div (as_tree s) u)

-- one power stands for itself, two or more are a Mult of their own
abbrev pub joined_tree : Trees → Tree
joined_tree (more t none) = t
joined_tree ts = mult ts

-- an implicit product goes on with a power that begins like this
abbrev pub joins : List Token → Bool
joins (name x ∷ ts) = true
joins (undef_mark ∷ ts) = true
joins (left_mark ∷ ts) = true
joins (root_mark ∷ ts) = true
joins _ = false

mutual
  pub data Sum : List Token → SoFar → Type 0 where
    first_term : {a : List Token} {t : Tree} → Signed a t → Sum a (single t)
    plus_more : {a b : List Token} {s : SoFar} {u : Tree} → Sum a s → Signed b u → Sum (a ++ plus_mark ∷ b) (plus_term s u)
    minus_more : {a b : List Token} {s : SoFar} {u : Tree} → Sum a s → Signed b u → Sum (a ++ minus_mark ∷ b) (minus_term s u)

  pub data Signed : List Token → Tree → Type 0 where
    minus_signed : {a : List Token} {t : Tree} → Signed a t → Signed (minus_mark ∷ a) (neg t)
    plain_signed : {a : List Token} {s : SoFar} → Product a s → Signed a (as_tree s)

  pub data Product : List Token → SoFar → Type 0 where
    first_factor : {a : List Token} {ts : Trees} → Joined a ts → Product a (single (joined_tree ts))
    times_more : {a b : List Token} {s : SoFar} {u : Tree} → Product a s → Right b u → Product (a ++ times_mark ∷ b) (times_factor s u)
    over_more : {a b : List Token} {s : SoFar} {u : Tree} → Product a s → Right b u → Product (a ++ slash_mark ∷ b) (over_factor s u)

  pub data Right : List Token → Tree → Type 0 where
    minus_right : {a : List Token} {t : Tree} → Right a t → Right (minus_mark ∷ a) (neg t)
    plain_right : {a : List Token} {ts : Trees} → Joined a ts → Right a (joined_tree ts)

  pub data Joined : List Token → Trees → Type 0 where
    one_power : {a : List Token} {t : Tree} → Power a t → Joined a (more t none)
    another_power : {a b : List Token} {ts : Trees} {u : Tree} → Joined a ts → Power b u → joins b ≡ true → Joined (a ++ b) (append ts (more u none))

  pub data Power : List Token → Tree → Type 0 where
    plain_power : {a : List Token} {t : Tree} → Primary a t → Power a t
    raised_power : {a b : List Token} {t e : Tree} → Primary a t → Exponent b e → Power (a ++ caret_mark ∷ b) (power t e)

  pub data Exponent : List Token → Tree → Type 0 where
    minus_exponent : {a : List Token} {t : Tree} → Exponent a t → Exponent (minus_mark ∷ a) (neg t)
    plain_exponent : {a : List Token} {t : Tree} → Power a t → Exponent a t

  pub data Primary : List Token → Tree → Type 0 where
    a_literal : {q : Fraction} → Primary (literal q ∷ []) (num q)
    a_name : {x : List ℕ} → Primary (name x ∷ []) (symbol x)
    an_undef : Primary (undef_mark ∷ []) undef
    parenthesized : {a : List Token} {s : SoFar} → Sum a s → Primary (left_mark ∷ (a ++ right_mark ∷ [])) (as_tree s)
    a_root : {a : List Token} {s : SoFar} → Sum a s → Primary (root_mark ∷ left_mark ∷ (a ++ right_mark ∷ [])) (root (as_tree s))

-- the tokens are a sum with this tree
abbrev pub IsSum : List Token → Tree → Type 0
IsSum ts t = (s : SoFar) × Sum ts s × (as_tree s ≡ t)

-- the tokens are a sum with this tree, an arrow and this name
abbrev pub IsStore : List Token → Tree → List ℕ → Type 0
IsStore ts t x = (us : List Token) × (ts ≡ us ++ arrow_mark ∷ name x ∷ []) × IsSum us t
