-- What only a step by itself joins: the first two factors with identical bases, by their places, counted from 0.
use Rattle.std.specs.Prelude.{ℕ, ◌≡◌, ◌<◌, true, false}
use Rattle.calc_terms.specs.Trees.{Tree, mult, Trees, count}
use Rattle.number_forms.specs.Readers.{is_zero}
use Rattle.product_reduce.specs.{Factors.{coefficient_before}, Joining.{have_partners, is_partner, joined}}
use Rattle.tree_handles.specs.Expressions.{nth}

-- none of the factors behind one and before another place has its base
abbrev pub HasNoPartner : ℕ → ℕ → Trees → Type 0
HasNoPartner i j ts = (k : ℕ) → i < k → k < j → is_partner (nth i ts) (nth k ts) ≡ false

-- the first factor behind that has the same base
pub record IsNearest (i j : ℕ) (ts : Trees) : Type 0 where
  pub order : i < j
  pub within : j < count ts
  pub partner : is_partner (nth i ts) (nth j ts) ≡ true
  pub nearest : HasNoPartner i j ts

-- and none of the factors before has a partner
pub record IsFirstPair (i j : ℕ) (ts : Trees) : Type 0 where
  pub pair : IsNearest i j ts
  pub first : (k : ℕ) → k < i → HasNoPartner k (count ts) ts

-- what is answered where they were joined, behind a coefficient
pub record IsRejoined (c : Tree) (ts : Trees) (t : Tree) : Type 0 where
  pub not_zero : is_zero c ≡ false
  pub partners : have_partners ts ≡ true
  pub is : t ≡ mult (coefficient_before c (joined ts))
