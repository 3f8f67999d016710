-- The products of a product's derivative, factor by factor.
use Rattle.dual_diff.proofs.Shared.{◌≡◌, ℕ, suc, ◌+◌, ◌<◌, ◌≤◌, List, true, false, refl, sym, ap, ◌∙◌, subst, arith, if◌then◌else◌, Tree, root_kind, Trees, none, more, append, count, size, sizes}
use Rattle.dual_diff.proofs.Shared.{children_of, nth, derivative, derivatives, products, sum_of_products, with_derivative, behind, add, one, first, occurs, occurs_in, append-none, append_assoc}
use Rattle.dual_diff.proofs.{Shared.{count_append}, Forms.{behind_all, behind_at, count_behind, count_first, first_all, first_behind, first_next, sizes_append}, Rules.{product_held, product_sum}}
use Rattle.calc_terms.specs.declared.kind.Kind.TheVariants as kind

-- ---- derivatives of children

derivatives_append : (x : List ℕ) (ts us : Trees) → derivatives x (append ts us) ≡ append (derivatives x ts) (derivatives x us)
derivatives_append x none us = refl
derivatives_append x (more t ts) us = ap (more (derivative x t)) (derivatives_append x ts us)

pub derivatives_next : (x : List ℕ) (n : ℕ) (ts : Trees) → n < count ts → derivatives x (first (suc n) ts) ≡ append (derivatives x (first n ts)) (more (derivative x (nth n ts)) none)
derivatives_next x n ts h = ap (derivatives x) (first_next n ts h) ∙ derivatives_append x (first n ts) (more (nth n ts) none)

pub derivatives_more : (x : List ℕ) (n : ℕ) (ts : Trees) → n < count ts → append (derivatives x (first n ts)) (more (derivative x (nth n ts)) none) ≡ derivatives x (first (n + 1) ts)
derivatives_more x n ts h = sym (derivatives_next x n ts h) ∙ ap (λ (k : ℕ). derivatives x (first k ts)) (let one : suc n ≡ n + 1 = omega arith in one)

pub derivatives_all : (x : List ℕ) (n : ℕ) (ts : Trees) → count ts ≤ n → derivatives x (first n ts) ≡ derivatives x ts
derivatives_all x n ts h = ap (derivatives x) (first_all n ts h)

pub count_derivatives : (x : List ℕ) (ts : Trees) → count (derivatives x ts) ≡ count ts
count_derivatives x none = refl
count_derivatives x (more t ts) = ap suc (count_derivatives x ts)

pub derivatives_room : (x : List ℕ) (n : ℕ) (ts : Trees) → n < count ts → sizes (derivatives x (first n ts)) + size (derivative x (nth n ts)) ≤ sizes (derivatives x ts)
derivatives_room x n ts h =
    let whole : derivatives x ts ≡ append (derivatives x (first (suc n) ts)) (derivatives x (behind (suc n) ts)) = ap (derivatives x) (sym (first_behind (suc n) ts))
    ∙ derivatives_append x (first (suc n) ts) (behind (suc n) ts) in
    omega (arith, ap sizes whole, sizes_append (derivatives x (first (suc n) ts)) (derivatives x (behind (suc n) ts)), ap sizes (derivatives_next x n ts h), sizes_append (derivatives x (first n ts)) (more (derivative x (nth n ts)) none))

-- ---- products

-- those of the first factors, before those of the others
pub record AreMade (x : List ℕ) (n : ℕ) (made ts : Trees) : Type 0 where
  pub all : products x none ts ≡ append made (products x (first n ts) (behind n ts))

pub made_none : (x : List ℕ) (ts : Trees) → AreMade x 0 none ts
made_none x ts = record { all = refl }

step_by : (x : List ℕ) (n : ℕ) (ts : Trees) → n < count ts
    → products x (first n ts) (behind n ts) ≡
    (if occurs x (nth n ts) then more (with_derivative x n ts) (products x (first (suc n) ts) (behind (suc n) ts)) else products x (first (suc n) ts) (behind (suc n) ts))
step_by x n ts h = grind (arith, behind_at, first_next)

pub made_more : (x : List ℕ) (n : ℕ) (made ts : Trees) → n < count ts → occurs x (nth n ts) ≡ true → AreMade x n made ts → AreMade x (suc n) (append made (more (with_derivative x n ts) none)) ts
made_more x n made ts h o m = grind (arith, step_by, append_assoc)

pub made_same : (x : List ℕ) (n : ℕ) (made ts : Trees) → n < count ts → occurs x (nth n ts) ≡ false → AreMade x n made ts → AreMade x (suc n) made ts
made_same x n made ts h o m = grind (arith, step_by)

pub made_all : (x : List ℕ) (n : ℕ) (made ts : Trees) → count ts ≤ n → AreMade x n made ts → products x none ts ≡ made
made_all x n made ts h m = m.all ∙ ap (λ (us : Trees). append made (products x (first n ts) us)) (behind_all n ts h) ∙ append-none made

pub made_rule : (x : List ℕ) (n : ℕ) (made : Trees) (t : Tree) → root_kind t ≡ kind.Mult → count (children_of t) ≤ n → AreMade x n made (children_of t) → derivative x t ≡ sum_of_products made
made_rule x n made t k h m = product_sum x t k ∙ ap sum_of_products (made_all x n made (children_of t) h m)

-- the factors with the derivative of the one at a place in its place
abbrev pub with_factors : List ℕ → ℕ → Trees → Trees
with_factors x n ts = append (first n ts) (more (derivative x (nth n ts)) (behind (n + 1) ts))

pub count_with : (x : List ℕ) (n : ℕ) (ts : Trees) → n < count ts → count (with_factors x n ts) ≡ count ts
count_with x n ts h = omega (arith, count_append (first n ts) (more (derivative x (nth n ts)) (behind (n + 1) ts)), count_first n ts (omega arith), count_behind (n + 1) ts (omega arith))

-- ---- their sum

pub more_than_one : (us : Trees) → 1 < count us → add us ≡ sum_of_products us
more_than_one us h = grind arith

pub one_product : (us : Trees) → count us ≡ 1 → us ≡ one (sum_of_products us)
one_product us h = grind arith

-- some product is there where some factor holds the name
pub some_product : (x : List ℕ) (earlier ts : Trees) → occurs_in x ts ≡ true → 1 ≤ count (products x earlier ts)
some_product x earlier none o = absurd cc
some_product x earlier (more t ts) o = grind (arith, some_product x (append earlier (more t none)) ts)

pub made_some : (x : List ℕ) (n : ℕ) (made : Trees) (t : Tree) → root_kind t ≡ kind.Mult → occurs x t ≡ true → count (children_of t) ≤ n → AreMade x n made (children_of t) → 1 ≤ count made
made_some x n made t k o h m = subst (λ us. 1 ≤ count us) (made_all x n made (children_of t) h m) (some_product x none (children_of t) (product_held x t k o))

-- ---- room

pub sum_room : (us : Trees) → sizes us ≤ size (sum_of_products us)
sum_room us = grind arith

pub products_room : (x : List ℕ) (n : ℕ) (made ts : Trees) → n < count ts → occurs x (nth n ts) ≡ true → AreMade x n made ts → sizes made + size (with_derivative x n ts) ≤ sizes (products x none ts)
products_room x n made ts h o m =
    let k = made_more x n made ts h o m in
    let rest = products x (first (suc n) ts) (behind (suc n) ts) in
    omega (arith, ap sizes k.all, sizes_append (append made (more (with_derivative x n ts) none)) rest, sizes_append made (more (with_derivative x n ts) none))
