-- What the answer of a node is: opposites, and products from the last factor on.
use Rattle.expand_forms.proofs.Shared.{◌≡◌, ◌<◌, ◌≤◌, ℕ, negsuc, zero, suc, ◌+◌, true, refl, sym, ap, ◌∙◌, arith, Rat, ratio_of, value_of, Ratio, whole, lowest, minus_one_fraction, one_fraction, Tree}
use Rattle.expand_forms.proofs.Shared.{Trees, num, mult, none, more, count, is_mult, expanded, constant, product, polynomial_of, product_of, IsExpanded, children_of, nth, product_right}
use Rattle.expand_forms.proofs.{Shared.{tree_monomials}, Expansions.{constant_expanded, expanded_same, is_expanded, same_polynomial}, Nodes.{from}}

-- ---- opposites

pub opposite_value : (r : Rat) → ratio_of r ≡ whole (negsuc 0) → value_of r ≡ minus_one_fraction
opposite_value r e = ap (λ (x : Ratio). lowest x.num x.den) e

-- ---- products

pub product_from : (n : ℕ) (ts : Trees) → n < count ts → product_of (from n ts) ≡ product (polynomial_of (nth n ts)) (product_of (from (n + 1) ts))
product_from n none l = absurd (omega (arith, l))
product_from zero (more t ts) l = refl
product_from (suc n) (more t ts) l =
    let e : suc (n + 1) ≡ suc n + 1 = omega arith in
    product_from n ts (omega (arith, l)) ∙ ap (λ (k : ℕ). product (polynomial_of (nth n ts)) (product_of (from k (more t ts)))) e

pub product_from_none : (n : ℕ) (ts : Trees) → count ts ≤ n → product_of (from n ts) ≡ constant one_fraction
product_from_none zero none l = refl
product_from_none (suc n) none l = refl
product_from_none zero (more t ts) l = absurd (omega (arith, l))
product_from_none (suc n) (more t ts) l = product_from_none n ts (omega (arith, l))

pub empty_product : {t : Tree} (r : Rat) (n : ℕ) (ts : Trees) → value_of r ≡ one_fraction → n ≡ count ts → t ≡ num (value_of r) → t ≡ expanded (product_of (from n ts))
empty_product r n ts q l h = h ∙ ap num q ∙ sym (constant_expanded one_fraction) ∙ ap expanded (sym (product_from_none n ts (omega (arith, l))))

pub product_expanded : {t : Tree} (ts : Trees) → t ≡ expanded (product_of ts) → IsExpanded t
product_expanded ts e = is_expanded (product_of ts) (tree_monomials (mult ts)) e

pub next_product : {a t u : Tree} (n : ℕ) (ts : Trees) → n < count ts → a ≡ nth n ts → t ≡ expanded (product_of (from (n + 1) ts)) → u ≡ expanded (product (polynomial_of a) (polynomial_of t))
    → u ≡ expanded (product_of (from n ts))
next_product {t = t} n ts l s e h =
    let rest = from (n + 1) ts in
    h ∙ ap (λ (x : Tree). expanded (product (polynomial_of x) (polynomial_of t))) s ∙ expanded_same (product_right (polynomial_of (nth n ts)) (same_polynomial (tree_monomials (mult rest)) e))
    ∙ ap expanded (sym (product_from n ts l))

pub product_polynomial_of : (t : Tree) → is_mult t ≡ true → product_of (children_of t) ≡ polynomial_of t
product_polynomial_of t h = grind arith
