-- A coefficient comes before the factors of a product.
use Rattle.product_reduce.proofs.Shared.{ℕ, ◌≡◌, Bool, true, false, if◌then◌else◌, refl, sym, ap, ◌∙◌, arith, factors_of, is_num_one, Tree, Trees, more, append, is_mult, Forest, kids, merged_nth}
use Rattle.product_reduce.proofs.Shared.{with_nth, root_tree, without_root, put, represents_handed, represents_with, represents_as, coefficient_before, IsProduct, Becomes, IsBeside}
use Rattle.product_reduce.proofs.{Beside.{beside_product}, Products.{becomes_put, becomes_as, becomes_after, becomes_merged, product_kids}}
pub use Rattle.coefficients.proofs.{Factors.{single_factors as single_factor}, FirstFactors.{product_children as product_factors}}

-- 1 is left out
pub one_in_front : (c : Tree) (ts : Trees) → is_num_one c ≡ true → coefficient_before c ts ≡ ts
one_in_front c ts h = ap (λ (k : Bool). if k then ts else append (factors_of c) ts) h

pub other_in_front : (c : Tree) (ts : Trees) → is_num_one c ≡ false → coefficient_before c ts ≡ append (factors_of c) ts
other_in_front c ts h = ap (λ (k : Bool). if k then ts else append (factors_of c) ts) h

-- a root comes first
pub first_put : (i c : ℕ) (u : Tree) (ts : Trees) (l f g : Forest) → IsBeside c u l f → IsProduct i l ts → g ≡ put i (with_nth 0 (root_tree c f) (kids (root_tree i f))) (without_root c f)
    → Becomes i l g (more u ts)
first_put i c u ts l f g b p e =
    becomes_put p (represents_as (represents_with 0 (represents_handed b.handed) (product_kids (beside_product b p))) refl (ap (λ (t : Tree). more t ts) b.tree))
    (e ∙ ap (put i (with_nth 0 (root_tree c f) (kids (root_tree i f)))) b.rest)

pub first_merged : (i : ℕ) (u : Tree) (ts : Trees) (l f g : Forest) → Becomes i l f (more u ts) → is_mult u ≡ true → is_num_one u ≡ false → g ≡ put i (merged_nth 0 (kids (root_tree i f))) f
    → Becomes i l g (coefficient_before u ts)
first_merged i u ts l f g b m o e =
    becomes_as (becomes_after b (becomes_merged 0 b.product (omega arith) e)) (ap (λ (us : Trees). append us ts) (product_factors u m) ∙ sym (other_in_front u ts o))

pub first_kept : (i : ℕ) (u : Tree) (ts : Trees) (l f : Forest) → Becomes i l f (more u ts) → is_mult u ≡ false → is_num_one u ≡ false → Becomes i l f (coefficient_before u ts)
first_kept i u ts l f b m o = becomes_as b (ap (λ (us : Trees). append us ts) (sym (single_factor u m)) ∙ sym (other_in_front u ts o))
