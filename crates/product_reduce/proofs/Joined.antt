-- Two factors of one base, joined: meanings are kept.
use Rattle.product_reduce.proofs.Shared.{arith, ◌≡◌, Bool, true, false, refl, if◌then◌else◌, Ordering, Equal, is_eq, base_of, tree_cmp, Tree, mult, Trees, none, more, KeepsMeanings}
use Rattle.product_reduce.proofs.Shared.{KeepsMeanings-refl, KeepsMeanings-trans, KeepsMeanings-product_more, Permuted, permuted_more, permuted_swap, permuted_trans, Permuted-refl, permuted_product}
use Rattle.product_reduce.proofs.Shared.{joined_in_product, tree_cmp_equal, is_partner, has_partner, first_partner, without_partner, joint, joined, same_bases}

equal_words : (o : Ordering) → is_eq o ≡ true → o ≡ Equal
equal_words o h = grind arith

-- partners have one base
pub one_base : (t u : Tree) → is_partner t u ≡ true → base_of t ≡ base_of u
one_base t u h = tree_cmp_equal (base_of t) (base_of u) (equal_words (tree_cmp (base_of t) (base_of u)) h)

-- ---- the first partner

pub partner_is : (t : Tree) (ts : Trees) → has_partner t ts ≡ true → is_partner t (first_partner t ts) ≡ true
partner_is t none h = cc
partner_is t (more u ts) h = grind (arith, partner_is t ts)

pub partner_first : (t : Tree) (ts : Trees) → has_partner t ts ≡ true → Permuted ts (more (first_partner t ts) (without_partner t ts))
partner_first t none h = cc
partner_first t (more u ts) h = by (partner_first t ts) (is_partner t u) h
  where
    by : (has_partner t ts ≡ true → Permuted ts (more (first_partner t ts) (without_partner t ts))) → (k : Bool) → (if k then true else has_partner t ts) ≡ true
        → Permuted (more u ts) (more (if k then u else first_partner t ts) (if k then ts else more u (without_partner t ts)))
    by go true g = Permuted-refl (more u ts)
    by go false g = permuted_trans (permuted_more (go g)) permuted_swap

-- ---- the joint

pub joint_keeps : (t u : Tree) → is_partner t u ≡ true → KeepsMeanings (mult (more t (more u none))) (joint t u)
joint_keeps t u h = same_bases t u (one_base t u h)

pub joined_keeps : (ts : Trees) → KeepsMeanings (mult ts) (mult (joined ts))
joined_keeps none = KeepsMeanings-refl (mult none)
joined_keeps (more t ts) = by (joined_keeps ts) (has_partner t ts) refl
  where
    by : KeepsMeanings (mult ts) (mult (joined ts)) → (k : Bool) → has_partner t ts ≡ k
        → KeepsMeanings (mult (more t ts)) (mult (if k then more (joint t (first_partner t ts)) (without_partner t ts) else more t (joined ts)))
    by go true e =
        KeepsMeanings-trans (permuted_product (permuted_more (partner_first t ts e)))
        (joined_in_product t (first_partner t ts) (joint t (first_partner t ts)) (without_partner t ts) (joint_keeps t (first_partner t ts) (partner_is t ts e)))
    by go false e = KeepsMeanings-product_more (KeepsMeanings-refl t) go
