-- What holds of each part of the terms of a sum holds of each part of what they are collected to.
use Rattle.sum_reduce.proofs.Shared.{◌≡◌, ◌≤◌, ◌++◌, true, subst, arith, Fraction, Tree, num, add, mult, Trees, none, more, count, AllParts, AllPartsOf, is_number, value, part_of, split_product}
use Rattle.sum_reduce.proofs.Shared.{coefficient_of, AllPartsOf-append, IsNumberOf, permuted_parts, first_parts, product_tree_parts, with_parts, AreLike, sum_of_coefficients, Collects}
use Rattle.sum_reduce.proofs.Shared.{collects_opened, collects_ordered, collects_numbers, collects_like, collects_then, terms_of_loose, opened, written_tree, of_lists, behind_parts}

-- ---- terms that are opened, change places, or stand before others

loose_parts : (P : Tree → Type 0) (t : Tree) → AllParts P t → AllPartsOf P (terms_of_loose t)
loose_parts P t h = grind arith

pub opened_parts : (P : Tree → Type 0) (ts : Trees) → AllPartsOf P ts → AllPartsOf P (opened ts)
opened_parts P none h = tt
opened_parts P (more t ts) h = AllPartsOf-append P (terms_of_loose t) (opened ts) (loose_parts P t h.0) (opened_parts P ts h.1)

module _ (P : Tree → Type 0)
    (of_num : (q : Fraction) → P (num q))
    (of_add : (ts : Trees) → P (add ts))
    (of_mult : (ts : Trees) → P (mult ts)) where
  -- ---- a coefficient and a part

  split_parts : (ts : Trees) → AllPartsOf P ts → AllParts P (split_product ts).coefficient × AllPartsOf P (split_product ts).factors
  split_parts ts = grind arith

  pub part_parts : (t : Tree) → AllParts P t → AllParts P (part_of t)
  part_parts t h = grind (arith, product_tree_parts, split_parts)

  pub coefficient_parts : (t : Tree) → AllParts P t → AllParts P (coefficient_of t)
  coefficient_parts t h = grind (arith, split_parts)

  -- ---- terms

  like_parts : (us : Trees) (p : Tree) → 2 ≤ count us → AreLike p us → AllPartsOf P us → AllParts P p
  like_parts none p l a h = absurd (omega arith)
  like_parts (more t us) p l a h = subst (AllParts P) a.1 (part_parts t h.0)

  -- the tree of terms
  pub written_parts : (ts : Trees) → AllPartsOf P ts → AllParts P (written_tree ts)
  written_parts ts h = grind (arith, AllPartsOf-append)

  -- ---- collected

  module _ (of_sums : (a b n : Tree) → is_number a ≡ true → is_number b ≡ true → AllParts P a → AllParts P b → IsNumberOf (value a ++ value b) n → AllParts P n)
      (of_coefficients : (us : Trees) (c : Tree) → AllPartsOf P us → IsNumberOf (sum_of_coefficients us) c → AllParts P c) where
    pub collected_parts : {ts us : Trees} → Collects ts us → AllPartsOf P ts → AllPartsOf P us
    collected_parts (collects_opened {ts}) h = opened_parts P ts h
    collected_parts (collects_ordered {ts} {us} k) h = permuted_parts P (of_lists ts us k) h
    collected_parts (collects_numbers {ts} {a} {b} {n} x y k) h = (of_sums a b n x y h.0 (h.1).0 k, (h.1).1)
    collected_parts (collects_like {ts} us c p l a k) h =
        let like = first_parts P us ts h in
        (with_parts P of_num of_add of_mult c p (of_coefficients us c like k) (like_parts us p l a like), behind_parts P us ts h)
    collected_parts (collects_then k l) h = collected_parts l (collected_parts k h)
