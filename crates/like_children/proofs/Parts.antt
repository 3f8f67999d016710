-- What holds of each part of a coefficient and of a tree holds of each part of both put together.
use Rattle.like_children.proofs.Shared.{arith, Fraction, Tree, num, add, mult, Trees, none, more, append, AllParts, AllPartsOf, product_tree, Permuted, permuted_none, permuted_more, permuted_swap}
use Rattle.like_children.proofs.Shared.{permuted_trans, factors_of, spliced, rational_before, with_coefficient, mapped, rational_times, rational_times_term, AllPartsOf-append, is_reduced, and_parts}
use Rattle.like_children.proofs.Shared.{and_from, ◌≡◌, true, false, refl, are_reduced, HasForm, has_undef, is_undef, or_parts, reduced_parts, parts_reduced}

-- ---- trees that change places, or stand before others

pub permuted_parts : (P : Tree → Type 0) {ts us : Trees} → Permuted ts us → AllPartsOf P ts → AllPartsOf P us
permuted_parts P permuted_none h = h
permuted_parts P (permuted_more k) h = (h.0, permuted_parts P k h.1)
permuted_parts P permuted_swap h = ((h.1).0, (h.0, (h.1).1))
permuted_parts P (permuted_trans k l) h = permuted_parts P l (permuted_parts P k h)

pub first_parts : (P : Tree → Type 0) (ts us : Trees) → AllPartsOf P (append ts us) → AllPartsOf P ts
first_parts P none us h = tt
first_parts P (more t ts) us h = (h.0, first_parts P ts us h.1)

-- reduced trees, none of them Undef
pub reduced_formed : (ts : Trees) → are_reduced ts ≡ true → has_undef ts ≡ false → AllPartsOf HasForm ts
reduced_formed none h d = tt
reduced_formed (more t ts) h d =
    let (a, b) = and_parts (is_reduced t) (are_reduced ts) h in
    let (x, y) = or_parts (is_undef t) (has_undef ts) d in
    (reduced_parts t a x, reduced_formed ts b y)

pub formed_reduced : (ts : Trees) → AllPartsOf HasForm ts → are_reduced ts ≡ true
formed_reduced none h = refl
formed_reduced (more t ts) h = and_from _ _ (parts_reduced t h.0) (formed_reduced ts h.1)

pub factors_parts : (P : Tree → Type 0) (t : Tree) → AllParts P t → AllPartsOf P (factors_of t)
factors_parts P t h = grind arith

-- ---- a coefficient before a part

module _ (P : Tree → Type 0)
    (of_num : (q : Fraction) → P (num q))
    (of_add : (ts : Trees) → P (add ts))
    (of_mult : (ts : Trees) → P (mult ts)) where
  pub product_tree_parts : (ts : Trees) → AllPartsOf P ts → AllParts P (product_tree ts)
  product_tree_parts ts h = grind arith

  spliced_parts : (c p : Tree) → AllParts P c → AllParts P p → AllParts P (spliced c p)
  spliced_parts c p h k = (of_mult (append (factors_of c) (factors_of p)), AllPartsOf-append P (factors_of c) (factors_of p) (factors_parts P c h) (factors_parts P p k))

  times_parts : (q : Fraction) (t : Tree) → AllParts P t → AllParts P (rational_times q t)
  times_parts q t h = grind arith

  mapped_parts : (f : Tree → Tree) → ((t : Tree) → AllParts P t → AllParts P (f t)) → (ts : Trees) → AllPartsOf P ts → AllPartsOf P (mapped f ts)
  mapped_parts f k none h = tt
  mapped_parts f k (more t ts) h = (k t h.0, mapped_parts f k ts h.1)

  times_term_parts : (q : Fraction) (t : Tree) → AllParts P t → AllParts P (rational_times_term q t)
  times_term_parts q t h = grind (arith, mapped_parts, times_parts)

  before_parts : (q : Fraction) (p : Tree) → AllParts P p → AllParts P (rational_before q p)
  before_parts q p h = grind (arith, mapped_parts, times_term_parts, spliced_parts)

  pub with_parts : (c p : Tree) → AllParts P c → AllParts P p → AllParts P (with_coefficient c p)
  with_parts c p h k = grind (arith, before_parts, spliced_parts)
