-- Trees that change places.
use Rattle.like_children.proofs.Shared.{IsPermutation, ◌≡◌, [], ◌∷◌, Bool, refl, ap, ◌∙◌, subst, arith, take, IsPermutation-refl, IsPermutation-cons, IsPermutation-middle, IsPermutation-trans}
use Rattle.like_children.proofs.Shared.{Permuted, permuted_more, permuted_none, permuted_swap, permuted_trans, permuted_trees, trees_of, NoneIs, Tree, Trees, count, more, none, list_of, IsSorting}
use Rattle.like_children.proofs.Shared.{append}

-- ---- the same trees in another order

pub none_permuted : (p : Tree → Bool) {ts us : Trees} → Permuted ts us → NoneIs p ts → NoneIs p us
none_permuted p permuted_none h = tt
none_permuted p (permuted_more k) h = (h.0, none_permuted p k h.1)
none_permuted p permuted_swap h = (h.1.0, (h.0, h.1.1))
none_permuted p (permuted_trans k l) h = none_permuted p l (none_permuted p k h)

pub count_permuted : {ts us : Trees} → Permuted ts us → count ts ≡ count us
count_permuted permuted_none = refl
count_permuted (permuted_more h) = omega (arith, count_permuted h)
count_permuted permuted_swap = refl
count_permuted (permuted_trans h k) = count_permuted h ∙ count_permuted k

-- ---- lists of trees

pub same_trees : (ts : Trees) → trees_of (list_of ts) ≡ ts
same_trees none = refl
same_trees (more t ts) = ap (more t) (same_trees ts)

pub of_lists : (ts us : Trees) → IsPermutation (list_of ts) (list_of us) → Permuted ts us
of_lists ts us h = subst (λ (x : Trees). Permuted x us) (same_trees ts) (subst (λ (x : Trees). Permuted (trees_of (list_of ts)) x) (same_trees us) (permuted_trees (list_of ts) (list_of us) h))

pub to_lists : {ts us : Trees} → Permuted ts us → IsPermutation (list_of ts) (list_of us)
to_lists permuted_none = IsPermutation-refl []
to_lists (permuted_more {t} {ts} {us} k) = IsPermutation-cons t (list_of ts) (list_of us) (to_lists k)
to_lists (permuted_swap {t} {u} {ts}) = IsPermutation-middle (t ∷ []) u (list_of ts)
to_lists (permuted_trans {ts} {us} {vs} k l) = IsPermutation-trans (list_of ts) (list_of us) (list_of vs) (to_lists k) (to_lists l)

-- ---- trees in the order of their keys behind others

pub record IsBehind (key : Tree → Tree) (lead os us : Trees) : Type 0 where
  pub vs : Trees
  pub is : us ≡ append lead vs
  pub sorted : IsSorting 0 key os vs

pub sorted_behind : (key : Tree → Tree) (lead os us : Trees) → IsSorting (count lead) key (append lead os) us → IsBehind key lead os us
sorted_behind key none os us s = record { vs = us; is = refl; sorted = s }
sorted_behind key (more c ls) os none s = absurd (let f = s.front in cc)
sorted_behind key (more c ls) os (more u us) s =
    let f = s.front in
    let same : u ≡ c = cc in
    let front : take (count ls) (list_of us) ≡ take (count ls) (list_of (append ls os)) = cc in
    let b = sorted_behind key ls os us (record { front = front; moved = s.moved; rising = s.rising }) in
    record { vs = b.vs; is = (λ i. more (same i) (b.is i)); sorted = b.sorted }
