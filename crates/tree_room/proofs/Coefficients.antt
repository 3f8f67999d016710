-- A coefficient changes no count.
use Rattle.tree_room.proofs.Shared.{◌≡◌, ◌+◌, ◌≤◌, max, Bool, true, false, refl, sym, ap, ◌∙◌, arith, if◌then◌else◌, is_radicand, split, split_product, product_tree, part_of, num_one, counted}
use Rattle.tree_room.proofs.Shared.{counted_among, counted_number, counted_other, Fraction, Tree, num, add, mult, root, Trees, none, more, HasSamePart, HaveSameParts}
use Rattle.tree_room.proofs.Counts.{counts_one, number_counts_one, at_most_itself}
use Rattle.calc_algebra.specs.Numbers.{is_number}

-- ---- what is split off

root_free : (r : Fraction) (ts : Trees) → is_radicand r ≡ true → counted_among (more (root (num r)) ts) ≡ counted_among ts
unfolding is_number
root_free r ts e = counted_number (root (num r)) ts e

rational_free : (q : Fraction) (ts : Trees) → counted_among (more (num q) ts) ≡ counted_among ts
unfolding is_number
rational_free q ts = counted_number (num q) ts refl

pub split_counts : (ts : Trees) → counted_among (split_product ts).factors ≡ counted_among ts
split_counts (more (num q) (more (root (num r)) ts)) = by (is_radicand r) refl
  where
    by : (k : Bool) → is_radicand r ≡ k → counted_among (if k then split (mult (more (num q) (more (root (num r)) none))) ts else split (num q) (more (root (num r)) ts)).factors ≡ counted_among (more (num q) (more (root (num r)) ts))
    by true e = sym (rational_free q (more (root (num r)) ts) ∙ root_free r ts e)
    by false e = sym (rational_free q (more (root (num r)) ts))
split_counts (more (num q) ts) = sym (rational_free q ts)
split_counts (more (root (num r)) ts) = by (is_radicand r) refl
  where
    by : (k : Bool) → is_radicand r ≡ k → counted_among (if k then split (root (num r)) ts else split num_one (more (root (num r)) ts)).factors ≡ counted_among (more (root (num r)) ts)
    by true e = sym (root_free r ts e)
    by false e = refl
split_counts (more (add us) ts) = by (is_number (add us)) refl
  where
    by : (k : Bool) → is_number (add us) ≡ k → counted_among (if k then split (add us) ts else split num_one (more (add us) ts)).factors ≡ counted_among (more (add us) ts)
    by true e = sym (counted_number (add us) ts e)
    by false e = refl
split_counts ts = refl

-- ---- what is put together

only_one : (t : Tree) → counted t ≡ max 1 (counted_among (more t none))
only_one t = grind (arith, number_counts_one, counted_number, counts_one, counted_other)

pub product_counts : (ts : Trees) → counted (product_tree ts) ≡ counted (mult ts)
product_counts ts = grind (arith, only_one)

pub part_counts : (t : Tree) → counted (part_of t) ≡ counted t
part_counts t = grind (arith, product_counts, split_counts)

pub put_before : (c : Tree) (ts : Trees) → is_number c ≡ true → counted (mult (more c ts)) ≡ counted (product_tree ts)
put_before c ts h = ap (max 1) (counted_number c ts h) ∙ sym (product_counts ts)

-- ---- terms of the same part

same_counts : (t u : Tree) → part_of t ≡ part_of u → counted t ≡ counted u
same_counts t u e = sym (part_counts t) ∙ ap counted e ∙ part_counts u

same_alone : (t u : Tree) → HasSamePart t u → (if is_number t then 0 else counted t) ≡ (if is_number u then 0 else counted u)
same_alone t u h = grind (arith, same_counts)

pub same_parts : (ts us : Trees) → HaveSameParts ts us → counted_among ts ≡ counted_among us
same_parts none none h = refl
same_parts (more t ts) (more u us) (h, hs) = (λ i. same_alone t u h i + same_parts ts us hs i)
same_parts _ _ h = absurd h

pub like_terms : (t u r : Tree) (ts : Trees) → is_number t ≡ false → part_of r ≡ part_of t → counted_among (more r ts) ≤ counted_among (more t (more u ts))
like_terms t u r ts n e = grind (arith, at_most_itself, same_counts, counted_other)

pub spread : (q : Fraction) (ts us : Trees) → HaveSameParts ts us → counted (add us) ≤ counted (mult (more (num q) (more (add ts) none)))
spread q ts us h = omega (arith, same_parts ts us h, only_one (add ts), rational_free q (more (add ts) none))
