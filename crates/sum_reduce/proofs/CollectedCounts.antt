-- The terms of a sum are collected to terms that count no more.
use Rattle.sum_reduce.proofs.Shared.{◌≡◌, suc, ◌≤◌, Bool, true, false, if◌then◌else◌, refl, ap, subst, arith, permuted_parts, first_parts, Tree, Trees, none, more, append, count, AllPartsOf, IsNumber}
use Rattle.sum_reduce.proofs.Shared.{is_number, HasForm, number_test, number_words, counted, counted_among, with_coefficient, IsMonic, put_formed, taken, number_parts, parts_defined, parts_reduced}
use Rattle.sum_reduce.proofs.Shared.{AreLike, Collects, collects_opened, collects_ordered, collects_numbers, collects_like, collects_then, terms_of_loose, opened, terms_of_number, sum_tree}
use Rattle.sum_reduce.proofs.Shared.{leads_number, written_tree, counted_number, none_counted, number_counts, part_counts, appended, counted_at_most, counted_in, permuted_counted, put_counted}
use Rattle.sum_reduce.proofs.{Shared.{of_lists, behind_parts}, CollectedParts.{opened_parts}}

other_counts : (t : Tree) → is_number t ≡ false → counted_in t ≡ counted t
other_counts t e = ap (λ (b : Bool). if b then 0 else counted t) e

-- ---- terms

loose_counted : (t : Tree) → counted_among (terms_of_loose t) ≤ counted_in t
loose_counted t = grind arith

opened_counted : (ts : Trees) → counted_among (opened ts) ≤ counted_among ts
opened_counted none = omega arith
opened_counted (more t ts) = omega (arith, appended (terms_of_loose t) (opened ts), loose_counted t, opened_counted ts)

pub like_monic : (us : Trees) (p : Tree) → 2 ≤ count us → AreLike p us → AllPartsOf HasForm us → IsMonic p
like_monic none p l a h = absurd (omega arith)
like_monic (more t us) p l a h = subst IsMonic a.1 (taken t (parts_reduced t h.0) (parts_defined t h.0) a.0).monic

like_counted : (us : Trees) (p : Tree) → 2 ≤ count us → AreLike p us → counted p ≤ counted_among us
like_counted us p l a = grind (arith, other_counts, part_counts)

-- terms stay in their form
pub collected_formed : {ts us : Trees} → Collects ts us → AllPartsOf HasForm ts → AllPartsOf HasForm us
collected_formed (collects_opened {ts}) h = opened_parts HasForm ts h
collected_formed (collects_ordered {ts} {us} k) h = permuted_parts HasForm (of_lists ts us k) h
collected_formed (collects_numbers {ts} {a} {b} {n} x y k) h = (number_parts n (number_words n k.number), (h.1).1)
collected_formed (collects_like {ts} us c p l a k) h = grind (arith, first_parts, put_formed, number_words, like_monic, behind_parts)
collected_formed (collects_then k l) h = collected_formed l (collected_formed k h)

pub collected_counts : {ts us : Trees} → Collects ts us → AllPartsOf HasForm ts → counted_among us ≤ counted_among ts
collected_counts (collects_opened {ts}) h = opened_counted ts
collected_counts (collects_ordered {ts} {us} k) h = omega (arith, permuted_counted (of_lists ts us k))
collected_counts (collects_numbers {ts} {a} {b} {n} x y k) h = omega (arith, counted_number n ts k.number, counted_number b ts y, counted_number a (more b ts) x)
collected_counts (collects_like {ts} us c p l a k) h =
    let like = first_parts HasForm us ts h in
    omega (arith, counted_at_most (with_coefficient c p), put_counted c p (number_words c k.number) (λ e. like_monic us p l a like), like_counted us p l a, appended us ts)
collected_counts (collects_then {ts} {us} {vs} k l) h = omega (arith, collected_counts k h, collected_counts l (collected_formed k h))

-- ---- the tree of terms

number_terms_counted : (t : Tree) → IsNumber t → counted_among (terms_of_number t) ≡ 0
number_terms_counted t h = grind (arith, number_test, none_counted)

tree_counted : (t : Tree) → counted t ≤ suc (counted_in t)
tree_counted t = grind (arith, number_counts, number_words)

sum_tree_counted : (ts : Trees) → counted (sum_tree ts) ≤ suc (counted_among ts)
sum_tree_counted ts = grind (arith, tree_counted)

led_number : (t : Tree) (ts : Trees) → leads_number (more t ts) ≡ true → is_number t ≡ true
led_number t ts h = grind arith

pub written_counted : (ts : Trees) → counted (written_tree ts) ≤ suc (counted_among ts)
written_counted none = omega arith
written_counted (more t ts) = by (leads_number (more t ts)) refl
  where
    by : (b : Bool) → leads_number (more t ts) ≡ b → counted (if b then sum_tree (append (terms_of_number t) ts) else sum_tree (more t ts)) ≤ suc (counted_among (more t ts))
    by true e =
        let n = led_number t ts e in
        omega (arith, sum_tree_counted (append (terms_of_number t) ts), appended (terms_of_number t) ts, number_terms_counted t (number_words t n), counted_number t ts n)
    by false e = sum_tree_counted (more t ts)
