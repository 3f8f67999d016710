-- How many bytes the terms of a sum have while they are collected, and for how few at hand that is refused.
use Rattle.sum_reduce.proofs.Shared.{◌≡◌, ℕ, suc, ◌+◌, ◌*◌, ◌^◌, ◌<◌, ◌≤◌, List, length, true, refl, ap, ◌∙◌, subst, arith, first_parts, permuted_parts, count_removed, sizes_taken, and_from}
use Rattle.sum_reduce.proofs.Shared.{is_number, NoneIs, Permuted, permuted_none, permuted_more, permuted_swap, permuted_trans, number_words, counted, counted_among, SpansRoot, SpansTree, SpansTrees}
use Rattle.sum_reduce.proofs.Shared.{Tree, add, Trees, none, more, append, count, size, with_coefficient, put_room, IsPairAt, State, free_of, removed, number_size, IsArranged, IsLead, AreLike}
use Rattle.sum_reduce.proofs.Shared.{Collects, IsJoining, AreFormed, is_partner, nth, inserted, counted_in_all, sum_count, sum_need, bytes_of_taking, IsShort, Full, terms_room, counted_at_most}
use Rattle.sum_reduce.proofs.Shared.{put_counted, inserted_permuted, nth_behind_removed, taken_permuted, of_lists, formed_reduced, tree_bytes, sum_room, part_counts, all_appended, counts_one}
use Rattle.sum_reduce.proofs.{Shared.{number_counts_one, numbers_and_others, appended, sum_bytes, behind_parts}, CollectedCounts.{collected_counts}, CollectedParts.{part_parts}}
use Rattle.sum_reduce.proofs.CollectedSpans.{total_spans}
use Rattle.tree_room.proofs.Multiples.{scaled}
pub use Rattle.number_forms.proofs.Rooms.{few_for_sum as few_lack}

-- ---- counts

permuted_counts : {ts us : Trees} → Permuted ts us → counted_in_all us ≡ counted_in_all ts
permuted_counts permuted_none = refl
permuted_counts (permuted_more {t} k) = ap (λ (n : ℕ). counted t + n) (permuted_counts k)
permuted_counts (permuted_swap {t} {u} {ts}) = omega arith
permuted_counts (permuted_trans k l) = permuted_counts l ∙ permuted_counts k

like_counts : (us : Trees) (p : Tree) → 1 ≤ count us → AreLike p us → counted p ≤ counted_in_all us
like_counts none p l a = absurd (omega arith)
like_counts (more t us) p l a = omega (arith, part_counts t, ap counted a.1)

joining_counts : (ts : Trees) (c p : Tree) (rest : Trees) (less : ℕ) → IsJoining ts c p rest less → counted p + counted_in_all rest ≤ counted_in_all ts
joining_counts ts c p rest less j =
    let a = j.added in
    omega (arith, like_counts a.like p a.some a.are, all_appended a.like rest, permuted_counts (of_lists ts (append a.like rest) a.moved))

-- a coefficient is free
put_counts : (c p : Tree) (rest : Trees) (ts : Trees) (less : ℕ) → IsJoining ts c p rest less → counted (with_coefficient c p) ≤ counted p
put_counts c p rest ts less j =
    grind (arith, number_counts_one (with_coefficient c p), counts_one p, counted_at_most (with_coefficient c p), put_counted c p (number_words c j.number) (λ e. j.monic))

pub joined_counts : (ts : Trees) (c p : Tree) (rest vs : Trees) (less at : ℕ) → IsJoining ts c p rest less → vs ≡ inserted at (more (with_coefficient c p) none) rest
    → counted_in_all vs ≤ counted_in_all ts
joined_counts ts c p rest vs less at j e =
    omega (arith, ap counted_in_all e, permuted_counts (inserted_permuted at (with_coefficient c p) rest), put_counts c p rest ts less j, joining_counts ts c p rest less j)

-- the terms are in order: a Number counts 1 more
lead_counts : (ts : Trees) → IsLead ts → counted_in_all ts ≤ 1
lead_counts ts h = grind (arith, number_counts_one)

other_counts : (ts : Trees) → NoneIs is_number ts → counted_in_all ts ≤ counted_among ts
other_counts none h = omega arith
other_counts (more t ts) h = grind (arith, other_counts ts h.1)

pub arranged_counts : {ts us : Trees} → Collects ts us → AreFormed ts → IsArranged us → sum_count us ≤ 1 + sum_count ts
arranged_counts {ts = ts} {us = us} k f a =
    omega (
      arith,
      collected_counts k f,
      numbers_and_others ts,
      ap counted_in_all a.split,
      ap counted_among a.split,
      all_appended a.lead a.others,
      appended a.lead a.others,
      lead_counts a.lead a.one,
      other_counts a.others a.no_number,
    )

-- ---- what is spanned

like_spans : (gs : List ℕ) (us : Trees) (p : Tree) → 1 ≤ count us → AreLike p us → SpansTrees gs us → SpansTree gs p
like_spans gs none p l a h = absurd (omega arith)
like_spans gs (more t us) p l a h = subst (SpansTree gs) a.1 (part_parts (SpansRoot gs) (λ q. tt) (λ vs. tt) (λ vs. tt) t h.0)

pub record AreSpanned (gs : List ℕ) (c p : Tree) (rest : Trees) : Type 0 where
  pub coefficient : SpansTree gs c
  pub part : SpansTree gs p
  pub others : SpansTrees gs rest

pub joining_spans : (gs : List ℕ) (ts : Trees) (c p : Tree) (rest : Trees) (less : ℕ) → IsJoining ts c p rest less → SpansTrees gs ts → AreSpanned gs c p rest
joining_spans gs ts c p rest less j s =
    let a = j.added in
    let all : SpansTrees gs (append a.like rest) = permuted_parts (SpansRoot gs) (of_lists ts (append a.like rest) a.moved) s in
    let like : SpansTrees gs a.like = first_parts (SpansRoot gs) a.like rest all in
    record {
      coefficient = total_spans gs a.like c like (record { number = j.number; worth = a.worth });
      part = like_spans gs a.like p a.some a.are like;
      others = behind_parts (SpansRoot gs) a.like rest all;
    }

-- and the partner behind the part
pub spans_next : (gs : List ℕ) {c : Tree} (us : Trees) (at : ℕ) → AreSpanned gs c (nth at us) (removed at us) → IsPairAt is_partner at us → SpansTree gs (nth (suc at) us)
spans_next gs us at w h =
    let next : nth at (removed at us) ≡ nth (suc at) us = nth_behind_removed at at us (omega arith) in
    let l = h.within in
    let few : at < count (removed at us) = omega (arith, count_removed at us (omega (arith, l)), l) in
    subst (SpansTree gs) next (permuted_parts (SpansRoot gs) (taken_permuted at (removed at us) few) w.others).0

-- ---- bytes

terms_bytes : (gs : List ℕ) (ts : Trees) (h : ℕ) → AreFormed ts → SpansTrees gs ts → sum_count ts ≤ h → size (add ts) ≤ tree_bytes h (2 ^ length gs)
terms_bytes gs ts h f s l =
    let a : size (add ts) ≤ 204 * sum_count ts * 2 ^ length gs = sum_bytes gs ts (formed_reduced ts f) s in
    let b : 204 * sum_count ts * 2 ^ length gs ≤ 204 * h * 2 ^ length gs = scaled (204 * sum_count ts) (204 * h) (2 ^ length gs) (omega (arith, l)) in
    omega (arith, a, b)

joining_bytes : (gs : List ℕ) (ts : Trees) (c p : Tree) (rest : Trees) (less : ℕ) → IsJoining ts c p rest less → SpansTrees gs ts → size (add (more p rest)) ≤ tree_bytes (sum_count ts) (2 ^ length gs)
joining_bytes gs ts c p rest less j s =
    let w = joining_spans gs ts c p rest less j s in
    let a : size (add (more p rest)) ≤ 204 * sum_count (more p rest) * 2 ^ length gs = sum_bytes gs (more p rest) (and_from _ _ j.monic.reduced (formed_reduced rest j.formed)) (w.part, w.others) in
    let b : 204 * sum_count (more p rest) * 2 ^ length gs ≤ 204 * sum_count ts * 2 ^ length gs =
    scaled (204 * sum_count (more p rest)) (204 * sum_count ts) (2 ^ length gs) (omega (arith, joining_counts ts c p rest less j)) in
    omega (arith, a, b)

-- ---- refusals

-- so few bytes are free beside terms
pub terms_lack : (gs : List ℕ) (ts : Trees) (free h : ℕ) → AreFormed ts → SpansTrees gs ts → sum_count ts ≤ h → free < sum_need * 2 ^ length gs → free + size (add ts) < terms_room h (2 ^ length gs)
terms_lack gs ts free h f s l k = omega (arith, terms_bytes gs ts h f s l, k)

pub taking_lacks : {s now : State} {full : Full} (t : Tree) → IsShort (bytes_of_taking t) s now full → free_of s < 40
taking_lacks t r = grind arith

-- and beside a Number
pub number_lacks : (gs : List ℕ) (c : Tree) (free : ℕ) → is_number c ≡ true → SpansTree gs c → free < 40 → free + size c < sum_need * 2 ^ length gs
number_lacks gs c free n s l = omega (arith, number_size gs c n s, l)

-- beside a part whose coefficient stands by itself
pub partner_lacks : (gs : List ℕ) (ts : Trees) (c : Tree) (us : Trees) (at less free : ℕ) → IsJoining ts c (nth at us) (removed at us) less → at < count us → SpansTrees gs ts
    → free + size c < sum_need * 2 ^ length gs
    → free + size (add us) + size c < terms_room (sum_count ts) (2 ^ length gs)
partner_lacks gs ts c us at less free j l s k = omega (arith, joining_bytes gs ts c (nth at us) (removed at us) less j s, sizes_taken at us l, k)

-- where it is put back
pub part_lacks : (gs : List ℕ) (ts : Trees) (c : Tree) (us : Trees) (at less free : ℕ) → IsJoining ts c (nth at us) (removed at us) less → at < count us → SpansTrees gs ts
    → free + size c + size (nth at us) < put_room (counted (nth at us)) (2 ^ length gs) → free + size (add us) + size c < terms_room (sum_count ts) (2 ^ length gs)
part_lacks gs ts c us at less free j l s k =
    let p = nth at us in
    let rest = removed at us in
    let w = joining_spans gs ts c p rest less j s in
    let a : size (add rest) ≤ 204 * sum_count rest * 2 ^ length gs = sum_bytes gs rest (formed_reduced rest j.formed) w.others in
    let b : 204 * (counted p + sum_count rest) * 2 ^ length gs ≤ 204 * sum_count ts * 2 ^ length gs =
    scaled (204 * (counted p + sum_count rest)) (204 * sum_count ts) (2 ^ length gs) (omega (arith, joining_counts ts c p rest less j)) in
    omega (arith, a, b, sizes_taken at us l, k)

pub fewer_lack : (gs : List ℕ) (bytes h k : ℕ) → h ≤ k → bytes < terms_room h (2 ^ length gs) → bytes < terms_room k (2 ^ length gs)
fewer_lack gs bytes h k l b = grind arith

-- the terms with one more that counts stand within the room of the sum
pub sum_lacks : (ts : Trees) (bytes m : ℕ) → bytes < terms_room (1 + sum_count ts) m → bytes < sum_room (sum_count ts) m
sum_lacks ts bytes m l = omega (arith, l)
