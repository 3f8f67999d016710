-- The next two Numbers that are added have few bits, where the terms of a sum have.
use Rattle.sum_reduce.proofs.Shared.{◌≡◌, ℕ, suc, ◌<◌, ◌++◌, [], ◌∷◌, List, false, ap, ◌∙◌, subst, arith, count_removed, is_number, value, part_of, HasFewBits, Tree, Trees, more, count}
use Rattle.sum_reduce.proofs.Shared.{coefficient_of, factors_of, IsPairAt, removed, HaveFewBits, IsJoining, is_loose, is_partner, addends_of_each, Addend, addend, addends, nth, term_addends}
use Rattle.sum_reduce.proofs.{Shared.{nth_behind_removed, taken_permuted, none_permuted}, Held.{held_behind, held_equal, held_permuted, few_after, few_of_both}, Joins.{partners, tight_other}}
use Rattle.sum_reduce.proofs.Stages.{formed_permuted}

pub next_partner_few : (ts : Trees) (c : Tree) (us : Trees) (at less : ℕ) → IsJoining ts c (nth at us) (removed at us) less → IsPairAt is_partner at us → HaveFewBits (addends_of_each ts)
    → HasFewBits (value c ++ value (coefficient_of (nth (suc at) us)))
next_partner_few ts c us at less j h b =
    let next : nth at (removed at us) ≡ nth (suc at) us = nth_behind_removed at at us (omega arith) in
    let w = h.within in
    let few : at < count (removed at us) = omega (arith, count_removed at us (omega (arith, w)), w) in
    let perm = taken_permuted at (removed at us) few in
    let u = nth at (removed at us) in
    let n : is_number u ≡ false = ap is_number next ∙ (partners (nth at us) (nth (suc at) us) h.pair).second in
    let s : is_loose u ≡ false = (none_permuted is_loose perm j.no_sum).0 in
    let own : addends u ≡ addend (value (coefficient_of u)) (factors_of (part_of u)) ∷ [] = term_addends u (formed_permuted perm j.formed).0 n (tight_other u s n) in
    let x : Addend = addend (value c) (factors_of (nth at us)) in
    let all : HaveFewBits (x ∷ addends_of_each (more u (removed at (removed at us)))) = few_after (held_behind (x ∷ []) (held_permuted perm)) (few_after j.held b) in
    subst (λ (t : Tree). HasFewBits (value c ++ value (coefficient_of t))) next
    (few_of_both (few_after (held_equal (ap (λ (y : List Addend). x ∷ (y ++ addends_of_each (removed at (removed at us)))) own)) all))
