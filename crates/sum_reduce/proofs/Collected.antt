-- What is answered for terms no two of which have identical parts.
use Rattle.sum_reduce.proofs.Shared.{IsPermutation, ◌≤◌, ◌≡◌, length, true, inl, inr, refl, sym, ap, ◌∙◌, subst, arith, append-nil, append_none, no_numbers_others, no_numbers_none, zero_fraction}
use Rattle.sum_reduce.proofs.Shared.{is_number, value, terms_of, NoneIs, Same, Tree, num, add, Trees, none, more, append, count, number_test, number_words, AsNumber, as_number, list_of, IsLead}
use Rattle.sum_reduce.proofs.Shared.{IsSettled, numbers_in, others_in, sum_of_values, AreUnlike, IsTotalNumber, IsWrittenSum, IsStage, IsCollected, opened, terms_of_number, sum_tree, written_tree}
use Rattle.sum_reduce.proofs.{Orders.{arranged_flat}, Rearranged.{tight_opened}, WrittenSums.{zero_terms, term_in, zero_value}}

-- ---- a Number alone

two_tree : (ts : Trees) → 2 ≤ length (terms_of ts) → sum_tree ts ≡ add ts
two_tree ts h = grind arith

number_alone : (m : Tree) → is_number m ≡ true → m ≡ sum_tree (append (terms_of_number m) none)
number_alone m h = by (as_number m (number_words m h))
  where
    by : AsNumber m → m ≡ sum_tree (append (terms_of_number m) none)
    by (inl z) = z.is ∙ sym (ap (λ (x : Trees). sum_tree (append x none)) (zero_terms m z.is))
    by (inr (inl s)) = sym (ap (λ (x : Trees). sum_tree (append x none)) (term_in m s.one))
    by (inr (inr s)) =
        s.is ∙ sym (two_tree s.ts s.two) ∙ sym (ap sum_tree (append_none s.ts)) ∙ sym (ap (λ (x : Tree). sum_tree (append (terms_of_number x) none)) s.is)

-- ---- a Number or none before other terms

pub lead_number : Trees → Tree
lead_number none = num zero_fraction
lead_number (more m ts) = m

written_led : (lead os : Trees) → IsLead lead → NoneIs is_number os → written_tree (append lead os) ≡ sum_tree (append (terms_of_number (lead_number lead)) os)
unfolding lead_number
written_led lead os l n = grind (arith, zero_terms, number_alone)

-- the Numbers among them, and the others
lead_numbers : (lead os : Trees) → IsLead lead → NoneIs is_number os → numbers_in (append lead os) ≡ lead
lead_numbers lead os l n = grind (arith, no_numbers_none)

lead_others : (lead os : Trees) → IsLead lead → NoneIs is_number os → others_in (append lead os) ≡ os
lead_others lead os l n = grind (arith, no_numbers_others)

lead_worth : (lead : Trees) → IsLead lead → value (lead_number lead) ≡ sum_of_values lead
unfolding lead_number
lead_worth none l = zero_value
lead_worth (more m none) l = sym (append-nil (value m))
lead_worth (more m (more k ks)) l = absurd l

lead_is : (lead : Trees) → IsLead lead → is_number (lead_number lead) ≡ true
unfolding lead_number
lead_is lead l = grind (arith, number_test)

total : (ts lead : Trees) → IsLead lead → Same (sum_of_values lead) (sum_of_values (numbers_in ts)) → (count (numbers_in ts) ≤ 1 → lead ≡ numbers_in ts) → IsTotalNumber (lead_number lead) ts
unfolding lead_number
total ts lead l w f = grind (arith, lead_is, lead_worth)

-- ---- settled terms

pub settled_written : (ts us : Trees) → IsStage ts us → IsSettled us → AreUnlike (others_in (opened ts)) → IsWrittenSum ts (written_tree us)
settled_written ts us s h u =
    let a = h.arranged in
    let r = s.rearranged u in
    let flat : opened us ≡ us = tight_opened us (arranged_flat us a) in
    let numbers : numbers_in (opened us) ≡ a.lead = ap numbers_in (flat ∙ a.split) ∙ lead_numbers a.lead a.others a.one a.no_number in
    let others : others_in (opened us) ≡ a.others = ap others_in (flat ∙ a.split) ∙ lead_others a.lead a.others a.one a.no_number in
    record {
      number = lead_number a.lead;
      total = total (opened ts) a.lead a.one (subst (λ (x : Trees). Same (sum_of_values x) (sum_of_values (numbers_in (opened ts)))) numbers r.worth) (λ l. sym numbers ∙ r.few l);
      written = record {
        us = a.others;
        sorted = record {
          front = refl;
          moved = subst (λ (x : Trees). IsPermutation (list_of (others_in (opened ts))) (list_of x)) others r.others;
          rising = a.rising;
        };
        is = ap written_tree a.split ∙ written_led a.lead a.others a.one a.no_number;
      };
    }

pub settled_collected : (ts us : Trees) → IsStage ts us → IsSettled us → IsCollected ts (written_tree us)
settled_collected ts us s h = record { us = us; collects = s.collects; settled = h; is = refl }
