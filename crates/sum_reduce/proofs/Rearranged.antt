-- The terms of a sum that change places, are opened or added, with their Numbers and the others.
use Rattle.sum_reduce.proofs.Shared.{IsPermutation, ◌≡◌, ◌≤◌, ◌++◌, [], true, refl, sym, ap, ◌∙◌, subst, arith, append_assoc, IsPermutation-refl, IsPermutation-trans, is_number, value, NoneIs, Same}
use Rattle.sum_reduce.proofs.Shared.{Tree, Trees, none, more, append, count, Permuted, Permuted-refl, Permuted-sym, permuted_none, permuted_more, permuted_swap, permuted_trans, Permuted-append_right}
use Rattle.sum_reduce.proofs.Shared.{Permuted-to_front, Same-Agree, Agree, Agree-refl, Agree-trans, Agree-eq, Agree-Same, Agree-append, append_comm, tree_cmp_total, list_of, number_in, number_out}
use Rattle.sum_reduce.proofs.Shared.{numbers_in, others_in, sum_of_values, AreUnlike, IsRearranged, is_loose, is_partner, terms_of_loose, opened, count_permuted, none_permuted, of_lists, to_lists}
use Rattle.sum_reduce.proofs.Opened.{tight_terms, number_tight}

-- ---- opened

blocks : (ts us vs : Trees) → Permuted (append ts (append us vs)) (append us (append ts vs))
blocks none us vs = Permuted-refl (append us vs)
blocks (more t ts) us vs = permuted_trans (permuted_more (blocks ts us vs)) (Permuted-sym (Permuted-to_front us t (append ts vs)))

pub opened_permuted : {ts us : Trees} → Permuted ts us → Permuted (opened ts) (opened us)
opened_permuted permuted_none = permuted_none
opened_permuted (permuted_more {t} k) = Permuted-append_right (terms_of_loose t) (opened_permuted k)
opened_permuted (permuted_swap {t} {u} {ts}) = blocks (terms_of_loose t) (terms_of_loose u) (opened ts)
opened_permuted (permuted_trans k l) = permuted_trans (opened_permuted k) (opened_permuted l)

-- nothing is there to be opened
pub tight_opened : (ts : Trees) → NoneIs is_loose ts → opened ts ≡ ts
tight_opened none h = refl
tight_opened (more t ts) h = ap (λ (x : Trees). append x (opened ts)) (tight_terms t h.0) ∙ ap (more t) (tight_opened ts h.1)

pub number_opened : (t : Tree) (ts : Trees) → is_number t ≡ true → opened (more t ts) ≡ more t (opened ts)
number_opened t ts h = ap (λ (x : Trees). append x (opened ts)) (tight_terms t (number_tight t h))

-- ---- the Numbers and the others

pub numbers_permuted : {ts us : Trees} → Permuted ts us → Permuted (numbers_in ts) (numbers_in us)
numbers_permuted permuted_none = permuted_none
numbers_permuted (permuted_more k) = grind (arith, numbers_permuted k, permuted_more)
numbers_permuted permuted_swap = grind (arith, permuted_swap, Permuted-refl)
numbers_permuted (permuted_trans k l) = permuted_trans (numbers_permuted k) (numbers_permuted l)

pub others_permuted : {ts us : Trees} → Permuted ts us → Permuted (others_in ts) (others_in us)
others_permuted permuted_none = permuted_none
others_permuted (permuted_more k) = grind (arith, others_permuted k, permuted_more)
others_permuted permuted_swap = grind (arith, permuted_swap, Permuted-refl)
others_permuted (permuted_trans k l) = permuted_trans (others_permuted k) (others_permuted l)

-- ---- their values

values_agree : {ts us : Trees} → Permuted ts us → Agree (sum_of_values us) (sum_of_values ts)
values_agree permuted_none = Agree-refl []
values_agree (permuted_more {t} k) = Agree-append (Agree-refl (value t)) (values_agree k)
values_agree (permuted_swap {t} {u} {ts}) =
    let a = value t in
    let b = value u in
    let v = sum_of_values ts in
    Agree-trans (Agree-eq (sym (append_assoc b a v))) (Agree-trans (Agree-append (append_comm b a) (Agree-refl v)) (Agree-eq (append_assoc a b v)))
values_agree (permuted_trans k l) = Agree-trans (values_agree l) (values_agree k)

-- one at most stays
pub few_same : {ts us : Trees} → Permuted ts us → count ts ≤ 1 → us ≡ ts
few_same permuted_none h = refl
few_same (permuted_more {t} {ts} {us} k) h = ap (more t) (empty us (omega (arith, count_permuted k, h)) ∙ sym (empty ts (omega (arith, h))))
  where
    empty : (x : Trees) → count x ≡ 0 → x ≡ none
    empty none e = refl
    empty (more y x) e = absurd (omega (arith, e))
few_same permuted_swap h = absurd (omega (arith, h))
few_same (permuted_trans k l) h = let a = few_same k h in few_same l (omega (arith, h, ap count a)) ∙ a

-- ---- no two with identical parts

pub partner_turned : (t u : Tree) → is_partner t u ≡ is_partner u t
partner_turned t u = grind (arith, tree_cmp_total)

pub unlike_permuted : {ts us : Trees} → Permuted ts us → AreUnlike ts → AreUnlike us
unlike_permuted permuted_none h = tt
unlike_permuted (permuted_more {t} k) h = (none_permuted (is_partner t) k h.0, unlike_permuted k h.1)
unlike_permuted (permuted_swap {t} {u} {ts}) h = ((partner_turned u t ∙ h.0.0, h.1.0), (h.0.1, h.1.1))
unlike_permuted (permuted_trans k l) h = unlike_permuted l (unlike_permuted k h)

-- ---- rearranged

pub rearranged_permuted : {ts us : Trees} → Permuted ts us → IsRearranged ts us
rearranged_permuted k = grind (arith, opened_permuted, to_lists, others_permuted, Agree-Same, values_agree, numbers_permuted, few_same)

pub rearranged_opened : (ts us : Trees) → opened us ≡ opened ts → IsRearranged ts us
rearranged_opened ts us e = grind arith

pub rearranged_after : {ts us vs : Trees} → IsRearranged ts us → IsRearranged us vs → IsRearranged ts vs
rearranged_after a b = grind (arith, IsPermutation-trans, Agree-Same, Same-Agree)

pub unlike_after : {ts us : Trees} → IsRearranged ts us → AreUnlike (others_in (opened ts)) → AreUnlike (others_in (opened us))
unlike_after {ts = ts} {us = us} a h = unlike_permuted (of_lists (others_in (opened ts)) (others_in (opened us)) a.others) h

-- two Numbers become one
pub rearranged_added : (d n e : Tree) (ts : Trees) → is_number d ≡ true → is_number n ≡ true → is_number e ≡ true → Same (value e) (value d ++ value n) → IsRearranged (more d (more n ts)) (more e ts)
rearranged_added d n e ts hd hn he w =
    let old : opened (more d (more n ts)) ≡ more d (more n (opened ts)) = number_opened d (more n ts) hd ∙ ap (more d) (number_opened n ts hn) in
    let new : opened (more e ts) ≡ more e (opened ts) = number_opened e ts he in
    let numbers_old : numbers_in (opened (more d (more n ts))) ≡ more d (more n (numbers_in (opened ts))) =
    ap numbers_in old ∙ number_in d (more n (opened ts)) hd ∙ ap (more d) (number_in n (opened ts) hn) in
    let numbers_new : numbers_in (opened (more e ts)) ≡ more e (numbers_in (opened ts)) = ap numbers_in new ∙ number_in e (opened ts) he in
    let others_old : others_in (opened (more d (more n ts))) ≡ others_in (opened ts) = ap others_in old ∙ number_out d (more n (opened ts)) hd ∙ number_out n (opened ts) hn in
    let others_new : others_in (opened (more e ts)) ≡ others_in (opened ts) = ap others_in new ∙ number_out e (opened ts) he in
    let v = sum_of_values (numbers_in (opened ts)) in
    let agree : Agree (value e ++ v) (value d ++ (value n ++ v)) = Agree-trans (Agree-append (Same-Agree w) (Agree-refl v)) (Agree-eq (append_assoc (value d) (value n) v)) in
    record {
      others = subst (λ (x : Trees). IsPermutation (list_of x) (list_of (others_in (opened (more e ts))))) (sym others_old)
          (subst (λ (x : Trees). IsPermutation (list_of (others_in (opened ts))) (list_of x)) (sym others_new) (IsPermutation-refl _));
      worth = subst (λ (x : Trees). Same (sum_of_values x) (sum_of_values (numbers_in (opened (more d (more n ts)))))) (sym numbers_new)
          (subst (λ (x : Trees). Same (value e ++ v) (sum_of_values x)) (sym numbers_old) (Agree-Same agree));
      few = λ l. absurd (omega (arith, l, ap count numbers_old));
    }
