-- From opened terms to terms in order.
use Rattle.sum_reduce.proofs.Shared.{Err, ℕ, ◌≤◌, ◌≡◌, true, refl, sym, ap, ◌∙◌, subst, arith, PlainValue, plain_value, NoneIs, num, add, Trees, none, more, append, count, are_rationals, NumberFault}
use Rattle.sum_reduce.proofs.{Shared.{IsPairAt, IsFolded, AnswersFold, IsLead, IsArranged, IsStage, AreFormed, opened, is_loose, is_partner}, Stages.{stage_opened}}

pub opened_stage : (ts us : Trees) → AreFormed ts → 1 ≤ count ts → us ≡ opened ts → IsStage ts us
opened_stage ts us f l e = subst (IsStage ts) (sym e) (stage_opened ts f l)

-- rationals are as before
opened_rationals : (ts : Trees) → are_rationals ts ≡ true → opened ts ≡ ts
opened_rationals none h = refl
opened_rationals (more (num q) ts) h = ap (more (num q)) (opened_rationals ts h)
opened_rationals (more _ ts) h = cc

pub rationals_opened : (ts us : Trees) → are_rationals ts ≡ true → us ≡ opened ts → us ≡ ts
rationals_opened ts us q e = e ∙ opened_rationals ts q

faulted_as : (v : PlainValue) (us vs : Trees) (f : NumberFault) → AnswersFold v us (Err f) → AnswersFold v vs (Err f)
faulted_as v us vs f h = grind arith

pub rationals_faulted : (ts us vs ws : Trees) (f : NumberFault) → are_rationals ts ≡ true → us ≡ opened ts → (are_rationals us ≡ true → AnswersFold (plain_value (add us)) vs (Err f))
    → AnswersFold (plain_value (add ts)) ws (Err f)
rationals_faulted ts us vs ws f q e h =
    let same = rationals_opened ts us q e in
    faulted_as (plain_value (add ts)) vs ws f (subst (λ (x : Trees). AnswersFold (plain_value (add x)) vs (Err f)) same (h (ap are_rationals same ∙ q)))

pub rationals_ordered : (ts us vs ws : Trees) → are_rationals ts ≡ true → us ≡ opened ts → (are_rationals us ≡ true → IsFolded (plain_value (add us)) vs) → (count vs ≡ 1 → ws ≡ vs)
    → IsFolded (plain_value (add ts)) ws
rationals_ordered ts us vs ws q e h k =
    let same = rationals_opened ts us q e in
    let f = h (ap are_rationals same ∙ q) in
    record { q = f.q; plain = sym (ap (λ (x : Trees). plain_value (add x)) same) ∙ f.plain; is = k (ap count f.is) ∙ f.is }

-- one rational has no partner
pub folded_alone : (v : PlainValue) (ts : Trees) (at : ℕ) → IsFolded v ts → IsPairAt is_partner at ts → ⊥
folded_alone v ts at f h = absurd (let w = h.within in let e : count ts ≡ 1 = ap count f.is in omega (arith, w, e))

-- nothing among terms in order is a sum to be opened
none_lead : (lead os : Trees) → IsLead lead → NoneIs is_loose os → NoneIs is_loose (append lead os)
none_lead lead os h s = grind arith

pub arranged_flat : (ts : Trees) → IsArranged ts → NoneIs is_loose ts
arranged_flat ts a = subst (NoneIs is_loose) (sym a.split) (none_lead a.lead a.others a.one a.no_sum)
