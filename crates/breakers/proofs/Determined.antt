-- Where each breaker tells its plan, a check has one outcome.
use Rattle.breakers.proofs.Shared.{◌≡◌, ◌≢◌, ℕ, zero, suc, ◌+◌, List, [], ◌∷◌, Bool, true, false, Option, Some, None, refl, sym, ap, ◌∙◌, subst, inl, inr, if◌then◌else◌, cases_lt, All-from_recursion}
use Rattle.breakers.proofs.Shared.{recursion_from_All, AllByRecursion, State, Polls, StepsPlan, largest_count, Check, TellsPlan, ToldChecksHaveOneOutcome, Plan, Untold, Idle, After}

State-same : (b c : State) → b.polls ≡ c.polls → b.trips ≡ c.trips → b.plan ≡ c.plan
    → b.can_be_armed ≡ c.can_be_armed → b ≡ c
State-same b c p t q a = λ i. record { polls = p i; trips = t i; plan = q i; can_be_armed = a i }

-- a plan that is told has one next plan, which is told too, and one answer
told-step : (plan p q : Plan) (s t : Bool) → plan ≢ Untold → StepsPlan plan p s → StepsPlan plan q t
    → (q ≡ p) × (t ≡ s) × (p ≢ Untold)
told-step Untold p q s t told h k = absurd (told refl)
told-step Idle p q s t told h k = (cc, cc, λ u. cc)
told-step (After zero) p q s t told h k = (cc, cc, λ u. cc)
told-step (After (suc n)) p q s t told h k = (cc, cc, λ u. cc)

-- a breaker that tells its plan has one state after a poll, in which it tells its plan too, and one answer
told-poll : (b c d : State) (s t : Bool) → TellsPlan b → Polls b c s → Polls b d t → (d ≡ c) × (t ≡ s) × TellsPlan c
told-poll b c d s t told p q =
    let plans : (d.plan ≡ c.plan) × (t ≡ s) × TellsPlan c = elim (cases_lt b.trips largest_count) [
      | inl below ↦ told-step b.plan c.plan d.plan s t told (p.plan_steps below) (q.plan_steps below)
      | inr end ↦ let (h, k) = p.last_trip_is_the_end end in let (m, n) = q.last_trip_is_the_end end in (m ∙ sym h, n ∙ sym k, λ u. told (sym h ∙ u))
    ] in (
      State-same d c (q.polls_count_on ∙ sym p.polls_count_on)
          (q.trips_rise_with_the_answer ∙ ap (λ u. if u then b.trips + 1 else b.trips) plans.1 ∙ sym p.trips_rise_with_the_answer)
          plans.0 (q.arms_as_before ∙ sym p.arms_as_before),
      plans.1,
      plans.2,
    )

told-check : (old new other : List State) (out out' : Option ℕ) → AllByRecursion TellsPlan old
    → Check old new out → Check old other out' → (other ≡ new) × (out' ≡ out) × AllByRecursion TellsPlan new
told-check [] [] [] None None told p q = (refl, refl, tt)
told-check [] [] [] None (Some _) told p q = absurd q
told-check [] [] [] (Some _) out' told p q = absurd p
told-check [] [] (d ∷ ds) out out' told p q = absurd q
told-check [] (c ∷ cs) other out out' told p q = absurd p
told-check (b ∷ bs) [] other out out' told p q = absurd p
told-check (b ∷ bs) (c ∷ cs) [] out out' told p q = absurd q
told-check (b ∷ bs) (c ∷ cs) (d ∷ ds) None None told p q =
    let (here, same, still) = told-poll b c d false false told.0 p.0 q.0 in
    let (rest, out, all) = told-check bs cs ds None None told.1 p.1 q.1 in
    (cc, refl, (still, all))
told-check (b ∷ bs) (c ∷ cs) (d ∷ ds) None (Some zero) told p q =
    let (here, same, still) = told-poll b c d false true told.0 p.0 q.0 in absurd cc
told-check (b ∷ bs) (c ∷ cs) (d ∷ ds) None (Some (suc m)) told p q =
    let (rest, out, all) = told-check bs cs ds None (Some m) told.1 p.1 q.1 in absurd cc
told-check (b ∷ bs) (c ∷ cs) (d ∷ ds) (Some zero) None told p q =
    let (here, same, still) = told-poll b c d true false told.0 p.0 q.0 in absurd cc
told-check (b ∷ bs) (c ∷ cs) (d ∷ ds) (Some zero) (Some zero) told p q =
    let (here, same, still) = told-poll b c d true true told.0 p.0 q.0 in
    let rest : ds ≡ cs = q.1 ∙ sym p.1 in
    (cc, refl, (still, subst (λ s. AllByRecursion TellsPlan s) (sym p.1) told.1))
told-check (b ∷ bs) (c ∷ cs) (d ∷ ds) (Some zero) (Some (suc m)) told p q =
    let (here, same, still) = told-poll b c d true false told.0 p.0 q.0 in absurd cc
told-check (b ∷ bs) (c ∷ cs) (d ∷ ds) (Some (suc n)) None told p q =
    let (rest, out, all) = told-check bs cs ds (Some n) None told.1 p.1 q.1 in absurd cc
told-check (b ∷ bs) (c ∷ cs) (d ∷ ds) (Some (suc n)) (Some zero) told p q =
    let (here, same, still) = told-poll b c d false true told.0 p.0 q.0 in absurd cc
told-check (b ∷ bs) (c ∷ cs) (d ∷ ds) (Some (suc n)) (Some (suc m)) told p q =
    let (here, same, still) = told-poll b c d false false told.0 p.0 q.0 in
    let (rest, out, all) = told-check bs cs ds (Some n) (Some m) told.1 p.1 q.1 in
    (cc, cc, (still, all))

pub told_checks_have_one_outcome : ToldChecksHaveOneOutcome
told_checks_have_one_outcome old new other out out' told p q =
    let (rest, same, all) = told-check old new other out out' (recursion_from_All TellsPlan old told) p q in
    (rest, same, All-from_recursion TellsPlan new all)
