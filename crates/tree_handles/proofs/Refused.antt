-- What a call is refused for, after calls that were not, and in other words.
use Rattle.tree_handles.proofs.Shared.{arith, ℕ, ◌+◌, Result, refl, ap, ◌∙◌, ◌-◌, ◌^◌, min, IfErr, Full, State, KeepsRefusals, Refuses, OfOverflow, NumberFault, Overflow}

pub overflow_as : {P Q : Overflow → Type 0} (e : NumberFault) → OfOverflow P e → ((o : Overflow) → P o → Q o) → OfOverflow Q e
overflow_as e p k = grind arith

pub refused_as : {A : Type 0} {P Q : Overflow → Type 0} (r : Result A NumberFault) → IfErr r (OfOverflow P) → ((o : Overflow) → P o → Q o) → IfErr r (OfOverflow Q)
refused_as r p k = grind arith

pub kept_same : (s : State) → KeepsRefusals s s
kept_same s = record { size = refl; refusals = refl; last_refused = refl }

pub kept_after : {a b x : State} → KeepsRefusals a b → KeepsRefusals b x → KeepsRefusals a x
kept_after h k = record { size = k.size ∙ h.size; refusals = k.refusals ∙ h.refusals; last_refused = k.last_refused ∙ h.last_refused }

-- ---- refusals

pub refuses_after : {a b x : State} {full : Full} → KeepsRefusals a b → Refuses b x full → Refuses a x full
refuses_after k r = record { size = r.size ∙ k.size; refusals = r.refusals ∙ ap (λ (n : ℕ). min (n + 1) (2 ^ 64 - 1)) k.refusals; last_refused = r.last_refused }
