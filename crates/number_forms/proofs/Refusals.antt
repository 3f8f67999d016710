-- What a refused call leaves to say, after calls that were not refused.
use Rattle.number_forms.proofs.Shared.{ℕ, Result, Ok, Err, OnOk, IfOk, IfErr, IsErr, State, Full, KeepsRefusals, IsRefused, NumberFault, kept_after}
use Rattle.tree_handles.proofs.Refused.{refuses_after}
use Rattle.tree_handles.specs.{Faults.{Faults}, Standing.{LacksBytes, Refuses}}
use Rattle.tree_handles.specs.declared.fault.NumberFault.TheVariants as fault
use Rattle.std.proofs.lemmas.Bool.{false≢true}

-- ---- of a refusal nothing is said that is said of a value

pub none_given : {A E : Type 0} (r : Result A E) (P : A → Type 0) → IsErr r → IfOk r P
none_given (Ok x) P e = absurd (false≢true e)
none_given (Err y) P e = tt

pub none_kept : {A E : Type 0} (r : Result A E) (P : Type 0) → IsErr r → OnOk r P
none_kept (Ok x) P e = absurd (false≢true e)
none_kept (Err y) P e = tt

-- ---- after calls that kept the count of refusals

pub keeps_on : {A E : Type 0} {a b : State} (x : State) (r : Result A E) → KeepsRefusals a b → OnOk r (KeepsRefusals b x) → OnOk r (KeepsRefusals a x)
keeps_on x (Ok y) k h = kept_after k h
keeps_on x (Err e) k h = tt

pub refuses_on : {A : Type 0} {a b : State} (x : State) (n : ℕ) (r : Result A Full) → KeepsRefusals a b → IfErr r (IsRefused n b x) → IfErr r (Refuses a x)
refuses_on x n (Ok y) k h = tt
refuses_on x n (Err e) k h = refuses_after k h.refuses

pub lacks_in : {A : Type 0} (b x : State) (n : ℕ) (r : Result A Full) → IfErr r (IsRefused n b x) → IfErr r (LacksBytes x)
lacks_in b x n (Ok y) h = tt
lacks_in b x n (Err e) h = h.lacks

pub faults_after : {a b : State} (x : State) (e : NumberFault) → KeepsRefusals a b → Faults b x e → Faults a x e
faults_after x (fault.Full full) k h = refuses_after k h
faults_after x (fault.Overflow o) k h = kept_after k h
