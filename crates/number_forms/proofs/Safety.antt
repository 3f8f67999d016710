-- What calls leave that build trees: answers, refusals that `?` passes on, and calls after others.
use Rattle.number_forms.proofs.Shared.{ℕ, ◌≡◌, [], ◌∷◌, List, Result, Ok, Err, forest, front_after, front_after_one, front_at, front_same, passed_on, passed_result}
use Rattle.number_forms.proofs.Shared.{Full, IfErr, IsErr, IsRefused, KeepsFront, KeepsRefusals, NumberFault, OfFull, OfOverflow, OnOk, Overflow, Stands, State, IsSafe, IsSafePlacing}
use Rattle.number_forms.proofs.{Refusals.{faults_after, keeps_on}, Rooms.{refusal_as}}
use Rattle.std.specs.Prelude.{IsErrAnd}
use Rattle.tree_handles.proofs.{Fronts.{IsBehind}, Refused.{refuses_after}}
use Rattle.tree_handles.specs.{Causes.{Overflows}, Standing.{LacksBytes, Refuses}}
use Rattle.tree_handles.specs.declared.fault.NumberFault.TheVariants as fault
pub use Rattle.number_forms.proofs.Refusals.{none_given as no_answer}

-- ---- an answer

pub answered : {A : Type 0} {handed : List ℕ} {old new : State} {x : A} → KeepsFront handed (forest old) (forest new) → KeepsRefusals old new → Stands new → IsSafe handed old new (Ok x)
answered f k s = record { front = f; kept = k; faults = tt; caused = tt; stands = s }

pub placed : {A : Type 0} {handed : List ℕ} {old new : State} {x : A} → KeepsFront handed (forest old) (forest new) → KeepsRefusals old new → Stands new → IsSafePlacing handed old new (Ok x)
placed f k s = record { front = f; kept = k; full = tt; caused = tt; stands = s }

-- an answer where bytes alone could lack
pub answer_of : {A B : Type 0} {handed : List ℕ} {old new : State} {x : A} {y : B} → IsSafePlacing handed old new (Ok x) → IsSafe handed old new (Ok y)
answer_of s = record { front = s.front; kept = s.kept; faults = tt; caused = tt; stands = s.stands }

-- ---- a refusal, passed on

pub passed : {A B : Type 0} {handed : List ℕ} {old new : State} (r : Result B NumberFault) (e : NumberFault) → IsErr r → IsErrAnd r (λ x. x ≡ e) → IsSafe {A = A} handed old new (Err e) → IsSafe handed old new r
passed {handed = handed} {old = old} {new = new} r e h a s =
    passed_result r e (λ x. IsSafe handed old new x) h a (record { front = s.front; kept = tt; faults = s.faults; caused = s.caused; stands = s.stands })

-- by the clauses of a call for which bytes are lacking
pub lacked : {B : Type 0} {handed : List ℕ} {old new : State} (r : Result B Full) (e : Full) → IsErr r → IsErrAnd r (λ x. x ≡ e) → KeepsFront handed (forest old) (forest new) → Refuses old new e → LacksBytes new e
    → Stands new → IsSafePlacing handed old new r
lacked {handed = handed} {old = old} {new = new} r e h a f u l s = passed_result r e (λ x. IsSafePlacing handed old new x) h a (record { front = f; kept = tt; full = u; caused = l; stands = s })

pub passed_placing : {A B : Type 0} {handed : List ℕ} {old new : State} (r : Result B Full) (e : Full) → IsErr r → IsErrAnd r (λ x. x ≡ e) → IsSafePlacing {A = A} handed old new (Err e)
    → IsSafePlacing handed old new r
passed_placing r e h a s = lacked r e h a s.front s.full s.caused s.stands

pub passed_full : {A B : Type 0} {handed : List ℕ} {old new : State} (r : Result B NumberFault) (e : Full) → IsErr r → IsErrAnd r (λ x. x ≡ fault.Full e) → IsSafePlacing {A = A} handed old new (Err e)
    → IsSafe handed old new r
passed_full {handed = handed} {old = old} {new = new} r e h a s =
    passed_result r (fault.Full e) (λ x. IsSafe handed old new x) h a (record { front = s.front; kept = tt; faults = s.full; caused = s.caused; stands = s.stands })

pub refused_placing : {B : Type 0} {handed : List ℕ} {old new : State} {n : ℕ} (r : Result B Full) (e : Full) → IsErr r → IsErrAnd r (λ x. x ≡ e) → IsRefused n old new e → Stands new
    → IsSafePlacing handed old new r
refused_placing r e h a f s = lacked r e h a (front_at front_same f.same) f.refuses f.lacks s

pub refused : {B : Type 0} {handed : List ℕ} {old new : State} {n : ℕ} (r : Result B NumberFault) (e : Full) → IsErr r → IsErrAnd r (λ x. x ≡ fault.Full e) → IsRefused n old new e → Stands new
    → IsSafe handed old new r
refused {handed = handed} {old = old} {new = new} r e h a f s =
    passed_result r (fault.Full e) (λ x. IsSafe handed old new x) h a (record { front = front_at front_same f.same; kept = tt; faults = f.refuses; caused = f.lacks; stands = s })

pub overflowed : {B : Type 0} {handed : List ℕ} {old new : State} (r : Result B NumberFault) (o : Overflow) → IsErr r → IsErrAnd r (λ x. x ≡ fault.Overflow o) → Overflows o
    → KeepsFront handed (forest old) (forest new) → KeepsRefusals old new → Stands new → IsSafe handed old new r
overflowed {handed = handed} {old = old} {new = new} r o h a u f k s = passed_result r (fault.Overflow o) (λ x. IsSafe handed old new x) h a (record { front = f; kept = tt; faults = k; caused = u; stands = s })

-- a call that places one node
pub one_placed : {A : Type 0} {handed : List ℕ} {old new : State} (n : ℕ) (r : Result A Full) → OnOk r (KeepsRefusals old new) → IfErr r (IsRefused n old new) → KeepsFront handed (forest old) (forest new) → Stands new
    → IsSafePlacing handed old new r
one_placed n r k h f s = record { front = f; kept = k; full = refusal_as r h (λ e x. x.refuses); caused = refusal_as r h (λ e x. x.lacks); stands = s }

-- a lack of bytes is no operation that does not fit, and the other way round
pub fits_full : {A : Type 0} (r : Result A NumberFault) (e : Full) (P : Overflow → Type 0) → IsErr r → IsErrAnd r (λ x. x ≡ fault.Full e) → IfErr r (OfOverflow P)
fits_full r e P h a = passed_on r (fault.Full e) (OfOverflow P) h a tt

pub room_overflow : {A : Type 0} (r : Result A NumberFault) (o : Overflow) (P : Full → Type 0) → IsErr r → IsErrAnd r (λ x. x ≡ fault.Overflow o) → IfErr r (OfFull P)
room_overflow r o P h a = passed_on r (fault.Overflow o) (OfFull P) h a tt

-- ---- after calls before

-- what stays first is told anew
pub then_safe : {A : Type 0} {handed given : List ℕ} {old mid new : State} {r : Result A NumberFault} → KeepsRefusals old mid → KeepsFront handed (forest old) (forest new) → IsSafe given mid new r
    → IsSafe handed old new r
then_safe {new = new} {r = r} k f s = record { front = f; kept = keeps_on new r k s.kept; faults = refusal_as r s.faults (λ e x. faults_after new e k x); caused = s.caused; stands = s.stands }

pub then_placing : {A : Type 0} {handed given : List ℕ} {old mid new : State} {r : Result A Full} → KeepsRefusals old mid → KeepsFront handed (forest old) (forest new) → IsSafePlacing given mid new r
    → IsSafePlacing handed old new r
then_placing {new = new} {r = r} k f s = record { front = f; kept = keeps_on new r k s.kept; full = refusal_as r s.full (λ e x. refuses_after k x); caused = s.caused; stands = s.stands }

-- the call is handed no tree
pub after : {A : Type 0} {handed : List ℕ} {old mid new : State} {r : Result A NumberFault} → KeepsRefusals old mid → KeepsFront handed (forest old) (forest mid) → IsSafe [] mid new r → IsSafe handed old new r
after k f s = then_safe k (front_after f s.front) s

pub after_placing : {A : Type 0} {handed : List ℕ} {old mid new : State} {r : Result A Full} → KeepsRefusals old mid → KeepsFront handed (forest old) (forest mid) → IsSafePlacing [] mid new r
    → IsSafePlacing handed old new r
after_placing k f s = then_placing k (front_after f s.front) s

-- the call is handed one tree, with which nothing of the front goes
pub after_one : {A : Type 0} {handed : List ℕ} {i : ℕ} {old mid new : State} {r : Result A NumberFault} → KeepsRefusals old mid → IsBehind i handed (forest old)
    → KeepsFront handed (forest old) (forest mid) → IsSafe (i ∷ []) mid new r → IsSafe handed old new r
after_one k b f s = then_safe k (front_after_one b f s.front) s

-- whatever else is handed
pub beside_all : {A : Type 0} {handed : List ℕ} {old new : State} {r : Result A NumberFault} → IsSafe [] old new r → IsSafe handed old new r
beside_all s = record { front = front_after front_same s.front; kept = s.kept; faults = s.faults; caused = s.caused; stands = s.stands }

pub beside_all_placing : {A : Type 0} {handed : List ℕ} {old new : State} {r : Result A Full} → IsSafePlacing [] old new r → IsSafePlacing handed old new r
beside_all_placing s = record { front = front_after front_same s.front; kept = s.kept; full = s.full; caused = s.caused; stands = s.stands }
