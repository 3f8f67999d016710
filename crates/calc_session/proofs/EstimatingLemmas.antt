-- Lemmas on decimals and signs of trees.
use Rattle.std.proofs.Common.{◌≡◌, ◌↔◌, ℕ, List, Option, None, Result, Err, Bool, true, false, ◌⊎◌, inl, inr, sym, ap, subst, refl}
use Rattle.std.specs.Prelude.{IsSome}
use Rattle.calc_session.proofs.Shared.{Refusal, Evaluation, Face, Found, Refused, Undefined, Tree, IsReduction, IsReplyToTree, IsReplyWith, Reply, State, report}
use Rattle.calc_session.proofs.Shared.{has_no_value, holds_its_name, is_answered, is_made, is_not_made, is_shown, is_stored, lacks_bytes, refused, reported, IsWritable, Forest, ComesTo, reply_of, reason_of}
use Rattle.breakers.specs.State.{State as Breaker}
use Rattle.calc_session.specs.{Estimating.{IsReplyOnNumber, is_no_number, is_not_reduced}, Lacking.{IsReducedToNone, LacksNumber}, Replies.{no_decimal}}
use Rattle.calc_session.specs.Estimating as estimating
use Rattle.calc_session.specs.Evaluations.{is_interrupted, does_not_fit}
use Rattle.calc_session.specs.declared.answers.Refusal.TheVariants as refusal

-- ---- a line that is no command tells no report

is_report : Reply → Bool
is_report (report told) = true
is_report _ = false

no_report_with : (answer : Tree) (store : Option (List ℕ)) (r : Reply) → IsReplyWith answer store r → is_report r ≡ false
unfolding is_report
no_report_with answer store r (has_no_value h) = refl
no_report_with answer store r (holds_its_name h m) = refl
no_report_with answer store r (is_shown h) = refl
no_report_with answer store r (is_stored h m) = refl

no_report_reduced : (room bits : Option (Tree → ℕ)) (free : ℕ) (t : Tree) (before after : List Breaker) (store : Option (List ℕ)) (r : Reply) → IsReduction room bits free t before after store r → is_report r ≡ false
unfolding is_report
no_report_reduced room bits free t before after store r (is_interrupted h) = refl
no_report_reduced room bits free t before after store r (does_not_fit o h) = refl
no_report_reduced room bits free t before after store r (lacks_bytes h) = refl
no_report_reduced room bits free t before after store r (is_answered {answer = answer} c a h) = no_report_with answer store r h

no_report_made : (room bits : Option (Tree → ℕ)) (s : State) (before after : List Breaker) (store : Option (List ℕ)) (t : Tree) (r : Reply) → IsReplyToTree room bits s before after store t r → is_report r ≡ false
unfolding is_report
no_report_made room bits s before after store t r (is_not_made u e) = refl
no_report_made room bits s before after store t r (is_made {t = u} e h) = no_report_reduced room bits _ u before after store r h

pub no_report : (room bits : Option (Tree → ℕ)) (s : State) (before after : List Breaker) (store : Option (List ℕ)) (t : Tree) (told : List ℕ) → IsReplyToTree room bits s before after store t (report told) → ⊥
unfolding is_report
no_report room bits s before after store t told h = let e : true ≡ false = no_report_made room bits s before after store t (report told) h in cc

-- ---- interruptions

evaluations_are : (A : Type 0) (a b : Evaluation) → (let m : Result A Evaluation = Err a in m) ≡ Err b → a ≡ b
evaluations_are A a b e = cc

refusals_are : (r s : Refusal) → Refused r ≡ Refused s → r ≡ s
refusals_are r s e = cc

errors_are : (A : Type 0) (r s : Refusal) → (let m : Result A Refusal = Err r in m) ≡ Err s → r ≡ s
errors_are A r s e = cc

-- a refusal is passed on as an evaluation
pub refusal_passed : (A : Type 0) (r : Refusal) (P : ℕ → Type 0) → ((place : ℕ) → ((let m : Result A Refusal = Err r in m) ≡ Err (refusal.Interrupted place)) ↔ P place)
    → (place : ℕ) → ((let m : Result A Evaluation = Err (Refused r) in m) ≡ Err (Refused (refusal.Interrupted place))) ↔ P place
refusal_passed A r P h place = (λ e. (h place).0 (ap Err (refusals_are r (refusal.Interrupted place) (evaluations_are A (Refused r) (Refused (refusal.Interrupted place)) e))), λ p. ap (λ x. Err (Refused x)) (errors_are A r (refusal.Interrupted place) ((h place).1 p)))

-- an evaluation that is told why there is no Number
pub evaluation_passed : (A : Type 0) (e : Evaluation) (P : ℕ → Type 0) → ((place : ℕ) → ((let m : Result A Evaluation = Err e in m) ≡ Err (Refused (refusal.Interrupted place))) ↔ P place)
    → (place : ℕ) → (e ≡ Refused (refusal.Interrupted place)) ↔ P place
evaluation_passed A e P h place = (λ k. (h place).0 (ap Err k), λ p. evaluations_are A e (Refused (refusal.Interrupted place)) ((h place).1 p))

-- ---- what is left open

pub no_rational : (A : Type 0) (b : Bool) → (b ≡ true → IsSome (let n : Option A = None in n)) → b ≡ false
no_rational A true h = let e = h refl in cc
no_rational A false h = refl

-- ---- trees without a Number

module _ (Told : Tree → List ℕ → Type 0) (Open : Tree → Type 0) (room bits : Option (Tree → ℕ)) (free : ℕ) (t : Tree) (before after : List Breaker) where
  refused_reply : (r : Refusal) → IsReduction room bits free t before after None (reply_of r) ⊎ ((reason_of r ≡ no_decimal) × IsReducedToNone free t before after) → IsReplyOnNumber Told Open room bits free before after t (reply_of r)
  refused_reply r (inl h) = is_not_reduced h
  refused_reply r (inr (e, h)) = subst (λ x. IsReplyOnNumber Told Open room bits free before after t (refused x)) (sym e) (is_no_number h.reduced h.defined h.no_number)

  pub comes_to_none : (others new : Forest) (e : Evaluation) → LacksNumber room bits free t before after e → ComesTo (λ r. IsReplyOnNumber Told Open room bits free before after t (reported r)) IsWritable None others new e
  comes_to_none others new (Face h) l = absurd l
  comes_to_none others new Undefined (answer, reduced, undef) = estimating.has_no_value reduced undef
  comes_to_none others new (Found f) l = absurd l
  comes_to_none others new (Refused r) l = refused_reply r l
