use Rattle.number_forms.proofs.Shared.{◌≡◌, inl, refl, sym, ap, ◌∙◌, rules, FitsSigned, ◌+◌, subst, ℕ, ◌*◌, ◌≤◌, arith, to_z, of_z, ℤ, nat_abs, w128, to_z-of_z, value, surd_power, Tree, Same-refl}
use Rattle.number_forms.proofs.Shared.{gives_without, tree_of, behind_first, front_same, front_at, front_without, front_after, front_end, given_other, gives_as, owned, given_told, SpansTree}
use Rattle.number_forms.proofs.Shared.{passed_on, overflow_as, last_tree, plain, Forest, IsNoLargerThanPower, OfOverflow, IsNumberOf, IsPowerOver, PowerOverflows, is_num, kept_after}
use Rattle.number_forms.proofs.{Rooms.{answer_spans, full_as, power_lacks, power_spans}, Over.{of_power, power_itself}}
use Rattle.number_forms.proofs.{RationalBits.{at_least_one, power_no_larger, if_power_no_larger, power_not_refused}, PowersWithin.{power_within}, TermTrees.{if_given}}
use Rattle.number_forms.proofs.Refusals.{none_given, none_kept}
use Rattle.number_forms.proofs.powers.power_number.Goals as goal

pub returns-then-is_rational-clause-room : goal.returns-then-is_rational-clause-room
returns-then-is_rational-clause-room c = λ gs s. c.power_rational.ensures.room gs

pub returns-then-is_rational-clause-spanned : goal.returns-then-is_rational-clause-spanned
returns-then-is_rational-clause-spanned c = λ gs s. answer_spans gs c.power_rational.result _ c.power_rational.new.pool c.power_rational.ensures.ok (λ u h. power_spans gs _ u _ c.requires.number (of_power h) s)

pub returns-then-n-eq1-clause-spanned : goal.returns-then-n-eq1-clause-spanned
returns-then-n-eq1-clause-spanned c = λ gs s. subst (λ (f : Forest). SpansTree gs (plain f)) (sym (last_tree c.move_last.ensures.last)) s

pub returns-in_ok-power-clause-spanned : goal.returns-in_ok-power-clause-spanned
returns-in_ok-power-clause-spanned c = λ gs s.
    let power = c.in_ok-power.ensures.ok in
    let left = gives_without c.args.a power c.requires.handed.root (c.release.ensures.owned (owned (given_other power c.requires.handed))) in
    power_spans gs _ _ c.unsigned_abs.result c.requires.number (of_power (given_told left)) s

pub release-requires-clause-releasable : goal.release-requires-clause-releasable
release-requires-clause-releasable c = inl (given_other c.in_ok-power.ensures.ok c.requires.handed).root

pub returns-in_ok-power-clause-ok : goal.returns-in_ok-power-clause-ok
returns-in_ok-power-clause-ok c =
    let power = c.in_ok-power.ensures.ok in let fits : FitsSigned w128 c.args.n = search rules in
    let many : c.unsigned_abs.result ≡ nat_abs c.args.n = c.unsigned_abs.ensures.value ∙ ap nat_abs (to_z-of_z w128 c.args.n fits) in
    gives_as (gives_without c.args.a power c.requires.handed.root (c.release.ensures.owned (owned (given_other power c.requires.handed)))) refl
    (λ t h. subst (λ (n : ℕ). IsNumberOf (surd_power (value (tree_of c.args.a c.args.pool.now)) n) t) many (of_power h))

pub returns-in_ok-power-clause-front : goal.returns-in_ok-power-clause-front
returns-in_ok-power-clause-front c =
    front_at (front_without behind_first (front_after front_same c.power_of.ensures.safe.front)) (c.release.ensures.owned (owned (given_other c.in_ok-power.ensures.ok c.requires.handed)))

pub returns-then-n-eq1-clause-front : goal.returns-then-n-eq1-clause-front
returns-then-n-eq1-clause-front c = front_end c.move_last.ensures.last (front_without behind_first front_same)

pub returns-then-is_rational-clause-ok : goal.returns-then-is_rational-clause-ok
returns-then-is_rational-clause-ok c =
    let fits : FitsSigned w128 c.args.n = search rules in
    if_given _ _ _ _ _ c.power_rational.result c.power_rational.ensures.ok refl (λ t h. subst (λ (z : ℤ). IsNumberOf (surd_power (value (tree_of c.args.a c.args.pool.now)) (nat_abs z)) t) (to_z-of_z w128 c.args.n fits) (of_power h))

-- ---- how large it is

pub returns-then-is_rational-clause-measured : goal.returns-then-is_rational-clause-measured
returns-then-is_rational-clause-measured c =
    let fits : FitsSigned w128 c.args.n = search rules in
    if_power_no_larger c.power_rational.result _ c.power_rational.new.pool _ (nat_abs c.args.n) (at_least_one c.args.n c.requires.positive)
    (if_given _ _ _ _ _ c.power_rational.result c.power_rational.ensures.ok refl
    (λ t h. subst (λ (z : ℤ). IsPowerOver (value (tree_of c.args.a c.args.pool.now)) (nat_abs z) t) (to_z-of_z w128 c.args.n fits) h))

pub returns-then-n-eq1-clause-measured : goal.returns-then-n-eq1-clause-measured
returns-then-n-eq1-clause-measured c =
    let a : Tree = tree_of c.args.a c.args.pool.now in
    let one : IsNoLargerThanPower (value a) 1 (value a) = power_no_larger (omega arith) (power_itself a (record { number = c.requires.number; worth = Same-refl (value a) })) in
    let fits : FitsSigned w128 c.args.n = search rules in
    let once : nat_abs c.args.n ≡ nat_abs (to_z w128 1) = ap nat_abs (sym (to_z-of_z w128 c.args.n fits)) ∙ ap (λ (n : ℕ). nat_abs (to_z w128 n)) c.if-n-eq1.true in
    subst (λ (t : Tree). IsNoLargerThanPower (value a) (nat_abs c.args.n) (value t)) (ap plain (sym (last_tree c.move_last.ensures.last)))
    (subst (λ (n : ℕ). IsNoLargerThanPower (value a) n (value a)) (sym once) one)

pub returns-in_ok-power-clause-measured : goal.returns-in_ok-power-clause-measured
returns-in_ok-power-clause-measured c =
    let a : Tree = tree_of c.args.a c.args.pool.now in let power = c.in_ok-power.ensures.ok in let fits : FitsSigned w128 c.args.n = search rules in
    let many : c.unsigned_abs.result ≡ nat_abs c.args.n = c.unsigned_abs.ensures.value ∙ ap nat_abs (to_z-of_z w128 c.args.n fits) in
    let told = given_told (gives_without c.args.a power c.requires.handed.root (c.release.ensures.owned (owned (given_other power c.requires.handed)))) in
    power_no_larger (at_least_one c.args.n c.requires.positive) (subst (λ (n : ℕ). IsPowerOver (value a) n (tree_of c.in_ok-power.power c.release.new.pool)) many told)

pub returns-then-is_rational-clause-bits : goal.returns-then-is_rational-clause-bits
returns-then-is_rational-clause-bits c = λ h l k few.
    let fits : FitsSigned w128 c.args.n = search rules in let rational = sym c.is_rational.ensures ∙ c.if-is_rational.true in
    power_not_refused (tree_of c.args.a c.args.pool.now) (to_z w128 (of_z w128 c.args.n)) c.power_rational.new.pool c.power_rational.result rational c.power_rational.ensures.rational h l k
    (subst (λ (z : ℤ). nat_abs z * (2 * h + 4 * l) ≤ 124) (sym (to_z-of_z w128 c.args.n fits)) few)

pub returns-in_err-power : goal.returns-in_err-power
returns-in_err-power c = let r = c.from_residual.result in let e = c.in_err-power.field-0.0 in let said = c.from_residual.ensures in record {
  ok = none_given r _ said.0;
  rational = λ q e. absurd (cc (c.is_rational.ensures ∙ ap is_num e, c.if-is_rational.false));
  front = front_after front_same c.power_of.ensures.safe.front;
  kept = none_kept r _ said.0;
  faults = passed_on r e _ said.0 said.1 (c.in_err-power.ensures.safe.faults);
  overflow = λ h. let fits : FitsSigned w128 c.args.n = search rules in
      let many = c.unsigned_abs.ensures.value ∙ ap nat_abs (to_z-of_z w128 c.args.n fits) in
      passed_on r e _ said.0 said.1 (subst (λ (m : ℕ). OfOverflow (PowerOverflows (value (tree_of c.args.a c.args.pool.now)) m) c.in_err-power.field-0.0) many c.in_err-power.ensures.overflow);
  measured = none_given r _ said.0;
  bits = λ h l k few. let fits : FitsSigned w128 c.args.n = search rules in
      let many : c.unsigned_abs.result ≡ nat_abs c.args.n = c.unsigned_abs.ensures.value ∙ ap nat_abs (to_z-of_z w128 c.args.n fits) in
      passed_on r e _ said.0 said.1 (overflow_as c.in_err-power.field-0.0 c.in_err-power.ensures.overflow (λ o p. absurd (power_within (value (tree_of c.args.a c.args.pool.now)) c.unsigned_abs.result h l o k (subst (λ (n : ℕ). n * (2 * h + 4 * l) ≤ 124) (sym many) few) p)));
  caused = passed_on r e _ said.0 said.1 (c.in_err-power.ensures.safe.caused);
  room = λ gs s. passed_on r e _ said.0 said.1 (full_as c.in_err-power.field-0.0 (c.in_err-power.ensures.room gs s) (λ full few. power_lacks gs _ _ c.requires.number s few));
  spanned = λ gs s. none_given r _ said.0;
  stands = search rules;
}

pub returns-then-is_rational-clause-overflow : goal.returns-then-is_rational-clause-overflow
returns-then-is_rational-clause-overflow c = λ h. absurd (cc (c.is_rational.ensures, c.if-is_rational.true, h))

pub returns-then-n-eq1-clause-rational : goal.returns-then-n-eq1-clause-rational
returns-then-n-eq1-clause-rational c = λ q e. absurd (cc (c.is_rational.ensures ∙ ap is_num e, c.if-is_rational.false))

pub returns-in_ok-power-clause-rational : goal.returns-in_ok-power-clause-rational
returns-in_ok-power-clause-rational c = λ q e. absurd (cc (c.is_rational.ensures ∙ ap is_num e, c.if-is_rational.false))

pub returns-in_ok-power-clause-kept : goal.returns-in_ok-power-clause-kept
returns-in_ok-power-clause-kept c = kept_after c.in_ok-power.ensures.safe.kept c.release.ensures.kept
