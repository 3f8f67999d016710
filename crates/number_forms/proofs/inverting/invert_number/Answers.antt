use Rattle.number_forms.proofs.Shared.{◌≡◌, ◌+◌, ℕ, refl, sym, ap, ◌∙◌, subst, arith, value, classes, size, num_least, tree_of, free_of, building, Gives, without_root, forest, behind_first}
use Rattle.number_forms.proofs.Shared.{front_same, front_at, front_without, front_after, owned, gives_as, given_told, passed_on, released_free, IsInverseOf, LacksInverse, OfFull, OnlyLacksLongForm}
use Rattle.number_forms.proofs.{Shared.{kept_after, kept_same, rules}, InverseBits.{inverse_no_larger}, WithinBits.{inverse_within}, Placings.{number_alone, refused}}
use Rattle.number_forms.proofs.{InverseSteps.{none_to_make, too_wide, has_inverse, no_inverse, lacks_inverse, rational_inverse}, Rooms.{inverse_lacks, inverse_spans}}
use Rattle.number_forms.proofs.{inverting.invert_number.Goals.{After-release-2, In_err-placed, In_ok-placed}, Refusals.{none_given, none_kept}}
use Rattle.tree_handles.proofs.{SmallLaws.{grown_free as free_before}, Refused.{refuses_after}}
use Rattle.tree_handles.specs.declared.fault.NumberFault.TheVariants as fault
use Rattle.number_forms.proofs.inverting.invert_number.Goals as goal

-- ---- none, and one that is too wide

pub returns-then-terms-eq0-clause-ok : goal.returns-then-terms-eq0-clause-ok
returns-then-terms-eq0-clause-ok c =
    let none : classes (tree_of c.args.a c.args.pool.now) ≡ 0 = sym c.term_count-terms.ensures ∙ c.if-terms-eq0.true in (none, c.release.ensures.owned (owned c.requires.handed))

pub returns-then-terms-eq0-clause-front : goal.returns-then-terms-eq0-clause-front
returns-then-terms-eq0-clause-front c = front_at (front_without behind_first front_same) (c.release.ensures.owned (owned c.requires.handed))

pub returns-then-terms-eq0-clause-exactly : goal.returns-then-terms-eq0-clause-exactly
returns-then-terms-eq0-clause-exactly c = let none = sym c.term_count-terms.ensures ∙ c.if-terms-eq0.true in (λ _. none_to_make (value (tree_of c.args.a c.args.pool.now)) _ none, λ _. refl)

pub returns-then-terms-gt2-clause-ok : goal.returns-then-terms-gt2-clause-ok
returns-then-terms-gt2-clause-ok c = (omega (arith, c.term_count-terms.ensures, c.if-terms-gt2.true), refl, refl)

pub returns-then-terms-gt2-clause-spanned : goal.returns-then-terms-gt2-clause-spanned
returns-then-terms-gt2-clause-spanned c = λ gs s. s

pub returns-then-terms-gt2-clause-exactly : goal.returns-then-terms-gt2-clause-exactly
returns-then-terms-gt2-clause-exactly c = (λ _. too_wide (value (tree_of c.args.a c.args.pool.now)) _ (omega (arith, c.term_count-terms.ensures, c.if-terms-gt2.true)), λ _. refl)

-- ---- bytes that are lacking

-- the bytes that are free when the Number is gone
free : (c : After-release-2) → free_of c.release-2.new.pool ≡ free_of c.args.pool.now + size (tree_of c.args.a c.args.pool.now)
free c = released_free c.requires.stands c.release-2.ensures.stands c.release-2.ensures.kept c.requires.handed (c.release-2.ensures.owned (owned c.requires.handed))

lacks : (c : In_err-placed) → LacksInverse (value (tree_of c.args.a c.args.pool.now)) (free_of c.args.pool.now + size (tree_of c.args.a c.args.pool.now)) c.in_err-placed.field-0.0
lacks c =
    let v = value (tree_of c.args.a c.args.pool.now) in
    let more = released_free c.requires.stands c.release-2.ensures.stands c.release-2.ensures.kept c.requires.handed (c.release-2.ensures.owned (owned c.requires.handed)) in
    subst (λ (n : ℕ). LacksInverse v n c.in_err-placed.field-0.0) more
    (lacks_inverse v (free_of c.release-2.new.pool) c.in_err-placed.field-0.0 (sym c.in_ok-inverse.ensures.overflow) c.in_ok-inverse.ensures.ok c.in_err-placed.ensures.first_lack)

-- ---- the inverse

placed : (c : In_ok-placed) → Gives (without_root c.args.a (forest c.args.pool.now)) (forest c.place_inverse.new.pool) c.in_ok-placed.placed (IsInverseOf (value (tree_of c.args.a c.args.pool.now)))
placed c =
    gives_as c.in_ok-placed.ensures.ok (c.release-2.ensures.owned (owned c.requires.handed)) (λ t e. subst (IsInverseOf (value (tree_of c.args.a c.args.pool.now))) (sym e) c.in_ok-inverse.ensures.ok)

pub returns-clause-ok : goal.returns-clause-ok
returns-clause-ok c =
    let all = c.term_count-terms.ensures in (omega (arith, all, c.if-terms-eq0.false), omega (arith, all, c.if-terms-gt2.false), placed (goal.at.returns-clause-ok c).In_ok-placed)

pub returns-clause-front : goal.returns-clause-front
returns-clause-front c = front_after (front_at (front_without behind_first front_same) (c.release-2.ensures.owned (owned c.requires.handed))) c.place_inverse.ensures.safe.front

pub returns-clause-exactly : goal.returns-clause-exactly
returns-clause-exactly c =
    let more = free (goal.at.returns-clause-exactly c).After-release-2 in
    let used = free_before c.release-2.ensures.stands c.place_inverse.ensures.safe.stands c.in_ok-placed.ensures.safe.kept c.in_ok-placed.ensures.ok in
    (λ _. has_inverse _ _ (sym c.in_ok-inverse.ensures.overflow) c.in_ok-inverse.ensures.ok (omega (arith, more, used)), λ _. refl)

pub returns-clause-measured : goal.returns-clause-measured
returns-clause-measured c = inverse_no_larger (tree_of c.args.a c.args.pool.now) _ c.requires.number (given_told (placed (goal.at.returns-clause-measured c).In_ok-placed))

pub returns-clause-spanned : goal.returns-clause-spanned
returns-clause-spanned c = λ gs s. inverse_spans gs _ _ c.requires.number (omega (arith, c.term_count-terms.ensures, c.if-terms-gt2.false)) (given_told (placed (goal.at.returns-clause-spanned c).In_ok-placed)) s

pub returns-in_err-inverse : goal.returns-in_err-inverse
returns-in_err-inverse c = let r = c.from_residual.result in let e = fault.Overflow c.in_err-inverse.field-0.0 in let said = c.from_residual.ensures in record {
  ok = none_given r _ said.0;
  front = front_same;
  kept = none_kept r _ said.0;
  faults = passed_on r e _ said.0 said.1 (kept_same c.args.pool.now);
  rational = λ q k. absurd (cc (c.in_err-inverse.ensures.rational q k));
  exactly = refused r _ said.0 (no_inverse (value (tree_of c.args.a c.args.pool.now)) _ (fault.Overflow c.in_err-inverse.field-0.0) c.in_err-inverse.ensures.overflow tt);
  overflow = passed_on r e _ said.0 said.1 c.in_err-inverse.ensures.overflow;
  measured = none_given r _ said.0;
  bits = λ few. passed_on r e _ said.0 said.1 (inverse_within (tree_of c.args.a c.args.pool.now) c.in_err-inverse.field-0.0 c.requires.number few c.in_err-inverse.ensures.overflow);
  first_lack = passed_on r e _ said.0 said.1 tt;
  caused = passed_on r e _ said.0 said.1 (c.in_err-inverse.ensures.caused);
  room = λ gs. passed_on r e _ said.0 said.1 tt;
  spanned = λ gs s. none_given r _ said.0;
  stands = search rules;
}

pub returns-in_err-placed : goal.returns-in_err-placed
returns-in_err-placed c = let r = c.from_residual-in_err-placed.result in let e = fault.Full c.in_err-placed.field-0.0 in let said = c.from_residual-in_err-placed.ensures in record {
  ok = none_given r _ said.0;
  front = front_after (front_at (front_without behind_first front_same) (c.release-2.ensures.owned (owned c.requires.handed))) c.place_inverse.ensures.safe.front;
  kept = none_kept r _ said.0;
  faults = passed_on r e _ said.0 said.1 (refuses_after c.release-2.ensures.kept c.in_err-placed.ensures.safe.full);
  rational = λ q k. let rational = rational_inverse _ _ q k c.in_ok-inverse.ensures.ok in
      let more = free (goal.at.returns-in_err-placed c).After-release-2 in
      passed_on r e OnlyLacksLongForm said.0 said.1 (number_alone rational.0 (free_of c.release-2.new.pool) c.in_err-placed.field-0.0 (omega (arith, more, ap size k, num_least q))
      (ap (building (free_of c.release-2.new.pool)) (sym rational.1) ∙ c.in_err-placed.ensures.first_lack));
  exactly = refused r _ said.0 (no_inverse _ _ (fault.Full c.in_err-placed.field-0.0) tt (lacks (goal.at.returns-in_err-placed c).In_err-placed));
  overflow = passed_on r e _ said.0 said.1 tt;
  measured = none_given r _ said.0;
  bits = λ few. passed_on r e _ said.0 said.1 tt;
  first_lack = passed_on r e (OfFull (LacksInverse (value (tree_of c.args.a c.args.pool.now)) (free_of c.args.pool.now + size (tree_of c.args.a c.args.pool.now)))) said.0
      said.1 (lacks (goal.at.returns-in_err-placed c).In_err-placed);
  caused = passed_on r e _ said.0 said.1 (c.in_err-placed.ensures.safe.caused);
  room = λ gs. passed_on r e _ said.0 said.1 (inverse_lacks gs _ _ _ (lacks (goal.at.returns-in_err-placed c).In_err-placed));
  spanned = λ gs s. none_given r _ said.0;
  stands = search rules;
}

pub returns-clause-kept : goal.returns-clause-kept
returns-clause-kept c = kept_after c.release-2.ensures.kept c.in_ok-placed.ensures.safe.kept
