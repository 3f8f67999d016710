use Rattle.coefficients.proofs.Shared.{rules, ◌≤◌, ap, ◌∙◌, sym, subst, arith, inl, refl, released_free, sizes, IsTaken, IsAdded, rational, ratio_of, value_of, product_tree, Tree, num, mult, more}
use Rattle.coefficients.proofs.Shared.{count, is_mult, root_kind, Fraction, Leads, IsMultiple, tree_of, children_of, without_root, forest, behind_first, front_after_one, gives_as, given_handed}
use Rattle.coefficients.proofs.{Shared.{given_root, owned, over_product, over_handed, over_plain, without_put, children_at, expression}, Named.{named, multiple_named, leads_children}}
use Rattle.coefficients.proofs.{LedFactors.{IsRationalLed, first_led, first_seen, led_taken, led_dropped, added_front, times_to_one, times_to_other, times_unled}, Lengths.{long}}
use Rattle.coefficients.proofs.{Free.{taken_free, number_refused}, Lacks.{refusal_lacks}, multiples.rational_times_factors.Goals.{After-take_child-old, After-release}}
use Rattle.calc_terms.specs.declared.kind.Kind.TheVariants as kind
use Rattle.calc_terms.proofs.SmallLaws.{passed_on}
use Rattle.node_pool.specs.State.{free_of}
use Rattle.number_forms.proofs.Refusals.{none_given, none_kept}
use Rattle.tree_handles.proofs.Fronts.{front_same}
use Rattle.tree_handles.proofs.Refused.{kept_after, kept_same, refuses_after}
use Rattle.tree_handles.specs.Causes.{IsCaused, Overflows}
use Rattle.tree_handles.specs.Faults.{Faults, OfOverflow}
use Rattle.tree_handles.specs.Lacking.{OfFull}
use Rattle.tree_handles.specs.declared.fault.NumberFault.TheVariants as fault
use Rattle.coefficients.proofs.Shared.{◌<◌}
use Rattle.coefficients.proofs.multiples.rational_times_factors.Goals as goal

pub child_id-first-requires-clause-within : goal.child_id-first-requires-clause-within
child_id-first-requires-clause-within c =
    omega (arith, children_at (over_product c.requires.handed c.requires.product) c.requires.stands c.id.ensures, (long _ c.requires.product c.requires.reduced).two)

-- the rational that leads is taken out of the factors
leading : (c : After-take_child-old) → (l : IsRationalLed (value_of c.rational.result) (children_of (tree_of c.args.product c.args.pool.now)))
    × IsTaken kind.Mult c.args.product 0 (num (value_of c.rational.result)) l.rest (forest c.args.pool.now) (forest c.take_child-old.new.pool) c.take_child-old.result
leading c =
    let l = first_led c.child_id-first.result c.id.ensures c.requires.stands c.requires.handed c.requires.product c.requires.reduced c.child_id-first.ensures.plain c.rational.ensures.plain in
    (l, led_taken (over_product c.requires.handed c.requires.product) l (c.take_child-old.ensures.last c.requires.handed.root))

-- and released
dropped : (c : After-release) → (l : IsRationalLed (value_of c.rational.result) (children_of (tree_of c.args.product c.args.pool.now))) × IsAdded kind.Mult c.args.product l.rest (forest c.args.pool.now) (forest c.release.new.pool)
dropped c =
    let o = over_product c.requires.handed c.requires.product in
    let l = first_led c.child_id-first.result c.id.ensures c.requires.stands c.requires.handed c.requires.product c.requires.reduced c.child_id-first.ensures.plain c.rational.ensures.plain in
    let x = led_taken o l (c.take_child-old.ensures.last c.requires.handed.root) in
    (l, led_dropped o x (c.release.ensures.owned (owned (given_handed x.gives))))

pub release-requires-clause-releasable : goal.release-requires-clause-releasable
release-requires-clause-releasable c = inl (given_root (leading (goal.at.release-requires-clause-releasable c).After-take_child-old).1.gives)

pub unwrapped-requires : goal.unwrapped-requires
unwrapped-requires c =
    let d = dropped (goal.at.unwrapped-requires c).After-release in
    record {
      stands = search rules;
      handed = over_handed d.1.over refl;
      product = ap is_mult (over_plain d.1.over refl);
      some = subst (λ (t : Tree). 1 ≤ count (children_of t)) (sym (over_plain d.1.over refl)) d.0.some;
    }

pub put_first-requires : goal.put_first-requires
put_first-requires c =
    let d = dropped (goal.at.put_first-requires c).After-release in
    record {
      stands = search rules;
      handed = over_handed d.1.over refl;
      product = ap is_mult (over_plain d.1.over refl);
    }

pub returns-in_err-put_first-in-Num-clause-front : goal.returns-in_err-put_first-in-Num-clause-front
returns-in_err-put_first-in-Num-clause-front c = front_after_one behind_first (added_front (dropped (goal.at.returns-in_err-put_first-in-Num-clause-front c).After-release).1) c.put_first.ensures.front

pub returns-then-is_one-clause-ok : goal.returns-then-is_one-clause-ok
returns-then-is_one-clause-ok c =
    let d = dropped (goal.at.returns-then-is_one-clause-ok c).After-release in
    let one = times_to_one (value_of c.args.q) (value_of c.rational.result) (value_of c.in_ok-leading-in-Num.leading) _ d.0.rest d.0.whole c.in_ok-leading-in-Num.ensures.product
    (sym c.if-is_one.ensures) in
    gives_as c.unwrapped.ensures.tree (ap (without_root c.args.product) d.1.whole ∙ without_put c.args.product d.1.now (forest c.args.pool.now))
    (λ t e. e ∙ ap (λ (u : Tree). product_tree (children_of u)) (over_plain d.1.over refl) ∙ one)

pub returns-then-is_one-clause-front : goal.returns-then-is_one-clause-front
returns-then-is_one-clause-front c = front_after_one behind_first (added_front (dropped (goal.at.returns-then-is_one-clause-front c).After-release).1) c.unwrapped.ensures.front

pub returns-in_ok-put_first-in-Num-clause-ok : goal.returns-in_ok-put_first-in-Num-clause-ok
returns-in_ok-put_first-in-Num-clause-ok c =
    let d = dropped (goal.at.returns-in_ok-put_first-in-Num-clause-ok c).After-release in
    let other = times_to_other (value_of c.args.q) (value_of c.rational.result) (value_of c.in_ok-leading-in-Num.leading) _ d.0.rest d.0.whole c.in_ok-leading-in-Num.ensures.product
    (sym c.if-is_one.ensures) in
    gives_as c.in_ok-put_first-in-Num.ensures.ok (ap (without_root c.args.product) d.1.whole ∙ without_put c.args.product d.1.now (forest c.args.pool.now))
    (λ t e. e ∙ ap (λ (u : Tree). mult (more (num (value_of c.in_ok-leading-in-Num.leading)) (children_of u))) (over_plain d.1.over refl) ∙ other)

pub returns-in_ok-put_first-in-Num-clause-front : goal.returns-in_ok-put_first-in-Num-clause-front
returns-in_ok-put_first-in-Num-clause-front c = front_after_one behind_first (added_front (dropped (goal.at.returns-in_ok-put_first-in-Num-clause-front c).After-release).1) c.put_first.ensures.front

pub returns-in_ok-put_first-in_default : goal.returns-in_ok-put_first-in_default
returns-in_ok-put_first-in_default c =
    let put = c.in_ok-put_first-in_default.ensures in
    let first = c.child_id-first.ensures in
    let k = c.kind.ensures.plain (first.expression (expression c.id.ensures c.requires.stands c.requires.handed))
    ∙ ap root_kind (first_seen c.child_id-first.result c.id.ensures c.requires.stands c.requires.handed first.plain) in
    record {
      ok = gives_as put.ok refl (λ t e. e ∙ times_unled (value_of c.args.q) _ (λ n. c.in_default.not-Num (k ∙ sym n)));
      front = put.front;
      kept = put.kept;
      faults = tt;
      caused = tt;
      named = tt;
      few = tt;
      stands = put.stands;
    }

pub returns-in_err-leading-in-Num-clause-named : goal.returns-in_err-leading-in-Num-clause-named
returns-in_err-leading-in-Num-clause-named c =
    let l = first_led c.child_id-first.result c.id.ensures c.requires.stands c.requires.handed c.requires.product c.requires.reduced c.child_id-first.ensures.plain c.rational.ensures.plain in
    let L : Fraction → Type 0 = λ x. Leads x (tree_of c.args.product c.args.pool.now) in
    named c.from_residual.result c.in_err-leading-in-Num.field-0.0 (IsMultiple (value_of c.args.q) L) c.from_residual.ensures.1
    (multiple_named L c.in_err-leading-in-Num.field-0.0 c.in_err-leading-in-Num.ensures.named (leads_children (value_of c.rational.result) _ l.rest c.requires.product l.whole))

pub returns-in_err-put_first-in-Num-clause-few : goal.returns-in_err-put_first-in-Num-clause-few
returns-in_err-put_first-in-Num-clause-few c =
    let x = leading (goal.at.returns-in_err-put_first-in-Num-clause-few c).After-take_child-old in
    let same = taken_free c.requires.stands c.take_child-old.ensures.stands c.take_child-old.ensures.kept (over_product c.requires.handed c.requires.product) x.1 (ap sizes x.0.whole) in
    let more = released_free c.take_child-old.ensures.stands c.release.ensures.stands c.release.ensures.kept (given_handed x.1.gives) (c.release.ensures.owned (owned (given_handed x.1.gives))) in
    refusal_lacks c.from_residual-in_err-put_first-in-Num.result c.in_err-put_first-in-Num.field-0.0 _ c.from_residual-in_err-put_first-in-Num.ensures.1
    (omega (arith, number_refused (rational (ratio_of c.in_ok-leading-in-Num.leading)) c.in_err-put_first-in-Num.ensures.full, same, more))

pub returns-in_err-leading-in-Num-clause-ok : goal.returns-in_err-leading-in-Num-clause-ok
returns-in_err-leading-in-Num-clause-ok c = none_given c.from_residual.result _ c.from_residual.ensures.0

pub returns-in_err-leading-in-Num-clause-kept : goal.returns-in_err-leading-in-Num-clause-kept
returns-in_err-leading-in-Num-clause-kept c = none_kept c.from_residual.result _ c.from_residual.ensures.0

pub returns-in_err-leading-in-Num-clause-faults : goal.returns-in_err-leading-in-Num-clause-faults
returns-in_err-leading-in-Num-clause-faults c = passed_on c.from_residual.result (fault.Overflow c.in_err-leading-in-Num.field-0.0) (Faults c.args.pool.now c.args.pool.now) c.from_residual.ensures.0 c.from_residual.ensures.1 (kept_same c.args.pool.now)

pub returns-in_err-leading-in-Num-clause-caused : goal.returns-in_err-leading-in-Num-clause-caused
returns-in_err-leading-in-Num-clause-caused c = passed_on c.from_residual.result (fault.Overflow c.in_err-leading-in-Num.field-0.0) (IsCaused c.args.pool.now) c.from_residual.ensures.0 c.from_residual.ensures.1 (subst Overflows (sym c.in_err-leading-in-Num.ensures.named) (c.in_err-leading-in-Num.ensures.refused.0 refl))

pub returns-in_err-leading-in-Num-clause-front : goal.returns-in_err-leading-in-Num-clause-front
returns-in_err-leading-in-Num-clause-front c = front_same

pub returns-in_err-leading-in-Num-clause-few : goal.returns-in_err-leading-in-Num-clause-few
returns-in_err-leading-in-Num-clause-few c = passed_on c.from_residual.result (fault.Overflow c.in_err-leading-in-Num.field-0.0) (OfFull (λ full. free_of c.args.pool.now < 48)) c.from_residual.ensures.0 c.from_residual.ensures.1 (tt)

pub returns-in_err-put_first-in-Num-clause-ok : goal.returns-in_err-put_first-in-Num-clause-ok
returns-in_err-put_first-in-Num-clause-ok c = none_given c.from_residual-in_err-put_first-in-Num.result _ c.from_residual-in_err-put_first-in-Num.ensures.0

pub returns-in_err-put_first-in-Num-clause-kept : goal.returns-in_err-put_first-in-Num-clause-kept
returns-in_err-put_first-in-Num-clause-kept c = none_kept c.from_residual-in_err-put_first-in-Num.result _ c.from_residual-in_err-put_first-in-Num.ensures.0

pub returns-in_err-put_first-in-Num-clause-faults : goal.returns-in_err-put_first-in-Num-clause-faults
returns-in_err-put_first-in-Num-clause-faults c = passed_on c.from_residual-in_err-put_first-in-Num.result (fault.Full c.in_err-put_first-in-Num.field-0.0) (Faults c.args.pool.now c.put_first.new.pool) c.from_residual-in_err-put_first-in-Num.ensures.0 c.from_residual-in_err-put_first-in-Num.ensures.1 (refuses_after (kept_after c.take_child-old.ensures.kept c.release.ensures.kept) c.in_err-put_first-in-Num.ensures.full.refuses)

pub returns-in_err-put_first-in-Num-clause-caused : goal.returns-in_err-put_first-in-Num-clause-caused
returns-in_err-put_first-in-Num-clause-caused c = passed_on c.from_residual-in_err-put_first-in-Num.result (fault.Full c.in_err-put_first-in-Num.field-0.0) (IsCaused c.put_first.new.pool) c.from_residual-in_err-put_first-in-Num.ensures.0 c.from_residual-in_err-put_first-in-Num.ensures.1 (c.in_err-put_first-in-Num.ensures.full.lacks)

pub returns-in_err-put_first-in-Num-clause-named : goal.returns-in_err-put_first-in-Num-clause-named
returns-in_err-put_first-in-Num-clause-named c = passed_on c.from_residual-in_err-put_first-in-Num.result (fault.Full c.in_err-put_first-in-Num.field-0.0) (OfOverflow (IsMultiple (value_of c.args.q) (λ x. Leads x (tree_of c.args.product c.args.pool.now)))) c.from_residual-in_err-put_first-in-Num.ensures.0 c.from_residual-in_err-put_first-in-Num.ensures.1 (tt)
