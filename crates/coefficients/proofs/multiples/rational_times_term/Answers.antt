use Rattle.coefficients.proofs.Shared.{true≢false, rules, ◌≡◌, ap, ◌∙◌, sym, refl, subst, arith, ◌+◌, ◌^◌, ◌<◌, length, tree_of, forest, value_of, is_reduced, Tree, add, count, is_add, size}
use Rattle.coefficients.proofs.Shared.{children_of, nth, gives_as, given_handed, given_told, leads_sum, rational_times_number, rational_times_term, ChangesTree, changes_as, changes_last}
use Rattle.coefficients.proofs.Shared.{changes_last_front, hole_stays, set_child, Leads, LeadsIn, expression, seen, if_map, is_number, counted, SpansTree, free_of}
use Rattle.coefficients.proofs.{Named.{passed_named, multiple_of, leads_coefficient}, LedFactors.{IsSumLed, sum_led, led_children, led_reduced, times_led, times_sum_unled}, Lacks.{passed_lacks}}
use Rattle.coefficients.proofs.{Rooms.{coefficient_lacks}, multiples.rational_times_term.Goals.{After-open_child-hole, After-fill}}
use Rattle.tree_room.specs.Needs as need
use Rattle.calc_terms.proofs.SmallLaws.{passed_on}
use Rattle.number_forms.proofs.Refusals.{faults_after, none_given, none_kept}
use Rattle.tree_handles.proofs.Refused.{kept_after}
use Rattle.tree_handles.specs.Causes.{IsCaused}
use Rattle.tree_handles.specs.Faults.{Faults}
use Rattle.coefficients.proofs.multiples.rational_times_term.Goals as goal

pub is_led_by_sum-requires-clause-expression : goal.is_led_by_sum-requires-clause-expression
is_led_by_sum-requires-clause-expression c = expression c.id.ensures c.requires.stands c.requires.handed

pub is_led_by_sum-requires-clause-reduced : goal.is_led_by_sum-requires-clause-reduced
is_led_by_sum-requires-clause-reduced c = ap is_reduced (seen c.id.ensures c.requires.stands c.requires.handed) ∙ c.requires.reduced

pub returns-then-not-is_led_by_sum-clause-ok : goal.returns-then-not-is_led_by_sum-clause-ok
returns-then-not-is_led_by_sum-clause-ok c =
    let unled = ap leads_sum (sym (seen c.id.ensures c.requires.stands c.requires.handed)) ∙ sym c.if-not-is_led_by_sum.ensures in
    if_map c.rational_times.result _ _ c.rational_times.ensures.ok (λ h x. gives_as x refl (λ t e. e ∙ times_sum_unled (value_of c.args.q) _ unled))

pub open_child-hole-requires : goal.open_child-hole-requires
open_child-hole-requires c =
    let l = sum_led _ (ap leads_sum (sym (seen c.id.ensures c.requires.stands c.requires.handed)) ∙ sym c.if-not-is_led_by_sum.ensures) in
    record { stands = search rules; handed = c.requires.handed; within = omega (arith, ap count (led_children l)) }

-- the sum that leads is taken out of the factors
led : (c : After-open_child-hole) → (l : IsSumLed (tree_of c.args.term c.args.pool.now)) × (tree_of c.open_child-hole.result.1 c.open_child-hole.new.pool ≡ add l.terms)
led c =
    let l = sum_led _ (ap leads_sum (sym (seen c.id.ensures c.requires.stands c.requires.handed)) ∙ sym c.if-not-is_led_by_sum.ensures) in
    (l, given_told c.open_child-hole.ensures.child ∙ ap (nth 0) (led_children l))

-- and what it is multiplied to is put back
back : (c : After-fill) → ChangesTree c.args.term (rational_times_term (value_of c.args.q) (tree_of c.args.term c.args.pool.now)) (forest c.args.pool.now) (forest c.fill.new.pool)
back c =
    let l = sum_led _ (ap leads_sum (sym (seen c.id.ensures c.requires.stands c.requires.handed)) ∙ sym c.if-not-is_led_by_sum.ensures) in
    let g = c.in_ok-multiple.ensures.ok in
    let sum = given_told c.open_child-hole.ensures.child ∙ ap (nth 0) (led_children l) in
    let multiple = given_told g ∙ ap (λ (u : Tree). rational_times_number (value_of c.args.q) (children_of u)) sum in
    changes_as (c.fill.ensures.changed _ _ _ (hole_stays g c.open_child-hole.ensures.hole)) ((λ x. set_child 0 (multiple x) (l.whole x)) ∙ times_led (value_of c.args.q) l)

pub rational_times_number-requires : goal.rational_times_number-requires
rational_times_number-requires c =
    let d = led (goal.at.rational_times_number-requires c).After-open_child-hole in
    record { stands = search rules; handed = given_handed c.open_child-hole.ensures.child; sum = ap is_add d.1; reduced = ap is_reduced d.1 ∙ led_reduced d.0 c.requires.reduced }

pub returns-in_err-multiple-clause-front : goal.returns-in_err-multiple-clause-front
returns-in_err-multiple-clause-front c = c.open_child-hole.ensures.front _ _ c.rational_times_number.ensures.front

pub fill-requires : goal.fill-requires
fill-requires c =
    let g = c.in_ok-multiple.ensures.ok in
    record { stands = search rules; hole = (_, _, _, hole_stays g c.open_child-hole.ensures.hole); handed = given_handed g }

pub move_last-requires-clause-root : goal.move_last-requires-clause-root
move_last-requires-clause-root c = (back (goal.at.move_last-requires-clause-root c).After-fill).handed.root

pub returns-clause-ok : goal.returns-clause-ok
returns-clause-ok c = changes_last (back (goal.at.returns-clause-ok c).After-fill) c.move_last.ensures.last refl

pub returns-clause-front : goal.returns-clause-front
returns-clause-front c = changes_last_front (back (goal.at.returns-clause-front c).After-fill) c.move_last.ensures.last

pub returns-in_err-multiple-clause-named : goal.returns-in_err-multiple-clause-named
returns-in_err-multiple-clause-named c =
    let d = led (goal.at.returns-in_err-multiple-clause-named c).After-open_child-hole in
    passed_named c.from_residual.result c.in_err-multiple.field-0.0 _ _ c.from_residual.ensures.1 c.in_err-multiple.ensures.named
    (multiple_of (λ x h. leads_coefficient x _ d.0.terms d.0.rest d.0.whole d.0.number (subst (λ (u : Tree). LeadsIn Leads x (children_of u)) d.1 h)))

pub returns-in_err-multiple-clause-few : goal.returns-in_err-multiple-clause-few
returns-in_err-multiple-clause-few c unled = absurd (true≢false (sym (ap leads_sum (sym (seen c.id.ensures c.requires.stands c.requires.handed)) ∙ sym c.if-not-is_led_by_sum.ensures) ∙ unled))

pub returns-then-not-is_led_by_sum-clause-room : goal.returns-then-not-is_led_by_sum-clause-room
returns-then-not-is_led_by_sum-clause-room c gs z o s led =
    absurd (true≢false (sym led ∙ ap leads_sum (sym (seen c.id.ensures c.requires.stands c.requires.handed)) ∙ sym c.if-not-is_led_by_sum.ensures))

pub returns-in_err-multiple-clause-room : goal.returns-in_err-multiple-clause-room
returns-in_err-multiple-clause-room c gs z o s leads =
    let d = led (goal.at.returns-in_err-multiple-clause-room c).After-open_child-hole in
    let l = d.0 in
    let spans = subst (SpansTree gs) l.whole s in
    passed_lacks c.from_residual.result c.in_err-multiple.field-0.0 _ _ c.from_residual.ensures.1
    (c.in_err-multiple.ensures.room gs z o (ap is_number d.1 ∙ l.number) (subst (SpansTree gs) (sym d.1) spans.1.0))
    (λ g k. subst (λ (v : Tree). free_of c.args.pool.now + size v < need.tree_bytes (counted v) (2 ^ length gs) + 104) (sym l.whole)
    (coefficient_lacks gs l.terms l.rest (free_of c.args.pool.now) (sym (ap is_reduced l.whole) ∙ c.requires.reduced) l.number spans.1.1
    (omega (arith, c.open_child-hole.ensures.free, ap size d.1, k))))

pub returns-in_err-multiple-clause-ok : goal.returns-in_err-multiple-clause-ok
returns-in_err-multiple-clause-ok c = none_given c.from_residual.result _ c.from_residual.ensures.0

pub returns-in_err-multiple-clause-kept : goal.returns-in_err-multiple-clause-kept
returns-in_err-multiple-clause-kept c = none_kept c.from_residual.result _ c.from_residual.ensures.0

pub returns-in_err-multiple-clause-faults : goal.returns-in_err-multiple-clause-faults
returns-in_err-multiple-clause-faults c = passed_on c.from_residual.result c.in_err-multiple.field-0.0 (Faults c.args.pool.now c.rational_times_number.new.pool) c.from_residual.ensures.0 c.from_residual.ensures.1 (faults_after _ c.in_err-multiple.field-0.0 c.open_child-hole.ensures.kept c.in_err-multiple.ensures.faults)

pub returns-in_err-multiple-clause-caused : goal.returns-in_err-multiple-clause-caused
returns-in_err-multiple-clause-caused c = passed_on c.from_residual.result c.in_err-multiple.field-0.0 (IsCaused c.rational_times_number.new.pool) c.from_residual.ensures.0 c.from_residual.ensures.1 (c.in_err-multiple.ensures.caused)

pub returns-clause-kept : goal.returns-clause-kept
returns-clause-kept c = kept_after c.open_child-hole.ensures.kept (kept_after c.in_ok-multiple.ensures.kept (kept_after c.fill.ensures.kept c.move_last.ensures.kept))
