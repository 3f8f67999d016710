use Rattle.coefficients.proofs.Shared.{rules, ◌≡◌, ◌+◌, ◌*◌, ◌^◌, ◌<◌, length, ap, ◌∙◌, refl, sym, subst, arith, value_of, is_reduced, keeps_none, keeps_after, given_handed, given_told}
use Rattle.coefficients.proofs.Shared.{rational_times, count, changes_front, changes_last, changes_last_front, children_told, children_of, front_again, hole_stays, Leads, LeadsIn, is_number}
use Rattle.coefficients.proofs.{Shared.{SpansTree, Tree, add, size, free_of, tree_of}, Loops.{IsNext, next_at, sum_row, none_done, part_within, part_told, part_next, part_all, part_free}}
use Rattle.coefficients.proofs.{Loops.{term_reduced}, Named.{passed_named, multiple_of, leads_behind}, Lacks.{passed_lacks, factor_of, sum_whole}, Rooms.{number_lacks}}
use Rattle.coefficients.proofs.multiples.rational_times_number.Goals.{After-children-terms, After-open_child-hole}
use Rattle.calc_terms.proofs.SmallLaws.{passed_on}
use Rattle.number_forms.proofs.Refusals.{faults_after, none_given, none_kept}
use Rattle.tree_handles.proofs.Refused.{kept_after}
use Rattle.tree_handles.specs.Causes.{IsCaused}
use Rattle.tree_handles.specs.Faults.{Faults}
use Rattle.coefficients.proofs.multiples.rational_times_number.Goals as goal

many : (c : After-children-terms) → c.children-terms.result ≡ count (children_of (tree_of c.args.sum c.args.pool.now))
many c = children_told c.id.ensures c.children-terms.ensures.value c.requires.stands c.requires.handed

-- the term that is taken out
next : (c : After-open_child-hole)
    → (n : IsNext (rational_times (value_of c.args.q)) c.loop-at.at (children_of (tree_of c.args.sum c.args.pool.now))) × (tree_of c.open_child-hole.result.1 c.open_child-hole.new.pool ≡ n.t)
next c =
    let n = next_at (rational_times (value_of c.args.q)) c.loop-at.at _ (omega (arith, children_told c.id.ensures c.children-terms.ensures.value c.requires.stands c.requires.handed, c.loop-at-test.true)) in
    (n, part_told c.loop-at.invariant.part c.open_child-hole.ensures.child ∙ n.there)

pub loop-at-init : goal.loop-at-init
loop-at-init c = record { stands = c.requires.stands; kept = keeps_none c.args.pool.now; part = none_done (rational_times (value_of c.args.q)) sum_row c.requires.handed (sum_whole _ c.requires.sum) }

pub open_child-hole-requires : goal.open_child-hole-requires
open_child-hole-requires c = record { stands = search rules; handed = c.loop-at.invariant.part.now.handed; within = part_within c.loop-at.invariant.part (omega (arith, many (goal.at.open_child-hole-requires c).After-children-terms, c.loop-at-test.true)) }

pub rational_times-requires : goal.rational_times-requires
rational_times-requires c =
    let child = c.open_child-hole.ensures.child in
    record {
      stands = search rules;
      handed = given_handed child;
      reduced = ap is_reduced (part_told c.loop-at.invariant.part child)
          ∙ term_reduced c.loop-at.at _ c.requires.sum c.requires.reduced (omega (arith, many (goal.at.rational_times-requires c).After-children-terms, c.loop-at-test.true));
    }

pub returns-in_err-multiple-clause-front : goal.returns-in_err-multiple-clause-front
returns-in_err-multiple-clause-front c = front_again (changes_front c.loop-at.invariant.part.now) (c.open_child-hole.ensures.front _ _ c.rational_times.ensures.front)

pub fill-requires : goal.fill-requires
fill-requires c =
    let g = c.in_ok-multiple.ensures.ok in
    record { stands = search rules; hole = (_, _, _, hole_stays g c.open_child-hole.ensures.hole); handed = given_handed g }

pub loop-at-preserved : goal.loop-at-preserved
loop-at-preserved c =
    let g = c.in_ok-multiple.ensures.ok in
    let p = c.loop-at.invariant.part in
    record {
      stands = c.fill.ensures.stands;
      kept = keeps_after _ _ _ c.loop-at.invariant.kept (keeps_after _ _ _ c.open_child-hole.ensures.kept (keeps_after _ _ _ c.in_ok-multiple.ensures.kept c.fill.ensures.kept));
      part = part_next p (c.fill.ensures.changed _ _ _ (hole_stays g c.open_child-hole.ensures.hole))
          (given_told g ∙ ap (rational_times (value_of c.args.q)) (part_told p c.open_child-hole.ensures.child))
          (omega (arith, many (goal.at.loop-at-preserved c).After-children-terms, c.loop-at-test.true));
    }

pub returns-clause-ok : goal.returns-clause-ok
returns-clause-ok c = changes_last (part_all c.loop-at.invariant.part (omega (arith, many (goal.at.returns-clause-ok c).After-children-terms, c.loop-at-test.false))) c.move_last.ensures.last refl

pub returns-clause-front : goal.returns-clause-front
returns-clause-front c = changes_last_front c.loop-at.invariant.part.now c.move_last.ensures.last

pub returns-in_err-multiple-clause-named : goal.returns-in_err-multiple-clause-named
returns-in_err-multiple-clause-named c =
    let x = next (goal.at.returns-in_err-multiple-clause-named c).After-open_child-hole in
    passed_named c.from_residual.result c.in_err-multiple.field-0.0 _ _ c.from_residual.ensures.1 c.in_err-multiple.ensures.named
    (multiple_of (λ q h. subst (LeadsIn Leads q) (sym x.0.split) (leads_behind Leads q x.0.done x.0.t x.0.rest (subst (Leads q) x.1 h))))

pub returns-in_err-multiple-clause-room : goal.returns-in_err-multiple-clause-room
returns-in_err-multiple-clause-room c gs z o k s =
    let n = (next (goal.at.returns-in_err-multiple-clause-room c).After-open_child-hole).0 in
    let whole = sum_whole (tree_of c.args.sum c.args.pool.now) c.requires.sum in
    let parts = whole ∙ ap add n.split in
    let free = part_free c.requires.stands c.loop-at.invariant.stands c.loop-at.invariant.kept c.requires.handed whole c.loop-at.invariant.part n in
    passed_lacks c.from_residual.result c.in_err-multiple.field-0.0 _ _ c.from_residual.ensures.1 c.in_err-multiple.ensures.few
    (λ g l. subst (λ (v : Tree). free_of c.args.pool.now + size v < 96 * 2 ^ length gs + 56) (sym parts)
    (number_lacks gs (value_of c.args.q) n.done n.t n.rest (free_of c.args.pool.now) (free_of c.open_child-hole.new.pool) (factor_of (value_of c.args.q) z o)
    (sym (ap is_number parts) ∙ k) (subst (SpansTree gs) parts s) (omega (arith, free, c.open_child-hole.ensures.free)) l))

pub returns-in_err-multiple-clause-ok : goal.returns-in_err-multiple-clause-ok
returns-in_err-multiple-clause-ok c = none_given c.from_residual.result _ c.from_residual.ensures.0

pub returns-in_err-multiple-clause-kept : goal.returns-in_err-multiple-clause-kept
returns-in_err-multiple-clause-kept c = none_kept c.from_residual.result _ c.from_residual.ensures.0

pub returns-in_err-multiple-clause-faults : goal.returns-in_err-multiple-clause-faults
returns-in_err-multiple-clause-faults c = passed_on c.from_residual.result c.in_err-multiple.field-0.0 (Faults c.args.pool.now c.rational_times.new.pool) c.from_residual.ensures.0 c.from_residual.ensures.1 (faults_after _ c.in_err-multiple.field-0.0 (kept_after c.loop-at.invariant.kept c.open_child-hole.ensures.kept) c.in_err-multiple.ensures.faults)

pub returns-in_err-multiple-clause-caused : goal.returns-in_err-multiple-clause-caused
returns-in_err-multiple-clause-caused c = passed_on c.from_residual.result c.in_err-multiple.field-0.0 (IsCaused c.rational_times.new.pool) c.from_residual.ensures.0 c.from_residual.ensures.1 (c.in_err-multiple.ensures.caused)

pub returns-clause-kept : goal.returns-clause-kept
returns-clause-kept c = kept_after c.loop-at.invariant.kept c.move_last.ensures.kept
