use Rattle.coefficients.proofs.Shared.{ap, ◌∙◌, sym, refl, arith, released_free, rational, ratio_of, value_of, Fraction, num, Leads, IsMultiple, tree_of, behind_first, front_after, front_at}
use Rattle.coefficients.proofs.{Shared.{front_same, front_without, gives_as, owned, seen, kind_of_root, product_kind, if_map}, Named.{named, multiple_named, leads_number}}
use Rattle.coefficients.proofs.{LedFactors.{times_number, times_product, times_other}, Free.{number_refused}, Lacks.{refusal_lacks}}
use Rattle.calc_terms.proofs.SmallLaws.{passed_on}
use Rattle.node_pool.specs.State.{free_of}
use Rattle.number_forms.proofs.Refusals.{none_given, none_kept}
use Rattle.std.proofs.Common.{subst}
use Rattle.tree_handles.proofs.Refused.{kept_after, kept_same, refuses_after}
use Rattle.tree_handles.specs.Causes.{IsCaused, Overflows}
use Rattle.tree_handles.specs.Faults.{Faults, OfOverflow}
use Rattle.tree_handles.specs.Lacking.{OfFull}
use Rattle.tree_handles.specs.declared.fault.NumberFault.TheVariants as fault
use Rattle.coefficients.proofs.Shared.{◌<◌}
use Rattle.coefficients.proofs.multiples.rational_times.Goals as goal

pub returns-in_err-number-in-Num-clause-front : goal.returns-in_err-number-in-Num-clause-front
returns-in_err-number-in-Num-clause-front c =
    front_after (front_at (front_without behind_first front_same) (c.release.ensures.owned (owned c.requires.handed))) c.number.ensures.front

pub returns-in_ok-number-in-Num-clause-ok : goal.returns-in_ok-number-in-Num-clause-ok
returns-in_ok-number-in-Num-clause-ok c =
    let was = sym (seen c.id-in-Num.ensures c.requires.stands c.requires.handed) ∙ c.rational.ensures.plain in
    gives_as c.in_ok-number-in-Num.ensures.given (c.release.ensures.owned (owned c.requires.handed))
    (λ t e. e ∙ ap num c.in_ok-product-in-Num.ensures.product ∙ times_number (value_of c.args.q) (value_of c.rational.result) _ was)

pub returns-in_ok-number-in-Num-clause-front : goal.returns-in_ok-number-in-Num-clause-front
returns-in_ok-number-in-Num-clause-front c =
    front_after (front_at (front_without behind_first front_same) (c.release.ensures.owned (owned c.requires.handed))) c.number.ensures.front

pub rational_times_factors-requires-clause-product : goal.rational_times_factors-requires-clause-product
rational_times_factors-requires-clause-product c =
    product_kind _ (sym c.in-Mult.is ∙ kind_of_root {k = c.kind.result} c.id.ensures c.requires.stands c.requires.handed c.kind.ensures.plain)

pub returns-in-Mult-clause-ok : goal.returns-in-Mult-clause-ok
returns-in-Mult-clause-ok c =
    let m = product_kind _ (sym c.in-Mult.is ∙ kind_of_root {k = c.kind.result} c.id.ensures c.requires.stands c.requires.handed c.kind.ensures.plain) in
    if_map c.rational_times_factors.result _ _ c.rational_times_factors.ensures.ok (λ h x. gives_as x refl (λ t e. e ∙ times_product (value_of c.args.q) _ m))

pub returns-in_ok-put_before-in_default : goal.returns-in_ok-put_before-in_default
returns-in_ok-put_before-in_default c =
    let put = c.in_ok-put_before-in_default.ensures in
    let k = kind_of_root {k = c.kind.result} c.id.ensures c.requires.stands c.requires.handed c.kind.ensures.plain in
    record {
      ok = gives_as put.ok refl (λ t e. e ∙ times_other (value_of c.args.q) _ (λ n. c.in_default.not-Num (k ∙ sym n)) (λ n. c.in_default.not-Mult (k ∙ sym n)));
      front = put.front;
      kept = put.kept;
      faults = tt;
      caused = tt;
      named = tt;
      few = tt;
      stands = put.stands;
    }

pub returns-in_err-product-in-Num-clause-named : goal.returns-in_err-product-in-Num-clause-named
returns-in_err-product-in-Num-clause-named c =
    let was = sym (seen c.id-in-Num.ensures c.requires.stands c.requires.handed) ∙ c.rational.ensures.plain in
    let L : Fraction → Type 0 = λ x. Leads x (tree_of c.args.term c.args.pool.now) in
    named c.from_residual.result c.in_err-product-in-Num.field-0.0 (IsMultiple (value_of c.args.q) L) c.from_residual.ensures.1
    (multiple_named L c.in_err-product-in-Num.field-0.0 c.in_err-product-in-Num.ensures.named (leads_number (value_of c.rational.result) (value_of c.rational.result) _ was refl))

pub returns-in_err-number-in-Num-clause-few : goal.returns-in_err-number-in-Num-clause-few
returns-in_err-number-in-Num-clause-few c =
    let more = released_free c.requires.stands c.release.ensures.stands c.release.ensures.kept c.requires.handed (c.release.ensures.owned (owned c.requires.handed)) in
    refusal_lacks c.from_residual-in_err-number-in-Num.result c.in_err-number-in-Num.field-0.0 _ c.from_residual-in_err-number-in-Num.ensures.1
    (omega (arith, number_refused (rational (ratio_of c.in_ok-product-in-Num.product)) c.in_err-number-in-Num.ensures.full, more))

pub returns-in_err-product-in-Num-clause-ok : goal.returns-in_err-product-in-Num-clause-ok
returns-in_err-product-in-Num-clause-ok c = none_given c.from_residual.result _ c.from_residual.ensures.0

pub returns-in_err-product-in-Num-clause-kept : goal.returns-in_err-product-in-Num-clause-kept
returns-in_err-product-in-Num-clause-kept c = none_kept c.from_residual.result _ c.from_residual.ensures.0

pub returns-in_err-product-in-Num-clause-faults : goal.returns-in_err-product-in-Num-clause-faults
returns-in_err-product-in-Num-clause-faults c = passed_on c.from_residual.result (fault.Overflow c.in_err-product-in-Num.field-0.0) (Faults c.args.pool.now c.args.pool.now) c.from_residual.ensures.0 c.from_residual.ensures.1 (kept_same c.args.pool.now)

pub returns-in_err-product-in-Num-clause-caused : goal.returns-in_err-product-in-Num-clause-caused
returns-in_err-product-in-Num-clause-caused c = passed_on c.from_residual.result (fault.Overflow c.in_err-product-in-Num.field-0.0) (IsCaused c.args.pool.now) c.from_residual.ensures.0 c.from_residual.ensures.1 (subst Overflows (sym c.in_err-product-in-Num.ensures.named) (c.in_err-product-in-Num.ensures.refused.0 refl))

pub returns-in_err-product-in-Num-clause-front : goal.returns-in_err-product-in-Num-clause-front
returns-in_err-product-in-Num-clause-front c = front_same

pub returns-in_err-product-in-Num-clause-few : goal.returns-in_err-product-in-Num-clause-few
returns-in_err-product-in-Num-clause-few c = passed_on c.from_residual.result (fault.Overflow c.in_err-product-in-Num.field-0.0) (OfFull (λ full. free_of c.args.pool.now < 48)) c.from_residual.ensures.0 c.from_residual.ensures.1 (tt)

pub returns-in_err-number-in-Num-clause-ok : goal.returns-in_err-number-in-Num-clause-ok
returns-in_err-number-in-Num-clause-ok c = none_given c.from_residual-in_err-number-in-Num.result _ c.from_residual-in_err-number-in-Num.ensures.0

pub returns-in_err-number-in-Num-clause-kept : goal.returns-in_err-number-in-Num-clause-kept
returns-in_err-number-in-Num-clause-kept c = none_kept c.from_residual-in_err-number-in-Num.result _ c.from_residual-in_err-number-in-Num.ensures.0

pub returns-in_err-number-in-Num-clause-faults : goal.returns-in_err-number-in-Num-clause-faults
returns-in_err-number-in-Num-clause-faults c = passed_on c.from_residual-in_err-number-in-Num.result (fault.Full c.in_err-number-in-Num.field-0.0) (Faults c.args.pool.now c.number.new.pool) c.from_residual-in_err-number-in-Num.ensures.0 c.from_residual-in_err-number-in-Num.ensures.1 (refuses_after c.release.ensures.kept c.in_err-number-in-Num.ensures.full.refuses)

pub returns-in_err-number-in-Num-clause-caused : goal.returns-in_err-number-in-Num-clause-caused
returns-in_err-number-in-Num-clause-caused c = passed_on c.from_residual-in_err-number-in-Num.result (fault.Full c.in_err-number-in-Num.field-0.0) (IsCaused c.number.new.pool) c.from_residual-in_err-number-in-Num.ensures.0 c.from_residual-in_err-number-in-Num.ensures.1 (c.in_err-number-in-Num.ensures.full.lacks)

pub returns-in_err-number-in-Num-clause-named : goal.returns-in_err-number-in-Num-clause-named
returns-in_err-number-in-Num-clause-named c = passed_on c.from_residual-in_err-number-in-Num.result (fault.Full c.in_err-number-in-Num.field-0.0) (OfOverflow (IsMultiple (value_of c.args.q) (λ x. Leads x (tree_of c.args.term c.args.pool.now)))) c.from_residual-in_err-number-in-Num.ensures.0 c.from_residual-in_err-number-in-Num.ensures.1 (tt)

pub returns-in_ok-number-in-Num-clause-kept : goal.returns-in_ok-number-in-Num-clause-kept
returns-in_ok-number-in-Num-clause-kept c = kept_after c.release.ensures.kept c.in_ok-number-in-Num.ensures.kept

pub returns-in_err-put_before-in_default-clause-ok : goal.returns-in_err-put_before-in_default-clause-ok
returns-in_err-put_before-in_default-clause-ok c = none_given c.from_residual-in_err-put_before-in_default.result _ c.from_residual-in_err-put_before-in_default.ensures.0

pub returns-in_err-put_before-in_default-clause-kept : goal.returns-in_err-put_before-in_default-clause-kept
returns-in_err-put_before-in_default-clause-kept c = none_kept c.from_residual-in_err-put_before-in_default.result _ c.from_residual-in_err-put_before-in_default.ensures.0

pub returns-in_err-put_before-in_default-clause-faults : goal.returns-in_err-put_before-in_default-clause-faults
returns-in_err-put_before-in_default-clause-faults c = passed_on c.from_residual-in_err-put_before-in_default.result (fault.Full c.in_err-put_before-in_default.field-0.0) (Faults c.args.pool.now c.put_before.new.pool) c.from_residual-in_err-put_before-in_default.ensures.0 c.from_residual-in_err-put_before-in_default.ensures.1 (c.in_err-put_before-in_default.ensures.full)

pub returns-in_err-put_before-in_default-clause-caused : goal.returns-in_err-put_before-in_default-clause-caused
returns-in_err-put_before-in_default-clause-caused c = passed_on c.from_residual-in_err-put_before-in_default.result (fault.Full c.in_err-put_before-in_default.field-0.0) (IsCaused c.put_before.new.pool) c.from_residual-in_err-put_before-in_default.ensures.0 c.from_residual-in_err-put_before-in_default.ensures.1 (c.in_err-put_before-in_default.ensures.caused)

pub returns-in_err-put_before-in_default-clause-named : goal.returns-in_err-put_before-in_default-clause-named
returns-in_err-put_before-in_default-clause-named c = passed_on c.from_residual-in_err-put_before-in_default.result (fault.Full c.in_err-put_before-in_default.field-0.0) (OfOverflow (IsMultiple (value_of c.args.q) (λ x. Leads x (tree_of c.args.term c.args.pool.now)))) c.from_residual-in_err-put_before-in_default.ensures.0 c.from_residual-in_err-put_before-in_default.ensures.1 (tt)

pub returns-in_err-put_before-in_default-clause-few : goal.returns-in_err-put_before-in_default-clause-few
returns-in_err-put_before-in_default-clause-few c = passed_on c.from_residual-in_err-put_before-in_default.result (fault.Full c.in_err-put_before-in_default.field-0.0) (OfFull (λ full. free_of c.args.pool.now < 48)) c.from_residual-in_err-put_before-in_default.ensures.0 c.from_residual-in_err-put_before-in_default.ensures.1 (c.in_err-put_before-in_default.ensures.few)
