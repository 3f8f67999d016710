use Rattle.coefficients.proofs.{Shared.{◌∙◌, sym, refl, value_of, gives_as, kind_of_root, sum_kind, no_sum_kind, if_map, free_of, tree_of}, Named.{result_named, names_sum}}
use Rattle.coefficients.proofs.{Puttings.{before_sum, before_other}, Lacks.{refusal_lacks}, Rooms.{part_lacks}}
use Rattle.calc_terms.proofs.SmallLaws.{passed_on}
use Rattle.calc_terms.specs.Trees.{num}
use Rattle.coefficients.specs.Overflows.{NamesPut}
use Rattle.number_forms.proofs.Refusals.{none_given, none_kept}
use Rattle.tree_handles.specs.Causes.{IsCaused}
use Rattle.tree_handles.specs.Faults.{Faults, OfOverflow}
use Rattle.tree_handles.specs.declared.fault.NumberFault.TheVariants as fault
use Rattle.coefficients.proofs.putting.put_other_rational.Goals as goal

pub distribute-requires-clause-sum : goal.distribute-requires-clause-sum
distribute-requires-clause-sum c =
    sum_kind _ (sym c.in-Add.is ∙ kind_of_root {k = c.kind.result} c.id.ensures c.requires.stands c.requires.handed c.kind.ensures.plain)

pub returns-in-Add-clause-ok : goal.returns-in-Add-clause-ok
returns-in-Add-clause-ok c =
    let m = sum_kind _ (sym c.in-Add.is ∙ kind_of_root {k = c.kind.result} c.id.ensures c.requires.stands c.requires.handed c.kind.ensures.plain) in
    if_map c.distribute.result _ _ c.distribute.ensures.ok (λ h x. gives_as x refl (λ t e. e ∙ before_sum (value_of c.args.q) _ m))

pub returns-in_ok-put_before-in_default : goal.returns-in_ok-put_before-in_default
returns-in_ok-put_before-in_default c =
    let put = c.in_ok-put_before-in_default.ensures in
    let k = kind_of_root {k = c.kind.result} c.id.ensures c.requires.stands c.requires.handed c.kind.ensures.plain in
    record {
      ok = gives_as put.ok refl (λ t e. e ∙ before_other (value_of c.args.q) _ (no_sum_kind _ (λ n. c.in_default.not-Add (k ∙ sym n))));
      front = put.front;
      kept = put.kept;
      faults = tt;
      caused = tt;
      named = tt;
      room = λ gs z o s. tt;
      stands = put.stands;
    }

pub returns-in-Add-clause-named : goal.returns-in-Add-clause-named
returns-in-Add-clause-named c =
    let m = sum_kind _ (sym c.in-Add.is ∙ kind_of_root {k = c.kind.result} c.id.ensures c.requires.stands c.requires.handed c.kind.ensures.plain) in
    result_named c.distribute.result _ _ c.distribute.ensures.named (names_sum (value_of c.args.q) _ m)

pub returns-in_err-put_before-in_default-clause-room : goal.returns-in_err-put_before-in_default-clause-room
returns-in_err-put_before-in_default-clause-room c gs z o s =
    refusal_lacks c.from_residual.result c.in_err-put_before-in_default.field-0.0 _ c.from_residual.ensures.1
    (part_lacks gs (tree_of c.args.part c.args.pool.now) (free_of c.args.pool.now) c.requires.reduced s c.in_err-put_before-in_default.ensures.few)

pub returns-in_err-put_before-in_default-clause-ok : goal.returns-in_err-put_before-in_default-clause-ok
returns-in_err-put_before-in_default-clause-ok c = none_given c.from_residual.result _ c.from_residual.ensures.0

pub returns-in_err-put_before-in_default-clause-kept : goal.returns-in_err-put_before-in_default-clause-kept
returns-in_err-put_before-in_default-clause-kept c = none_kept c.from_residual.result _ c.from_residual.ensures.0

pub returns-in_err-put_before-in_default-clause-faults : goal.returns-in_err-put_before-in_default-clause-faults
returns-in_err-put_before-in_default-clause-faults c = passed_on c.from_residual.result (fault.Full c.in_err-put_before-in_default.field-0.0) (Faults c.args.pool.now c.put_before.new.pool) c.from_residual.ensures.0 c.from_residual.ensures.1 (c.in_err-put_before-in_default.ensures.full)

pub returns-in_err-put_before-in_default-clause-caused : goal.returns-in_err-put_before-in_default-clause-caused
returns-in_err-put_before-in_default-clause-caused c = passed_on c.from_residual.result (fault.Full c.in_err-put_before-in_default.field-0.0) (IsCaused c.put_before.new.pool) c.from_residual.ensures.0 c.from_residual.ensures.1 (c.in_err-put_before-in_default.ensures.caused)

pub returns-in_err-put_before-in_default-clause-named : goal.returns-in_err-put_before-in_default-clause-named
returns-in_err-put_before-in_default-clause-named c = passed_on c.from_residual.result (fault.Full c.in_err-put_before-in_default.field-0.0) (OfOverflow (NamesPut (num (value_of c.args.q)) (tree_of c.args.part c.args.pool.now))) c.from_residual.ensures.0 c.from_residual.ensures.1 (tt)
