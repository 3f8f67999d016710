use Rattle.power_reduce.proofs.Shared.{arith, sym, ap, ◌∙◌, passed_on, is_number, is_reduced, tree_of, base_in, exponent_in, none_given, none_kept, IsCaused, Faults, OfOverflow}
use Rattle.power_reduce.proofs.{Cases.{inside_other, number_kept, again}, Exponents.{inside_whole}}
use Rattle.tree_handles.specs.declared.fault.NumberFault.TheVariants as fault
use Rattle.power_reduce.proofs.step.power_of_product.Goals as goal

pub is_reduced_number-requires-clause-reduced : goal.is_reduced_number-requires-clause-reduced
is_reduced_number-requires-clause-reduced c = ap is_reduced c.base_id.ensures.tree ∙ c.requires.sides.base

pub kept_power-requires-clause-exponent : goal.kept_power-requires-clause-exponent
kept_power-requires-clause-exponent c = inside_other (exponent_in (tree_of c.args.power c.args.pool.now)) c.requires.inside

pub kept_power-requires-clause-kept : goal.kept_power-requires-clause-kept
kept_power-requires-clause-kept c = number_kept (base_in (tree_of c.args.power c.args.pool.now)) (exponent_in (tree_of c.args.power c.args.pool.now)) (sym (ap is_number c.base_id.ensures.tree) ∙ sym c.is_reduced_number.ensures ∙ c.if-is_reduced_number.true) (inside_whole (exponent_in (tree_of c.args.power c.args.pool.now)) c.requires.inside)

pub raise_factors-requires-clause-number : goal.raise_factors-requires-clause-number
raise_factors-requires-clause-number c = sym (ap is_number c.base_id.ensures.tree) ∙ sym c.is_reduced_number.ensures ∙ c.if-is_reduced_number.false

pub returns-clause-ok : goal.returns-clause-ok
returns-clause-ok c = again (tree_of c.args.power c.args.pool.now) c.requires.sides.power c.in_ok-raised.ensures.ok

pub returns-in_err-raised : goal.returns-in_err-raised
returns-in_err-raised c = record {
  ok = none_given c.from_residual.result _ c.from_residual.ensures.0;
  overflow = passed_on c.from_residual.result (fault.Full c.in_err-raised.field-0.0) (OfOverflow (λ o. ⊥)) c.from_residual.ensures.0 c.from_residual.ensures.1 tt;
  front = c.raise_factors.ensures.front;
  kept = none_kept c.from_residual.result _ c.from_residual.ensures.0;
  faults = passed_on c.from_residual.result (fault.Full c.in_err-raised.field-0.0) (Faults c.args.pool.now c.raise_factors.new.pool) c.from_residual.ensures.0 c.from_residual.ensures.1 (c.in_err-raised.ensures.full);
  caused = passed_on c.from_residual.result (fault.Full c.in_err-raised.field-0.0) (IsCaused c.raise_factors.new.pool) c.from_residual.ensures.0 c.from_residual.ensures.1 c.in_err-raised.ensures.caused;
  room = grind (arith, passed_on);
  stands = c.raise_factors.ensures.stands;
}
