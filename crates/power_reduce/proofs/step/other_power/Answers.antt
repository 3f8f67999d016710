use Rattle.power_reduce.proofs.Shared.{sym, ap, ◌∙◌, refl, tree_of, exponent_in, is_half_num, passed_on, free_of, none_given, none_kept, LacksRoot, true≢false, IsCaused, Faults, OfOverflow}
use Rattle.power_reduce.proofs.Cases.{again, broken_other}
use Rattle.tree_handles.specs.declared.fault.NumberFault.TheVariants as fault
use Rattle.power_reduce.proofs.step.other_power.Goals as goal

pub returns-in_err-rooted-in-Some : goal.returns-in_err-rooted-in-Some
returns-in_err-rooted-in-Some c =
    let t = tree_of c.args.power c.args.pool.now in
    let half = sym (ap is_half_num c.exponent_id.ensures.tree) ∙ c.in-Some.ensures.value.0 in
    let r = c.from_residual.result in
    let refusal = fault.Full c.in_err-rooted-in-Some.field-0.0 in
    let refused = c.from_residual.ensures.0 in
    let same = c.from_residual.ensures.1 in
    let told = c.in_err-rooted-in-Some.ensures in
    record {
      ok = none_given r _ refused;
      rationals = λ b e h. absurd (true≢false (sym half ∙ h));
      overflow = passed_on r refusal (OfOverflow (λ o. ⊥)) refused same tt;
      front = c.root_base.ensures.front;
      kept = none_kept r _ refused;
      faults = passed_on r refusal (Faults c.args.pool.now c.root_base.new.pool) refused same told.full;
      caused = passed_on r refusal (IsCaused c.root_base.new.pool) refused same told.caused;
      root_room = λ h. passed_on r refusal (LacksRoot t (free_of c.args.pool.now)) refused same told.room;
      others = λ h. absurd (true≢false (sym half ∙ h));
      stands = c.root_base.ensures.stands;
    }

pub returns-in_ok-rooted-in-Some : goal.returns-in_ok-rooted-in-Some
returns-in_ok-rooted-in-Some c =
    let half = sym (ap is_half_num c.exponent_id.ensures.tree) ∙ c.in-Some.ensures.value.0 in
    let told = c.in_ok-rooted-in-Some.ensures in
    record {
      ok = again (tree_of c.args.power c.args.pool.now) c.requires.sides.power told.ok;
      rationals = λ b e h. absurd (true≢false (sym half ∙ h));
      overflow = tt;
      front = c.root_base.ensures.front;
      kept = told.kept;
      faults = tt;
      caused = tt;
      root_room = λ h. tt;
      others = λ h. refl;
      stands = c.root_base.ensures.stands;
    }

pub kept_power-requires-clause-exponent : goal.kept_power-requires-clause-exponent
kept_power-requires-clause-exponent c = broken_other (exponent_in (tree_of c.args.power c.args.pool.now)) c.requires.exponent
