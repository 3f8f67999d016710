use Rattle.calc_tokens.proofs.{Shared.{arith, sym, ap, ◌∙◌, is_some}, Parts.{whole_too_wide, kept_too_wide, both_fit, scale_pos, scaled_is}}
use Rattle.calc_tokens.proofs.literals.value.Goals as goal

pub returns-in_err-spelled-clause-fits : goal.returns-in_err-spelled-clause-fits
returns-in_err-spelled-clause-fits c = ap is_some c.from_residual.ensures ∙ sym (whole_too_wide c.args.whole.now c.args.kept.now c.in_err-spelled.ensures)

pub returns-in_err-unscaled-clause-fits : goal.returns-in_err-unscaled-clause-fits
returns-in_err-unscaled-clause-fits c =
    ap is_some c.from_residual-in_err-unscaled.ensures ∙ sym (kept_too_wide c.in_ok-spelled.field-0 c.args.whole.now c.args.kept.now (c.in_ok-spelled.ensures.1) c.in_err-unscaled.ensures)

pub returns : goal.returns
returns c =
    record {
      fits = sym (both_fit c.in_ok-spelled.field-0 c.in_ok-unscaled.unscaled c.args.whole.now c.args.kept.now (c.in_ok-spelled.ensures.1) (c.in_ok-unscaled.ensures.0) (c.in_ok-scale.ensures.0));
      value = c.scaled.ensures ∙ scaled_is c.in_ok-spelled.field-0 c.in_ok-unscaled.unscaled c.in_ok-scale.scale c.args.whole.now c.args.kept.now (c.in_ok-spelled.ensures.1) (c.in_ok-unscaled.ensures.1) (c.in_ok-scale.ensures.1);
    }

pub scaled-requires-clause-positive : goal.scaled-requires-clause-positive
scaled-requires-clause-positive c = omega (arith, c.in_ok-scale.ensures.1, scale_pos c.args.kept.now)
