use Rattle.beautify.proofs.{Shared.{◌≡◌, ap, sym, ◌∙◌, rules, true, FitsSigned, ratio_parts, w128, to_z-of_z}, Signs.{below_zero-fraction, below_zero-positive, below_zero-whole}}
use Rattle.std.specs.Prelude.{nat_abs}
use Rattle.beautify.proofs.reading.whole_below_zero.Goals as goal

pub returns-then-not-is_whole : goal.returns-then-not-is_whole
returns-then-not-is_whole c = sym (below_zero-fraction _ _ (λ e. let w : c.is_whole.result ≡ true = c.is_whole.ensures.1 (sym (ratio_parts c.args.value).den ∙ e) in cc))

pub returns-then-not-is_below_zero : goal.returns-then-not-is_below_zero
returns-then-not-is_below_zero c = sym (below_zero-positive _ _ (sym c.is_below_zero.ensures ∙ c.if-not-is_below_zero.true))

pub returns : goal.returns
returns c =
    let fits : FitsSigned w128 c.num.result = search rules in
    c.unsigned_abs.ensures.value ∙ ap nat_abs (to_z-of_z w128 _ fits ∙ c.num.ensures.value ∙ sym (ratio_parts c.args.value).num)
    ∙ sym (below_zero-whole _ _ (sym c.is_below_zero.ensures ∙ c.if-not-is_below_zero.false) ((ratio_parts c.args.value).den ∙ c.is_whole.ensures.0 c.if-not-is_whole.false))
