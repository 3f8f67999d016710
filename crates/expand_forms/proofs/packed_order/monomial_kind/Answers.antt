use Rattle.expand_forms.proofs.{Shared.{ℕ, ◌+◌, ◌∙◌, drop, ap, sym, kind_with, next_none, next_some}, packed_order.monomial_kind.Goals.{then-exponent-ne0+else-only-ne0, else-exponent-ne0}}
use Rattle.expand_forms.proofs.packed_order.monomial_kind.Goals as goal

pub loop-exponent-preserved : goal.loop-exponent-preserved
loop-exponent-preserved c =
    let es = c.args.exponents.now in
    let i = c.loop-exponent.exponent-index in
    let d = c.loop-exponent.only in
    elim c.if-exponent-ne0.branch [
      | then-exponent-ne0+else-only-ne0 w ↦
          c.loop-exponent.invariant ∙ next_some d es i c.loop-exponent-test.true w.if-only-ne0.false w.if-exponent-ne0.true ∙ ap (λ (n : ℕ). kind_with n (drop (i + 1) es)) (sym w.only-is)
      | else-exponent-ne0 w ↦ c.loop-exponent.invariant ∙ next_none d es i c.loop-exponent-test.true w.if-exponent-ne0.false ∙ ap (λ (n : ℕ). kind_with n (drop (i + 1) es)) (sym w.only-is)
    ]
