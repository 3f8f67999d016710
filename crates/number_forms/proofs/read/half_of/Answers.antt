use Rattle.number_forms.proofs.{Shared.{◌≡◌, ℕ, ℤ, pos, sym, ap, ◌∙◌, rules, to_z, of_z, FitsSigned, w128, eq-eqb, to_z-of_z, ratio_parts}, CodeTests.{unequal}}
use Rattle.number_forms.proofs.read.half_of.Goals as goal

two_bits : (z : ℤ) → FitsSigned w128 z → of_z w128 z ≡ 2 → z ≡ pos 2
two_bits z fits e = sym (to_z-of_z w128 z fits) ∙ ap (to_z w128) e

two_of : {a b : ℕ} → pos a ≡ pos b → a ≡ b
two_of e = cc

pub returns-then-den-eq2-clause-value : goal.returns-then-den-eq2-clause-value
returns-then-den-eq2-clause-value c =
    let den_fits : FitsSigned w128 c.den.result = search rules in let num_fits : FitsSigned w128 c.num.result = search rules in
    let p = ratio_parts c.args.q in (
      eq-eqb _ 2 (p.den ∙ two_of (sym c.den.ensures.value ∙ two_bits c.den.result den_fits c.if-den-eq2.true)),
      p.num ∙ sym c.num.ensures.value ∙ sym (to_z-of_z w128 c.num.result num_fits),
    )

pub returns-else-den-eq2-clause-value : goal.returns-else-den-eq2-clause-value
returns-else-den-eq2-clause-value c = let p = ratio_parts c.args.q in unequal _ 2 (λ k. c.if-den-eq2.false (ap (of_z w128) (c.den.ensures.value ∙ ap pos (sym p.den ∙ k))))
