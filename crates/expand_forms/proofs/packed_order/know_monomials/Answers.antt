use Rattle.expand_forms.proofs.Shared.{ℕ, ◌<◌, ◌^◌, ◌∙◌, get_or, subst, below_more, get_or_default, Term}
use Rattle.expand_forms.proofs.packed_order.know_monomials.Goals as goal

pub loop-term-preserved : goal.loop-term-preserved
loop-term-preserved c =
    let ts = c.args.terms.now in
    let i = c.loop-term.term-index in
    let t = c.term-item.result in
    λ n d l.
    below_more (λ (k : ℕ). (d : Term) → (get_or ts k d).monomial < 2 ^ 64) i (λ k l d. c.loop-term.invariant k d l)
    (λ d. subst (λ (u : Term). u.monomial < 2 ^ 64) (c.term-item.is ∙ get_or_default ts i t d c.loop-term-test.true) c.know_bits.ensures) n l d
