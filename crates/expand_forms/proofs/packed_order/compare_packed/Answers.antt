use Rattle.expand_forms.proofs.Shared.{◌≡◌, ◌∙◌, sym, ap, code_of, kind_with, nat_cmp, exponents_order, factors_decide, kinds_decide, packed_order}
use Rattle.expand_forms.proofs.packed_order.compare_packed.Goals as goal

pub returns : goal.returns
returns c =
    let es = c.exponents_of-left.result in
    let fs = c.exponents_of-right.result in
    let kinds : c.cmp-kinds.result ≡ nat_cmp (code_of (kind_with 0 es)) (code_of (kind_with 0 fs)) =
    c.cmp-kinds.ensures ∙ (λ i. nat_cmp ((c.code.ensures ∙ ap code_of c.monomial_kind.ensures) i) ((c.code-2.ensures ∙ ap code_of c.monomial_kind-2.ensures) i)) in
    c.compare_exponents.ensures ∙ factors_decide es fs c.cmp-kinds.result c.ne.result kinds c.ne.ensures c.if-ne.false
    ∙ (λ i. exponents_order (c.exponents_of-left.ensures i) (c.exponents_of-right.ensures i)) ∙ sym (packed_order c.args.a c.args.b)

pub returns-then-ne : goal.returns-then-ne
returns-then-ne c =
    let es = c.exponents_of-left.result in
    let fs = c.exponents_of-right.result in
    let kinds : c.cmp-kinds.result ≡ nat_cmp (code_of (kind_with 0 es)) (code_of (kind_with 0 fs)) =
    c.cmp-kinds.ensures ∙ (λ i. nat_cmp ((c.code.ensures ∙ ap code_of c.monomial_kind.ensures) i) ((c.code-2.ensures ∙ ap code_of c.monomial_kind-2.ensures) i)) in
    kinds_decide es fs c.cmp-kinds.result c.ne.result kinds c.ne.ensures c.if-ne.true
    ∙ (λ i. exponents_order (c.exponents_of-left.ensures i) (c.exponents_of-right.ensures i)) ∙ sym (packed_order c.args.a c.args.b)
