use Rattle.coefficients.proofs.{Shared.{refl, ◌≡◌, true, sym, ap, ◌∙◌, subst, arith, is_number, is_reduced, Tree}, Lengths.{long}}
use Rattle.coefficients.proofs.taking.coefficient_length.Goals as goal

pub is_reduced_number-requires-clause-reduced : goal.is_reduced_number-requires-clause-reduced
is_reduced_number-requires-clause-reduced c =
    let l = long _ c.requires.product c.requires.reduced in
    subst (λ (t : Tree). is_reduced t ≡ true) (sym (c.child_id.ensures.plain c.requires.expression)) (l.child 0 (omega (arith, l.two)))

pub is_reduced_number-requires-else-not-is_reduced_number-clause-reduced : goal.is_reduced_number-requires-else-not-is_reduced_number-clause-reduced
is_reduced_number-requires-else-not-is_reduced_number-clause-reduced c =
    let l = long _ c.requires.product c.requires.reduced in
    subst (λ (t : Tree). is_reduced t ≡ true) (sym (c.child_id-else-not-is_reduced_number.ensures.plain c.requires.expression)) (l.child 1 l.two)

pub returns-then-not-is_reduced_number : goal.returns-then-not-is_reduced_number
returns-then-not-is_reduced_number c =
    let l = long _ c.requires.product c.requires.reduced in
    let first = ap is_number (sym (c.child_id.ensures.plain c.requires.expression)) ∙ sym c.is_reduced_number.ensures ∙ c.if-not-is_reduced_number.true in
    sym (l.length ∙ rw first refl)

pub returns-then-not-is_reduced_number-2 : goal.returns-then-not-is_reduced_number-2
returns-then-not-is_reduced_number-2 c =
    let l = long _ c.requires.product c.requires.reduced in
    let first = ap is_number (sym (c.child_id.ensures.plain c.requires.expression)) ∙ sym c.is_reduced_number.ensures ∙ c.if-not-is_reduced_number.false in
    let second = ap is_number (sym (c.child_id-else-not-is_reduced_number.ensures.plain c.requires.expression)) ∙ sym c.is_reduced_number-else-not-is_reduced_number.ensures
    ∙ c.if-not-is_reduced_number-2.true in
    sym (l.length ∙ rw (first, second) refl)

pub returns-else-not-is_reduced_number-2 : goal.returns-else-not-is_reduced_number-2
returns-else-not-is_reduced_number-2 c =
    let l = long _ c.requires.product c.requires.reduced in
    let first = ap is_number (sym (c.child_id.ensures.plain c.requires.expression)) ∙ sym c.is_reduced_number.ensures ∙ c.if-not-is_reduced_number.false in
    let second = ap is_number (sym (c.child_id-else-not-is_reduced_number.ensures.plain c.requires.expression)) ∙ sym c.is_reduced_number-else-not-is_reduced_number.ensures
    ∙ c.if-not-is_reduced_number-2.false in
    sym (l.length ∙ rw (first, second) refl)
