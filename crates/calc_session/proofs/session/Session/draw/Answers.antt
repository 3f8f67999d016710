use Rattle.calc_session.proofs.{Shared.{◌∙◌, refl, sym, ap, subst, arith, Content, IsExpression, forest}, DrawingLemmas.{answer_expression}, EvaluationLemmas.{size_kept}, PoolLemmas.{kept_but}}
use Rattle.calc_session.proofs.session.Session.draw.Goals as goal

pub draw_answer-drawn-requires-clause-expression : goal.draw_answer-drawn-requires-clause-expression
draw_answer-drawn-requires-clause-expression g c = subst (λ i. IsExpression i (forest c.self.inside.parts.work.pool)) (sym c.ans.ensures) (answer_expression c.self.invariant.ready.stands c.self.invariant.held)

pub draw_answer-drawn-requires-clause-room : goal.draw_answer-drawn-requires-clause-room
draw_answer-drawn-requires-clause-room g c = omega (arith, c.self.invariant.room, ap (λ (x : Content). x.capacity) c.clear.ensures)

pub draw_answer-drawn-requires-clause-served : goal.draw_answer-drawn-requires-clause-served
draw_answer-drawn-requires-clause-served g c = omega (arith, c.self.invariant.served)

pub invariant_of-self : goal.invariant_of-self
invariant_of-self g c =
    let drawn = c.draw_answer-drawn.ensures in
    kept_but _ c.self.inside.parts _ c.self.invariant (record { stands = drawn.stands; lists = omega (arith, c.self.invariant.ready.lists, size_kept _ _ _ drawn.undone.counted) }) drawn.undone.as_before refl
    (ap (λ (x : Content). x.capacity) c.clear-2.ensures ∙ drawn.capacity ∙ ap (λ (x : Content). x.capacity) c.clear.ensures) drawn.served
