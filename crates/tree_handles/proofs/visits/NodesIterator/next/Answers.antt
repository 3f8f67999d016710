use Rattle.tree_handles.proofs.Shared.{◌≡◌, ◌∷◌, ◌+◌, ◌-◌, length, sym, ap, ◌∙◌, arith, Header, since, Visit, forest_of, first_trees, visits_of}
use Rattle.tree_handles.proofs.{Visiting.{IsStep, walk_inside, walk_few, walk_step, visit_by, visit_told}, visits.NodesIterator.next.Goals.{After-from, After-of}}
use Rattle.tree_handles.proofs.visits.NodesIterator.next.Goals as goal

pub step-next-requires-clause-inside : goal.step-next-requires-clause-inside
step-next-requires-clause-inside c = walk_inside c.self.inside.place c.self.inside.pool.now.nodes c.self.invariant.0 c.self.invariant.1 (omega (arith, c.if-self-eq0.false))

stepped : (c : After-from) → IsStep c.self.inside.owed (c.self.inside.owed - 1 + c.from.result) (since c.self.inside.place c.self.inside.pool.now.nodes) (since c.step-next.result.1 c.self.inside.pool.now.nodes)
stepped c = walk_step c.from.result (since c.step-next.result.1 c.self.inside.pool.now.nodes) c.self.invariant.1 (omega (arith, c.if-self-eq0.false)) c.step-next.ensures.rest (c.from.ensures ∙ ap (λ (h : Header). h.children) c.step-next.ensures.header)

pub overflow_add-self : goal.overflow_add-self
overflow_add-self c = record { fits = omega (arith, walk_few c.step-next.result.1 c.self.inside.pool.now c.step-next.ensures.pool (stepped c).left) }

pub invariant_of-self : goal.invariant_of-self
invariant_of-self c = (c.step-next.ensures.boundary, (walk_step c.from.result (since c.step-next.result.1 c.self.inside.pool.now.nodes) c.self.invariant.1 (omega (arith, c.if-self-eq0.false)) c.step-next.ensures.rest (c.from.ensures ∙ ap (λ (h : Header). h.children) c.step-next.ensures.header)).left)

gives : (c : After-of) → c.args.self.now ≡ visit_by c.step-next.result.0 c.of.result ∷ visits_of (first_trees (c.self.inside.owed - 1 + c.from.result) (forest_of (since c.step-next.result.1 c.self.inside.pool.now.nodes)))
gives c =
    let left = visits_of (first_trees (c.self.inside.owed - 1 + c.from.result) (forest_of (since c.step-next.result.1 c.self.inside.pool.now.nodes))) in
    sym c.self.view_is
    ∙ (walk_step c.from.result (since c.step-next.result.1 c.self.inside.pool.now.nodes) c.self.invariant.1 (omega (arith, c.if-self-eq0.false)) c.step-next.ensures.rest (c.from.ensures ∙ ap (λ (h : Header). h.children) c.step-next.ensures.header)).shows
    ∙ ap (λ (v : Visit). v ∷ left) (sym (visit_told _ c.step-next.ensures.header c.of.ensures))

pub returns-clause-steps : goal.returns-clause-steps
returns-clause-steps c = gives c

pub returns-clause-goes : goal.returns-clause-goes
returns-clause-goes c = record { on = λ finite. (tt, tt, omega (arith, ap length (gives c))); keeps = tt; rests = λ finite. tt }
