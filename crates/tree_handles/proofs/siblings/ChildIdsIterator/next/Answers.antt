use Rattle.tree_handles.proofs.{Shared.{◌≡◌, ◌∷◌, ◌-◌, ℕ, sym, ap, ◌∙◌, arith, length, Header, since, root_ids, forest_of, first_trees}, ChildPlaces.{next, next_or_none}}
use Rattle.tree_handles.proofs.siblings.ChildIdsIterator.next.Goals.{After-of}
use Rattle.tree_handles.proofs.siblings.ChildIdsIterator.next.Goals as goal

pub header-header-requires-clause-inside : goal.header-header-requires-clause-inside
header-header-requires-clause-inside c = next c.self.inside.left c.self.inside.place c.self.inside.pool.now.nodes (omega (arith, c.if-self-eq0.false)) c.self.invariant.0 c.self.invariant.1

pub invariant_of-self : goal.invariant_of-self
invariant_of-self c =
    let n = next_or_none c.self.inside.left c.self.inside.place c.next_place-self-inside.result c.self.inside.pool.now.nodes (omega (arith, c.if-self-eq0.false)) c.self.invariant.0 c.self.invariant.1 c.next_place-self-inside.ensures.rest in
    (c.next_place-self-inside.ensures.boundary, n.left-are)

gives : (c : After-of) → c.args.self.now ≡ c.of.result ∷ root_ids (first_trees (c.self.inside.left - 1) (forest_of (since c.next_place-self-inside.result c.self.inside.pool.now.nodes)))
gives c =
    let rest = root_ids (first_trees (c.self.inside.left - 1) (forest_of (since c.next_place-self-inside.result c.self.inside.pool.now.nodes))) in
    let n = next_or_none c.self.inside.left c.self.inside.place c.next_place-self-inside.result c.self.inside.pool.now.nodes (omega (arith, c.if-self-eq0.false)) c.self.invariant.0 c.self.invariant.1 c.next_place-self-inside.ensures.rest in
    sym c.self.view_is ∙ n.ids ∙ ap (λ (i : ℕ). i ∷ rest) (sym (c.of.ensures ∙ ap (λ (h : Header). h.id) c.header-header.ensures.value))

pub returns-clause-steps : goal.returns-clause-steps
returns-clause-steps c = gives c

pub returns-clause-goes : goal.returns-clause-goes
returns-clause-goes c = record { on = λ finite. (tt, tt, omega (arith, ap length (gives c))); keeps = tt; rests = λ finite. tt }
