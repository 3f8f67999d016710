use Rattle.node_pool.proofs.{Shared.{arith, ap, ◌∙◌, ◌≡◌, ℕ, place_in, place_of, State}, Found.place_boundary, Keeping.live_in, Walk.place_room}
use Rattle.node_pool.proofs.pool.Pool.locate.Goals as goal

place : (c : goal.After-of) → c.of.result ≡ place_of c.args.id c.args.self.now.nodes
place c =
    let live = live_in c.self.inside c.args.self.now c.args.id c.self.view_is c.requires in
    c.of.ensures ∙ ap (λ (i : ℕ). place_in i c.self.inside.places) c.value.ensures ∙ c.self.invariant.places c.args.id live ∙ ap (λ (s : State). place_of c.args.id s.nodes) c.self.view_is

pub returns-clause-boundary : goal.returns-clause-boundary
returns-clause-boundary c = place_boundary c.args.id c.args.self.now.nodes c.of.result c.requires (place c)

pub returns-clause-inside : goal.returns-clause-inside
returns-clause-inside c = omega (arith, place c, place_room c.args.id c.args.self.now.nodes c.requires)
