use Rattle.node_pool.proofs.{Shared.{List, arith, ap, sym, length, ◌∙◌, Node, IsKept, without_ids}, Keeping.{behind_known, removed_block, since_below, boundary_in}, Unheld.between_unheld}
use Rattle.node_pool.proofs.pool.Pool.remove_unheld.Goals as goal

pub release_unheld-end-requires-clause-known : goal.release_unheld-end-requires-clause-known
release_unheld-end-requires-clause-known c = since_below c.self.inside c.args.at c.self.invariant

pub close_up-requires-clause-gone : goal.close_up-requires-clause-gone
close_up-requires-clause-gone c = c.release_unheld-end.ensures.gone ∙ ap length (sym (between_unheld c.args.trees c.args.at c.release_unheld-end.result.0 c.self.inside.buffer.nodes c.release_unheld-end.ensures.end))

pub close_up-requires-clause-known : goal.close_up-requires-clause-known
close_up-requires-clause-known c = behind_known c.self.inside c.release_unheld-end.result.0 c.self.invariant

all : (c : goal.After-close_up) → IsKept (record { buffer = c.close_up.new.buffer; taken = c.release_unheld-end.new.ids; places = c.close_up.new.places; refusals = c.self.inside.refusals; last_refused = c.self.inside.last_refused })
all c =
    let p = c.self.inside in
    let to = c.release_unheld-end.result.0 in
    removed_block p _ c.args.at to c.self.invariant (boundary_in p c.args.self.now c.args.at c.self.view_is c.requires.boundary) c.release_unheld-end.ensures.to (omega (arith, c.release_unheld-end.ensures.end))
    (c.release_unheld-end.ensures.ids ∙ ap (λ (l : List Node). without_ids l p.taken) (sym (between_unheld c.args.trees c.args.at to p.buffer.nodes c.release_unheld-end.ensures.end))) c.close_up.ensures.places c.close_up.ensures.nodes c.close_up.ensures.kept

pub invariant_of-self : goal.invariant_of-self
invariant_of-self c = all c

pub returns-clause-pool : goal.returns-clause-pool
returns-clause-pool c = (all c).pool
