use Rattle.node_pool.proofs.{Shared.{arith, ◌+◌, IsKept}, Keeping.{behind_known, removed_block, between_below, boundary_in, end_small}}
use Rattle.node_pool.proofs.pool.Pool.remove_block.Goals as goal

pub overflow_add-end : goal.overflow_add-end
overflow_add-end c = record { fits = end_small c.self.inside c.args.self.now (c.args.at + c.args.len) c.self.invariant c.self.view_is c.requires.to }

pub release_block-gone-requires-clause-known : goal.release_block-gone-requires-clause-known
release_block-gone-requires-clause-known c =
    between_below c.self.inside c.args.at (c.args.at + c.args.len) c.self.invariant (boundary_in c.self.inside c.args.self.now c.args.at c.self.view_is c.requires.from) (boundary_in c.self.inside c.args.self.now (c.args.at + c.args.len) c.self.view_is c.requires.to) (omega arith)

pub close_up-requires-clause-known : goal.close_up-requires-clause-known
close_up-requires-clause-known c = behind_known c.self.inside (c.args.at + c.args.len) c.self.invariant

all : (c : goal.After-close_up) → IsKept (record { buffer = c.close_up.new.buffer; taken = c.release_block-gone.new.ids; places = c.close_up.new.places; refusals = c.self.inside.refusals; last_refused = c.self.inside.last_refused })
all c =
    let p = c.self.inside in
    let to = c.args.at + c.args.len in
    removed_block p _ c.args.at to c.self.invariant (boundary_in p c.args.self.now c.args.at c.self.view_is c.requires.from) (boundary_in p c.args.self.now to c.self.view_is c.requires.to) (omega arith)
    c.release_block-gone.ensures.ids c.close_up.ensures.places c.close_up.ensures.nodes c.close_up.ensures.kept

pub invariant_of-self : goal.invariant_of-self
invariant_of-self c = all c

pub returns-clause-pool : goal.returns-clause-pool
returns-clause-pool c = (all c).pool
