use Rattle.node_pool.proofs.{Shared.{arith, refl, exchanged}, Cuts.boundary_le, Fields.{IsDone, opened}, Changes.{done, exchanged_nodes}}
use Rattle.node_pool.proofs.buffer.Buffer.exchange.Goals as goal

pub exchange-requires : goal.exchange-requires
exchange-requires c =
    let o = opened c.self.inside c.args.self.now c.self.invariant c.self.view_is in
    record { apart = omega arith; inside = omega (arith, boundary_le c.args.end c.args.self.now.nodes c.requires.end, o.fits) }

all : (c : goal.After-exchange) → IsDone c.args.self.now (record { store = c.exchange.new.self; used = c.self.inside.used; count = c.self.inside.count }) (exchanged c.args.first c.args.mid c.args.second c.args.end c.args.self.now.nodes)
all c =
    let o = opened c.self.inside c.args.self.now c.self.invariant c.self.view_is in
    let r = c.requires in
    done c.self.inside _ c.args.self.now _ c.self.view_is
    (exchanged_nodes c.self.inside _ c.args.self.now.nodes c.args.first c.args.mid c.args.second c.args.end o (record { first = r.first; mid = r.mid; second = r.second; end = r.end; low = r.low; apart = r.apart; high = r.high }) r.alike c.exchange.ensures refl refl)

pub invariant_of-self : goal.invariant_of-self
invariant_of-self c = (all c).laid

pub returns : goal.returns
returns c = record { nodes = (all c).nodes; kept = (all c).kept }
