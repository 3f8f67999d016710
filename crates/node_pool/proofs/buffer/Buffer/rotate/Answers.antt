use Rattle.node_pool.proofs.{Shared.{arith, refl, swapped}, Cuts.boundary_le, Fields.{IsDone, opened}, Changes.{done, turned_nodes}}
use Rattle.node_pool.proofs.buffer.Buffer.rotate.Goals as goal

pub rotate-requires-clause-inside : goal.rotate-requires-clause-inside
rotate-requires-clause-inside c =
    let o = opened c.self.inside c.args.self.now c.self.invariant c.self.view_is in
    omega (arith, boundary_le c.args.end c.args.self.now.nodes c.requires.end, o.fits)

all : (c : goal.After-rotate) → IsDone c.args.self.now (record { store = c.rotate.new.self; used = c.self.inside.used; count = c.self.inside.count }) (swapped c.args.start c.args.mid c.args.end c.args.self.now.nodes)
all c =
    let o = opened c.self.inside c.args.self.now c.self.invariant c.self.view_is in
    let r = c.requires in
    done c.self.inside _ c.args.self.now _ c.self.view_is (turned_nodes c.self.inside _ c.args.self.now.nodes c.args.start c.args.mid c.args.end o r.start r.mid r.end r.low r.high c.rotate.ensures refl refl)

pub invariant_of-self : goal.invariant_of-self
invariant_of-self c = (all c).laid

pub returns : goal.returns
returns c = record { nodes = (all c).nodes; kept = (all c).kept }
