use Rattle.node_pool.proofs.{Shared.{arith, refl, with_count}, Walk.place_room, Fields.{IsDone, opened}, Changes.{done, recounted}}
use Rattle.node_pool.proofs.buffer.Buffer.set_count.Goals as goal

pub write_count-requires-clause-inside : goal.write_count-requires-clause-inside
write_count-requires-clause-inside c =
    let o = opened c.self.inside c.args.self.now c.self.invariant c.self.view_is in
    omega (arith, place_room c.args.id c.args.self.now.nodes c.requires.live, c.requires.place, o.fits)

all : (c : goal.After-write_count) → IsDone c.args.self.now (record { store = c.write_count.new.store; used = c.self.inside.used; count = c.self.inside.count }) (with_count c.args.id c.args.count c.args.self.now.nodes)
all c =
    let o = opened c.self.inside c.args.self.now c.self.invariant c.self.view_is in
    done c.self.inside _ c.args.self.now _ c.self.view_is (recounted c.self.inside _ c.args.self.now.nodes c.args.id c.args.at c.args.count o c.requires.live c.requires.place (omega arith) c.write_count.ensures refl refl)

pub invariant_of-self : goal.invariant_of-self
invariant_of-self c = (all c).laid

pub returns : goal.returns
returns c = record { nodes = (all c).nodes; kept = (all c).kept }
