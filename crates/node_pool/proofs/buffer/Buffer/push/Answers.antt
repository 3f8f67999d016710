use Rattle.node_pool.proofs.{Shared.{arith, refl, ap, ◌+◌, ◌++◌, ◌∷◌, [], ℕ, payload_of, fresh, usable}, Sizes.{length_le_used}, Fields.{IsDone, opened, size_is}, Changes.{done, pushed}}
use Rattle.node_pool.proofs.buffer.Buffer.push.Goals as goal

pub overflow_add-self-2 : goal.overflow_add-self-2
overflow_add-self-2 c =
    let o = opened c.self.inside c.args.self.now c.self.invariant c.self.view_is in
    record { fits = omega (arith, o.count, length_le_used c.args.self.now.nodes, o.fits, o.small) }

all : (c : goal.After-self-2-1) → IsDone c.args.self.now (record { store = c.write_node.new.store; used = c.self.inside.used + c.args.size; count = c.self.inside.count + 1 }) (c.args.self.now.nodes ++ fresh c.args.header.id (payload_of c.args.leaf) ∷ [])
all c =
    let s = c.args.self.now in
    let p = c.self.inside in
    let o = opened p s c.self.invariant c.self.view_is in
    done p _ s _ c.self.view_is (pushed p _ s.nodes c.args.header.id (payload_of c.args.leaf) o (usable c.args.leaf c.requires.usable) (omega arith)
    (omega (arith, c.requires.room, size_is p s c.self.view_is)) c.write_node.ensures (ap (λ (k : ℕ). p.used + k) c.requires.size) refl)

pub invariant_of-self : goal.invariant_of-self
invariant_of-self c = (all c).laid

pub returns : goal.returns
returns c = record { nodes = (all c).nodes; kept = (all c).kept }
