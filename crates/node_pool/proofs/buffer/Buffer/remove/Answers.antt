use Rattle.node_pool.proofs.{Shared.{arith, refl, ◌+◌, ◌-◌, ap, ℕ, without}, Cuts.between_few, Fields.{IsDone, opened, within}, Changes.{done, removed}}
use Rattle.node_pool.proofs.buffer.Buffer.remove.Goals as goal

pub overflow_sub-rest : goal.overflow_sub-rest
overflow_sub-rest c = omega (arith, within _ _ c.args.end c.self.invariant c.self.view_is c.requires.to)

pub slide-requires : goal.slide-requires
slide-requires c = let w = within _ _ c.args.end c.self.invariant c.self.view_is c.requires.to in record { source = omega (arith, w.low, w.fits); target = omega (arith, w.low, w.fits) }

pub clear-requires-clause-order : goal.clear-requires-clause-order
clear-requires-clause-order c = omega (arith, within _ _ c.args.end c.self.invariant c.self.view_is c.requires.to)

pub overflow_sub-self : goal.overflow_sub-self
overflow_sub-self c =
    let o = opened c.self.inside c.args.self.now c.self.invariant c.self.view_is in
    omega (arith, between_few c.args.at c.args.end c.args.self.now.nodes c.requires.from c.requires.to c.requires.order, o.count, c.requires.gone)

all : (c : goal.After-self-2-1) → IsDone c.args.self.now (record { store = c.clear.new.self; used = c.args.at + (c.self.inside.used - c.args.end); count = c.self.inside.count - c.args.gone }) (without c.args.at c.args.end c.args.self.now.nodes)
all c =
    let o = opened c.self.inside c.args.self.now c.self.invariant c.self.view_is in
    done c.self.inside _ c.args.self.now _ c.self.view_is (removed c.self.inside _ c.slide.new.self c.args.self.now.nodes c.args.at c.args.end o c.requires.from c.requires.to c.requires.order c.slide.ensures c.clear.ensures refl (ap (λ (n : ℕ). c.self.inside.count - n) c.requires.gone))

pub invariant_of-self : goal.invariant_of-self
invariant_of-self c = (all c).laid

pub returns : goal.returns
returns c = record { nodes = (all c).nodes; kept = (all c).kept }
