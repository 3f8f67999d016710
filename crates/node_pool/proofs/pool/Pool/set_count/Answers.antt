use Rattle.node_pool.proofs.{Shared.{refl, ap, ◌∙◌, true, ◌≡◌, IsKept, has}, Found.found, Keeping.{changed, live_in}}
use Rattle.node_pool.proofs.pool.Pool.set_count.Goals as goal

live : (c : goal.After-set_count) → has c.value.result c.self.inside.buffer.nodes ≡ true
live c = live_in c.self.inside c.args.self.now c.value.result c.self.view_is (ap (λ i. has i c.args.self.now.nodes) c.value.ensures ∙ c.requires)

all : (c : goal.After-set_count) → IsKept (record { buffer = c.set_count.new.self; taken = c.self.inside.taken; places = c.self.inside.places; refusals = c.self.inside.refusals; last_refused = c.self.inside.last_refused })
all c =
    let f = found c.value.result c.self.inside.buffer.nodes (live c) in
    changed c.self.inside _ _ f.before f.after f.node (record f.node { count = c.args.count }) c.self.invariant c.set_count.ensures.nodes c.set_count.ensures.kept refl refl f.whole
    (f.counted c.args.count) refl refl

pub invariant_of-self : goal.invariant_of-self
invariant_of-self c = all c

pub returns-clause-pool : goal.returns-clause-pool
returns-clause-pool c = (all c).pool
