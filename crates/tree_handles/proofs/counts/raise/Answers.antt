use Rattle.tree_handles.proofs.{Shared.{◌≡◌, ◌+◌, refl, ap, ◌∙◌, arith, State, with_count, with_count_in, count_of, Stands, forest}, Forests.{stands, keeps}}
use Rattle.tree_handles.proofs.{Counted.counted-with_count_in, Parts.{live_node, recounted}}
use Rattle.tree_handles.proofs.counts.raise.Goals as goal

pub set_count-requires : goal.set_count-requires
set_count-requires c = live_node c.args.id c.args.pool.now c.requires.stands c.requires.live

all : (c : goal.After-set_count) → (forest c.set_count.new.self ≡ with_count_in c.args.id (count_of c.args.id (forest c.args.pool.now) + 1) (forest c.args.pool.now)) × Stands c.set_count.new.self
all c =
    let s = c.args.pool.now in
    let n = count_of c.args.id (forest s) + 1 in
    let nodes : c.set_count.new.self.nodes ≡ with_count c.args.id n s.nodes = ap (λ (x : State). x.nodes) c.set_count.ensures.nodes ∙ rw c.count-count.ensures refl in
    stands c.set_count.new.self (with_count_in c.args.id n (forest s)) (nodes ∙ recounted c.args.id n s c.requires.stands c.requires.live) c.set_count.ensures.pool
    (counted-with_count_in c.args.id n (forest s) (omega arith) c.requires.stands.counted)

pub returns : goal.returns
returns c = record { forest = (all c).0; kept = keeps c.args.pool.now c.set_count.new.self _ c.set_count.ensures.nodes; stands = (all c).1 }
