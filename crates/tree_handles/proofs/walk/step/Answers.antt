use Rattle.tree_handles.proofs.Shared.{rules, ◌≡◌, ℕ, ◌+◌, ap, size_of, first_of, since, IsStep, step}
use Rattle.tree_handles.proofs.walk.step.Goals as goal

next : (c : goal.After-size_at) → c.args.at + c.size_at.result ≡ c.args.at + size_of (first_of (since c.args.at c.args.pool.now.nodes))
next c = ap (λ (n : ℕ). c.args.at + n) c.size_at.ensures.value

all : (c : goal.After-size_at) → IsStep c.args.at (c.args.at + c.size_at.result) c.args.pool.now.nodes
all c = rw (next c) (step c.args.at c.args.pool.now.nodes c.requires.boundary c.requires.inside)

pub returns : goal.returns
returns c =
    record { next = next c; rest = (all c).rest; boundary = (all c).boundary; within = (all c).within; header = search rules; grows = search rules; pool = search rules }
