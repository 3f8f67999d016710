use Rattle.node_order.proofs.Shared.{◌≡◌, ◌<◌, ℕ, get_or, length}
use Rattle.node_order.proofs.arranging.list_places.Given as goal

abbrev pub invariant-loop-place : goal.invariant-loop-place
invariant-loop-place l = (length l.listed ≡ length l.fn.listed) × ((k : ℕ) → k < l.place → get_or l.listed k 0 ≡ k)
