-- Lemmas on pools that are rolled back.
use Rattle.calc_session.proofs.Shared.{arith, ◌≡◌, [], sym, subst, IsHeld, Table, Full, Forest, bytes_in, forest_of, KeepsFront, Stands, forest, KeepsRefusals, CountsRefusal, IsKept, IsReady, after}
use Rattle.calc_session.proofs.Shared.{IsRolledBack, state_of, Parts, IsBelow, all_below, still_below}
use Rattle.std.proofs.Common.{◌≤◌, ℕ, Option}
use Rattle.node_pool.specs.State.{State}

-- a refusal that was counted is still the last one where only nodes change
pub still_counted : (refusal : Option Full) (s t u : State) → CountsRefusal refusal s t → KeepsRefusals t u → CountsRefusal refusal s u
still_counted refusal s t u r k = grind arith

-- all that stood when a mark was opened is below it, whatever was built since
pub old_below : {mark : ℕ} {old new : Forest} → mark ≡ bytes_in old → KeepsFront [] old new → IsBelow mark old new
old_below e k = still_below (all_below e) k tt

-- the old trees alone are left
pub rolled_back : (refusal : Option Full) (old mid new : State) → Stands old → Stands new → CountsRefusal refusal old mid → KeepsRefusals mid new → forest new ≡ forest old → IsRolledBack refusal old new
rolled_back refusal old mid new h k r l e = grind arith

pub same_state : (old new : State) (t : Table) → new.size ≡ old.size → new.nodes ≡ old.nodes → state_of new t ≡ state_of old t
same_state old new t size nodes = λ i. record { size = size i; nodes = nodes i; table = t }

-- ---- parts whose pool was rolled back

pub nodes_kept : (lack : Option Full) (p q : State) → q ≡ after lack p.nodes p → q.nodes ≡ p.nodes
nodes_kept lack p q e = grind arith

pub size_same : (lack : Option Full) (p q : State) → q ≡ after lack p.nodes p → q.size ≡ p.size
size_same lack p q e = grind arith

pub still_held : (lack : Option Full) (t : Table) (p q : State) → q ≡ after lack p.nodes p → IsHeld t (forest p) → IsHeld t (forest q)
still_held lack t p q e h = subst (λ ns. IsHeld t (forest_of ns)) (sym (nodes_kept lack p q e)) h

-- all is as before but for a refusal
pub kept_but : (lack : Option Full) (p q : Parts) → IsKept p → IsReady q.work → q.work.pool ≡ after lack p.work.pool.nodes p.work.pool → q.table ≡ p.table → q.text.capacity ≡ p.text.capacity → q.drafter.pool_size ≡ p.drafter.pool_size → IsKept q
kept_but lack p q h ready same table room served = grind (arith, size_same, still_held)

-- the trees stand as before, and the rest has kept its room
pub kept_still : (p q : Parts) → IsKept p → Stands q.work.pool → q.work.pool.size ≡ p.work.pool.size → forest q.work.pool ≡ forest p.work.pool → q.work.pool.size ≤ q.work.faces → q.table ≡ p.table → q.text.capacity ≡ p.text.capacity → q.drafter.pool_size ≡ p.drafter.pool_size → IsKept q
kept_still p q h stands size trees fits table room served = grind (arith)
