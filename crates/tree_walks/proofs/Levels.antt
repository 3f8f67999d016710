-- A walk that has met no node below the limit.
use Rattle.tree_walks.proofs.Shared.{◌≡◌, ℕ, ◌-◌, ◌<◌, ◌≤◌, List, [], ◌∷◌, get_or, arith, Visit, Forest, empty, tree, AreOpen, reach, IsWalked, open_count, max}

pub record IsShallow (left : List Visit) (height total many : ℕ) (owed : List ℕ) : Type 0 where
  pub deepest : ℕ
  pub walked : IsWalked left height deepest total many owed
  pub few : deepest ≤ 64

pub shallow : {left : List Visit} {height deepest total many : ℕ} {owed : List ℕ} → IsWalked left height deepest total many owed → deepest ≤ 64 → IsShallow left height total many owed
shallow {deepest = deepest} w h = record { deepest = deepest; walked = w; few = h }

-- a node is owed on a level that is too deep
found : (fs : List Forest) (height deepest total : ℕ) (owed : List ℕ) → AreOpen fs height owed → max deepest (reach fs) ≡ total → 64 < height → 0 < get_or owed (height - 1) 0 → 64 < total
found [] height deepest total owed p s deep some = absurd (omega (arith, p))
found (empty ∷ fs) height deepest total owed p s deep some = absurd (omega (arith, p.1))
found (tree l k r ∷ fs) height deepest total owed p s deep some = omega (arith, s, open_count fs (height - 1) owed p.2, p.0)

pub too_deep : {left : List Visit} {height total many : ℕ} {owed : List ℕ} → IsShallow left height total many owed → 64 < height → 0 < get_or owed (height - 1) 0 → 64 < total
too_deep {height = height} {total = total} {owed = owed} h deep some = found h.walked.trees height h.deepest total owed h.walked.levels h.walked.sum deep some
