-- What marks and rolling back come to.
use Rattle.std.specs.Prelude.{ℕ, ◌≡◌, ◌≤◌}
use Rattle.node_pool.specs.State.{State}
use Rattle.tree_handles.specs.{Forest.{Forest}, Standing.{Stands, forest}}
use Rattle.pool_checkpoints.specs.Marks.{IsBelow, IsRestored}

-- where a pool stands for the trees for which it stood, and its size is the same, it is as it was
abbrev pub PoolsAreRestored : Type 0
PoolsAreRestored =
    (before now : State) → Stands before → Stands now → now.size ≡ before.size → forest now ≡ forest before
    → IsRestored before now

-- of two marks, the trees below the outer one stand first among those below the inner one
abbrev pub MarksNest : Type 0
MarksNest =
    (outer inner : ℕ) (few many f : Forest) → outer ≤ inner → IsBelow outer few f → IsBelow inner many f
    → IsBelow outer few many
