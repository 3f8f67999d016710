-- Trees that are answered as they stand.
use Rattle.std.specs.Prelude.{ℕ, ◌≡◌, Result, Ok}
use Rattle.node_pool.specs.State.{State}
use Rattle.tree_handles.specs.{Handed.{tree_of}, declared.fault.NumberFault.{NumberFault}}

-- the answer is a handed tree, as it is
abbrev pub AnswersItself : ℕ → State → State → Result ℕ NumberFault → Type 0
AnswersItself h old new r = (r ≡ Ok h) × (tree_of h new ≡ tree_of h old)
