-- For how few bytes a step on a power may be refused, and what spans its tree.
use Rattle.std.specs.Prelude.{ℕ, ◌+◌, ◌^◌, ◌<◌, List, length}
use Rattle.calc_room.specs.{Counts.{counted}, Spans.{SpansTree}}
use Rattle.calc_terms.specs.Trees.{Tree, size}
use Rattle.node_pool.specs.State.{State}
use Rattle.tree_handles.specs.Lacking.{OfFull}
use Rattle.power_reduce.specs.{PowerAnswers.{base_in, exponent_in}, PowerSteps.{power_of_root}}
use Rattle.reduce_port.specs.declared.step.Step.{Step}
use Rattle.reduce_port.specs.declared.step.Step.TheVariants as step
use Rattle.tree_handles.specs.{Handed.{tree_of}, declared.fault.NumberFault.{NumberFault}}
use Rattle.tree_room.specs.Needs.{power_step_room}

-- so many free bytes, and those of the power t, are fewer than a step on it needs for each choice of radicands
abbrev pub IsShortOfStep : List ℕ → Tree → ℕ → Type 0
IsShortOfStep gs t free = free + size t < power_step_room (counted (base_in t)) (2 ^ length gs)

-- they are fewer than the power of its root has
abbrev pub IsShortOfRoot : Tree → ℕ → Type 0
IsShortOfRoot t free = free + size t < size (power_of_root (base_in t) (exponent_in t))

-- bytes are lacking only where they are short
abbrev pub LacksStep : List ℕ → Tree → ℕ → NumberFault → Type 0
LacksStep gs t free f = OfFull (λ full. IsShortOfStep gs t free) f

abbrev pub LacksRoot : Tree → ℕ → NumberFault → Type 0
LacksRoot t free f = OfFull (λ full. IsShortOfRoot t free) f

-- the tree is spanned, be it reduced or not yet
abbrev pub SpansStep : List ℕ → State → Step → Type 0
SpansStep gs s (step.Done h) = SpansTree gs (tree_of h s)
SpansStep gs s (step.Again h) = SpansTree gs (tree_of h s)
