-- For how few bytes a call on Numbers may be refused.
use Rattle.std.specs.Prelude.{ℕ, ◌*◌, ◌^◌, ◌<◌, List, length, ⊤}
use Rattle.calc_room.specs.Spans.{SpansTree}
use Rattle.node_pool.specs.State.{State}
use Rattle.tree_handles.specs.Lacking.{OfFull}
use Rattle.number_forms.specs.declared.inverting.Inverse.{Inverse}
use Rattle.number_forms.specs.declared.inverting.Inverse.TheVariants as inverse
use Rattle.tree_handles.specs.{Handed.{tree_of}, declared.fault.NumberFault.{NumberFault}}

-- bytes are lacking only where fewer than the call's need are at hand for each choice of radicands
abbrev pub LacksRoom : ℕ → ℕ → List ℕ → NumberFault → Type 0
LacksRoom need bytes gs f = OfFull (λ full. bytes < need * 2 ^ length gs) f

-- what a sum under way and the term that is joined to it need
abbrev pub joining_need : ℕ
joining_need = 144

-- the same beside the power under way
abbrev pub raising_need : ℕ
raising_need = 240

-- the inverse is spanned, or the Number that is none
abbrev pub SpansInverse : List ℕ → State → Inverse → Type 0
SpansInverse gs s (inverse.Value h) = SpansTree gs (tree_of h s)
SpansInverse gs s inverse.Zero = ⊤
SpansInverse gs s (inverse.Wide h) = SpansTree gs (tree_of h s)
