-- Facts of the bytes that are lacking.
use Rattle.std.specs.Prelude.{ℕ, ◌<◌, ⊤}
use Rattle.node_pool.specs.declared.full.Full.{Full}
use Rattle.tree_handles.specs.declared.fault.NumberFault.{NumberFault}
use Rattle.tree_handles.specs.declared.fault.NumberFault.TheVariants as fault

-- a fact of the refusal for bytes
abbrev pub OfFull : (Full → Type 0) → NumberFault → Type 0
OfFull P (fault.Full full) = P full
OfFull P (fault.Overflow o) = ⊤

-- bytes are lacking only where fewer than these are at hand
abbrev pub LacksBelow : ℕ → ℕ → NumberFault → Type 0
LacksBelow need bytes f = OfFull (λ full. bytes < need) f
