-- For how few bytes a coefficient is not put back.
use Rattle.std.specs.Prelude.{ℕ, ◌+◌, ◌*◌, ◌^◌, ◌<◌, List, length}
use Rattle.tree_handles.specs.{Lacking.{OfFull}, declared.fault.NumberFault.{NumberFault}}
use Rattle.tree_room.specs.Needs.{tree_bytes}

-- the bytes of a reduced part that counts c and of a Number, where m products of radicands may be chosen
abbrev pub put_room : ℕ → ℕ → ℕ
put_room c m = tree_bytes c m + 96 * m

-- bytes are lacking only where fewer than these are at hand, for each choice of radicands
abbrev pub LacksRoom : ℕ → ℕ → List ℕ → NumberFault → Type 0
LacksRoom c bytes gs f = OfFull (λ full. bytes < put_room c (2 ^ length gs)) f
