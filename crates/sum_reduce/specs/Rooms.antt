-- For how few bytes the terms of a sum are not collected.
use Rattle.std.specs.Prelude.{ℕ, ◌+◌, ◌*◌, ◌^◌, List, length}
use Rattle.calc_room.specs.Needs.{sum_need}
use Rattle.calc_terms.specs.Trees.{Trees}
use Rattle.tree_handles.specs.{Lacking.{LacksBelow}, declared.fault.NumberFault.{NumberFault}}
use Rattle.tree_room.specs.{Handed.{sum_count}, Needs.{tree_bytes}}

-- the bytes of reduced terms of which h nodes count, and of adding two Numbers beside them
abbrev pub terms_room : ℕ → ℕ → ℕ
terms_room h m = tree_bytes h m + sum_need * m

-- bytes are lacking only where these terms and adding need more, for each choice of radicands
abbrev pub LacksTerms : List ℕ → Trees → ℕ → NumberFault → Type 0
LacksTerms gs ts bytes f = LacksBelow (terms_room (sum_count ts) (2 ^ length gs)) bytes f
