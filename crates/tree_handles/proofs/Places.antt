-- Bytes and places of the trees that stand first.
use Rattle.tree_handles.proofs.{Shared.{◌≡◌, ℕ, ◌-◌, ap, ◌∙◌, used, State, free_of, bytes_in, Stands, forest}, Forests.{bytes-flatten}}

-- the bytes in use, and those that are free
pub used_forest : (s : State) → Stands s → used s.nodes ≡ bytes_in (forest s)
used_forest s st = ap used st.flat ∙ bytes-flatten (forest s)

pub free_forest : (s : State) → Stands s → free_of s ≡ s.size - bytes_in (forest s)
free_forest s st = ap (λ (n : ℕ). s.size - n) (used_forest s st)
