-- A rational coefficient that is held with a sum behind it goes into each term of that sum: nothing overflows.
use Rattle.sum_reduce.proofs.Shared.{List, ◌∷◌, ◌++◌, Tree, num, add, value, factors_of, IsMonic, NamesPut, State, Overflow, HaveFewBits, distributed, Addend, addend, addends, OfOverflow, NumberFault}
use Rattle.sum_reduce.proofs.{Shared.{rational_fits, IsCaused}, Held.{few_after, held_same, held_beside}, HeldFactors.{held_distributed}}
use Rattle.tree_handles.specs.Causes.{Overflows}
use Rattle.tree_handles.specs.declared.fault.NumberFault.TheVariants as fault

put_within : (c p : Tree) (xs : List Addend) (o : Overflow) → IsMonic p → NamesPut c p o → Overflows o → HaveFewBits (addend (value c) (factors_of p) ∷ xs) → ⊥
put_within (num q) (add ts) xs o m n f b =
    let k : HaveFewBits (distributed (value (num q)) (addends (add ts)) ++ xs) = few_after (held_beside (held_distributed (value (num q)) ts) (held_same xs)) b in
    rational_fits q ts xs k.high k.low o m n f k.held k.few
put_within c p xs o m n f b = n

pub put_fits : (f : NumberFault) (now : State) (c p : Tree) (xs : List Addend) → OfOverflow (NamesPut c p) f → IsCaused now f → IsMonic p → HaveFewBits (addend (value c) (factors_of p) ∷ xs)
    → OfOverflow (λ o. ⊥) f
put_fits (fault.Full full) now c p xs n k m b = tt
put_fits (fault.Overflow o) now c p xs n k m b = put_within c p xs o m n k b
