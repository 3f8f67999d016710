-- A pool that stands for the trees of before has the bytes and the places of before.
use Rattle.pool_checkpoints.proofs.Shared.{◌≡◌, ℕ, ◌-◌, List, ◌++◌, replicate, ap, ◌∙◌, sym, Node, used, encodings, place_of, State, flatten, Stands, forest, PoolsAreRestored}

same_nodes : (before now : State) → Stands before → Stands now → forest now ≡ forest before → now.nodes ≡ before.nodes
same_nodes before now sb sn e = sn.flat ∙ ap flatten e ∙ sym sb.flat

pub pools_are_restored : PoolsAreRestored
pools_are_restored before now sb sn size e =
    let nodes : now.nodes ≡ before.nodes = same_nodes before now sb sn e in
    record {
      used = ap used nodes;
      bytes = ap (λ (ns : List Node). encodings ns ++ replicate (now.size - used ns) 0) nodes ∙ ap (λ (n : ℕ). encodings before.nodes ++ replicate (n - used before.nodes) 0) size;
      places = λ id h. ap (place_of id) nodes;
    }
