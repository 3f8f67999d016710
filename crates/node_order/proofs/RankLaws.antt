-- What a sort by an order gives.
use Rattle.node_order.proofs.Shared.{◌≡◌, List, ap, Bool, ranks_by, IsTotalOrder, IsStrictWeakOrder, IsSorted, IsSortedBy, is_lt, Ordering, always_returns_same, Called, ComparesAs, Mut, Bor}

-- where each call compares its two arguments
pub sorted_by_calls : {F X : Type 0} {g : Mut F (Bor X × (Bor X × Unit {0})) Ordering} {f : F} (cmp : X → X → Ordering) (xs : List X) → IsTotalOrder cmp
    → ((lt : X → X → Bool) → IsStrictWeakOrder lt → ComparesAs g lt f → IsSortedBy lt xs)
    → ((a : Bor X × (Bor X × Unit {0})) (r : Ordering) (f' : F) → Called g f a r f' → (r ≡ cmp a.0.now a.1.0.now) × (f' ≡ f)) → IsSorted cmp xs
sorted_by_calls {g = g} {f = f} cmp xs total sorted calls =
    sorted (λ x y. is_lt (cmp x y)) (ranks_by total (λ x. x))
    (always_returns_same g (λ a r. is_lt r ≡ is_lt (cmp a.0.now a.1.0.now)) f (λ a r f' k. (ap is_lt (calls a r f' k).0, (calls a r f' k).1)))
