-- The trees that stand first are left, and the others are dropped.
use Rattle.tree_handles.proofs.Shared.{◌≡◌, ℕ, ◌+◌, ◌-◌, ◌≤◌, List, [], ◌++◌, ap, ◌∙◌, sym, subst, arith, append-nil, Node, used, IsBoundary, without, State, IsPool, used-append, boundary-append}
use Rattle.tree_handles.proofs.{Shared.{without-append, Forest, flatten, bytes_in, AllNodes, Starts, Stands, IsCounted, forest}, Forests.{all-left, bytes-flatten, flatten-join, stands}}

-- some trees stand first, and take so many bytes
pub record StandsFirst (bytes : ℕ) (first : Forest) (s : State) : Type 0 where
  pub behind : List Node
  pub nodes : s.nodes ≡ flatten first ++ behind
  pub ends : bytes ≡ used (flatten first)
  pub boundary : IsBoundary bytes s.nodes
  pub within : bytes ≤ used s.nodes

pub stands_first : {bytes : ℕ} {first : Forest} {s : State} → Stands s → Starts first (forest s) → bytes ≡ bytes_in first → StandsFirst bytes first s
stands_first h x e = grind (arith, flatten-join, bytes-flatten, boundary-append, used-append)

-- the nodes that are left
nodes_left : {bytes : ℕ} {first : Forest} {s : State} → StandsFirst bytes first s → without bytes (used s.nodes) s.nodes ≡ flatten first
nodes_left {bytes = bytes} {first = first} {s = s} f =
    let a = flatten first in
    let whole : s.nodes ≡ a ++ (f.behind ++ []) = f.nodes ∙ ap (λ (ns : List Node). a ++ ns) (sym (append-nil f.behind)) in
    let size : used s.nodes ≡ used a + used f.behind = ap used f.nodes ∙ used-append a f.behind in
    ap (without bytes (used s.nodes)) whole ∙ without-append a f.behind [] bytes (used s.nodes) f.ends size ∙ append-nil a

-- so the pool stands for the first trees
pub dropped : {bytes : ℕ} {first : Forest} {s t : State} → Stands s → Starts first (forest s) → bytes ≡ bytes_in first → t ≡ record s { nodes = without bytes (bytes + (used s.nodes - bytes)) s.nodes } → IsPool t → (forest t ≡ first) × Stands t
dropped {bytes = bytes} {first = first} {s = s} {t = t} st x e n p =
    let f : StandsFirst bytes first s = stands_first st x e in
    let end : bytes + (used s.nodes - bytes) ≡ used s.nodes = omega (arith, f.within) in
    stands t first (ap (λ (u : State). u.nodes) n ∙ ap (λ (k : ℕ). without bytes k s.nodes) end ∙ nodes_left f) p (all-left IsCounted first x.behind (subst (AllNodes IsCounted) x.whole st.counted))
