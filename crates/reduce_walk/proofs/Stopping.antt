-- A walk that ends without an answer.
use Rattle.reduce_walk.proofs.Shared.{◌≡◌, ℕ, ◌+◌, ◌<◌, ◌≤◌, List, Some, None, Result, Err, true, sym, ap, subst, arith, IfErr, OnOk, CalmChecks-append, Check, CalmChecks, Tree, Trees, none, more}
use Rattle.reduce_walk.proofs.Shared.{count, nodes, nodes_of, size, sizes, root_size, State, free_of, Overflow, one_calm, calm_up_to, trips_at_once, calm_up_to_after, trips_within_after, TripsWithin}
use Rattle.reduce_walk.proofs.Shared.{fault_of, ReduceFault, IsNext, is_leaf, Stops, plain, children_of, Forest, root_tree, KeepsRefusals, calm_more, trips_more, kept_after, refuses_after, OfFull}
use Rattle.reduce_walk.proofs.{Shared.{IsCaused, Faults, NumberFault}, Walks.{AllWalked, IsWalked, IsNextChild, fewer_nodes, is_next, leaf_nodes, nodes_by_children}}
use Rattle.calc_terms.proofs.SmallLaws.{one_node as some_nodes}
use Rattle.breakers.specs.State.{State as BreakerState}
use Rattle.tree_handles.specs.Faults.{IfOverflow}
use Rattle.reduce_port.specs.declared.fault.ReduceFault.TheVariants as fault

-- ---- checks

count_nodes : (ts : Trees) → count ts ≤ nodes_of ts
count_nodes none = omega arith
count_nodes (more t ts) = omega (arith, nodes_by_children t, count_nodes ts)

-- a check at a child is among those for each node
pub leaf_counts : (n : ℕ) (t : Tree) → n < count (children_of t) → n + 1 ≤ nodes t
leaf_counts n t l = omega (arith, l, nodes_by_children t, count_nodes (children_of t))

-- the one check at a leaf
pub leaf_calm : (before after : List BreakerState) (t : Tree) → is_leaf t ≡ true → Check before after None → CalmChecks (nodes t) before after
leaf_calm before after t h c = subst (λ (n : ℕ). CalmChecks n before after) (sym (leaf_nodes t h)) (one_calm before after c)

pub leaf_trips : {before after : List BreakerState} {place : ℕ} (t : Tree) → Check before after (Some place) → TripsWithin (nodes t) before after place
leaf_trips {before = before} {after = after} {place = place} t c = trips_at_once (nodes t) before after place (some_nodes t) c

-- the one before a node's own step
pub all_checks : {A : Tree → Tree → Type 0} {i : ℕ} {old new : Forest} {before after : List BreakerState} (last : List BreakerState) → AllWalked A i old new before after → Check after last None → CalmChecks (nodes (plain (root_tree i old))) before last
all_checks last w c = grind (arith, nodes_by_children, CalmChecks-append, one_calm)

pub last_trips : {A : Tree → Tree → Type 0} {i : ℕ} {old new : Forest} {before after : List BreakerState} (last : List BreakerState) (place : ℕ) → AllWalked A i old new before after → Check after last (Some place) → TripsWithin (nodes (plain (root_tree i old))) before last place
last_trips last place w c = grind arith

-- ---- a child has no answer

-- what stops a child stops its parent
pub record StopsParent (A : Tree → Tree → Type 0) (L : Tree → ℕ → Type 0) (U : Tree → ℕ → Overflow → Type 0) (t : Tree) : Type 0 where
  pub lacks : (c : Tree) (before done behind : Trees) (bytes : ℕ) → IsNext A t before done c behind → L c bytes → L t (bytes + (root_size t + sizes done + sizes behind))
  pub overflows : (c : Tree) (before done behind : Trees) (place : ℕ) (o : Overflow) → IsNext A t before done c behind → U c place o → U t (nodes_of before + place) o

pub child_stops : {A : Tree → Tree → Type 0} {L : Tree → ℕ → Type 0} {U : Tree → ℕ → Overflow → Type 0} {i leaves at : ℕ} {old new : Forest} {before after : List BreakerState} {s t : State} {w : IsWalked A i leaves at old new before after} (last : List BreakerState) (u : State) (n : IsNextChild w) (c : Tree) (e : ReduceFault)
    → StopsParent A L U (plain (root_tree i old)) → c ≡ n.child → KeepsRefusals s t → free_of t + size c + (root_size (plain (root_tree i old)) + sizes w.answers + sizes n.rest) ≡ free_of s + size (plain (root_tree i old)) → Stops L U c t u after last e → Stops L U (plain (root_tree i old)) s u before last e
child_stops {L = L} {i = i} {old = old} {before = before} {after = after} {t = t} {w = w} last u n c (fault.Full full) p same k free (l, r, m, x) = (
  l,
  refuses_after k r,
  calm_more (calm_up_to_after (nodes_of w.done) (nodes c) before after last w.calm m) (omega (arith, fewer_nodes n, ap nodes same)),
  subst (L (plain (root_tree i old))) free (p.lacks n.child w.done w.answers n.rest (free_of t + size c) (is_next n) (subst (λ (x : Tree). L x (free_of t + size c)) same x)),
)
child_stops {U = U} {before = before} {after = after} {w = w} last u n c (fault.Overflow o) p same k free (x, r, m) = (
  x,
  kept_after k r,
  record {
    place = nodes_of w.done + m.place;
    some = omega (arith, m.some);
    few = omega (arith, m.few, fewer_nodes n, ap nodes same);
    calm = CalmChecks-append (nodes_of w.done) m.place before after last w.calm m.calm;
    unfit = p.overflows n.child w.done w.answers n.rest m.place o (is_next n) (subst (λ (x : Tree). U x m.place o) same m.unfit);
  },
)
child_stops {before = before} {after = after} {w = w} last u n c (fault.Interrupted by) p same k free (r, m) =
    (kept_after k r, trips_more (trips_within_after (nodes_of w.done) (nodes c) before after last by.by w.calm m) (omega (arith, fewer_nodes n, ap nodes same)))

-- ---- a node's own step is refused

pub step_stops : (L : Tree → ℕ → Type 0) (U : Tree → ℕ → Overflow → Type 0) {s t : State} {bytes : ℕ} (u : State) (before after : List BreakerState) (tree : Tree) (e : NumberFault) → CalmChecks (nodes tree) before after → KeepsRefusals s t → Faults t u e → IsCaused u e
    → bytes ≡ free_of s + size tree → OfFull (λ full. L tree bytes) e → IfOverflow {A = ℕ} (Err e) (U tree (nodes tree)) → Stops L U tree s u before after (fault_of e)
step_stops L U u before after tree e c k f w h l m = grind (arith, refuses_after, calm_up_to, some_nodes, kept_after)

-- ---- where it is the error

pub stopped : (L : Tree → ℕ → Type 0) (U : Tree → ℕ → Overflow → Type 0) {s t : State} {x y : Tree} (r : Result ℕ ReduceFault) (u : State) (before after : List BreakerState) → x ≡ y → KeepsRefusals s t → free_of t + size x ≡ free_of s + size y
    → IfErr r (Stops L U x t u before after) → IfErr r (Stops L U y s u before after)
stopped L U r u before after q k h l = grind arith

pub kept_from : {s t : State} (u : State) (r : Result ℕ ReduceFault) → KeepsRefusals s t → OnOk r (KeepsRefusals t u) → OnOk r (KeepsRefusals s u)
kept_from u r k h = grind arith
