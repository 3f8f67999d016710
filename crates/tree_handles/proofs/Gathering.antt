-- The last trees become the children of a new node.
use Rattle.std.specs.Prelude.{◌≡◌, ℕ, ◌-◌, ◌≤◌, List, ◌∷◌, ◌++◌, false}
use Rattle.tree_handles.proofs.Shared.{refl, sym, ap, ◌∙◌, subst, arith, append-nil, Node, Kind, Payload, bare, used, IsBoundary, parent, put_before, since, State, IsPool, until-append}
use Rattle.tree_handles.proofs.Shared.{since-append, boundary-append, Forest, empty, join, arity, flatten, first_trees, rest_trees, one_tree, bytes_in, AllNodes, before_last, last_trees, Ends}
use Rattle.tree_handles.proofs.{Shared.{holds, Stands, forest, IsCounted}, Forests.{join-empty, flatten-join, first-rest, first_trees-join, rest_trees-join, arity-rest_trees}}
use Rattle.tree_handles.proofs.{Forests.{arity-join, bytes-flatten, all-join, all-first_trees, all-rest_trees, stands}, Joins.holds-join, Outcomes.not_left, Roots.no_root}

pub arity-last_trees : (n : ℕ) (f : Forest) → n ≤ arity f → arity (last_trees n f) ≡ n
arity-last_trees n f h = omega (arith, arity-rest_trees (arity f - n) f)

pub before-last : (n : ℕ) (f : Forest) → join (before_last n f) (last_trees n f) ≡ f
before-last n f = first-rest (arity f - n) f

-- the last trees by their number
pub before_last-join : (n : ℕ) (f g : Forest) → n ≡ arity g → before_last n (join f g) ≡ f
before_last-join n f g e =
    let count : arity (join f g) - n ≡ arity f = omega (arith, arity-join f g) in
    ap (λ (k : ℕ). first_trees k (join f g)) count ∙ first_trees-join f g

pub last_trees-join : (n : ℕ) (f g : Forest) → n ≡ arity g → last_trees n (join f g) ≡ g
last_trees-join n f g e =
    let count : arity (join f g) - n ≡ arity f = omega (arith, arity-join f g) in
    ap (λ (k : ℕ). rest_trees k (join f g)) count ∙ rest_trees-join f g

pub before_none : (f : Forest) → before_last 0 f ≡ f
before_none f = ap (before_last 0) (sym (join-empty f)) ∙ before_last-join 0 f empty refl

pub last_none : (f : Forest) → last_trees 0 f ≡ empty
last_none f = ap (last_trees 0) (sym (join-empty f)) ∙ last_trees-join 0 f empty refl

-- no node of a forest is one of its parts'
pub not_below : (i n : ℕ) (f : Forest) → holds i f ≡ false → holds i (before_last n f) ≡ false
not_below i n f h = not_left _ (holds i (last_trees n f)) (sym (holds-join i (before_last n f) (last_trees n f)) ∙ ap (holds i) (before-last n f) ∙ h)

-- ---- the new node

-- a node goes before the last trees, which begin at a place
pub record IsGathered (id n from : ℕ) (k : Kind) (f : Forest) (ns : List Node) : Type 0 where
  pub begin : IsBoundary from ns
  pub done : put_before from (parent id k n) ns ≡ flatten (join (before_last n f) (one_tree id (bare k) (last_trees n f)))

pub gathered : (id n from : ℕ) (k : Kind) (f : Forest) (ns : List Node) → n ≤ arity f → ns ≡ flatten f → from ≡ bytes_in (before_last n f) → IsGathered id n from k f ns
gathered id n from k f ns few e at =
    let a = flatten (before_last n f) in
    let b = flatten (last_trees n f) in
    let m : Node = parent id k n in
    let parts : ns ≡ a ++ b = e ∙ ap flatten (sym (before-last n f)) ∙ flatten-join (before_last n f) (last_trees n f) in
    let place : from ≡ used a = at ∙ sym (bytes-flatten (before_last n f)) in
    let many : n ≡ arity (last_trees n f) = sym (arity-last_trees n f few) in
    record {
      begin = subst (IsBoundary from) (sym parts) (boundary-append a b from place);
      done = ap (put_before from m) parts ∙ ap (λ (i : ℕ). put_before i m (a ++ b)) place ∙ ap (λ (l : List Node). l ++ m ∷ since (used a) (a ++ b)) (until-append a b) ∙ ap (λ (l : List Node). a ++ m ∷ l) (since-append a b)
          ∙ ap (λ (i : ℕ). a ++ parent id k i ∷ b) many ∙ ap (λ (l : List Node). a ++ parent id k (arity (last_trees n f)) ∷ l) (sym (append-nil b)) ∙ sym (flatten-join (before_last n f) (one_tree id (bare k) (last_trees n f)));
    }

pub counted_over : (id n : ℕ) (x : Payload) (f : Forest) → AllNodes IsCounted f → AllNodes IsCounted (join (before_last n f) (one_tree id x (last_trees n f)))
counted_over id n x f h = all-join IsCounted (before_last n f) (one_tree id x (last_trees n f)) (all-first_trees IsCounted (arity f - n) f h) (omega arith, all-rest_trees IsCounted (arity f - n) f h, tt)

-- what stands then
pub record IsOver (id n : ℕ) (x : Payload) (f : Forest) (s : State) : Type 0 where
  pub ends : Ends id (one_tree id x (last_trees n f)) (before_last n f) (forest s)
  pub stands : Stands s

pub over : (id n : ℕ) (x : Payload) (f : Forest) (s : State) → holds id f ≡ false → AllNodes IsCounted f → IsPool s → s.nodes ≡ flatten (join (before_last n f) (one_tree id x (last_trees n f))) → IsOver id n x f s
over id n x f s new h p e = grind (arith, stands, counted_over, no_root, not_below)
