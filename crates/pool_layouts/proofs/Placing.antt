-- One node after another is placed, or refused.
use Rattle.pool_layouts.proofs.Shared.{was_short, IfOk, IfErr, OnOk, IsOk, ◌↔◌, ◌≡◌, ◌∙◌, ℕ, ◌+◌, ◌-◌, ◌<◌, ◌≤◌, List, [], ◌∷◌, Option, Some, None, Result, Ok, Err, sym, ap, subst}
use Rattle.pool_layouts.proofs.Shared.{arith, Kind, Payload, bare, kind_of_payload, size_of_payload, Full, State, free_of, taking, Forest, empty, join, arity}
use Rattle.pool_layouts.proofs.Shared.{bytes_in, one_tree, last_trees, before_last, Ends, Starts, Stands, forest, KeepsRefusals, IsRefused, arity-join, bytes_in-join, join_assoc, refuses_after}
use Rattle.pool_layouts.proofs.Shared.{before-last, before_none, last_none, before_last-join, last_trees-join, ends_as, free_forest, join-empty, Place, HasLast, IsStopped, PlacesMark, StandsIn}
use Rattle.pool_layouts.proofs.{Shared.{mark_before, laid, laid_kind}, Sizes.{takes_one, taken_first}}
use Rattle.calc_terms.specs.declared.kind.Kind.TheVariants as kind

pub ok_as : {T : Type 0} {P Q : T → Type 0} (r : Result T Full) → IfOk r P → ((h : T) → P h → Q h) → IfOk r Q
ok_as r p f = grind arith

-- ---- one node

-- the bytes that are free when one node more is placed over the last trees
pub free_after : (s t : State) (n id : ℕ) (x : Payload) → Stands s → Stands t → KeepsRefusals s t
    → Ends id (one_tree id x (last_trees n (forest s))) (before_last n (forest s)) (forest t) → free_of s - size_of_payload x ≡ free_of t
free_after s t n id x st st' k e =
    let old : bytes_in (forest s) ≡ bytes_in (before_last n (forest s)) + bytes_in (last_trees n (forest s)) = ap bytes_in (sym (before-last n (forest s)))
    ∙ bytes_in-join (before_last n (forest s)) (last_trees n (forest s)) in
    let new : bytes_in (forest t) ≡ bytes_in (before_last n (forest s)) + (size_of_payload x + (bytes_in (last_trees n (forest s)) + 0)) = ap bytes_in e.whole
    ∙ bytes_in-join (before_last n (forest s)) (one_tree id x (last_trees n (forest s))) in
    omega (arith, free_forest s st, free_forest t st', k.size, old, new)

-- a leaf is a node over no trees
pub leaf_ends : (f g : Forest) (id : ℕ) (x : Payload) → Ends id (one_tree id x empty) f g → Ends id (one_tree id x (last_trees 0 f)) (before_last 0 f) g
leaf_ends f g id x e = rw (last_none f, before_none f) e

-- one placing was refused
pub stopped_one : (s t : State) (first : Forest) (size : ℕ) (rest : List ℕ) (full : Full) → IsRefused size s t full → free_of s < size → Starts first (forest s)
    → IsStopped first (size ∷ rest) s t full
stopped_one s t first size rest full r h f = grind arith

pub starts_all : (f : Forest) → Starts f f
starts_all f = record { behind = empty; whole = sym (join-empty f) }

pub starts_before : (n : ℕ) (f : Forest) → Starts (before_last n f) f
starts_before n f = record { behind = last_trees n f; whole = sym (before-last n f) }

-- ---- marks

pub no_mark : (mark : Option Kind) (f : Forest) → None ≡ mark → PlacesMark mark f f 0
no_mark mark f e = grind (arith, join-empty)

pub some_mark : (p : Place) (k : Kind) (f g : Forest) (id : ℕ) → Some k ≡ mark_before p → Ends id (one_tree id (bare k) empty) f g → PlacesMark (mark_before p) f g 1
some_mark p k f g id q e = grind arith

-- ---- what a tree stands in

-- the last tree, seen from the forest
pub record IsLastTree (i begin : ℕ) (f : Forest) : Type 0 where
  pub few : 1 ≤ arity f
  pub begin_is : begin ≡ bytes_in (before_last 1 f)

pub last_tree_is : (i begin : ℕ) (f : Forest) → HasLast i begin f → IsLastTree i begin f
last_tree_is i begin f h = grind (arith, arity-join, before_last-join)

pub stands_over : (k : Kind) (i id : ℕ) (f g : Forest) → Ends id (one_tree id (bare k) (last_trees 1 f)) (before_last 1 f) g → StandsIn (Some k) i f g id
stands_over k i id f g e = grind (arith, ends_as, last_trees-join, before_last-join)

-- ---- one placing, by its result

pub placed_last : (s t : State) (n : ℕ) (x : Payload) (r : Result ℕ Full) → Stands s → Stands t → OnOk r (KeepsRefusals s t)
    → IfOk r (λ h. Ends h (one_tree h x (last_trees n (forest s))) (before_last n (forest s)) (forest t))
    → (IsOk r ↔ (size_of_payload x ≤ free_of s)) → OnOk r (taking (free_of s) (size_of_payload x ∷ []) ≡ Ok (free_of t))
placed_last s t n x r h k l e q = grind (arith, takes_one, free_after)

pub refused_last : (s t : State) (size : ℕ) (r : Result ℕ Full) → IfErr r (IsRefused size s t) → (IsOk r ↔ (size ≤ free_of s)) → IfErr r (IsStopped (forest s) (size ∷ []) s t)
refused_last s t size r e q = grind (arith, stopped_one, was_short, starts_all)

pub refused_err : (s t : State) (size : ℕ) (full : Full) → IsRefused size s t full → (size ≤ free_of s → IsOk {T = ℕ} (Err full)) → IsStopped (forest s) (size ∷ []) s t full
refused_err s t size full e q = stopped_one s t (forest s) size [] full e (was_short full size (free_of s) q) (starts_all (forest s))

pub takes_mark : (s t : State) (id : ℕ) (x : Payload) → Stands s → Stands t → KeepsRefusals s t → Ends id (one_tree id x empty) (forest s) (forest t)
    → size_of_payload x ≤ free_of s → taking (free_of s) (size_of_payload x ∷ []) ≡ Ok (free_of t)
takes_mark s t id x st st' k e room = takes_one (free_of s) (size_of_payload x) room ∙ ap Ok (free_after s t 0 id x st st' k (leaf_ends (forest s) (forest t) id x e))

-- ---- the node of a face

pub leaf_node_ends : (f g : Forest) (id : ℕ) (x y : Payload) (n : ℕ) → laid x ≡ y → n ≡ 0 → Ends id (one_tree id y empty) f g → Ends id (one_tree id (laid x) (last_trees n f)) (before_last n f) g
leaf_node_ends f g id x y n q z e =
    subst (λ (k : ℕ). Ends id (one_tree id (laid x) (last_trees k f)) (before_last k f) g) (sym z)
    (leaf_ends f g id (laid x) (subst (λ (p : Payload). Ends id (one_tree id p empty) f g) (sym q) e))

pub bare_is : (x : Payload) (k j : Kind) → kind_of_payload x ≡ k → (k ≡ kind.Num → ⊥) → (k ≡ kind.Sym → ⊥) → j ≡ laid_kind k → laid x ≡ bare j
bare_is x k j e n s q = grind arith

-- ---- two placings

pub room_after : {T : Type 0} (free mid left size : ℕ) (ns : List ℕ) (r : Result T Full) → taking free (size ∷ []) ≡ Ok mid → OnOk r (taking mid ns ≡ Ok left)
    → OnOk r (taking free (size ∷ ns) ≡ Ok left)
room_after free mid left size ns r a b = grind arith

pub starts_after : (f g h : Forest) → Starts f g → Starts g h → Starts f h
starts_after f g h a b = record { behind = join a.behind b.behind; whole = b.whole ∙ ap (λ (x : Forest). join x b.behind) a.whole ∙ join_assoc f a.behind b.behind }

pub starts_ends : {i : ℕ} {t g f : Forest} → Ends i t g f → Starts g f
starts_ends {t = t} e = record { behind = t; whole = e.whole }

pub stopped_after : (s m t : State) (first : Forest) (size : ℕ) (ns : List ℕ) (r : Result ℕ Full) → taking (free_of s) (size ∷ []) ≡ Ok (free_of m) → KeepsRefusals s m
    → Starts first (forest m) → IfErr r (IsStopped (forest m) ns m t)
    → IfErr r (IsStopped first (size ∷ ns) s t)
stopped_after s m t first size ns r a k f e = grind (arith, taken_first, refuses_after, starts_after)
