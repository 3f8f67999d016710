-- Laws of forests: joining, prefix order, and the parser.
use Rattle.tree_handles.proofs.Shared.{◌≡◌, ℕ, zero, suc, ◌+◌, ◌-◌, ◌^◌, min, ◌<◌, ◌≤◌, List, [], ◌∷◌, ◌++◌, length, refl, sym, ap, ◌∙◌, subst}
use Rattle.tree_handles.proofs.Shared.{arith, append_assoc, true, false, append-nil, length-append, Payload, Node, fresh, has, used, State, IsPool, free_of, refused, Full, used-append}
use Rattle.tree_handles.proofs.Shared.{has-append, holds, Stands, forest, IsCounted, KeepsRefusals, Refuses, IsRefused, Label, Forest, empty, tree, join, arity, node_of, flatten, first_trees}
use Rattle.tree_handles.proofs.Shared.{rest_trees, forest_of, one_tree, tree_nth, without_nth, with_nth, set_nth, bytes_in, nodes_in, AllNodes, skip}

pub join-empty : (f : Forest) → join f empty ≡ f
join-empty empty = refl
join-empty (tree l k r) = ap (λ (x : Forest). tree l k x) (join-empty r)

pub join_assoc : (f g h : Forest) → join (join f g) h ≡ join f (join g h)
join_assoc empty g h = refl
join_assoc (tree l k r) g h = ap (λ (x : Forest). tree l k x) (join_assoc r g h)

pub arity-join : (f g : Forest) → arity (join f g) ≡ arity f + arity g
arity-join empty g = omega arith
arity-join (tree l k r) g = omega (arith, arity-join r g)

pub flatten-join : (f g : Forest) → flatten (join f g) ≡ flatten f ++ flatten g
flatten-join empty g = refl
flatten-join (tree l k r) g = ap (λ (x : List Node). node_of l k ∷ (flatten k ++ x)) (flatten-join r g) ∙ ap (λ (x : List Node). node_of l k ∷ x) (sym (append_assoc (flatten k) (flatten r) (flatten g)))

-- ---- the trees at a place

pub first_trees-join : (f g : Forest) → first_trees (arity f) (join f g) ≡ f
first_trees-join empty g = refl
first_trees-join (tree l k r) g = ap (λ (x : Forest). tree l k x) (first_trees-join r g)

pub rest_trees-join : (f g : Forest) → rest_trees (arity f) (join f g) ≡ g
rest_trees-join empty g = refl
rest_trees-join (tree l k r) g = rest_trees-join r g

pub first-rest : (n : ℕ) (f : Forest) → join (first_trees n f) (rest_trees n f) ≡ f
first-rest zero f = refl
first-rest (suc n) empty = refl
first-rest (suc n) (tree l k r) = ap (λ (x : Forest). tree l k x) (first-rest n r)

pub arity-first_trees : (n : ℕ) (f : Forest) → n ≤ arity f → arity (first_trees n f) ≡ n
arity-first_trees zero f h = refl
arity-first_trees (suc n) empty h = absurd (omega arith)
arity-first_trees (suc n) (tree l k r) h = ap suc (arity-first_trees n r (omega arith))

pub arity-rest_trees : (n : ℕ) (f : Forest) → arity (rest_trees n f) ≡ arity f - n
arity-rest_trees (suc n) (tree l k r) = omega (arith, arity-rest_trees n r)
arity-rest_trees n f = omega arith

pub arity-tree_nth : (n : ℕ) (f : Forest) → n < arity f → arity (tree_nth n f) ≡ 1
arity-tree_nth n empty h = absurd (omega arith)
arity-tree_nth zero (tree l k r) h = refl
arity-tree_nth (suc n) (tree l k r) h = arity-tree_nth n r (omega arith)

pub arity-without_nth : (n : ℕ) (f : Forest) → n < arity f → arity (without_nth n f) ≡ arity f - 1
arity-without_nth n f h =
    omega (arith, arity-join (first_trees n f) (rest_trees 1 (rest_trees n f)), arity-first_trees n f (omega arith), arity-rest_trees 1 (rest_trees n f), arity-rest_trees n f)

pub arity-with_nth : (n : ℕ) (c f : Forest) → n ≤ arity f → arity (with_nth n c f) ≡ arity f + arity c
arity-with_nth n c f h = omega (arith, arity-join (first_trees n f) (join c (rest_trees n f)), arity-join c (rest_trees n f), arity-first_trees n f h, arity-rest_trees n f)

pub arity-set_nth : (n : ℕ) (c f : Forest) → n < arity f → arity (set_nth n c f) + 1 ≡ arity f + arity c
arity-set_nth n c f h =
    omega (arith, arity-join (first_trees n f) (join c (rest_trees 1 (rest_trees n f))), arity-join c (rest_trees 1 (rest_trees n f)), arity-first_trees n f (omega arith), arity-rest_trees 1 (rest_trees n f), arity-rest_trees n f)

pub flatten-first_rest : (n : ℕ) (f : Forest) → flatten f ≡ flatten (first_trees n f) ++ flatten (rest_trees n f)
flatten-first_rest n f = ap flatten (sym (first-rest n f)) ∙ flatten-join (first_trees n f) (rest_trees n f)

-- the three parts
pub nth_parts : (n : ℕ) (f : Forest) → flatten f ≡ flatten (first_trees n f) ++ (flatten (tree_nth n f) ++ flatten (rest_trees 1 (rest_trees n f)))
nth_parts n f = flatten-first_rest n f ∙ ap (λ (x : List Node). flatten (first_trees n f) ++ x) (flatten-first_rest 1 (rest_trees n f))

-- a tree among others
pub record IsNth (n : ℕ) (f : Forest) : Type 0 where
  pub label : Label
  pub below : Forest
  pub behind : Forest
  pub rest : rest_trees n f ≡ tree label below behind
  pub whole : f ≡ join (first_trees n f) (tree label below behind)

pub nth_tree : (n : ℕ) (f : Forest) → n < arity f → IsNth n f
nth_tree n empty h = absurd (omega arith)
nth_tree zero (tree l k r) h = record { label = l; below = k; behind = r; rest = refl; whole = refl }
nth_tree (suc n) (tree l k r) h = let p = nth_tree n r (omega arith) in record { label = p.label; below = p.below; behind = p.behind; rest = p.rest; whole = ap (λ (x : Forest). tree l k x) p.whole }

-- ---- the parser

-- a forest in front of other nodes
pub forest_of-flatten : (f : Forest) (ns : List Node) → forest_of (flatten f ++ ns) ≡ join f (forest_of ns)
unfolding forest_of
forest_of-flatten empty ns = refl
forest_of-flatten (tree l k r) ns = grind (arith, append_assoc, first_trees-join, rest_trees-join, forest_of-flatten k (flatten r ++ ns), forest_of-flatten r ns)

pub forest_of_whole : (f : Forest) → forest_of (flatten f) ≡ f
unfolding forest_of
forest_of_whole f = ap forest_of (sym (append-nil (flatten f))) ∙ forest_of-flatten f [] ∙ join-empty f

-- the trees of a forest are skipped
pub skip-flatten : (f : Forest) (k : ℕ) (ns : List Node) → skip (arity f + k) (flatten f ++ ns) ≡ skip k ns
skip-flatten empty k ns = ap (λ (n : ℕ). skip n ns) (omega arith)
skip-flatten (tree l c r) k ns = grind (arith, append_assoc, skip-flatten c (arity r + k) (flatten r ++ ns), skip-flatten r k ns)

-- some of the trees are skipped
pub skip-first : (n : ℕ) (f : Forest) (ns : List Node) → n ≤ arity f → skip n (flatten f ++ ns) ≡ flatten (rest_trees n f) ++ ns
skip-first n f ns h =
    let count : n ≡ arity (first_trees n f) + 0 = omega (arith, arity-first_trees n f h) in
    ap (λ (x : List Node). skip n (x ++ ns)) (flatten-first_rest n f) ∙ ap (skip n) (append_assoc (flatten (first_trees n f)) (flatten (rest_trees n f)) ns)
    ∙ ap (λ (k : ℕ). skip k (flatten (first_trees n f) ++ (flatten (rest_trees n f) ++ ns))) count ∙ skip-flatten (first_trees n f) 0 (flatten (rest_trees n f) ++ ns)

-- ---- nodes of lists and of forests

pub has-flatten : (i : ℕ) (f : Forest) → has i (flatten f) ≡ holds i f
has-flatten i empty = refl
has-flatten i (tree l k r) = grind (arith, has-append, has-flatten i k, has-flatten i r)

pub bytes-flatten : (f : Forest) → used (flatten f) ≡ bytes_in f
bytes-flatten empty = refl
bytes-flatten (tree l k r) = omega (arith, used-append (flatten k) (flatten r), bytes-flatten k, bytes-flatten r)

pub nodes-flatten : (f : Forest) → length (flatten f) ≡ nodes_in f
nodes-flatten empty = refl
nodes-flatten (tree l k r) = omega (arith, length-append (flatten k) (flatten r), nodes-flatten k, nodes-flatten r)

pub bytes_in-join : (f g : Forest) → bytes_in (join f g) ≡ bytes_in f + bytes_in g
bytes_in-join empty g = omega arith
bytes_in-join (tree l k r) g = omega (arith, bytes_in-join r g)

-- ---- facts of each node

pub all-join : (P : Label → ℕ → Type 0) (f g : Forest) → AllNodes P f → AllNodes P g → AllNodes P (join f g)
all-join P empty g h k = k
all-join P (tree l c r) g h k = (h.0, h.1, all-join P r g h.2 k)

pub all-left : (P : Label → ℕ → Type 0) (f g : Forest) → AllNodes P (join f g) → AllNodes P f
all-left P empty g h = tt
all-left P (tree l k r) g h = (h.0, h.1, all-left P r g h.2)

pub all-right : (P : Label → ℕ → Type 0) (f g : Forest) → AllNodes P (join f g) → AllNodes P g
all-right P empty g h = h
all-right P (tree l k r) g h = all-right P r g h.2

pub all-first_trees : (P : Label → ℕ → Type 0) (n : ℕ) (f : Forest) → AllNodes P f → AllNodes P (first_trees n f)
all-first_trees P n f h = all-left P (first_trees n f) (rest_trees n f) (subst (AllNodes P) (sym (first-rest n f)) h)

pub all-rest_trees : (P : Label → ℕ → Type 0) (n : ℕ) (f : Forest) → AllNodes P f → AllNodes P (rest_trees n f)
all-rest_trees P n f h = all-right P (first_trees n f) (rest_trees n f) (subst (AllNodes P) (sym (first-rest n f)) h)

-- ---- what a pool stands for

-- a list of nodes that is a forest's
pub stands : (s : State) (f : Forest) → s.nodes ≡ flatten f → IsPool s → AllNodes IsCounted f → (forest s ≡ f) × Stands s
stands s f e p c = grind (arith, forest_of_whole)

-- one node more at the end
pub placed : (f : Forest) (ns ms : List Node) (id : ℕ) (x : Payload) → ns ≡ flatten f → ms ≡ ns ++ fresh id x ∷ [] → ms ≡ flatten (join f (one_tree id x empty))
placed f ns ms id x e q = q ∙ ap (λ (y : List Node). y ++ fresh id x ∷ []) e ∙ sym (flatten-join f (one_tree id x empty))

-- ---- refusals

-- a state of which only the nodes are others
pub keeps : (s t : State) (ns : List Node) → t ≡ record s { nodes = ns } → KeepsRefusals s t
keeps s t ns e = record { size = ap (λ (x : State). x.size) e; refusals = ap (λ (x : State). x.refusals) e; last_refused = ap (λ (x : State). x.last_refused) e }

pub keeps_after : (s t u : State) → KeepsRefusals s t → KeepsRefusals t u → KeepsRefusals s u
keeps_after s t u a b = record { size = b.size ∙ a.size; refusals = b.refusals ∙ a.refusals; last_refused = b.last_refused ∙ a.last_refused }

pub refuses_after : (s t u : State) (full : Full) → KeepsRefusals s t → Refuses t u full → Refuses s u full
refuses_after s t u full a b = record { size = b.size ∙ a.size; refusals = b.refusals ∙ ap (λ (n : ℕ). min (n + 1) (2 ^ 64 - 1)) a.refusals; last_refused = b.last_refused }

-- what is not within the free bytes exceeds them
pub not_within : {need free : ℕ} {A : Type 0} → A × (need ≤ free → false ≡ true) → free < need
not_within h = grind arith

pub is_refused : (needed : ℕ) (s t : State) (full : Full) → full ≡ record { needed = needed; free = free_of s } → t ≡ refused s full → free_of s < needed → IsRefused needed s t full
is_refused needed s t full e q h = grind arith

-- after a refusal the pool stands as before
pub stands_refused : (s t : State) (full : Full) → t ≡ refused s full → IsPool t → Stands s → Stands t
stands_refused s t full q p st = (stands t (forest s) (ap (λ (x : State). x.nodes) q ∙ st.flat) p st.counted).1
