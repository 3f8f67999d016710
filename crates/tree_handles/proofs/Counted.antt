-- Facts of each node, through the changes of a forest.
use Rattle.tree_handles.proofs.Shared.{ℕ, ◌≤◌, arith, Label, Forest, empty, tree, join, first_trees, rest_trees, kids, tree_nth, without_nth, with_nth, set_nth, AllNodes, tree_at, kids_of, with_kids}
use Rattle.tree_handles.proofs.{Shared.{with_count_in, released, released_in, root_tree, without_root, IsCounted}, Forests.{all-join, all-first_trees, all-rest_trees}}

pub all-tree_at : (P : Label → ℕ → Type 0) (i : ℕ) (f : Forest) → AllNodes P f → AllNodes P (tree_at i f)
all-tree_at P i empty h = tt
all-tree_at P i (tree l k r) h = grind (arith, all-tree_at P i k h.1, all-tree_at P i r h.2)

pub all-kids : (P : Label → ℕ → Type 0) (f : Forest) → AllNodes P f → AllNodes P (kids f)
all-kids P f h = grind arith

pub all-kids_of : (P : Label → ℕ → Type 0) (i : ℕ) (f : Forest) → AllNodes P f → AllNodes P (kids_of i f)
all-kids_of P i f h = all-kids P (tree_at i f) (all-tree_at P i f h)

pub all-root_tree : (P : Label → ℕ → Type 0) (i : ℕ) (f : Forest) → AllNodes P f → AllNodes P (root_tree i f)
all-root_tree P i empty h = tt
all-root_tree P i (tree l k r) h = grind (arith, all-root_tree P i r h.2)

pub all-without_root : (P : Label → ℕ → Type 0) (i : ℕ) (f : Forest) → AllNodes P f → AllNodes P (without_root i f)
all-without_root P i empty h = tt
all-without_root P i (tree l k r) h = grind (arith, all-without_root P i r h.2)

pub all-tree_nth : (P : Label → ℕ → Type 0) (n : ℕ) (f : Forest) → AllNodes P f → AllNodes P (tree_nth n f)
all-tree_nth P n f h = all-first_trees P 1 (rest_trees n f) (all-rest_trees P n f h)

pub all-without_nth : (P : Label → ℕ → Type 0) (n : ℕ) (f : Forest) → AllNodes P f → AllNodes P (without_nth n f)
all-without_nth P n f h = all-join P (first_trees n f) (rest_trees 1 (rest_trees n f)) (all-first_trees P n f h) (all-rest_trees P 1 (rest_trees n f) (all-rest_trees P n f h))

pub all-with_nth : (P : Label → ℕ → Type 0) (n : ℕ) (c f : Forest) → AllNodes P c → AllNodes P f → AllNodes P (with_nth n c f)
all-with_nth P n c f k h = all-join P (first_trees n f) (join c (rest_trees n f)) (all-first_trees P n f h) (all-join P c (rest_trees n f) k (all-rest_trees P n f h))

pub all-set_nth : (P : Label → ℕ → Type 0) (n : ℕ) (c f : Forest) → AllNodes P c → AllNodes P f → AllNodes P (set_nth n c f)
all-set_nth P n c f k h = all-join P (first_trees n f) (join c (rest_trees 1 (rest_trees n f))) (all-first_trees P n f h) (all-join P c (rest_trees 1 (rest_trees n f)) k (all-rest_trees P 1 (rest_trees n f) (all-rest_trees P n f h)))

-- ---- a fact of labels alone

pub all-with_kids : (Q : Label → Type 0) (i : ℕ) (n f : Forest) → AllNodes (λ l m. Q l) n → AllNodes (λ l m. Q l) f → AllNodes (λ l m. Q l) (with_kids i n f)
all-with_kids Q i n empty k h = tt
all-with_kids Q i n (tree l c r) k h = grind (arith, all-with_kids Q i n c k h.1, all-with_kids Q i n r k h.2)

-- ---- each count is at least 1

pub counted-with_kids : (i : ℕ) (n f : Forest) → AllNodes IsCounted n → AllNodes IsCounted f → AllNodes IsCounted (with_kids i n f)
counted-with_kids i n f k h = all-with_kids (λ l. 1 ≤ l.count) i n f k h

pub counted-with_count_in : (i c : ℕ) (f : Forest) → 1 ≤ c → AllNodes IsCounted f → AllNodes IsCounted (with_count_in i c f)
counted-with_count_in i c empty some h = tt
counted-with_count_in i c (tree l k r) some h = grind (arith, counted-with_count_in i c k some h.1, counted-with_count_in i c r some h.2)

pub counted-released : (f : Forest) → AllNodes IsCounted f → AllNodes IsCounted (released f)
counted-released empty h = tt
counted-released (tree l k r) h = grind (arith, all-join, counted-released r h.2, counted-released k h.1)

pub counted-released_in : (i : ℕ) (f : Forest) → AllNodes IsCounted f → AllNodes IsCounted (released_in i f)
counted-released_in i empty h = tt
counted-released_in i (tree l k r) h = grind (arith, all-join, counted-released, counted-released_in i k h.1, counted-released_in i r h.2)
