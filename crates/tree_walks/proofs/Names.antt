-- Names and replaced names, node by node.
use Rattle.tree_walks.proofs.Shared.{same_tests, no_trees, ◌≡◌, ℕ, zero, suc, ◌+◌, List, cond, refl, sym, ap, ◌∙◌, arith, Bool, true, false, count_by, bytes_eq, bytes_eq-Decides, eqb-true, name_of}
use Rattle.tree_walks.proofs.Shared.{append-nil, sum_by-append, Payload, Tree, symbol, Trees, none, more, names, names_of, nth, compound, grown, plains, takes, AllExpressions, children_of, Label}
use Rattle.tree_walks.proofs.Shared.{Forest, empty, tree, arity, grown_whole, replaced, replaced_in, occurrences, has_name, before_zero, padded, Name, Kind}

-- ---- how often a name occurs

-- in trees, and in the trees of a forest
abbrev pub occurrences_in : List ℕ → Trees → ℕ
occurrences_in x ts = count_by (λ y. bytes_eq y x) (names_of ts)

abbrev pub named_in : List ℕ → Forest → ℕ
named_in x f = occurrences_in x (plains f)

-- at the root
abbrev at_root : List ℕ → Tree → ℕ
at_root x (symbol y) = cond (bytes_eq y x) 1 0
at_root x t = 0

count_node : (x : List ℕ) (t : Tree) → occurrences x t ≡ at_root x t + occurrences_in x (children_of t)
count_node x t = grind (arith, append-nil)

no_name : (x : List ℕ) (k : Kind) (ts : Trees) → at_root x (compound k ts) ≡ 0
no_name x k ts = grind arith

at_grown : (x : List ℕ) (q : Payload) (ts : Trees) → at_root x (grown q ts) ≡ cond (has_name x q) 1 0
at_grown x q ts = grind (arith, no_name)

-- at a node of the language, below it and behind it
pub named-tree : (x : List ℕ) (l : Label) (k r : Forest) → AllExpressions (tree l k r) → named_in x (tree l k r) ≡ cond (has_name x l.payload) 1 0 + (named_in x k + named_in x r)
named-tree x l k r h =
    let t = grown l.payload (plains k) in
    let below : occurrences_in x (children_of t) ≡ named_in x k = ap (occurrences_in x) (grown_whole l k r h).children-are in
    omega (arith, sum_by-append (λ y. cond (bytes_eq y x) 1 0) (names t) (names_of (plains r)), count_node x t, at_grown x l.payload (plains k), below)

-- of one tree
pub occurrences-alone : (x : List ℕ) (t : Tree) → occurrences_in x (more t none) ≡ occurrences x t
occurrences-alone x t = ap (count_by (λ y. bytes_eq y x)) (append-nil (names t))

-- ---- replaced trees

nth-replaced : (x : List ℕ) (u : Tree) (n : ℕ) (ts : Trees) → nth n (replaced_in x u ts) ≡ replaced x u (nth n ts)
nth-replaced x u n none = refl
nth-replaced x u zero (more t ts) = refl
nth-replaced x u (suc n) (more t ts) = nth-replaced x u n ts

replaced-compound : (x : List ℕ) (u : Tree) (k : Kind) (ts : Trees) → replaced x u (compound k ts) ≡ compound k (replaced_in x u ts)
replaced-compound x u k ts = grind (arith, nth-replaced)

-- a node other than a leaf of the name stays, and such a leaf becomes the tree
pub replaced-other : (x : List ℕ) (u : Tree) (q : Payload) (ts : Trees) → has_name x q ≡ false → replaced x u (grown q ts) ≡ grown q (replaced_in x u ts)
replaced-other x u q ts h = grind (arith, replaced-compound)

pub replaced-named : (x : List ℕ) (u : Tree) (q : Payload) (ts : Trees) → has_name x q ≡ true → replaced x u (grown q ts) ≡ u
replaced-named x u q ts h = grind arith

-- a leaf of the name has no children
leaf_takes : (x : List ℕ) (q : Payload) (n : ℕ) → has_name x q ≡ true → takes q n ≡ true → n ≡ 0
leaf_takes x q n h e = grind (arith, eqb-true)

pub leaf_alone : (x : List ℕ) (l : Label) (k r : Forest) → has_name x l.payload ≡ true → AllExpressions (tree l k r) → k ≡ empty
leaf_alone x l k r h w = no_trees k (leaf_takes x l.payload (arity k) h w.0)

-- ---- names by their eight bytes

pub same_name : (a b : Name) → bytes_eq a.text b.text ≡ bytes_eq (name_of a) (name_of b)
same_name a b = same_tests _ _
    (λ h. (bytes_eq-Decides (name_of a) (name_of b)).1 (ap before_zero ((bytes_eq-Decides a.text b.text).0 h)))
    (λ h. (bytes_eq-Decides a.text b.text).1 (a.holds_name.whole ∙ ap padded ((bytes_eq-Decides (name_of a) (name_of b)).0 h) ∙ sym b.holds_name.whole))
