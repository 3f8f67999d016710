-- The leaves of a name, in prefix order, and what comes of them one after another.
use Rattle.tree_walks.proofs.Shared.{◌≡◌, ℕ, ◌+◌, ◌-◌, ◌≤◌, List, [], ◌∷◌, ◌++◌, length, cond, eqb, refl, ap, ◌∙◌, arith, append_assoc, Bool, true, false, eq-eqb, ne_eqb, length-append, Payload, Tree}
use Rattle.tree_walks.proofs.Shared.{Trees, none, more, append, grown, plains, plain, AllExpressions, Label, Forest, empty, tree, join, arity, nodes_in, alone, replaced_in, occurrences, has_name}
use Rattle.tree_walks.proofs.{Shared.{leaves_of}, Names.{named_in, named-tree, occurrences_in, occurrences-alone, replaced-other, replaced-named}}

-- how many there are at a node and below it
abbrev pub leaves_at : List ℕ → Label → Forest → ℕ
leaves_at x l k = cond (has_name x l.payload) 1 0 + length (leaves_of x k)

pub one_or_none : (b : Bool) (i : ℕ) → length (cond b (i ∷ []) []) ≡ cond b 1 0
one_or_none true i = refl
one_or_none false i = refl

pub leaves-length : (x : List ℕ) (l : Label) (k r : Forest) → length (leaves_of x (tree l k r)) ≡ leaves_at x l k + length (leaves_of x r)
leaves-length x l k r = omega (arith, length-append (cond (has_name x l.payload) (l.id ∷ []) []) (leaves_of x k ++ leaves_of x r), length-append (leaves_of x k) (leaves_of x r), one_or_none (has_name x l.payload) l.id)

pub leaves-join : (x : List ℕ) (f g : Forest) → leaves_of x (join f g) ≡ leaves_of x f ++ leaves_of x g
leaves-join x empty g = refl
leaves-join x (tree l k r) g = rw (leaves-join x r g) (simp append_assoc)

-- as many as the name occurs, and no more than there are nodes
pub leaves-named : (x : List ℕ) (f : Forest) → AllExpressions f → length (leaves_of x f) ≡ named_in x f
leaves-named x empty h = refl
leaves-named x (tree l k r) h = omega (arith, leaves-length x l k r, named-tree x l k r h, leaves-named x k h.1, leaves-named x r h.2)

pub leaves_plain : (x : List ℕ) (t : Forest) → arity t ≡ 1 → AllExpressions t → length (leaves_of x t) ≡ occurrences x (plain t)
leaves_plain x t one h = leaves-named x t h ∙ ap (occurrences_in x) (alone t one) ∙ occurrences-alone x (plain t)

pub few_leaves : (x : List ℕ) (f : Forest) → length (leaves_of x f) ≤ nodes_in f
few_leaves x empty = omega arith
few_leaves x (tree l k r) = omega (arith, leaves-length x l k r, few_leaves x k, few_leaves x r, one (has_name x l.payload))
  where
    one : (b : Bool) → cond b 1 0 ≤ 1
    one true = omega arith
    one false = omega arith

-- ---- the plain trees, where all leaves but the first ones have become another tree

abbrev pub later_root : List ℕ → Tree → ℕ → Payload → Trees → Tree
later_root x u n q ts = cond (has_name x q) (cond (eqb n 0) u (grown q ts)) (grown q ts)

abbrev pub later : List ℕ → Tree → ℕ → Forest → Trees
later x u n empty = none
later x u n (tree l k r) = more (later_root x u n l.payload (later x u n k)) (later x u (n - leaves_at x l k) r)

-- where no leaf is left out
pub later-none : (x : List ℕ) (u : Tree) (n : ℕ) (f : Forest) → n ≡ 0 → later x u n f ≡ replaced_in x u (plains f)
later-none x u n empty z = refl
later-none x u n (tree l k r) z = grind (arith, eq-eqb, replaced-named, replaced-other, later-none x u n k, later-none x u (n - leaves_at x l k) r)

-- and where all are
passed_root : (x : List ℕ) (u : Tree) (n : ℕ) (l : Label) (k : Forest) → leaves_at x l k ≤ n → later x u n k ≡ plains k → later_root x u n l.payload (later x u n k) ≡ grown l.payload (plains k)
passed_root x u n l k h below = grind (arith, ne_eqb)

pub later-all : (x : List ℕ) (u : Tree) (n : ℕ) (f : Forest) → length (leaves_of x f) ≤ n → later x u n f ≡ plains f
later-all x u n empty h = refl
later-all x u n (tree l k r) h =
    let here : leaves_at x l k ≤ n = omega (arith, h, leaves-length x l k r) in
    cc (passed_root x u n l k here (later-all x u n k (omega (arith, here))), later-all x u (n - leaves_at x l k) r (omega (arith, h, leaves-length x l k r)))

pub later-root : (x : List ℕ) (u : Tree) (n : ℕ) (l : Label) (k : Forest) → leaves_at x l k ≤ n → later_root x u n l.payload (later x u n k) ≡ grown l.payload (plains k)
later-root x u n l k h = passed_root x u n l k h (later-all x u n k (omega (arith, h)))

pub later-join : (x : List ℕ) (u : Tree) (n : ℕ) (f g : Forest) → later x u n (join f g) ≡ append (later x u n f) (later x u (n - length (leaves_of x f)) g)
later-join x u n empty g = ap (λ (m : ℕ). later x u m g) (omega arith)
later-join x u n (tree l k r) g =
    let less : n - leaves_at x l k - length (leaves_of x r) ≡ n - length (leaves_of x (tree l k r)) = omega (arith, leaves-length x l k r) in
    ap (more (later_root x u n l.payload (later x u n k))) (later-join x u (n - leaves_at x l k) r g ∙ ap (λ (m : ℕ). append (later x u (n - leaves_at x l k) r) (later x u m g)) less)
