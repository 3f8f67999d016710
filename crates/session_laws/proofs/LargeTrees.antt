-- No tree that a session stores is smaller than a leaf.
use Rattle.session_laws.proofs.Shared.{arith, ◌≡◌, ◌∙◌, ℕ, zero, suc, ◌≤◌, List, [], ◌∷◌, ◌++◌, map, codes, true, false, cond, eqb, Option, Some, None, All, refl, sym, ap, subst, bytes_eq, All-cons}
use Rattle.session_laws.proofs.Shared.{All-head, All-nil, All-tail, num_least, Node, Tree, none, more, size, NamedTree, value_in, values, AreRoots, IsHeld, held_by, holders_in, Entry, Table, entries}
use Rattle.session_laws.proofs.Shared.{with_answer, without_entry, without_name, has, plain, plains, Forest, empty, tree, flatten, forest_of, join, rest_trees, root_id, holds, has_root, root_tree}
use Rattle.session_laws.proofs.Shared.{forest_of_whole, by_test, tree-right, HoldsNoSmallTree, Reply, shown, stored, forgot, State, first_state, trees, IsReply, Leaves, LeavesAnswer, LeavesOthers}
use Rattle.session_laws.proofs.{Shared.{Step, holders-told, values-counted, values-left, face_large}, MeaningLemmas.{shows_meaning}}
use Rattle.breakers.specs.State.{State as Breaker}

-- ---- entries

abbrev IsLarge : NamedTree → Type 0
IsLarge v = 16 ≤ size v.tree

abbrev AreLarge : Forest → List Entry → Type 0
AreLarge f es = All IsLarge (map (value_in f) es)

large_without : (x : List ℕ) (f : Forest) (es : List Entry) → AreLarge f es → AreLarge f (without_entry x es)
large_without x f [] h = h
large_without x f (e ∷ es) h =
    let rest = All-tail IsLarge (value_in f e) (map (value_in f) es) h in
    by_test (λ b. AreLarge f (cond b es (e ∷ without_entry x es))) (bytes_eq e.name x) (λ p. rest)
    (λ p. All-cons IsLarge (value_in f e) (map (value_in f) (without_entry x es)) (All-head IsLarge (value_in f e) (map (value_in f) es) h) (large_without x f es rest))

large_last : (f : Forest) (es : List Entry) (e : Entry) → AreLarge f es → IsLarge (value_in f e) → AreLarge f (es ++ e ∷ [])
large_last f [] e h k = All-cons IsLarge (value_in f e) [] k (All-nil IsLarge)
large_last f (d ∷ es) e h k = All-cons IsLarge (value_in f d) (map (value_in f) (es ++ e ∷ [])) (All-head IsLarge (value_in f d) (map (value_in f) es) h) (large_last f es e (All-tail IsLarge (value_in f d) (map (value_in f) es) h) k)

large_others : (f : Forest) (t : Table) → AreLarge f (entries t) → AreLarge f t.stored
large_others f t h = All-tail IsLarge (value_in f (record { name = codes "ans"; tree = t.ans })) (map (value_in f) t.stored) h

large_with : (store : Option (List ℕ)) (i : ℕ) (f : Forest) (t : Table) → AreLarge f (entries t) → 16 ≤ size (plain (root_tree i f)) → AreLarge f (entries (with_answer store i t))
large_with None i f t h k = All-cons IsLarge (value_in f (record { name = codes "ans"; tree = i })) (map (value_in f) t.stored) k (large_others f t h)
large_with (Some x) i f t h k =
    All-cons IsLarge (value_in f (record { name = codes "ans"; tree = i })) (map (value_in f) (without_entry x t.stored ++ record { name = x; tree = i } ∷ [])) k
    (large_last f (without_entry x t.stored) (record { name = x; tree = i }) (large_without x f t.stored (large_others f t h)) k)

large_forgotten : (x : List ℕ) (f : Forest) (t : Table) → AreLarge f (entries t) → AreLarge f (entries (without_name x t))
large_forgotten x f t h = grind (arith, All-cons, All-head, large_without, large_others)

-- ---- the trees that a table holds

large_held : (t : Table) (f : Forest) (s : State) → s.table ≡ t → s.nodes ≡ flatten (held_by t f) → AreLarge f (entries t) → HoldsNoSmallTree s
large_held t f s table nodes h =
    let trees_are : trees s ≡ held_by t f = ap forest_of nodes ∙ forest_of_whole (held_by t f) in
    subst (λ u. All IsLarge (values u (trees s))) (sym table)
    (subst (λ g. All IsLarge (values t g)) (sym trees_are) (subst (λ vs. All IsLarge vs) (sym (values-counted (holders_in t) (entries t) f (holders-told (entries t)))) h))

large_beside : (t : Table) (f g : Forest) → AreRoots (entries t) f → AreLarge f (entries t) → AreLarge (join f g) (entries t)
large_beside t f g roots h = subst (λ vs. All IsLarge vs) (sym (values-left (entries t) f g roots)) h

-- ---- the new tree

root_behind : (i n : ℕ) (f : Forest) → has_root i (rest_trees n f) ≡ true → has_root i f ≡ true
root_behind i zero f h = h
root_behind i (suc n) empty h = h
root_behind i (suc n) (tree l k r) h = by_test (λ b. cond b true (has_root i r) ≡ true) (eqb l.id i) (λ e. refl) (λ e. root_behind i n r h)

root_listed : (i : ℕ) (ns : List Node) → has_root i (forest_of ns) ≡ true → has i ns ≡ true
unfolding forest_of
root_listed i [] h = absurd cc
root_listed i (n ∷ ns) h =
    by_test (λ b. cond b true (has_root i (rest_trees n.children (forest_of ns))) ≡ true → cond b true (has i ns) ≡ true) (eqb n.id i) (λ e k. refl) (λ e k. root_listed i ns (root_behind i n.children (forest_of ns) k)) h

pub not_root : (i : ℕ) (ns : List Node) → has i ns ≡ false → has_root i (forest_of ns) ≡ false
not_root i ns h = grind (arith, root_listed)

root_there : (f : Forest) (t : Tree) → plains f ≡ more t none → (holds (root_id f) f ≡ true) × (plain (root_tree (root_id f) f) ≡ t)
root_there f t e = grind arith

large_answer : (store : Option (List ℕ)) (answer : Tree) (old new : State) → IsHeld old.table (trees old) → HoldsNoSmallTree old → LeavesAnswer store answer old new → 16 ≤ size answer → HoldsNoSmallTree new
large_answer store answer old new held large leaves h =
    let i = root_id leaves.tree in
    let there = root_there leaves.tree answer leaves.tree_is.plain_trees in
    let clear : has_root i (trees old) ≡ false = not_root i old.nodes (leaves.new_nodes i there.0) in
    let tree_is : plain (root_tree i (join (trees old) leaves.tree)) ≡ answer = ap plain (tree-right i (trees old) leaves.tree clear) ∙ there.1 in
    large_held (with_answer store i old.table) (join (trees old) leaves.tree) new leaves.table
    (leaves.nodes ∙ ap (λ t. flatten (held_by t (join (trees old) leaves.tree))) leaves.table)
    (large_with store i (join (trees old) leaves.tree) old.table (large_beside old.table (trees old) leaves.tree held.roots large) (subst (λ t. 16 ≤ size t) (sym tree_is) h))

large_others_left : (x : List ℕ) (old new : State) → HoldsNoSmallTree old → LeavesOthers x old new → HoldsNoSmallTree new
large_others_left x old new h k = grind (arith, large_held, large_forgotten)

-- ---- a step

module _ (room bits : Option (Tree → ℕ)) (old new : State) (before after : List Breaker) (line : List ℕ) (held : IsHeld old.table (trees old)) (large : HoldsNoSmallTree old) where
  large_left : (reply : Reply) → IsReply room bits old before after line reply → Leaves reply old new → HoldsNoSmallTree new
  large_left (shown t) h leaves =
      let m = shows_meaning room bits before after old line (shown t) t h refl in large_answer None t old new held large leaves (subst (λ u. 16 ≤ size u) (sym m.shown_is) (face_large m.answer m.reduced m.defined))
  large_left (stored t x) h leaves =
      let m = shows_meaning room bits before after old line (stored t x) t h refl in large_answer (Some x) t old new held large leaves (subst (λ u. 16 ≤ size u) (sym m.shown_is) (face_large m.answer m.reduced m.defined))
  large_left (forgot x) h leaves = large_others_left x old new large leaves
  large_left _ h leaves = subst HoldsNoSmallTree (sym leaves) large

  pub large_behind : (reply : Reply) → Step room bits old before line reply new after → HoldsNoSmallTree new
  large_behind reply step = large_left reply step.reply_is step.state_is

-- ---- the beginning

pub large_first : (size : ℕ) → HoldsNoSmallTree (first_state size)
unfolding forest_of
large_first size = All-cons IsLarge _ [] (num_least _) (All-nil IsLarge)
