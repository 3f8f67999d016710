-- What is shown or stored is the last answer then.
use Rattle.session_laws.proofs.Shared.{arith, ◌≡◌, ◌∙◌, ℕ, zero, suc, List, [], ◌∷◌, Bool, true, false, cond, eqb, Option, Some, None, refl, sym, ap, subst, holders_in, held_by, holders-told, Table, entries, with_answer, has}
use Rattle.session_laws.proofs.Shared.{Node, Tree, more, none, plain, plains, Forest, empty, tree, forest_of, join, rest_trees, root_id, holds, forest_of_whole, by_test, State, trees, LeavesAnswer, shown, stored, Step}
use Rattle.breakers.specs.State.{State as Breaker}
use Rattle.name_table.specs.Held.{counted_by}
use Rattle.session_laws.specs.Decided.{last_answer}
use Rattle.calc_terms.specs.Trees.{Trees}
use Rattle.std.proofs.lemmas.Bool.{eq-eqb, ne_eqb}
use Rattle.std.specs.Prelude.{◌≢◌}
use Rattle.tree_handles.specs.{Expressions.{grown}, Forest.{first_trees}, Inside.{tree_at}}

-- ---- an identifier that no node has

held_first : (i n : ℕ) (f : Forest) → holds i (first_trees n f) ≡ true → holds i f ≡ true
held_first i zero f h = absurd cc
held_first i (suc n) empty h = absurd cc
held_first i (suc n) (tree l k r) h = grind (arith, held_first i n r)

held_rest : (i n : ℕ) (f : Forest) → holds i (rest_trees n f) ≡ true → holds i f ≡ true
held_rest i zero f h = h
held_rest i (suc n) empty h = h
held_rest i (suc n) (tree l k r) h = grind (arith, held_rest i n r)

held_listed : (i : ℕ) (ns : List Node) → holds i (forest_of ns) ≡ true → has i ns ≡ true
unfolding forest_of
held_listed i [] h = absurd cc
held_listed i (n ∷ ns) h = grind (arith, held_first i n.children (forest_of ns), held_rest i n.children (forest_of ns), held_listed i ns)

not_held : (i : ℕ) (ns : List Node) → has i ns ≡ false → holds i (forest_of ns) ≡ false
not_held i ns h = grind (arith, held_listed)

-- ---- the tree behind the others

first_is : (t u : Tree) (ts us : Trees) → more t ts ≡ more u us → t ≡ u
first_is t u ts us e = cc

module _ (h : ℕ → ℕ) (i : ℕ) (told : h i ≢ 0) where
  alone_counted : (g : Forest) (t : Tree) → root_id g ≡ i → plains g ≡ more t none → plain (tree_at i (counted_by h g)) ≡ t
  alone_counted empty t e p = absurd cc
  alone_counted (tree l k r) t e p =
      let some : eqb (h l.id) 0 ≡ false = ne_eqb (h l.id) 0 (λ z. told (ap h (sym e) ∙ z)) in
      let here : eqb l.id i ≡ true = eq-eqb l.id i e in
      ap (λ b. plain (tree_at i (cond b (counted_by h r) (tree (record l { count = h l.id }) k (counted_by h r))))) some
      ∙ ap (λ b. plain (cond b (tree (record l { count = h l.id }) k empty) (cond (holds i k) (tree_at i k) (tree_at i (counted_by h r))))) here ∙ first_is (grown l.payload (plains k)) t (plains r) none p

  last_counted : (f g : Forest) (t : Tree) → holds i f ≡ false → root_id g ≡ i → plains g ≡ more t none → plain (tree_at i (counted_by h (join f g))) ≡ t
  last_counted empty g t n e p = alone_counted g t e p
  last_counted (tree l k r) g t n e p =
      let rest = last_counted r g t (later (eqb l.id i) (holds i k) (holds i r) n) e p in
      by_test (λ b. plain (tree_at i (cond b (counted_by h (join r g)) (tree (record l { count = h l.id }) k (counted_by h (join r g))))) ≡ t) (eqb (h l.id) 0) (λ q. rest)
      (λ q. ap (λ b. plain (cond b (tree (record l { count = h l.id }) k empty) (cond (holds i k) (tree_at i k) (tree_at i (counted_by h (join r g)))))) (front (eqb l.id i) (holds i k) (holds i r) n)
      ∙ ap (λ b. plain (cond b (tree_at i k) (tree_at i (counted_by h (join r g))))) (below (eqb l.id i) (holds i k) (holds i r) n) ∙ rest)
    where
      front : (a b c : Bool) → cond a true (cond b true c) ≡ false → a ≡ false
      front a b c e = grind arith

      below : (a b c : Bool) → cond a true (cond b true c) ≡ false → b ≡ false
      below a b c e = grind arith

      later : (a b c : Bool) → cond a true (cond b true c) ≡ false → c ≡ false
      later a b c e = grind arith

-- ---- a step

ans_is : (store : Option (List ℕ)) (i : ℕ) (t : Table) → (with_answer store i t).ans ≡ i
ans_is None i t = refl
ans_is (Some x) i t = refl

root_holds : (f : Forest) (t : Tree) → plains f ≡ more t none → holds (root_id f) f ≡ true
root_holds f t e = grind arith

last_left : (store : Option (List ℕ)) (t : Tree) (old new : State) → LeavesAnswer store t old new → last_answer new ≡ t
last_left store t old new leaves =
    let i = root_id leaves.tree in
    let table = with_answer store i old.table in
    let ans : new.table.ans ≡ i = ap (λ (u : Table). u.ans) leaves.table ∙ ans_is store i old.table in
    let told : holders_in table i ≢ 0 = subst (λ j. holders_in table j ≢ 0) (ans_is store i old.table) (holders-told (entries table)).0 in
    let trees_are : trees new ≡ held_by table (join (trees old) leaves.tree) =
    ap forest_of leaves.nodes ∙ forest_of_whole (held_by new.table (join (trees old) leaves.tree)) ∙ ap (λ u. held_by u (join (trees old) leaves.tree)) leaves.table in
    let alone = leaves.tree_is.plain_trees in
    ap (λ j. plain (tree_at j (trees new))) ans ∙ ap (λ f. plain (tree_at i f)) trees_are
    ∙ last_counted (holders_in table) i told (trees old) leaves.tree t (not_held i old.nodes (leaves.new_nodes i (root_holds leaves.tree t alone))) refl alone

module _ (room bits : Option (Tree → ℕ)) (old new : State) (before after : List Breaker) (line : List ℕ) (t : Tree) where
  pub last_shown : Step room bits old before line (shown t) new after → last_answer new ≡ t
  last_shown step = last_left None t old new step.state_is

  pub last_stored : (x : List ℕ) → Step room bits old before line (stored t x) new after → last_answer new ≡ t
  last_stored x step = last_left (Some x) t old new step.state_is
