-- One stored tree in place of its name.
use Rattle.name_table.proofs.Shared.{◌≡◌, ℕ, ◌<◌, List, true, refl, sym, ap, ◌∙◌, subst, arith, Tree, symbol, size, root_size, depth, Full, State, AllExpressions, IsExpression, IsWhole, plain, Forest}
use Rattle.name_table.proofs.Shared.{Gives, tree_of, tree_at, has_root, root_tree, Stands, forest, gives_as, given_handed, given_root, given_told, expression_root, other_root, other_tree, plain_root}
use Rattle.name_table.proofs.Shared.{tree_of_root, root_held, occurrences, replaced, replacing, NamedTree, filling_one, fills, lacks, too_deep, Ok, Err, all-root_tree}

-- ---- a tree beside the last one

pub beside_tree : {s : State} {others : Forest} {i : ℕ} {Told : Tree → Type 0} (k : ℕ) → Stands s → Gives others (forest s) i Told → has_root k others ≡ true → tree_at k (forest s) ≡ root_tree k others
beside_tree k st g r = tree_of_root k st (other_root k g.ends r) ∙ other_tree k g.ends r

pub beside_expression : {s : State} {others : Forest} {i : ℕ} {Told : Tree → Type 0} (k : ℕ) → Stands s → Gives others (forest s) i Told → has_root k others ≡ true → AllExpressions others → IsExpression k (forest s)
beside_expression {s = s} {others = others} k st g r w = record {
  live = root_held k (forest s) (other_root k g.ends r);
  whole = subst AllExpressions (sym (beside_tree k st g r)) (all-root_tree IsWhole k others w);
}

-- ---- the new last tree

pub new_expression : {s : State} {others : Forest} {i : ℕ} {Told : Tree → Type 0} → Stands s → Gives others (forest s) i Told → IsExpression i (forest s)
new_expression st g = expression_root st (given_handed g)

pub new_tree : {s : State} {others : Forest} {i : ℕ} {Told : Tree → Type 0} → Stands s → Gives others (forest s) i Told → plain (tree_at i (forest s)) ≡ tree_of i s
new_tree st g = plain_root _ st (given_root g)

-- the tree that is put in is the one of the table
pub put_in : {old : State} {others f : Forest} {i j : ℕ} {Told : Tree → Type 0} (x : List ℕ) (k : ℕ) (t : Tree) → Stands old → Gives others (forest old) i Told → has_root k others ≡ true
    → Gives others f j (λ u. u ≡ replaced x (plain (tree_at k (forest old))) t) → Gives others f j (λ u. u ≡ replaced x (plain (root_tree k others)) t)
put_in x k t st g r given = gives_as given refl (λ u e. e ∙ ap (λ (v : Forest). replaced x (plain v) t) (beside_tree k st g r))

-- ---- what it comes to

one_lacks : (free : ℕ) (v : NamedTree) (t : Tree) (full : Full) → replacing free (occurrences v.name t) (size v.tree) (root_size (symbol v.name)) ≡ Err full → filling_one free v t ≡ lacks full
one_lacks free v t full e = rw (e, filling_one) refl

one_deep : (free left : ℕ) (v : NamedTree) (t u : Tree) → replacing free (occurrences v.name t) (size v.tree) (root_size (symbol v.name)) ≡ Ok left → u ≡ replaced v.name v.tree t → 64 < depth u → filling_one free v t ≡ too_deep
one_deep free left v t u e q d = grind arith

one_fills : (free left : ℕ) (v : NamedTree) (t u : Tree) → replacing free (occurrences v.name t) (size v.tree) (root_size (symbol v.name)) ≡ Ok left → u ≡ replaced v.name v.tree t → (64 < depth u → ⊥) → filling_one free v t ≡ fills left u
one_fills free left v t u e q d = grind arith

pub refused_lacks : {old : State} {others : Forest} {i : ℕ} {Told : Tree → Type 0} (x : List ℕ) (k free : ℕ) (t : Tree) (full : Full) → Stands old → Gives others (forest old) i Told → has_root k others ≡ true
    → replacing free (occurrences x t) (size (plain (tree_at k (forest old)))) (root_size (symbol x)) ≡ Err full → filling_one free (record { name = x; tree = plain (root_tree k others) }) t ≡ lacks full
refused_lacks {others = others} x k free t full st g r e =
    one_lacks free (record { name = x; tree = plain (root_tree k others) }) t full (ap (λ (v : Forest). replacing free (occurrences x t) (size (plain v)) (root_size (symbol x))) (sym (beside_tree k st g r)) ∙ e)

pub refused_deep : {old s : State} {others : Forest} {i j : ℕ} {Told : Tree → Type 0} (x : List ℕ) (k free left : ℕ) (t : Tree) → Stands old → Gives others (forest old) i Told → has_root k others ≡ true → Stands s
    → Gives others (forest s) j (λ u. u ≡ replaced x (plain (tree_at k (forest old))) t)
    → replacing free (occurrences x t) (size (plain (tree_at k (forest old)))) (root_size (symbol x)) ≡ Ok left → 64 < depth (plain (tree_at j (forest s))) → filling_one free (record { name = x; tree = plain (root_tree k others) }) t ≡ too_deep
refused_deep {old = old} {s = s} {others = others} {j = j} x k free left t st g r sts given e d =
    let v : NamedTree = record { name = x; tree = plain (root_tree k others) } in
    one_deep free left v t (tree_of j s) (ap (λ (w : Forest). replacing free (occurrences x t) (size (plain w)) (root_size (symbol x))) (sym (beside_tree k st g r)) ∙ e)
    (given_told (put_in {old = old} x k t st g r given)) (subst (λ (w : Tree). 64 < depth w) (new_tree sts given) d)

pub filled_one : {old : State} {others : Forest} {i j : ℕ} {Told : Tree → Type 0} (s : State) (x : List ℕ) (k free left : ℕ) (t : Tree)
    → Stands old → Gives others (forest old) i Told → has_root k others ≡ true
    → Gives others (forest s) j (λ u. u ≡ replaced x (plain (tree_at k (forest old))) t)
    → replacing free (occurrences x t) (size (plain (tree_at k (forest old)))) (root_size (symbol x)) ≡ Ok left → (64 < depth (tree_of j s) → ⊥)
    → filling_one free (record { name = x; tree = plain (root_tree k others) }) t ≡ fills left (tree_of j s)
filled_one {old = old} {others = others} {j = j} s x k free left t st g r given e d =
    let v : NamedTree = record { name = x; tree = plain (root_tree k others) } in
    one_fills free left v t (tree_of j s) (ap (λ (w : Forest). replacing free (occurrences x t) (size (plain w)) (root_size (symbol x))) (sym (beside_tree k st g r)) ∙ e)
    (given_told (put_in {old = old} x k t st g r given)) d
