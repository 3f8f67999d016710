-- A tree without the name, as it is left.
use Rattle.tree_walks.proofs.Shared.{◌≡◌, ℕ, zero, suc, List, refl, sym, ap, ◌∙◌, subst, arith, Contains, Tree, names, size, root_size, symbol, State, free_of, Gives, tree_of, plain, tree_at}
use Rattle.tree_walks.proofs.{Shared.{without_root, Stands, forest, replacing, occurrences, last_root, last_tree, tree_of_root}, Composing.{stays_where_absent}, Filling.{IsDone}, Searches.{counted}}
use Rattle.tree_handles.proofs.SmallLaws.{starts_behind as front_kept}

none_occur : (x : List ℕ) (t : Tree) → ¬ (Contains (names t) x) → occurrences x t ≡ 0
none_occur x t h = by (occurrences x t) refl
  where
    by : (n : ℕ) → occurrences x t ≡ n → n ≡ 0
    by zero e = refl
    by (suc n) e = absurd (h (counted x (names t) (omega arith)))

pub absent : {i j : ℕ} {x : List ℕ} {u : Tree} {s : State} {Told : Tree → Type 0} → j ≡ i → Stands s → Gives (without_root i (forest s)) (forest s) i Told
    → ¬ (Contains (names (plain (tree_at j (forest s)))) x) → IsDone i i x u s s
absent {i = i} {x = x} {u = u} {s = s} e st g h =
    let same : plain (tree_at i (forest s)) ≡ tree_of i s = ap plain (tree_of_root i st (last_root g.ends)) in
    let lacks : ¬ (Contains (names (tree_of i s)) x) = subst (λ (t : Tree). ¬ (Contains (names t) x)) (ap (λ (k : ℕ). plain (tree_at k (forest s))) e ∙ same) h in
    record {
      gives = record { tree = g.tree; ends = g.ends; once = g.once; whole = g.whole; told = ap plain (sym (last_tree g.ends)) ∙ sym (stays_where_absent x u (tree_of i s) lacks) };
      room = ap (λ (n : ℕ). replacing (free_of s) n (size u) (root_size (symbol x))) (none_occur x (tree_of i s) lacks);
      front = front_kept g.tree g.ends.whole;
    }
