-- Counting and placing are ways of writing.
use Rattle.std.proofs.Common.{arith, refl, sym, ap, ◌∙◌, subst}
use Rattle.std.specs.Prelude.{ℕ, ◌+◌, ◌≡◌, ◌≤◌, Option}
use Rattle.calc_terms.specs.Trees.{Tree, Trees, none, more, append, sizes}
use Rattle.dual_diff.specs.{Placing.{Adds, AddsAll}, Writing.{Counts, IsLast, KeepsTrees, Places, one}}
use Rattle.node_pool.specs.State.{State, free_of}
use Rattle.tree_handles.specs.{Expressions.{AllExpressions, IsExpression, plain}, Forest.{Forest, empty, join}, Inside.{holds, tree_at}, Standing.{Stands, forest}}
use Rattle.tree_handles.proofs.{Forests.{bytes_in-join, join_assoc, join-empty, keeps_after}, Given.{represents_join, represents_none}, Places.{used_forest}, Refused.{kept_same as keeps_none}}
use Rattle.tree_handles.proofs.{Joins.{holds-left, tree_at-join_left}, Plains.{alone, sizes-plains}}

-- ---- counting

pub sizes_append : (ts us : Trees) → sizes (append ts us) ≡ sizes ts + sizes us
sizes_append none us = omega arith
sizes_append (more t ts) us = omega (arith, sizes_append ts us)

pub counts_nothing : {s : State} {n : ℕ} → Stands s → Counts s s n n none
counts_nothing h = record { stands = h; same = refl; bytes = omega arith }

pub counts_joined : {s t r : State} {k m n : ℕ} {ts us : Trees} → Counts s t k m ts → Counts t r m n us → Counts s r k n (append ts us)
counts_joined {ts = ts} {us = us} a b =
    record { stands = a.stands; same = b.same ∙ a.same; bytes = omega (arith, a.bytes, b.bytes, sizes_append ts us) }

pub counts_keeps : {s t : State} {m n : ℕ} {ts : Trees} → Counts s t m n ts → KeepsTrees s t
counts_keeps {s} a = subst (KeepsTrees s) (sym a.same) (record { stands = a.stands; expressions = λ i e. e; same = λ i e. refl })

-- ---- placing

pub adds_none : (s : State) → Stands s → AddsAll s s none
adds_none s h = record { made = empty; whole = sym (join-empty (forest s)); represents = represents_none; kept = keeps_none s; stands = h }

pub adds_join : {s t u : State} {ts us : Trees} → AddsAll s t ts → AddsAll t u us → AddsAll s u (append ts us)
adds_join {s} {t} {u} b c = record {
  made = join b.made c.made;
  whole = c.whole ∙ ap (λ (x : Forest). join x c.made) b.whole ∙ join_assoc (forest s) b.made c.made;
  represents = represents_join b.represents c.represents;
  kept = keeps_after s t u b.kept c.kept;
  stands = c.stands;
}

pub adds_given : {s t : State} {a : Tree} {h : ℕ} → Adds s t a h → AddsAll s t (one a)
adds_given g = record {
  made = g.gives.tree;
  whole = g.gives.ends.whole;
  represents = record { once = g.gives.once; whole = g.gives.whole; plain_trees = alone g.gives.tree g.gives.ends.alone ∙ ap one g.gives.told };
  kept = g.kept;
  stands = g.stands;
}

pub adds_free : {s t : State} {ts : Trees} → Stands s → AddsAll s t ts → free_of s ≡ free_of t + sizes ts
adds_free h b = grind (arith, used_forest, bytes_in-join, sizes-plains)

pub still_expression : {s t : State} {ts : Trees} {j : ℕ} → AddsAll s t ts → IsExpression j (forest s) → IsExpression j (forest t)
still_expression {s = s} {j = j} b h = record {
  live = ap (holds j) b.whole ∙ holds-left j (forest s) b.made h.live;
  whole = subst AllExpressions (sym (ap (tree_at j) b.whole ∙ tree_at-join_left j (forest s) b.made h.live)) h.whole;
}

pub still_plain : {s t : State} {ts : Trees} {j : ℕ} → AddsAll s t ts → IsExpression j (forest s) → plain (tree_at j (forest t)) ≡ plain (tree_at j (forest s))
still_plain {s = s} {j = j} b h = ap plain (ap (tree_at j) b.whole ∙ tree_at-join_left j (forest s) b.made h.live)

pub places_nothing : {s : State} {o : Option ℕ} → Stands s → Places s s o o none
places_nothing {s} h = record { stood = h; adds = adds_none s h; last = (refl, refl) }

-- the last tree of some and of more behind them
last_joined : (ts us : Trees) (s t r : State) (o p q : Option ℕ) → IsLast ts s t o p → IsLast us t r p q → IsLast (append ts us) s r o q
last_joined none us s t r o p q (e, f) b = subst (λ x. IsLast us x r o q) e (subst (λ x. IsLast us t r x q) f b)
last_joined (more x none) none s t r o p q (h, f, g) (e, k) = (h, k ∙ f, subst (λ y. Adds s y x h) (sym e) g)
last_joined (more x none) (more u us) s t r o p q a b = tt
last_joined (more x (more y ts)) us s t r o p q a b = tt

pub places_joined : {s t r : State} {o p q : Option ℕ} {ts us : Trees} → Places s t o p ts → Places t r p q us → Places s r o q (append ts us)
places_joined {s} {t} {r} {o} {p} {q} {ts} {us} a b =
    record { stood = a.stood; adds = adds_join a.adds b.adds; last = last_joined ts us s t r o p q a.last b.last }

pub places_keeps : {s t : State} {o p : Option ℕ} {ts : Trees} → Places s t o p ts → KeepsTrees s t
places_keeps a = record { stands = a.adds.stands; expressions = λ i e. still_expression a.adds e; same = λ i e. still_plain a.adds e }

pub places_less : {n m free : ℕ} → n ≤ free → m ≤ n → m ≤ free
places_less r l = omega arith

pub places_room : {s t : State} {o p : Option ℕ} {ts : Trees} {n m : ℕ} → Places s t o p ts → n ≤ free_of s → sizes ts + m ≤ n → m ≤ free_of t
places_room a r l = omega (arith, r, l, adds_free a.stood a.adds)
