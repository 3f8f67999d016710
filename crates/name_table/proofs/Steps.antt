-- Pools whose roots are counted, from call to call.
use Rattle.name_table.proofs.Shared.{◌≡◌, ◌≢◌, ℕ, suc, ◌+◌, ◌-◌, ◌<◌, ◌≤◌, List, [], ◌∷◌, ◌++◌, Bool, true, cond, eqb, Option, Some, None, refl, sym, ap, ◌∙◌, subst, arith, bytes_eq, eq-eqb, Tree}
use Rattle.name_table.proofs.Shared.{State, Forest, Gives, count_of, released_in, with_count_in, has_root, Stands, forest, distinct, last_root, by_test, AreCountedBy, AreRoots, IsHeld, counted_by}
use Rattle.name_table.proofs.Shared.{held_by, holders_in, released_under, IsKeepable, IsStorable, Entry, Table, entries, holders, tree_under, with_answer, without_entry, without_name, IfSome}
use Rattle.name_table.proofs.Counting.{count_of-counted, counted-are, counted-by_same, counted-same, counted-twice, one_less, one_more, one_released, retained, root-counted, told_root}
use Rattle.name_table.proofs.{Holders.{holders-last, holders-no_root, holders-without, less_below}, Ready.{IsReady, ready_answer, ready_held, ready_named, ready_without, start_counts}}
use Rattle.name_table.proofs.Later.{root-under, roots-left}

-- the pool stands for the trees with the counts that are told of their roots
pub record HasCounts (told : ℕ → ℕ) (f : Forest) (s : State) : Type 0 where
  pub stands : Stands s
  pub forest_is : forest s ≡ counted_by told f
  pub counts : AreCountedBy told (forest s)

pub start : {h : ℕ → ℕ} {s : State} → Stands s → AreCountedBy h (forest s) → HasCounts h (forest s) s
start {h = h} {s = s} st c = record { stands = st; forest_is = sym (counted-same h (forest s) c); counts = c }

-- other counts of what is there
changed : (g h : ℕ → ℕ) (f : Forest) (s t : State) → HasCounts g f s → ((i : ℕ) → g i ≡ 0 → h i ≡ 0) → Stands t → forest t ≡ counted_by h (forest s) → HasCounts h f t
changed g h f s t c z k e = grind (arith, counted-twice, counted-are)

more_zero : (h : ℕ → ℕ) (i : ℕ) → h i ≢ 0 → (j : ℕ) → h j ≡ 0 → one_more i h j ≡ 0
more_zero h i n j z = grind arith

less_zero : (h : ℕ → ℕ) (i j : ℕ) → h j ≡ 0 → one_less i h j ≡ 0
less_zero h i j z = by_test (λ t. cond t (h j - 1) (h j) ≡ 0) (eqb i j) (λ p. omega arith) (λ p. z)

pub after_retain : {h : ℕ → ℕ} {f : Forest} {s t : State} (i : ℕ) → HasCounts h f s → has_root i (forest s) ≡ true → Stands t → forest t ≡ with_count_in i (count_of i (forest s) + 1) (forest s) → HasCounts (one_more i h) f t
after_retain {h = h} {f = f} {s = s} {t = t} i c top st e =
    changed h (one_more i h) f s t c (more_zero h i (told_root h i (forest s) c.counts top)) st
    (e ∙ retained h i (count_of i (forest s) + 1) (forest s) (distinct s c.stands) c.counts top (ap (λ (n : ℕ). n + 1) (count_of-counted h i (forest s) (distinct s c.stands) c.counts top)))

pub after_release : {h : ℕ → ℕ} {f : Forest} {s t : State} (i : ℕ) → HasCounts h f s → has_root i (forest s) ≡ true → Stands t → forest t ≡ released_in i (forest s) → HasCounts (one_less i h) f t
after_release {h = h} {f = f} {s = s} {t = t} i c top st e = changed h (one_less i h) f s t c (less_zero h i) st (e ∙ one_released h i (forest s) (distinct s c.stands) c.counts top)

-- the tree of an entry, where there was one
abbrev pub less_under : Option ℕ → (ℕ → ℕ) → ℕ → ℕ
less_under None h = h
less_under (Some i) h = one_less i h

pub after_under : {h : ℕ → ℕ} {f : Forest} {s t : State} (o : Option ℕ) → HasCounts h f s → IfSome o (λ i. has_root i (forest s) ≡ true) → Stands t → forest t ≡ released_under o (forest s) → HasCounts (less_under o h) f t
after_under None c top st e = record { stands = st; forest_is = e ∙ c.forest_is; counts = subst (AreCountedBy _) (sym e) c.counts }
after_under (Some i) c top st e = after_release i c top st e

pub holds_table : {h : ℕ → ℕ} {f : Forest} {s : State} (t : Table) → HasCounts h f s → ((j : ℕ) → h j ≡ holders_in t j) → forest s ≡ held_by t f
holds_table {h = h} {f = f} t c e = c.forest_is ∙ counted-by_same h (holders_in t) f e

pub still_root : {h : ℕ → ℕ} {f : Forest} {s : State} (i : ℕ) → HasCounts h f s → h i ≢ 0 → has_root i f ≡ true → has_root i (forest s) ≡ true
still_root {h = h} {f = f} i c n top = ap (has_root i) c.forest_is ∙ root-counted h i f n ∙ top

-- ---- what the steps come to

missing_under : (x : List ℕ) (es : List Entry) → tree_under x es ≡ None → without_entry x es ≡ es
missing_under x [] u = refl
missing_under x (e ∷ es) u =
    by_test (λ t. cond t (Some e.tree) (tree_under x es) ≡ None → cond t es (e ∷ without_entry x es) ≡ e ∷ es) (bytes_eq e.name x)
    (λ p q. absurd cc) (λ p q. ap (λ (ds : List Entry). e ∷ ds) (missing_under x es q)) u

-- a name is forgotten
forgotten : (t : Table) (x : List ℕ) (j : ℕ) (o : Option ℕ) → tree_under x t.stored ≡ o → less_under o (holders_in t) j ≡ holders_in (without_name x t) j
forgotten t x j o u = grind (arith, missing_under, holders-without, less_below)

pub forget_counts : (t : Table) (x : List ℕ) (j : ℕ) → less_under (tree_under x t.stored) (holders_in t) j ≡ holders_in (without_name x t) j
forget_counts t x j = forgotten t x j (tree_under x t.stored) refl

-- an answer without a name
pub answer_counts : (t : Table) (i j : ℕ) → one_less t.ans (one_more i (holders_in t)) j ≡ holders_in (with_answer None i t) j
answer_counts t i j = grind arith

-- an answer with a name: two units more of its root, one less of the former answer's, and one less of the former entry's
named_without : (a b : Bool) (n : ℕ) → cond a (cond b (suc (cond b (suc (cond a (suc n) n)) (cond a (suc n) n))) (cond b (suc (cond a (suc n) n)) (cond a (suc n) n)) - 1) (cond b (suc (cond b (suc (cond a (suc n) n)) (cond a (suc n) n))) (cond b (suc (cond a (suc n) n)) (cond a (suc n) n)))
    ≡ cond b (suc (cond b (suc n) n)) (cond b (suc n) n)
named_without a b n = grind arith

named_over : (a b r : Bool) (w n : ℕ) → w ≡ cond r (n - 1) n → (r ≡ true → 1 ≤ n)
    → cond a (cond r (cond b (suc (cond b (suc (cond a (suc n) n)) (cond a (suc n) n))) (cond b (suc (cond a (suc n) n)) (cond a (suc n) n)) - 1) (cond b (suc (cond b (suc (cond a (suc n) n)) (cond a (suc n) n))) (cond b (suc (cond a (suc n) n)) (cond a (suc n) n))) - 1)
    (cond r (cond b (suc (cond b (suc (cond a (suc n) n)) (cond a (suc n) n))) (cond b (suc (cond a (suc n) n)) (cond a (suc n) n)) - 1) (cond b (suc (cond b (suc (cond a (suc n) n)) (cond a (suc n) n))) (cond b (suc (cond a (suc n) n)) (cond a (suc n) n))))
    ≡ cond b (suc (cond b (suc w) w)) (cond b (suc w) w)
named_over a b r w n e p = grind arith

named_counted : (t : Table) (x : List ℕ) (i j : ℕ) (o : Option ℕ) → tree_under x t.stored ≡ o → one_less t.ans (less_under o (one_more i (one_more i (holders_in t)))) j ≡ holders_in (with_answer (Some x) i t) j
named_counted t x i j o u = grind (arith, holders-last, one_less, one_more, named_without, missing_under, holders-without, named_over)

pub named_counts : (t : Table) (x : List ℕ) (i j : ℕ) → one_less t.ans (less_under (tree_under x t.stored) (one_more i (one_more i (holders_in t)))) j ≡ holders_in (with_answer (Some x) i t) j
named_counts t x i j = named_counted t x i j (tree_under x t.stored) refl

-- ---- trees that are still roots

still_some : (a b : Bool) (n : ℕ) → 1 ≤ n → cond b (suc (cond b (suc (cond a (suc n) n)) (cond a (suc n) n))) (cond b (suc (cond a (suc n) n)) (cond a (suc n) n)) ≢ 0
still_some a b n p z = grind arith

-- the former entry's, after its name was given another tree
former_root : (t : Table) {f : Forest} {s : State} (x : List ℕ) (i : ℕ) → AreRoots t.stored f → HasCounts (one_more i (one_more i (holders_in t))) f s → IfSome (tree_under x t.stored) (λ k. has_root k (forest s) ≡ true)
former_root t {f = f} {s = s} x i roots c = there (tree_under x t.stored) refl
  where
    there : (o : Option ℕ) → tree_under x t.stored ≡ o → IfSome o (λ k. has_root k (forest s) ≡ true)
    there None u = tt
    there (Some k) u = still_root k c (still_some (eqb t.ans k) (eqb i k) (holders k t.stored) ((holders-without x t.stored k k u).some (eq-eqb k k refl))) (root-under x t.stored f k roots u)

-- the former answer's, after the former entry's was released
answer_root : (t : Table) {f : Forest} {s : State} (x : List ℕ) (i : ℕ) → has_root t.ans f ≡ true → HasCounts (less_under (tree_under x t.stored) (one_more i (one_more i (holders_in t)))) f s → has_root t.ans (forest s) ≡ true
answer_root t {f = f} {s = s} x i top c = there (tree_under x t.stored) refl c
  where
    more : (b r : Bool) (n : ℕ) → (r ≡ true → 1 ≤ n) → cond r (cond b (suc (cond b (suc (suc n)) (suc n))) (cond b (suc (suc n)) (suc n)) - 1) (cond b (suc (cond b (suc (suc n)) (suc n))) (cond b (suc (suc n)) (suc n))) ≢ 0
    more b r n p z = grind arith

    own : eqb t.ans t.ans ≡ true
    own = eq-eqb t.ans t.ans refl

    there : (o : Option ℕ) → tree_under x t.stored ≡ o → HasCounts (less_under o (one_more i (one_more i (holders_in t)))) f s → has_root t.ans (forest s) ≡ true
    there None u c = still_root t.ans c (λ z. still_none (eqb t.ans t.ans) (eqb i t.ans) (holders t.ans t.stored) own z) top
      where
        still_none : (a b : Bool) (n : ℕ) → a ≡ true → cond b (suc (cond b (suc (cond a (suc n) n)) (cond a (suc n) n))) (cond b (suc (cond a (suc n) n)) (cond a (suc n) n)) ≡ 0 → ⊥
        still_none a b n p z = grind arith
    there (Some k) u c = still_root t.ans c (λ z. more (eqb i t.ans) (eqb k t.ans) (holders t.ans t.stored) (holders-without x t.stored k t.ans u).some (subst (λ (a : Bool). cond (eqb k t.ans) (cond (eqb i t.ans) (suc (cond (eqb i t.ans) (suc (cond a (suc (holders t.ans t.stored)) (holders t.ans t.stored))) (cond a (suc (holders t.ans t.stored)) (holders t.ans t.stored)))) (cond (eqb i t.ans) (suc (cond a (suc (holders t.ans t.stored)) (holders t.ans t.stored))) (cond a (suc (holders t.ans t.stored)) (holders t.ans t.stored))) - 1) (cond (eqb i t.ans) (suc (cond (eqb i t.ans) (suc (cond a (suc (holders t.ans t.stored)) (holders t.ans t.stored))) (cond a (suc (holders t.ans t.stored)) (holders t.ans t.stored)))) (cond (eqb i t.ans) (suc (cond a (suc (holders t.ans t.stored)) (holders t.ans t.stored))) (cond a (suc (holders t.ans t.stored)) (holders t.ans t.stored)))) ≡ 0) own z)) top

-- a new tree is held once
new_count : {t : Table} {others : Forest} {s : State} {i : ℕ} {Told : Tree → Type 0} → Stands s → IsHeld t others → Gives others (forest s) i Told → count_of i (forest s) ≡ 1
new_count {t = t} {others = others} {s = s} {i = i} st held g =
    count_of-counted (one_more i (holders_in t)) i (forest s) (distinct s st) (start_counts held g) (last_root g.ends)
    ∙ ap (λ (b : Bool). cond b (suc (holders_in t i)) (holders_in t i)) (eq-eqb i i refl) ∙ ap suc (holders-no_root i (entries t) others held.roots g.ends.clear)

-- ---- what the calls leave

pub entry_root : (x : List ℕ) (es : List Entry) (f : Forest) → AreRoots es f → IfSome (tree_under x es) (λ i. has_root i f ≡ true)
entry_root x es f h = grind (arith, root-under)

-- the table and the pool belong together again
pub record IsKept (t : Table) (f : Forest) (s : State) : Type 0 where
  pub forest_is : forest s ≡ held_by t f
  pub held : IsHeld t (forest s)

is_kept : (t new : Table) (f : Forest) (s : State) → new ≡ t → forest s ≡ held_by t f → IsReady t f → IsKept new f s
is_kept t new f s e q r = subst (λ (u : Table). IsKept u f s) (sym e) (record { forest_is = q; held = subst (IsHeld t) (sym q) (ready_held t f r) })

pub forgets : {t new : Table} {s u : State} (x : List ℕ) → IsHeld t (forest s) → Stands s → Stands u → new ≡ without_name x t → forest u ≡ released_under (tree_under x t.stored) (forest s) → IsKept new (forest s) u
forgets {t = t} {new = new} {s = s} {u = u} x held st stu e q =
    let c = after_under (tree_under x t.stored) (start st held.counts) (entry_root x t.stored (forest s) held.roots.1) stu q in
    is_kept (without_name x t) new (forest s) u e (holds_table (without_name x t) c (forget_counts t x)) (ready_without x held)

-- a tree is handed to the table of the others
pub record IsNew (store : Option (List ℕ)) (t : Table) (i : ℕ) (others : Forest) (s : State) : Type 0 where
  pub stands : Stands s
  pub held : IsHeld t others
  pub gives : Gives others (forest s) i (IsKeepable store t)

started : {store : Option (List ℕ)} {t : Table} {i : ℕ} {others : Forest} {s : State} → IsNew store t i others s → HasCounts (one_more i (holders_in t)) (forest s) s
started n = start n.stands (start_counts n.held n.gives)

stored_roots : {store : Option (List ℕ)} {t : Table} {i : ℕ} {others : Forest} {s : State} → IsNew store t i others s → AreRoots (entries t) (forest s)
stored_roots {t = t} {others = others} n = subst (AreRoots (entries t)) (sym n.gives.ends.whole) (roots-left (entries t) others n.gives.tree n.held.roots)

pub old_answer : {store : Option (List ℕ)} {t : Table} {i : ℕ} {others : Forest} {s : State} → IsNew store t i others s → has_root t.ans (forest s) ≡ true
old_answer n = (stored_roots n).0

pub keeps_answer : {t new : Table} {i : ℕ} {others : Forest} {s u : State} → IsNew None t i others s → Stands u → new ≡ with_answer None i t → forest u ≡ released_in t.ans (forest s) → IsKept new (forest s) u
keeps_answer {t = t} {new = new} {i = i} {s = s} {u = u} n stu e q =
    let c = after_release t.ans (started n) (old_answer n) stu q in
    is_kept (with_answer None i t) new (forest s) u e (holds_table (with_answer None i t) c (answer_counts t i)) (ready_answer n.held n.gives)

-- with a name: a unit more is taken, the former entry's is released, and the former answer's
pub is_room : {store : Option (List ℕ)} {t : Table} {i : ℕ} {others : Forest} {s : State} → IsNew store t i others s → count_of i (forest s) < 65535
is_room {i = i} {s = s} n = let c : count_of i (forest s) ≡ 1 = new_count n.stands n.held n.gives in omega arith

pub record IsShared (i : ℕ) (s u : State) : Type 0 where
  pub stands : Stands u
  pub forest_is : forest u ≡ with_count_in i (count_of i (forest s) + 1) (forest s)

shared : {store : Option (List ℕ)} {t : Table} {i : ℕ} {others : Forest} {s u : State} → IsNew store t i others s → IsShared i s u → HasCounts (one_more i (one_more i (holders_in t))) (forest s) u
shared {i = i} n h = after_retain i (started n) (last_root n.gives.ends) h.stands h.forest_is

pub former_after : {store : Option (List ℕ)} {t : Table} {i : ℕ} {others : Forest} {s u : State} (x : List ℕ) → IsNew store t i others s → IsShared i s u → IfSome (tree_under x t.stored) (λ k. has_root k (forest u) ≡ true)
former_after {t = t} {i = i} x n h = former_root t x i (stored_roots n).1 (shared n h)

pub record IsFreed (x : List ℕ) (t : Table) (s u : State) : Type 0 where
  pub stands : Stands u
  pub forest_is : forest u ≡ released_under (tree_under x t.stored) (forest s)

freed : {store : Option (List ℕ)} {t : Table} {i : ℕ} {others : Forest} {s u v : State} {x : List ℕ} → IsNew store t i others s → IsShared i s u → IsFreed x t u v → HasCounts (less_under (tree_under x t.stored) (one_more i (one_more i (holders_in t)))) (forest s) v
freed {t = t} {x = x} n h f = after_under (tree_under x t.stored) (shared n h) (former_after x n h) f.stands f.forest_is

pub answer_after : {store : Option (List ℕ)} {t : Table} {i : ℕ} {others : Forest} {s u v : State} {x : List ℕ} → IsNew store t i others s → IsShared i s u → IsFreed x t u v → has_root t.ans (forest v) ≡ true
answer_after {t = t} {i = i} {x = x} n h f = answer_root t x i (old_answer n) (freed n h f)

pub keeps_named : {t new : Table} {i : ℕ} {others : Forest} {s u v w : State} {x : List ℕ} → IsNew (Some x) t i others s → IsStorable (Some x) t → IsShared i s u → IsFreed x t u v → Stands w → new ≡ with_answer (Some x) i t → forest w ≡ released_in t.ans (forest v) → IsKept new (forest s) w
keeps_named {t = t} {new = new} {i = i} {s = s} {w = w} {x = x} n storable h f stw e q =
    let c = after_release t.ans (freed n h f) (answer_after n h f) stw q in
    is_kept (with_answer (Some x) i t) new (forest s) w e (holds_table (with_answer (Some x) i t) c (named_counts t x i)) (ready_named x n.held n.gives storable.0 storable.1)

-- the table after these calls
pub named_table : (t a b c : Table) (x : List ℕ) (i j : ℕ) → a ≡ without_name x t → b ≡ record a { stored = a.stored ++ record { name = x; tree = j } ∷ [] } → j ≡ i → c ≡ record b { ans = i } → c ≡ with_answer (Some x) i t
named_table t a b c x i j p q r h = grind arith
