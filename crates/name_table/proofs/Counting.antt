-- Forests whose roots get other counts.
use Rattle.name_table.proofs.Shared.{◌≡◌, ◌≢◌, ℕ, suc, ◌+◌, ◌-◌, ◌≤◌, Bool, true, false, cond, eqb, ltb, refl, sym, ap, ◌∙◌, arith, eqb-true, eqb-false, eq-eqb, ne_eqb, ltb-true, ltb-false}
use Rattle.name_table.proofs.Shared.{AreWritable, AllExpressions, plain, plains, Forest, Label, empty, tree, join, root_count, AllOnce, count_of, holds, released, released_in, with_count_in, has_root}
use Rattle.name_table.proofs.Shared.{root_tree, Distinct, distinct_parts, tree_at-root, by_test, root_held, no_root, AreCountedBy, counted_by, released-once}

-- a unit more, or less, for one root
abbrev pub one_more : ℕ → (ℕ → ℕ) → ℕ → ℕ
one_more i h j = cond (eqb i j) (suc (h j)) (h j)

abbrev pub one_less : ℕ → (ℕ → ℕ) → ℕ → ℕ
one_less i h j = cond (eqb i j) (h j - 1) (h j)

-- ---- the same counts

-- a label with the count that it has
same_label : (l : Label) (n : ℕ) → l.count ≡ n → record l { count = n } ≡ l
same_label l n e = ap (λ (m : ℕ). record l { count = m }) (sym e)

some : (n m : ℕ) → 1 ≤ n → n ≡ m → eqb m 0 ≡ false
some n m p e = ne_eqb m 0 (λ q. absurd (omega arith))

pub counted-same : (h : ℕ → ℕ) (f : Forest) → AreCountedBy h f → counted_by h f ≡ f
counted-same h empty c = refl
counted-same h (tree l k r) c =
    ap (λ (t : Bool). cond t (counted_by h r) (tree (record l { count = h l.id }) k (counted_by h r))) (some l.count (h l.id) c.0 c.1)
    ∙ ap (λ (m : Label). tree m k (counted_by h r)) (same_label l (h l.id) c.1) ∙ ap (λ (x : Forest). tree l k x) (counted-same h r c.3)

pub counted-by_same : (g h : ℕ → ℕ) (f : Forest) → ((i : ℕ) → g i ≡ h i) → counted_by g f ≡ counted_by h f
counted-by_same g h empty e = refl
counted-by_same g h (tree l k r) e =
    ap (λ (n : ℕ). cond (eqb n 0) (counted_by g r) (tree (record l { count = n }) k (counted_by g r))) (e l.id)
    ∙ ap (λ (x : Forest). cond (eqb (h l.id) 0) x (tree (record l { count = h l.id }) k x)) (counted-by_same g h r e)

-- what is dropped first would be dropped later
pub counted-twice : (g h : ℕ → ℕ) (f : Forest) → ((i : ℕ) → g i ≡ 0 → h i ≡ 0) → counted_by h (counted_by g f) ≡ counted_by h f
counted-twice g h empty z = refl
counted-twice g h (tree l k r) z =
    by_test (λ t. eqb (g l.id) 0 ≡ t → counted_by h (cond t (counted_by g r) (tree (record l { count = g l.id }) k (counted_by g r))) ≡ counted_by h (tree l k r)) (eqb (g l.id) 0)
    (λ e q. counted-twice g h r z ∙ sym (ap (λ (t : Bool). cond t (counted_by h r) (tree (record l { count = h l.id }) k (counted_by h r))) (eq-eqb (h l.id) 0 (z l.id (eqb-true (g l.id) 0 q)))))
    (λ e q. ap (λ (x : Forest). cond (eqb (h l.id) 0) x (tree (record l { count = h l.id }) k x)) (counted-twice g h r z))
    refl

pub counted-are : (g h : ℕ → ℕ) (f : Forest) → AreCountedBy g f → AreCountedBy h (counted_by h f)
counted-are g h empty c = tt
counted-are g h (tree l k r) c =
    by_test (λ t. eqb (h l.id) 0 ≡ t → AreCountedBy h (cond t (counted_by h r) (tree (record l { count = h l.id }) k (counted_by h r)))) (eqb (h l.id) 0)
    (λ e q. counted-are g h r c.3)
    (λ e q. let n : h l.id ≢ 0 = eqb-false (h l.id) 0 q in (omega arith, refl, c.2, counted-are g h r c.3))
    refl

-- ---- the roots of which something is told

pub root-counted : (h : ℕ → ℕ) (i : ℕ) (f : Forest) → h i ≢ 0 → has_root i (counted_by h f) ≡ has_root i f
root-counted h i empty n = refl
root-counted h i (tree l k r) n =
    by_test (λ t. eqb (h l.id) 0 ≡ t → has_root i (cond t (counted_by h r) (tree (record l { count = h l.id }) k (counted_by h r))) ≡ cond (eqb l.id i) true (has_root i r)) (eqb (h l.id) 0)
    (λ e q. root-counted h i r n ∙ sym (ap (λ (t : Bool). cond t true (has_root i r)) (ne_eqb l.id i (λ s. n (ap h (sym s) ∙ eqb-true (h l.id) 0 q)))))
    (λ e q. ap (λ (t : Bool). cond (eqb l.id i) true t) (root-counted h i r n))
    refl

pub plain-counted : (h : ℕ → ℕ) (i : ℕ) (f : Forest) → h i ≢ 0 → plain (root_tree i (counted_by h f)) ≡ plain (root_tree i f)
plain-counted h i empty n = refl
plain-counted h i (tree l k r) n =
    by_test (λ t. eqb (h l.id) 0 ≡ t → plain (root_tree i (cond t (counted_by h r) (tree (record l { count = h l.id }) k (counted_by h r)))) ≡ plain (cond (eqb l.id i) (tree l k empty) (root_tree i r))) (eqb (h l.id) 0)
    (λ e q. plain-counted h i r n ∙ sym (ap (λ (t : Bool). plain (cond t (tree l k empty) (root_tree i r))) (ne_eqb l.id i (λ s. n (ap h (sym s) ∙ eqb-true (h l.id) 0 q)))))
    (λ e q. by_test (λ u. plain (cond u (tree (record l { count = h l.id }) k empty) (root_tree i (counted_by h r))) ≡ plain (cond u (tree l k empty) (root_tree i r))) (eqb l.id i) (λ v. refl) (λ v. plain-counted h i r n))
    refl

pub whole-counted : (h : ℕ → ℕ) (f : Forest) → AllExpressions f → AllExpressions (counted_by h f)
whole-counted h empty w = tt
whole-counted h (tree l k r) w =
    by_test (λ t. AllExpressions (cond t (counted_by h r) (tree (record l { count = h l.id }) k (counted_by h r)))) (eqb (h l.id) 0) (λ e. whole-counted h r w.2) (λ e. (w.0, w.1, whole-counted h r w.2))

pub writable-counted : (h : ℕ → ℕ) (f : Forest) → AreWritable (plains f) → AreWritable (plains (counted_by h f))
writable-counted h empty w = tt
writable-counted h (tree l k r) w =
    by_test (λ t. AreWritable (plains (cond t (counted_by h r) (tree (record l { count = h l.id }) k (counted_by h r))))) (eqb (h l.id) 0) (λ e. writable-counted h r w.1) (λ e. (w.0, writable-counted h r w.1))

-- ---- one root

-- the count of a root
pub root_count-counted : (h : ℕ → ℕ) (i : ℕ) (f : Forest) → AreCountedBy h f → has_root i f ≡ true → root_count (root_tree i f) ≡ h i
root_count-counted h i empty c top = absurd cc
root_count-counted h i (tree l k r) c top =
    by_test (λ t. eqb l.id i ≡ t → cond t true (has_root i r) ≡ true → root_count (cond t (tree l k empty) (root_tree i r)) ≡ h i) (eqb l.id i)
    (λ e q u. c.1 ∙ ap h (eqb-true l.id i q)) (λ e q u. root_count-counted h i r c.3 u) refl top

pub count_of-counted : (h : ℕ → ℕ) (i : ℕ) (f : Forest) → Distinct f → AreCountedBy h f → has_root i f ≡ true → count_of i f ≡ h i
count_of-counted h i f d c top = ap root_count (tree_at-root i f d top) ∙ root_count-counted h i f c top

-- the others keep their counts
pub counts_beside : (g h : ℕ → ℕ) (i : ℕ) (f : Forest) → ((j : ℕ) → eqb i j ≡ false → g j ≡ h j) → has_root i f ≡ false → AreCountedBy h f → AreCountedBy g f
counts_beside g h i empty s n c = tt
counts_beside g h i (tree l k r) s n c =
    by_test (λ t. eqb l.id i ≡ t → cond t true (has_root i r) ≡ false → AreCountedBy g (tree l k r)) (eqb l.id i)
    (λ e q u. absurd cc)
    (λ e q u. (c.0, c.1 ∙ sym (s l.id (ne_eqb i l.id (λ v. eqb-false l.id i q (sym v)))), c.2, counts_beside g h i r s u c.3))
    refl n

same_beside : (g h : ℕ → ℕ) (i : ℕ) (f : Forest) → ((j : ℕ) → eqb i j ≡ false → g j ≡ h j) → has_root i f ≡ false → AreCountedBy h f → counted_by g f ≡ f
same_beside g h i f s n c = counted-same g f (counts_beside g h i f s n c)

-- a root with its count kept
kept_root : (g : ℕ → ℕ) (l : Label) (k r : Forest) → 1 ≤ l.count → l.count ≡ g l.id → counted_by g (tree l k r) ≡ tree l k (counted_by g r)
kept_root g l k r p e = grind arith

beside_more : (i : ℕ) (h : ℕ → ℕ) (j : ℕ) → eqb i j ≡ false → one_more i h j ≡ h j
beside_more i h j e = rw e refl

beside_less : (i : ℕ) (h : ℕ → ℕ) (j : ℕ) → eqb i j ≡ false → one_less i h j ≡ h j
beside_less i h j e = rw e refl

-- one handle more of a root
pub retained : (h : ℕ → ℕ) (i c : ℕ) (f : Forest) → Distinct f → AreCountedBy h f → has_root i f ≡ true → c ≡ h i + 1 → with_count_in i c f ≡ counted_by (one_more i h) f
retained h i c empty d a top e = absurd cc
retained h i c (tree l k r) d a top e =
    let p = distinct_parts l k r d in
    by_test (λ t. eqb l.id i ≡ t → cond t true (has_root i r) ≡ true → cond t (tree (record l { count = c }) k r) (cond (holds i k) (tree l (with_count_in i c k) r) (tree l k (with_count_in i c r))) ≡ counted_by (one_more i h) (tree l k r)) (eqb l.id i)
    (λ v q u.
    let s : l.id ≡ i = eqb-true l.id i q in
    let n : one_more i h l.id ≡ c = ap (λ (t : Bool). cond t (suc (h l.id)) (h l.id)) (eq-eqb i l.id (sym s)) ∙ ap (λ (m : ℕ). suc (h m)) s ∙ sym (more_is (h i)) ∙ sym e in
    let behind : counted_by (one_more i h) r ≡ r = same_beside (one_more i h) h i r (beside_more i h) (ap (λ (m : ℕ). has_root m r) (sym s) ∙ no_root l.id r p.not_behind) a.3 in
    sym (ap (λ (m : ℕ). cond (eqb m 0) (counted_by (one_more i h) r) (tree (record l { count = m }) k (counted_by (one_more i h) r))) n
    ∙ ap (λ (t : Bool). cond t (counted_by (one_more i h) r) (tree (record l { count = c }) k (counted_by (one_more i h) r))) (ne_eqb c 0 (λ z. absurd (omega arith)))
    ∙ ap (λ (x : Forest). tree (record l { count = c }) k x) behind))
    (λ v q u.
    let below : holds i k ≡ false = p.apart i (root_held i r u) in
    ap (λ (t : Bool). cond t (tree l (with_count_in i c k) r) (tree l k (with_count_in i c r))) below
    ∙ ap (λ (x : Forest). tree l k x) (retained h i c r p.behind a.3 u e)
    ∙ sym (kept_root (one_more i h) l k r a.0 (a.1 ∙ sym (beside_more i h l.id (ne_eqb i l.id (λ w. eqb-false l.id i q (sym w)))))))
    refl top
  where
    more_is : (n : ℕ) → n + 1 ≡ suc n
    more_is n = omega arith

-- one handle less of a root
pub one_released : (h : ℕ → ℕ) (i : ℕ) (f : Forest) → Distinct f → AreCountedBy h f → has_root i f ≡ true → released_in i f ≡ counted_by (one_less i h) f
one_released h i empty d a top = absurd cc
one_released h i (tree l k r) d a top =
    let p = distinct_parts l k r d in
    by_test (λ t. eqb l.id i ≡ t → cond t true (has_root i r) ≡ true → cond t (join (released (tree l k empty)) r) (cond (holds i k) (tree l (released_in i k) r) (tree l k (released_in i r))) ≡ counted_by (one_less i h) (tree l k r)) (eqb l.id i)
    (λ v q u.
    let s : l.id ≡ i = eqb-true l.id i q in
    let n : one_less i h l.id ≡ l.count - 1 = ap (λ (t : Bool). cond t (h l.id - 1) (h l.id)) (eq-eqb i l.id (sym s)) ∙ ap (λ (m : ℕ). m - 1) (sym a.1) in
    let behind : counted_by (one_less i h) r ≡ r = same_beside (one_less i h) h i r (beside_less i h) (ap (λ (m : ℕ). has_root m r) (sym s) ∙ no_root l.id r p.not_behind) a.3 in
    here l k r a.0 a.2
    ∙ sym (ap (λ (m : ℕ). cond (eqb m 0) (counted_by (one_less i h) r) (tree (record l { count = m }) k (counted_by (one_less i h) r))) n
    ∙ ap (λ (x : Forest). cond (eqb (l.count - 1) 0) x (tree (record l { count = l.count - 1 }) k x)) behind))
    (λ v q u.
    let below : holds i k ≡ false = p.apart i (root_held i r u) in
    ap (λ (t : Bool). cond t (tree l (released_in i k) r) (tree l k (released_in i r))) below
    ∙ ap (λ (x : Forest). tree l k x) (one_released h i r p.behind a.3 u)
    ∙ sym (kept_root (one_less i h) l k r a.0 (a.1 ∙ sym (beside_less i h l.id (ne_eqb i l.id (λ w. eqb-false l.id i q (sym w)))))))
    refl top
  where
    here : (l : Label) (k r : Forest) → 1 ≤ l.count → AllOnce k → join (released (tree l k empty)) r ≡ cond (eqb (l.count - 1) 0) r (tree (record l { count = l.count - 1 }) k r)
    here l k r c o =
        by_test (λ t. ltb 1 l.count ≡ t → join (cond t (tree (record l { count = l.count - 1 }) k empty) (join (released k) empty)) r ≡ cond (eqb (l.count - 1) 0) r (tree (record l { count = l.count - 1 }) k r)) (ltb 1 l.count)
        (λ e q. sym (ap (λ (t : Bool). cond t r (tree (record l { count = l.count - 1 }) k r)) (ne_eqb (l.count - 1) 0 (λ z. absurd (omega (arith, ltb-true 1 l.count q))))))
        (λ e q. ap (λ (x : Forest). join (join x empty) r) (released-once k o) ∙ sym (ap (λ (t : Bool). cond t r (tree (record l { count = l.count - 1 }) k r)) (eq-eqb (l.count - 1) 0 (omega (arith, ltb-false 1 l.count q)))))
        refl

pub told_root : (h : ℕ → ℕ) (i : ℕ) (f : Forest) → AreCountedBy h f → has_root i f ≡ true → h i ≢ 0
told_root h i empty c top z = absurd cc
told_root h i (tree l k r) c top z =
    by_test (λ t. eqb l.id i ≡ t → cond t true (has_root i r) ≡ true → ⊥) (eqb l.id i)
    (λ p q u. let e : l.count ≡ h i = c.1 ∙ ap h (eqb-true l.id i q) in let n : 1 ≤ l.count = c.0 in absurd (omega arith))
    (λ p q u. told_root h i r c.3 u z) refl top
