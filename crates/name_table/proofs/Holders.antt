-- How many entries hold a tree.
use Rattle.name_table.proofs.Shared.{◌≡◌, ◌≢◌, ℕ, suc, ◌-◌, ◌≤◌, List, [], ◌∷◌, ◌++◌, Bool, true, false, cond, eqb, Some, refl, sym, ap, ◌∙◌, arith}
use Rattle.name_table.proofs.{Shared.{bytes_eq, eq-eqb, eqb-true, Forest, has_root, by_test, AreRoots, Entry, holders, tree_under, without_entry}, Counting.{one_less, one_more}}

swapped : (a b : Bool) (n : ℕ) → cond a (suc (cond b (suc n) n)) (cond b (suc n) n) ≡ cond b (suc (cond a (suc n) n)) (cond a (suc n) n)
swapped a b n = grind arith

-- one entry more at the end
pub holders-last : (es : List Entry) (e : Entry) (j : ℕ) → holders j (es ++ e ∷ []) ≡ one_more e.tree (λ i. holders i es) j
holders-last [] e j = refl
holders-last (d ∷ es) e j = ap (λ (n : ℕ). cond (eqb d.tree j) (suc n) n) (holders-last es e j) ∙ swapped (eqb d.tree j) (eqb e.tree j) (holders j es)

-- one entry less
pub less_below : (a b : Bool) (w h : ℕ) → w ≡ cond b (h - 1) h → (b ≡ true → 1 ≤ h) → cond a (suc w) w ≡ cond b (cond a (suc h) h - 1) (cond a (suc h) h)
less_below a b w h e p = grind arith

first_less : (a : Bool) (h : ℕ) → h ≡ cond a (cond a (suc h) h - 1) (cond a (suc h) h)
first_less a h = grind arith

pub record IsOneLess (i j : ℕ) (es rest : List Entry) : Type 0 where
  pub less : holders j rest ≡ one_less i (λ k. holders k es) j
  pub some : eqb i j ≡ true → 1 ≤ holders j es

some_more : (a b : Bool) (h : ℕ) → (b ≡ true → 1 ≤ h) → b ≡ true → 1 ≤ cond a (suc h) h
some_more a b h p q = grind arith

same_root : (i k : ℕ) → Some i ≡ Some k → i ≡ k
same_root i k e = cc

pub holders-without : (x : List ℕ) (es : List Entry) (i j : ℕ) → tree_under x es ≡ Some i → IsOneLess i j es (without_entry x es)
holders-without x [] i j u = absurd cc
holders-without x (e ∷ es) i j u =
    by_test (λ t. cond t (Some e.tree) (tree_under x es) ≡ Some i → IsOneLess i j (e ∷ es) (cond t es (e ∷ without_entry x es))) (bytes_eq e.name x)
    (λ p v. let s : e.tree ≡ i = same_root e.tree i v in record {
      less = rw (sym s) (first_less (eqb e.tree j) (holders j es));
      some = λ q. some_here (eqb e.tree j) (holders j es) (ap (λ (m : ℕ). eqb m j) s ∙ q);
    })
    (λ p v. let r = holders-without x es i j v in record {
      less = less_below (eqb e.tree j) (eqb i j) (holders j (without_entry x es)) (holders j es) r.less r.some;
      some = some_more (eqb e.tree j) (eqb i j) (holders j es) r.some;
    })
    u
  where
    some_here : (a : Bool) (h : ℕ) → a ≡ true → 1 ≤ cond a (suc h) h
    some_here true h q = omega arith
    some_here false h q = absurd cc

-- a tree that is no root is held by no entry
pub holders-no_root : (i : ℕ) (es : List Entry) (f : Forest) → AreRoots es f → has_root i f ≡ false → holders i es ≡ 0
holders-no_root i [] f r n = refl
holders-no_root i (e ∷ es) f r n =
    by_test (λ t. eqb e.tree i ≡ t → cond t (suc (holders i es)) (holders i es) ≡ 0) (eqb e.tree i)
    (λ p q. absurd (cc (n, ap (λ (k : ℕ). has_root k f) (eqb-true e.tree i q), r.0)))
    (λ p q. holders-no_root i es f r.1 n)
    refl

-- ---- something is told of each entry's tree

abbrev pub AreTold : (ℕ → ℕ) → List Entry → Type 0
AreTold h [] = Unit {0}
AreTold h (e ∷ es) = (h e.tree ≢ 0) × AreTold h es

told_more : (g h : ℕ → ℕ) (es : List Entry) → ((i : ℕ) → g i ≢ 0 → h i ≢ 0) → AreTold g es → AreTold h es
told_more g h [] m t = tt
told_more g h (e ∷ es) m t = (m e.tree t.0, told_more g h es m t.1)

pub holders-told : (es : List Entry) → AreTold (λ i. holders i es) es
holders-told [] = tt
holders-told (e ∷ es) =
    (λ z. first (eqb e.tree e.tree) (holders e.tree es) (eq-eqb e.tree e.tree refl) z, told_more (λ i. holders i es) (λ i. holders i (e ∷ es)) es (λ i n z. later (eqb e.tree i) (holders i es) n z) (holders-told es))
  where
    first : (a : Bool) (h : ℕ) → a ≡ true → cond a (suc h) h ≡ 0 → ⊥
    first true h q z = absurd cc
    first false h q z = absurd cc

    later : (a : Bool) (h : ℕ) → h ≢ 0 → cond a (suc h) h ≡ 0 → ⊥
    later true h n z = absurd cc
    later false h n z = n z
