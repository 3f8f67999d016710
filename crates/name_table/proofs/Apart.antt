-- Entries that hold different trees.
use Rattle.name_table.proofs.Shared.{◌≡◌, ◌∙◌, ℕ, suc, ◌+◌, ◌≤◌, List, [], ◌∷◌, ◌++◌, Bool, true, false, cond, eqb, refl, sym, ap, arith, by_test, bytes_eq, eqb-false, eqb-true, ne_eqb, Forest, empty, tree, has_root, root_tree}
use Rattle.name_table.proofs.Shared.{AreRoots, IsHeld, Entry, Table, without_entry}
use Rattle.name_table.specs.{Held.{AreApart, bytes_held}, Laws.{HoldsApart}, Tables.{holders}}
use Rattle.tree_handles.proofs.FreeBytes.{bytes_without}
use Rattle.tree_handles.specs.{Forest.{bytes_in}, Roots.{without_root}}

-- ---- entries that do not hold a tree

none_first : (i : ℕ) (e : Entry) (es : List Entry) → holders i (e ∷ es) ≡ 0 → (eqb e.tree i ≡ false) × (holders i es ≡ 0)
none_first i e es h =
    by_test (λ t. eqb e.tree i ≡ t → cond t (suc (holders i es)) (holders i es) ≡ 0 → (eqb e.tree i ≡ false) × (holders i es ≡ 0)) (eqb e.tree i) (λ p q k. absurd (omega (arith, k))) (λ p q k. (q, k)) refl h

none-more : (i : ℕ) (e : Entry) (es : List Entry) → eqb e.tree i ≡ false → holders i es ≡ 0 → holders i (e ∷ es) ≡ 0
none-more i e es n h = ap (λ (t : Bool). cond t (suc (holders i es)) (holders i es)) n ∙ h

none-without : (i : ℕ) (x : List ℕ) (es : List Entry) → holders i es ≡ 0 → holders i (without_entry x es) ≡ 0
none-without i x [] h = refl
none-without i x (e ∷ es) h =
    let k = none_first i e es h in
    by_test (λ t. holders i (cond t es (e ∷ without_entry x es)) ≡ 0) (bytes_eq e.name x) (λ p. k.1) (λ p. none-more i e (without_entry x es) k.0 (none-without i x es k.1))

none-last : (i : ℕ) (es : List Entry) (d : Entry) → holders i es ≡ 0 → eqb d.tree i ≡ false → holders i (es ++ d ∷ []) ≡ 0
none-last i [] d h n = none-more i d [] n refl
none-last i (e ∷ es) d h n = let k = none_first i e es h in none-more i e (es ++ d ∷ []) k.0 (none-last i es d k.1 n)

-- ---- entries apart

pub apart-without : (x : List ℕ) (es : List Entry) → AreApart es → AreApart (without_entry x es)
apart-without x [] a = tt
apart-without x (e ∷ es) a = by_test (λ t. AreApart (cond t es (e ∷ without_entry x es))) (bytes_eq e.name x) (λ p. a.1) (λ p. (none-without e.tree x es a.0, apart-without x es a.1))

apart-last : (es : List Entry) (d : Entry) → AreApart es → holders d.tree es ≡ 0 → AreApart (es ++ d ∷ [])
apart-last [] d a h = (refl, tt)
apart-last (e ∷ es) d a h =
    let k = none_first d.tree e es h in
    (none-last e.tree es d a.0 (ne_eqb d.tree e.tree (λ s. eqb-false e.tree d.tree k.0 (sym s))), apart-last es d a.1 k.1)

-- an entry that takes the place of that of a name, and holds a new tree
pub apart-named : (x : List ℕ) (es : List Entry) (d : Entry) → AreApart es → holders d.tree es ≡ 0 → AreApart (without_entry x es ++ d ∷ [])
apart-named x es d a h = apart-last (without_entry x es) d (apart-without x es a) (none-without d.tree x es h)

-- ---- the bytes of their trees

beside_root : (i j : ℕ) (f : Forest) → eqb i j ≡ false → has_root i f ≡ true → (has_root i (without_root j f) ≡ true) × (root_tree i (without_root j f) ≡ root_tree i f)
beside_root i j empty n h = absurd cc
beside_root i j (tree l k r) n h = by (λ m. beside_root i j r n m) (eqb l.id j) refl (eqb l.id i) refl h
  where
    same_first : eqb l.id j ≡ true → eqb l.id i ≡ true → ⊥
    same_first p q = eqb-false i j n (sym (eqb-true l.id i q) ∙ eqb-true l.id j p)

    by : (has_root i r ≡ true → (has_root i (without_root j r) ≡ true) × (root_tree i (without_root j r) ≡ root_tree i r)) → (a : Bool) → eqb l.id j ≡ a → (b : Bool) → eqb l.id i ≡ b → cond b true (has_root i r) ≡ true
        → (has_root i (cond a r (tree l k (without_root j r))) ≡ true) × (root_tree i (cond a r (tree l k (without_root j r))) ≡ cond b (tree l k empty) (root_tree i r))
    by rest true p true q m = absurd (same_first p q)
    by rest true p false q m = (m, refl)
    by rest false p true q m = rw (q) (refl, refl)
    by rest false p false q m = rw (q) (rest m)

beside_roots : (j : ℕ) (es : List Entry) (f : Forest) → holders j es ≡ 0 → AreRoots es f → AreRoots es (without_root j f) × (bytes_held es (without_root j f) ≡ bytes_held es f)
beside_roots j [] f h r = (tt, refl)
beside_roots j (e ∷ es) f h r =
    let k = none_first j e es h in
    let first = beside_root e.tree j f k.0 r.0 in
    let rest = beside_roots j es f k.1 r.1 in
    ((first.0, rest.0), ap (λ (t : Forest). bytes_in t + bytes_held es (without_root j f)) first.1 ∙ ap (λ (n : ℕ). bytes_in (root_tree e.tree f) + n) rest.1)

bytes_within : (es : List Entry) (f : Forest) → AreApart es → AreRoots es f → bytes_held es f ≤ bytes_in f
bytes_within [] f a r = omega arith
bytes_within (e ∷ es) f a r =
    let rest = beside_roots e.tree es f a.0 r.1 in
    omega (arith, bytes_without e.tree f r.0, rest.1, bytes_within es (without_root e.tree f) a.1 rest.0)

pub held_apart : (t : Table) (f : Forest) → IsHeld t f → HoldsApart t f
held_apart t f h = record { apart = h.apart; within = bytes_within t.stored f h.apart h.roots.1 }
