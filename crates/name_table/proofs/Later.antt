-- Names of trees, and where they stand in a table.
use Rattle.name_table.proofs.Shared.{in_front, behind, where_in, ◌≡◌, ℕ, suc, ◌<◌, ◌≤◌, ◌⊎◌, inl, inr, List, [], ◌∷◌, ◌++◌, length, map, Bool, true, false, cond, Some, refl, sym, ap, ◌∙◌, subst}
use Rattle.name_table.proofs.Shared.{arith, Contains, bytes_eq, map-append, bytes_eq-Decides, Tree, Forest, join, has_root, root_tree, plain, by_test, root-left, tree-left, LacksNames, NamedTree}
use Rattle.name_table.proofs.Shared.{value_in, AreDistinctNames, AreRoots, HoldLaterNames, counted_by, Entry, Table, has_entry, has_room_for, name_limit, tree_under, without_entry}
use Rattle.name_table.proofs.{Shared.{Contains-append_cases}, Counting.{plain-counted, root-counted}, Holders.{AreTold}}
use Rattle.calc_terms.proofs.SmallLaws.{nobody as none_in}

-- ---- lists of names

abbrev pub AreAmong : List (List ℕ) → List (List ℕ) → Type 0
AreAmong xs ys = (y : List ℕ) → Contains xs y → Contains ys y

pub among_more : (x : List ℕ) (xs ys : List (List ℕ)) → AreAmong xs ys → AreAmong (x ∷ xs) (x ∷ ys)
among_more x xs ys s y c = elim (where_in x y xs c) [ inl e ↦ subst (Contains (x ∷ ys)) e (in_front x ys) | inr k ↦ behind x y ys (s y k) ]

pub among_with : (x : List ℕ) (xs ys : List (List ℕ)) → Contains ys x → AreAmong xs ys → AreAmong (x ∷ xs) ys
among_with x xs ys h s y c = elim (where_in x y xs c) [ inl e ↦ subst (Contains ys) e h | inr k ↦ s y k ]

-- the names of entries
abbrev pub names_of_entries : List Entry → List (List ℕ)
names_of_entries es = map (λ e. e.name) es

pub names-without : (x : List ℕ) (es : List Entry) → AreAmong (names_of_entries (without_entry x es)) (names_of_entries es)
names-without x [] = λ y c. c
names-without x (e ∷ es) =
    by_test (λ t. AreAmong (names_of_entries (cond t es (e ∷ without_entry x es))) (names_of_entries (e ∷ es))) (bytes_eq e.name x)
    (λ p y c. behind e.name y (names_of_entries es) c)
    (λ p. among_more e.name (names_of_entries (without_entry x es)) (names_of_entries es) (names-without x es))

pub distinct-without : (x : List ℕ) (es : List Entry) → AreDistinctNames (names_of_entries es) → AreDistinctNames (names_of_entries (without_entry x es))
distinct-without x [] d = tt
distinct-without x (e ∷ es) d =
    by_test (λ t. AreDistinctNames (names_of_entries (cond t es (e ∷ without_entry x es)))) (bytes_eq e.name x) (λ p. d.1)
    (λ p. (λ c. d.0 (names-without x es e.name c), distinct-without x es d.1))

-- the name that was taken out is gone
pub gone : (x : List ℕ) (es : List Entry) → AreDistinctNames (names_of_entries es) → Contains (names_of_entries (without_entry x es)) x → ⊥
gone x [] d c = none_in x c
gone x (e ∷ es) d c =
    by_test (λ t. bytes_eq e.name x ≡ t → Contains (names_of_entries (cond t es (e ∷ without_entry x es))) x → ⊥) (bytes_eq e.name x)
    (λ p q k. d.0 (subst (Contains (names_of_entries es)) (sym ((bytes_eq-Decides e.name x).0 q)) k))
    (λ p q k. elim (where_in e.name x (names_of_entries (without_entry x es)) k) [ inl s ↦ not_both (bytes_eq e.name x) ((bytes_eq-Decides e.name x).1 s) q | inr m ↦ gone x es d.1 m ])
    refl c
  where
    not_both : (t : Bool) → t ≡ true → t ≡ false → ⊥
    not_both t p q = absurd cc

pub distinct-last : (xs : List (List ℕ)) (y : List ℕ) → AreDistinctNames xs → (Contains xs y → ⊥) → AreDistinctNames (xs ++ y ∷ [])
distinct-last [] y d n = (none_in y, tt)
distinct-last (x ∷ xs) y d n = (
  λ c. elim (Contains-append_cases xs (y ∷ []) x c) [ inl k ↦ d.0 k | inr k ↦ elim (where_in y x [] k) [ inl e ↦ n (subst (λ (z : List ℕ). Contains (z ∷ xs) y) e (in_front y xs)) | inr m ↦ none_in x m ] ],
  distinct-last xs y d.1 (λ c. n (behind x y xs c)),
)

pub names-last : (es : List Entry) (e : Entry) → names_of_entries (es ++ e ∷ []) ≡ names_of_entries es ++ e.name ∷ []
names-last es e = map-append (λ (d : Entry). d.name) es (e ∷ [])

-- ---- how many

pub length-without : (x : List ℕ) (es : List Entry) → length (without_entry x es) ≤ length es
length-without x [] = omega arith
length-without x (e ∷ es) =
    let h : length (without_entry x es) ≤ length es = length-without x es in
    by_test (λ t. length (cond t es (e ∷ without_entry x es)) ≤ suc (length es)) (bytes_eq e.name x) (λ p. omega arith) (λ p. omega arith)

length-stored : (x : List ℕ) (es : List Entry) → has_entry x es ≡ true → length (without_entry x es) < length es
length-stored x [] h = absurd cc
length-stored x (e ∷ es) h =
    by_test (λ t. cond t true (has_entry x es) ≡ true → length (cond t es (e ∷ without_entry x es)) < suc (length es)) (bytes_eq e.name x) (λ p q. omega arith)
    (λ p q. let k : length (without_entry x es) < length es = length-stored x es q in omega arith) h

pub room-without : (x : List ℕ) (t : Table) → length t.stored ≤ name_limit → has_room_for x t ≡ true → length (without_entry x t.stored) < 64
room-without x t h k = grind (arith, by_test, length-stored, length-without)

-- ---- names that a tree lacks

pub lacks-among : (xs ys : List (List ℕ)) (t : Tree) → AreAmong xs ys → LacksNames ys t → LacksNames xs t
lacks-among xs ys t s l x c = l x (s x c)

pub later-among : (b c : List (List ℕ)) (vs : List NamedTree) → AreAmong b c → HoldLaterNames c vs → HoldLaterNames b vs
later-among b c [] s h = tt
later-among b c (v ∷ vs) s h = (lacks-among (v.name ∷ b) (v.name ∷ c) v.tree (among_more v.name b c s) h.0, later-among (v.name ∷ b) (v.name ∷ c) vs (among_more v.name b c s) h.1)

pub later-without : (x : List ℕ) (f : Forest) (es : List Entry) (b : List (List ℕ)) → HoldLaterNames b (map (value_in f) es) → HoldLaterNames b (map (value_in f) (without_entry x es))
later-without x f [] b h = tt
later-without x f (e ∷ es) b h =
    by_test (λ t. HoldLaterNames b (map (value_in f) (cond t es (e ∷ without_entry x es)))) (bytes_eq e.name x)
    (λ p. later-among b (e.name ∷ b) (map (value_in f) es) (λ y c. behind e.name y b c) h.1)
    (λ p. (h.0, later-without x f es (e.name ∷ b) h.1))

pub later-last : (f : Forest) (all b : List (List ℕ)) (es : List Entry) (d : Entry) → AreAmong b all → AreAmong (names_of_entries es) all → Contains all d.name → LacksNames all (plain (root_tree d.tree f)) → HoldLaterNames b (map (value_in f) es) → HoldLaterNames b (map (value_in f) (es ++ d ∷ []))
later-last f all b [] d s n m l h = (lacks-among (d.name ∷ b) all (plain (root_tree d.tree f)) (among_with d.name b all m s) l, tt)
later-last f all b (e ∷ es) d s n m l h =
    (h.0, later-last f all (e.name ∷ b) es d (among_with e.name b all (n e.name (in_front e.name (names_of_entries es))) s) (λ y c. n y (behind e.name y (names_of_entries es) c)) m l h.1)

-- ---- entries whose trees are roots

pub roots-left : (es : List Entry) (f g : Forest) → AreRoots es f → AreRoots es (join f g)
roots-left [] f g r = tt
roots-left (e ∷ es) f g r = (root-left e.tree f g r.0, roots-left es f g r.1)

pub roots-without : (x : List ℕ) (es : List Entry) (f : Forest) → AreRoots es f → AreRoots (without_entry x es) f
roots-without x [] f r = tt
roots-without x (e ∷ es) f r = by_test (λ t. AreRoots (cond t es (e ∷ without_entry x es)) f) (bytes_eq e.name x) (λ p. r.1) (λ p. (r.0, roots-without x es f r.1))

pub roots-last : (es : List Entry) (e : Entry) (f : Forest) → AreRoots es f → has_root e.tree f ≡ true → AreRoots (es ++ e ∷ []) f
roots-last [] e f r h = (h, tt)
roots-last (d ∷ es) e f r h = (r.0, roots-last es e f r.1 h)

pub roots-counted : (h : ℕ → ℕ) (es : List Entry) (f : Forest) → AreTold h es → AreRoots es f → AreRoots es (counted_by h f)
roots-counted h [] f t r = tt
roots-counted h (e ∷ es) f t r = (root-counted h e.tree f t.0 ∙ r.0, roots-counted h es f t.1 r.1)

pub root-under : (x : List ℕ) (es : List Entry) (f : Forest) (i : ℕ) → AreRoots es f → tree_under x es ≡ Some i → has_root i f ≡ true
root-under x [] f i r u = absurd cc
root-under x (e ∷ es) f i r u =
    by_test (λ t. cond t (Some e.tree) (tree_under x es) ≡ Some i → has_root i f ≡ true) (bytes_eq e.name x)
    (λ p q. let s : e.tree ≡ i = cc in ap (λ (k : ℕ). has_root k f) (sym s) ∙ r.0) (λ p q. root-under x es f i r.1 q) u

-- ---- what entries stand for

pub values-counted : (h : ℕ → ℕ) (es : List Entry) (f : Forest) → AreTold h es → map (value_in (counted_by h f)) es ≡ map (value_in f) es
values-counted h [] f t = refl
values-counted h (e ∷ es) f t = ap (λ (v : Tree). record { name = e.name; tree = v } ∷ map (value_in (counted_by h f)) es) (plain-counted h e.tree f t.0) ∙ ap (λ (vs : List NamedTree). value_in f e ∷ vs) (values-counted h es f t.1)

pub values-left : (es : List Entry) (f g : Forest) → AreRoots es f → map (value_in (join f g)) es ≡ map (value_in f) es
values-left [] f g r = refl
values-left (e ∷ es) f g r = ap (λ (v : Tree). record { name = e.name; tree = v } ∷ map (value_in (join f g)) es) (ap plain (tree-left e.tree f g r.0)) ∙ ap (λ (vs : List NamedTree). value_in f e ∷ vs) (values-left es f g r.1)
