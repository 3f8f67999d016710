-- The entries one after another.
use Rattle.name_table.proofs.Shared.{◌≡◌, ℕ, suc, ◌+◌, ◌<◌, ◌≤◌, List, [], ◌∷◌, length, map, drop, get_or, codes, IsSome, true, refl, sym, ap, ◌∙◌, subst, arith, ⊤, drop_all, name_of, Tree, State}
use Rattle.name_table.proofs.Shared.{free_of, plain, Forest, Gives, KeepsFront, tree_of, has_root, root_tree, without_root, KeepsRefusals, Stands, forest, keeps_after, keeps_none, given_rest}
use Rattle.name_table.proofs.Shared.{given_told, gives_as, last_tree, replaced, FaultsFilling, LacksNames, NamedTree, filled, filling, filling_one, fills, refused_filling, value_in, values, AreRoots}
use Rattle.name_table.proofs.Shared.{HasEntries, AreUsed, entry_of, root_in, Entry, Table, entries, table_names, Slot, drop-cons, IsBehind, front_after_one, front_same, not_first, starts_without}
use Rattle.name_table.proofs.{Shared.{FillFault}, FilledNames.{entries_lack}, Slots.{used_at}}

-- the last tree is filled but for the rest of the entries
pub record IsFilled (t : Table) (i0 : ℕ) (s0 : State) (rest : List Entry) (i : ℕ) (s : State) : Type 0 where
  pub stands : Stands s
  pub tree : Tree
  pub given : Gives (without_root i0 (forest s0)) (forest s) i (λ u. u ≡ tree)
  pub filled_is : filled (values t (without_root i0 (forest s0))) (tree_of i0 s0) ≡ filled (map (value_in (without_root i0 (forest s0))) rest) tree
  pub room : filling (free_of s0) (values t (without_root i0 (forest s0))) (tree_of i0 s0) ≡ filling (free_of s) (map (value_in (without_root i0 (forest s0))) rest) tree
  pub roots : AreRoots rest (without_root i0 (forest s0))
  pub kept : KeepsRefusals s0 s
  pub front : KeepsFront (i0 ∷ []) (forest s0) (forest s)

pub filled_start : {t : Table} {i0 : ℕ} {s0 : State} → Stands s0 → HasEntries t (without_root i0 (forest s0)) → Gives (without_root i0 (forest s0)) (forest s0) i0 (λ u. ⊤) → IsFilled t i0 s0 (entries t) i0 s0
filled_start {i0 = i0} {s0 = s0} st held g = record {
  stands = st;
  tree = tree_of i0 s0;
  given = record { tree = g.tree; ends = g.ends; once = g.once; whole = g.whole; told = ap plain (sym (last_tree g.ends)) };
  filled_is = refl;
  room = refl;
  roots = held.roots;
  kept = keeps_none s0;
  front = front_same;
}

-- ---- what the next call wants

pub next_rest : {t : Table} {i0 i : ℕ} {s0 s : State} {rest : List Entry} → IsFilled t i0 s0 rest i s → without_root i (forest s) ≡ without_root i0 (forest s0)
next_rest f = given_rest f.given

pub next_tree : {t : Table} {i0 i : ℕ} {s0 s : State} {rest : List Entry} (f : IsFilled t i0 s0 rest i s) → tree_of i s ≡ f.tree
next_tree f = given_told f.given

pub next_last : {t : Table} {i0 i : ℕ} {s0 s : State} {rest : List Entry} → IsFilled t i0 s0 rest i s → Gives (without_root i (forest s)) (forest s) i (λ u. ⊤)
next_last {i = i} {s = s} f = subst (λ (o : Forest). Gives o (forest s) i (λ u. ⊤)) (sym (next_rest f)) (gives_as f.given refl (λ u e. tt))

pub next_root : {t : Table} {i0 i : ℕ} {s0 s : State} {rest : List Entry} (e : Entry) → IsFilled t i0 s0 (e ∷ rest) i s → has_root e.tree (without_root i (forest s)) ≡ true
next_root e f = ap (has_root e.tree) (next_rest f) ∙ f.roots.0

-- ---- what it leaves

one_more_filled : (free left : ℕ) (v : NamedTree) (vs : List NamedTree) (t u : Tree) → filling_one free v t ≡ fills left u → filling free (v ∷ vs) t ≡ filling left vs u
one_more_filled free left v vs t u e = rw (e, filling) refl

refused_there : (free : ℕ) (v : NamedTree) (vs : List NamedTree) (t : Tree) (f : FillFault) → filling_one free v t ≡ refused_filling f → filling free (v ∷ vs) t ≡ refused_filling f
refused_there free v vs t f e = grind arith

-- the tree is not among those that stood first
pub is_behind : {t : Table} {i0 i : ℕ} {s0 s : State} {rest : List Entry} → IsFilled t i0 s0 rest i s → IsBehind i (i0 ∷ []) (forest s0)
is_behind {i0 = i0} {i = i} {s0 = s0} f = record { clear = λ p s n. not_first i p (without_root i0 (forest s0)) (starts_without i0 p (forest s0) n.0 s) f.given.ends.clear }

pub filled_more : {t : Table} {i0 i j : ℕ} {s0 s u : State} {rest : List Entry} (e : Entry) → IsFilled t i0 s0 (e ∷ rest) i s → Stands u
    → Gives (without_root i (forest s)) (forest u) j (λ w. w ≡ replaced e.name (plain (root_tree e.tree (without_root i (forest s)))) (tree_of i s))
    → filling_one (free_of s) (value_in (without_root i (forest s)) e) (tree_of i s) ≡ fills (free_of u) (tree_of j u)
    → KeepsRefusals s u → KeepsFront (i ∷ []) (forest s) (forest u) → IsFilled t i0 s0 rest j u
filled_more {t = t} {i0 = i0} {i = i} {j = j} {s0 = s0} {s = s} {u = u} {rest = rest} e f stu g q kept front =
    let others = without_root i0 (forest s0) in
    let v : NamedTree = value_in others e in
    let given : Gives others (forest u) j (λ w. w ≡ replaced e.name v.tree f.tree) =
    gives_as (subst (λ (o : Forest). Gives o (forest u) j (λ w. w ≡ replaced e.name (plain (root_tree e.tree o)) (tree_of i s))) (next_rest f) g) refl (λ w p. p ∙ ap (replaced e.name v.tree) (next_tree f)) in
    let one : filling_one (free_of s) v f.tree ≡ fills (free_of u) (replaced e.name v.tree f.tree) =
    ap (filling_one (free_of s) v) (sym (next_tree f)) ∙ subst (λ (o : Forest). filling_one (free_of s) (value_in o e) (tree_of i s) ≡ fills (free_of u) (tree_of j u)) (next_rest f) q ∙ ap (fills (free_of u)) (given_told given) in
    record {
      stands = stu;
      tree = replaced e.name v.tree f.tree;
      given = given;
      filled_is = f.filled_is;
      room = f.room ∙ one_more_filled (free_of s) (free_of u) v (map (value_in others) rest) f.tree (replaced e.name v.tree f.tree) one;
      roots = f.roots.1;
      kept = keeps_after s0 s u f.kept kept;
      front = front_after_one (is_behind f) f.front front;
    }

-- ---- the end, and where it is refused

pub filled_front : {t : Table} {i0 i : ℕ} {s0 s : State} {rest : List Entry} {g : Forest} → IsFilled t i0 s0 rest i s → KeepsFront (i ∷ []) (forest s) g → KeepsFront (i0 ∷ []) (forest s0) g
filled_front f front = front_after_one (is_behind f) f.front front

pub filled_refused : {t : Table} {i0 i : ℕ} {s0 s : State} {rest : List Entry} (e : Entry) (x : FillFault) → IsFilled t i0 s0 (e ∷ rest) i s
    → filling_one (free_of s) (value_in (without_root i (forest s)) e) (tree_of i s) ≡ refused_filling x → filling (free_of s0) (values t (without_root i0 (forest s0))) (tree_of i0 s0) ≡ refused_filling x
filled_refused {i0 = i0} {i = i} {s0 = s0} {s = s} {rest = rest} e x f q =
    let others = without_root i0 (forest s0) in
    f.room ∙ refused_there (free_of s) (value_in others e) (map (value_in others) rest) f.tree x
    (ap (filling_one (free_of s) (value_in others e)) (sym (next_tree f)) ∙ subst (λ (o : Forest). filling_one (free_of s) (value_in o e) (tree_of i s) ≡ refused_filling x) (next_rest f) q)

pub filled_faults : {t : Table} {i0 i : ℕ} {s0 s : State} {rest : List Entry} (u : State) (x : FillFault) → IsFilled t i0 s0 rest i s → FaultsFilling s u x → FaultsFilling s0 u x
filled_faults u x f g = grind arith

pub filled_given : {t : Table} {i0 i : ℕ} {s0 s : State} → IsFilled t i0 s0 [] i s → Gives (without_root i0 (forest s0)) (forest s) i (λ w. w ≡ filled (values t (without_root i0 (forest s0))) (tree_of i0 s0))
filled_given f = gives_as f.given refl (λ w e. e ∙ sym f.filled_is)

pub filled_room : {t : Table} {i0 i : ℕ} {s0 s : State} → IsFilled t i0 s0 [] i s → filling (free_of s0) (values t (without_root i0 (forest s0))) (tree_of i0 s0) ≡ fills (free_of s) (tree_of i s)
filled_room {s = s} f = f.room ∙ ap (fills (free_of s)) (sym (next_tree f))

pub filled_clear : {t : Table} {i0 i : ℕ} {s0 s : State} → HasEntries t (without_root i0 (forest s0)) → IsFilled t i0 s0 [] i s → LacksNames (table_names t) (tree_of i s)
filled_clear {t = t} {i0 = i0} {s0 = s0} held f = subst (LacksNames (table_names t)) (sym (given_told (filled_given f))) (entries_lack t (without_root i0 (forest s0)) (tree_of i0 s0) held)

-- ---- the entries as the slots of the code tell them

first_entry : (t : Table) (x : List ℕ) (i a : ℕ) (items now : List Slot) → x ≡ codes "ans" → i ≡ a → record { ans = a; stored = map entry_of items } ≡ t → now ≡ items → entries t ≡ record { name = x; tree = i } ∷ map entry_of now
first_entry t x i a items now p q e n = grind arith

pub filled_first : {t : Table} {i0 : ℕ} {s0 : State} (x : List ℕ) (i a : ℕ) (items now : List Slot) → x ≡ codes "ans" → i ≡ a → record { ans = a; stored = map entry_of items } ≡ t → now ≡ items
    → Stands s0 → HasEntries t (without_root i0 (forest s0)) → Gives (without_root i0 (forest s0)) (forest s0) i0 (λ u. ⊤) → IsFilled t i0 s0 (record { name = x; tree = i } ∷ map entry_of now) i0 s0
filled_first {t = t} {i0 = i0} {s0 = s0} x i a items now p q e n st held g = subst (λ (es : List Entry). IsFilled t i0 s0 es i0 s0) (first_entry t x i a items now p q e n) (filled_start st held g)

pub next_entry : (now : List Slot) (k : ℕ) (s : Slot) (r : ℕ) → k < length now → s ≡ get_or now k s → r ≡ root_in s.tree → map entry_of (drop k now) ≡ record { name = name_of s.name; tree = r } ∷ map entry_of (drop (k + 1) now)
next_entry now k s r h e q =
    ap (map entry_of) (drop-cons now k s h) ∙ ap (λ (d : Slot). entry_of d ∷ map entry_of (drop (suc k) now)) (sym e)
    ∙ ap (λ (i : ℕ). record { name = name_of s.name; tree = i } ∷ map entry_of (drop (suc k) now)) (sym q) ∙ ap (λ (m : ℕ). record { name = name_of s.name; tree = r } ∷ map entry_of (drop m now)) (more_is k)
  where
    more_is : (n : ℕ) → suc n ≡ n + 1
    more_is n = omega arith

pub filled_next : {t : Table} {i0 i : ℕ} {s0 u : State} (now : List Slot) (k : ℕ) (s : Slot) (r : ℕ) → k < length now → s ≡ get_or now k s → r ≡ root_in s.tree
    → IsFilled t i0 s0 (map entry_of (drop k now)) i u → IsFilled t i0 s0 (record { name = name_of s.name; tree = r } ∷ map entry_of (drop (k + 1) now)) i u
filled_next {t = t} {i0 = i0} {i = i} {s0 = s0} {u = u} now k s r h e q f = subst (λ (es : List Entry). IsFilled t i0 s0 es i u) (next_entry now k s r h e q) f

pub filled_end : {t : Table} {i0 i : ℕ} {s0 u : State} (now : List Slot) (k : ℕ) → length now ≤ k → IsFilled t i0 s0 (map entry_of (drop k now)) i u → IsFilled t i0 s0 [] i u
filled_end {t = t} {i0 = i0} {i = i} {s0 = s0} {u = u} now k h f = subst (λ (ss : List Slot). IsFilled t i0 s0 (map entry_of ss) i u) (drop_all k now h) f

pub used_item : (items now : List Slot) (k : ℕ) (s : Slot) → now ≡ items → AreUsed items → k < length now → s ≡ get_or now k s → IsSome s.tree
used_item items now k s n u h e = subst (λ (d : Slot). IsSome d.tree) (sym e) (used_at now k s (subst AreUsed (sym n) u) h)
