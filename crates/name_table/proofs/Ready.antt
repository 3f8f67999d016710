-- A forest that holds the trees of a table, among others and with other counts.
use Rattle.name_table.proofs.Shared.{◌≡◌, ℕ, suc, ◌<◌, ◌≤◌, inl, inr, List, [], ◌∷◌, ◌++◌, length, map, Bool, true, false, cond, Option, Some, None, refl, sym, ap, ◌∙◌, subst, arith, codes, Contains}
use Rattle.name_table.proofs.Shared.{bytes_eq, eq-eqb, length-append, bytes_eq-Decides, AreWritable, Tree, Trees, none, more, append, AllExpressions, IsWhole, plain, plains, Forest, empty, tree}
use Rattle.name_table.proofs.Shared.{arity, join, root_id, AllOnce, Gives, has_root, root_tree, all-join, last_root, last_tree, LacksNames, value_in, values, AreCountedBy, AreDistinctNames, AreRoots}
use Rattle.name_table.proofs.Shared.{HoldLaterNames, IsHeld, held_by, holders_in, IsKeepable, names_with, Entry, Table, entries, first_table, has_room_for, name_limit, table_names, with_answer}
use Rattle.name_table.proofs.{Shared.{without_entry, without_name, behind, in_front, where_in, alone, plains-join}, Counting.{counted-are, counts_beside, one_more, plain-counted, whole-counted}}
use Rattle.name_table.proofs.{Counting.{writable-counted}, Holders.{holders-no_root, holders-told}, Later.{AreAmong, among_with, distinct-last, distinct-without, gone, lacks-among, later-last}}
use Rattle.name_table.proofs.Later.{later-without, length-without, names-last, names-without, names_of_entries, room-without, roots-counted, roots-last, roots-left, roots-without, values-counted}
use Rattle.name_table.proofs.Later.{values-left}
use Rattle.calc_terms.proofs.SmallLaws.{nobody as none_in}
use Rattle.name_table.proofs.Apart.{apart-named, apart-without}
use Rattle.name_table.specs.Held.{AreApart}

-- all but the counts
pub record IsReady (t : Table) (f : Forest) : Type 0 where
  pub distinct : AreDistinctNames (table_names t)
  pub few : length t.stored ≤ name_limit
  pub roots : AreRoots (entries t) f
  pub apart : AreApart t.stored
  pub told : ℕ → ℕ
  pub counts : AreCountedBy told f
  pub whole : AllExpressions f
  pub writable : AreWritable (plains f)
  pub later : HoldLaterNames [] (values t f)
  pub answer : LacksNames (table_names t) (plain (root_tree t.ans f))

pub ready_held : (t : Table) (f : Forest) → IsReady t f → IsHeld t (held_by t f)
ready_held t f r =
    let told = holders-told (entries t) in
    record {
      distinct = r.distinct;
      few = r.few;
      roots = roots-counted (holders_in t) (entries t) f told r.roots;
      apart = r.apart;
      counts = counted-are r.told (holders_in t) f r.counts;
      whole = whole-counted (holders_in t) f r.whole;
      writable = writable-counted (holders_in t) f r.writable;
      later = subst (HoldLaterNames []) (sym (values-counted (holders_in t) (entries t) f told)) r.later;
      answer = subst (LacksNames (table_names t)) (sym (plain-counted (holders_in t) t.ans f told.0)) r.answer;
    }

-- ---- a tree more

counts_join : (h : ℕ → ℕ) (f g : Forest) → AreCountedBy h f → AreCountedBy h g → AreCountedBy h (join f g)
counts_join h empty g a b = b
counts_join h (tree l k r) g a b = (a.0, a.1, a.2, counts_join h r g a.3 b)

counts_alone : (h : ℕ → ℕ) (t : Forest) → arity t ≡ 1 → AllOnce t → h (root_id t) ≡ 1 → AreCountedBy h t
counts_alone h (tree l k empty) a o e = let c : l.count ≡ 1 = o.0 in (omega arith, c ∙ sym e, o.1, tt)
counts_alone h t a o e = absurd (omega arith)

pub start_counts : {t : Table} {others f : Forest} {i : ℕ} {Told : Tree → Type 0} → IsHeld t others → Gives others f i Told → AreCountedBy (one_more i (holders_in t)) f
start_counts {t = t} {others = others} {i = i} held g =
    let e = g.ends in
    let alone_there : one_more i (holders_in t) (root_id g.tree) ≡ 1 =
    ap (one_more i (holders_in t)) e.root ∙ ap (λ (b : Bool). cond b (suc (holders_in t i)) (holders_in t i)) (eq-eqb i i refl) ∙ ap suc (holders-no_root i (entries t) others held.roots e.clear) in
    subst (AreCountedBy (one_more i (holders_in t))) (sym e.whole)
    (counts_join (one_more i (holders_in t)) others g.tree
    (counts_beside (one_more i (holders_in t)) (holders_in t) i others (λ j n. ap (λ (b : Bool). cond b (suc (holders_in t j)) (holders_in t j)) n) e.clear held.counts)
    (counts_alone (one_more i (holders_in t)) g.tree e.alone g.once alone_there))

writable_append : (ts us : Trees) → AreWritable ts → AreWritable us → AreWritable (append ts us)
writable_append none us a b = b
writable_append (more t ts) us a b = (a.0, writable_append ts us a.1 b)

-- what holds of the old trees and the new one
record IsBeside (t : Table) (others f : Forest) (i : ℕ) : Type 0 where
  counts : AreCountedBy (one_more i (holders_in t)) f
  whole : AllExpressions f
  writable : AreWritable (plains f)
  root : has_root i f ≡ true
  roots : AreRoots t.stored f
  values_are : map (value_in f) t.stored ≡ map (value_in others) t.stored

beside : {t : Table} {others f : Forest} {i : ℕ} {store : Option (List ℕ)} → IsHeld t others → Gives others f i (IsKeepable store t) → IsBeside t others f i
beside {t = t} {others = others} {f = f} held g =
    let e = g.ends in
    record {
      counts = start_counts held g;
      whole = subst AllExpressions (sym e.whole) (all-join IsWhole others g.tree held.whole g.whole);
      writable = subst (λ (x : Forest). AreWritable (plains x)) (sym e.whole) (subst AreWritable (sym (plains-join others g.tree)) (writable_append (plains others) (plains g.tree) held.writable (subst AreWritable (sym (alone g.tree e.alone)) (g.told.writable, tt))));
      root = last_root e;
      roots = subst (AreRoots t.stored) (sym e.whole) (roots-left t.stored others g.tree held.roots.1);
      values_are = ap (λ (x : Forest). map (value_in x) t.stored) e.whole ∙ values-left t.stored others g.tree held.roots.1;
    }

-- the new tree lacks these names
clear_of : {t : Table} {others f : Forest} {i : ℕ} {store : Option (List ℕ)} (xs : List (List ℕ)) → Gives others f i (IsKeepable store t) → AreAmong xs (names_with store t) → LacksNames xs (plain (root_tree i f))
clear_of {t = t} {store = store} xs g s = subst (λ (x : Forest). LacksNames xs (plain x)) (sym (last_tree g.ends)) (lacks-among xs (names_with store t) (plain g.tree) s g.told.clear)

ans : List ℕ
ans = codes "ans"

-- as the last answer alone
pub ready_answer : {t : Table} {others f : Forest} {i : ℕ} → IsHeld t others → Gives others f i (IsKeepable None t) → IsReady (with_answer None i t) f
ready_answer {t = t} {others = others} {f = f} {i = i} held g =
    let b = beside held g in
    record {
      distinct = held.distinct;
      few = held.few;
      roots = (b.root, b.roots);
      apart = held.apart;
      told = one_more i (holders_in t);
      counts = b.counts;
      whole = b.whole;
      writable = b.writable;
      later = (clear_of (codes "ans" ∷ []) g (among_with (codes "ans") [] (table_names t) (in_front (codes "ans") (names_of_entries t.stored)) (λ y c. absurd (none_in y c))), subst (HoldLaterNames (codes "ans" ∷ [])) (sym b.values_are) held.later.1);
      answer = clear_of (table_names t) g (λ y c. c);
    }

-- under a name too
pub ready_named : {t : Table} {others f : Forest} {i : ℕ} (x : List ℕ) → IsHeld t others → Gives others f i (IsKeepable (Some x) t) → bytes_eq x (codes "ans") ≡ false → has_room_for x t ≡ true → IsReady (with_answer (Some x) i t) f
ready_named {t = t} {others = others} {f = f} {i = i} x held g no_ans room =
    let b = beside held g in
    let rest = without_entry x t.stored in
    let entry : Entry = record { name = x; tree = i } in
    let all = x ∷ table_names t in
    let in_stored : AreAmong (names_of_entries rest) (names_of_entries t.stored) = names-without x t.stored in
    let stored_in : AreAmong (names_of_entries t.stored) all = λ y c. behind x y (table_names t) (behind (codes "ans") y (names_of_entries t.stored) c) in
    let ans_in : Contains all (codes "ans") = behind x (codes "ans") (table_names t) (in_front (codes "ans") (names_of_entries t.stored)) in
    let last_names : names_of_entries (rest ++ entry ∷ []) ≡ names_of_entries rest ++ x ∷ [] = names-last rest entry in
    let among : AreAmong (names_of_entries (rest ++ entry ∷ [])) all = subst (λ (xs : List (List ℕ)). AreAmong xs all) (sym last_names) (last_among (names_of_entries rest) x all (λ y c. stored_in y (in_stored y c)) (in_front x (table_names t))) in
    let n : length rest < 64 = room-without x t held.few room in
    record {
      distinct = (
        λ c. not_last (names_of_entries rest) x (λ k. held.distinct.0 (in_stored (codes "ans") k)) no_ans (subst (λ (xs : List (List ℕ)). Contains xs (codes "ans")) last_names c),
        subst AreDistinctNames (sym last_names) (distinct-last (names_of_entries rest) x (distinct-without x t.stored held.distinct.1) (gone x t.stored held.distinct.1)),
      );
      few = omega (arith, length-append rest (entry ∷ []));
      roots = (b.root, roots-last rest entry f (roots-without x t.stored f b.roots) b.root);
      apart = apart-named x t.stored entry held.apart (holders-no_root i t.stored others held.roots.1 g.ends.clear);
      told = one_more i (holders_in t);
      counts = b.counts;
      whole = b.whole;
      writable = b.writable;
      later = (
        clear_of (codes "ans" ∷ []) g (among_with (codes "ans") [] all ans_in (λ y c. absurd (none_in y c))),
        later-last f all (codes "ans" ∷ []) rest entry (among_with (codes "ans") [] all ans_in (λ y c. absurd (none_in y c))) (λ y c. stored_in y (in_stored y c)) (in_front x (table_names t)) (clear_of all g (λ y c. c))
            (later-without x f t.stored (codes "ans" ∷ []) (subst (HoldLaterNames (codes "ans" ∷ [])) (sym b.values_are) held.later.1)),
      );
      answer = clear_of (codes "ans" ∷ names_of_entries (rest ++ entry ∷ [])) g (among_with (codes "ans") (names_of_entries (rest ++ entry ∷ [])) all ans_in among);
    }
  where
    last_among : (xs : List (List ℕ)) (y : List ℕ) (ys : List (List ℕ)) → AreAmong xs ys → Contains ys y → AreAmong (xs ++ y ∷ []) ys
    last_among [] y ys s h = among_with y [] ys h s
    last_among (x ∷ xs) y ys s h = among_with x (xs ++ y ∷ []) ys (s x (in_front x xs)) (last_among xs y ys (λ z c. s z (behind x z xs c)) h)

    not_ans : (y : List ℕ) → bytes_eq y (codes "ans") ≡ false → y ≡ codes "ans" → ⊥
    not_ans y e q = both (bytes_eq y (codes "ans")) ((bytes_eq-Decides y (codes "ans")).1 q) e
      where
        both : (t : Bool) → t ≡ true → t ≡ false → ⊥
        both t p q = absurd cc

    not_last : (xs : List (List ℕ)) (y : List ℕ) → (Contains xs (codes "ans") → ⊥) → bytes_eq y (codes "ans") ≡ false → Contains (xs ++ y ∷ []) (codes "ans") → ⊥
    not_last [] y n e c = elim (where_in y (codes "ans") [] c) [ inl q ↦ not_ans y e q | inr k ↦ none_in (codes "ans") k ]
    not_last (x ∷ xs) y n e c = elim (where_in x (codes "ans") (xs ++ y ∷ []) c) [ inl q ↦ n (subst (λ (z : List ℕ). Contains (z ∷ xs) (codes "ans")) (sym q) (in_front (codes "ans") xs)) | inr k ↦ not_last xs y (λ m. n (behind x (codes "ans") xs m)) e k ]

-- ---- a name less

pub ready_without : {t : Table} {f : Forest} (x : List ℕ) → IsHeld t f → IsReady (without_name x t) f
ready_without {t = t} {f = f} x held =
    let rest = without_entry x t.stored in
    let in_stored : AreAmong (names_of_entries rest) (names_of_entries t.stored) = names-without x t.stored in
    let n : length rest ≤ length t.stored = length-without x t.stored in
    let few : length t.stored ≤ 64 = held.few in
    record {
      distinct = (λ c. held.distinct.0 (in_stored (codes "ans") c), distinct-without x t.stored held.distinct.1);
      few = omega arith;
      roots = (held.roots.0, roots-without x t.stored f held.roots.1);
      apart = apart-without x t.stored held.apart;
      told = holders_in t;
      counts = held.counts;
      whole = held.whole;
      writable = held.writable;
      later = (held.later.0, later-without x f t.stored (codes "ans" ∷ []) held.later.1);
      answer = lacks-among (codes "ans" ∷ names_of_entries rest) (table_names t) (plain (root_tree t.ans f)) (among_with (codes "ans") (names_of_entries rest) (table_names t) (in_front (codes "ans") (names_of_entries t.stored)) (λ y c. behind (codes "ans") y (names_of_entries t.stored) (in_stored y c))) held.answer;
    }

-- ---- a table of one tree

pub first_held : (i : ℕ) (f : Forest) → Gives empty f i (IsKeepable None (first_table i)) → IsHeld (first_table i) f
first_held i f g =
    let e = g.ends in
    let alone_tree : f ≡ g.tree = e.whole in
    record {
      distinct = (none_in (codes "ans"), tt);
      few = omega arith;
      roots = (last_root e, tt);
      apart = tt;
      counts = subst (AreCountedBy (holders_in (first_table i))) (sym alone_tree) (counts_alone (holders_in (first_table i)) g.tree e.alone g.once (ap (holders_in (first_table i)) e.root ∙ ap (λ (b : Bool). cond b 1 0) (eq-eqb i i refl)));
      whole = subst AllExpressions (sym alone_tree) g.whole;
      writable = subst (λ (x : Forest). AreWritable (plains x)) (sym alone_tree) (subst AreWritable (sym (alone g.tree e.alone)) (g.told.writable, tt));
      later = (clear_of (codes "ans" ∷ []) g (λ y c. c), tt);
      answer = clear_of (codes "ans" ∷ []) g (λ y c. c);
    }
