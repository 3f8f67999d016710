-- What is stored after a line.
use Rattle.session_laws.proofs.Shared.{◌≡◌, ◌∙◌, ℕ, List, [], ◌∷◌, ◌++◌, map, cond, Option, Some, None, refl, sym, ap, subst, bytes_eq, by_test, Tree, NamedTree, value_in, values-counted, values-left, holders-told}
use Rattle.session_laws.proofs.Shared.{IsHeld, AreRoots, held_by, holders_in, Entry, Table, entries, with_answer, without_entry, without_name, Forest, forest_of_whole, forest_of, flatten, join, root_id, root_tree, plain}
use Rattle.session_laws.proofs.Shared.{Reply, shown, stored, forgot, State, trees, IsReply, Leaves, LeavesAnswer, LeavesOthers, Chain, Moment, Turn, face}
use Rattle.session_laws.proofs.{HeldTrees.{Displays, answer_left, displays, held_behind, named_answer}, NamedLines.{read_name}}
use Rattle.session_laws.specs.StoredAgain.{ReadAsStores, stored_in}
use Rattle.beautify.proofs.FaceTexts.{face_reads}
use Rattle.breakers.specs.State.{State as Breaker}
use Rattle.calc_language.specs.Reads.{Stores}
use Rattle.calc_session.proofs.StoreLines.{store_read}
use Rattle.calc_session.specs.Naming.{store_line}
use Rattle.name_table.proofs.Later.{roots-without}
use Rattle.std.proofs.lemmas.List.{map-append}
use Rattle.tree_handles.proofs.Lasts.{last_tree}

-- ---- a name less

abbrev pub without_value : List ℕ → List NamedTree → List NamedTree
without_value x [] = []
without_value x (v ∷ vs) = cond (bytes_eq v.name x) vs (v ∷ without_value x vs)

values_without : (f : Forest) (x : List ℕ) (es : List Entry) → map (value_in f) (without_entry x es) ≡ without_value x (map (value_in f) es)
values_without f x [] = refl
values_without f x (e ∷ es) =
    by_test (λ t. map (value_in f) (cond t es (e ∷ without_entry x es)) ≡ cond t (map (value_in f) es) (value_in f e ∷ without_value x (map (value_in f) es))) (bytes_eq e.name x)
    (λ p. refl)
    (λ p. ap (λ vs. value_in f e ∷ vs) (values_without f x es))

-- ---- what a reply leaves

-- a tree more, where it is stored
abbrev pub with_value : Option (List ℕ) → Tree → List NamedTree → List NamedTree
with_value None t vs = vs
with_value (Some x) t vs = without_value x vs ++ record { name = x; tree = t } ∷ []

-- trees that no entry holds are released
left_values : (t : Table) (f : Forest) (s : State) → s.table ≡ t → s.nodes ≡ flatten (held_by t f) → stored_in s ≡ map (value_in f) t.stored
left_values t f s table nodes =
    let trees_are : trees s ≡ held_by t f = ap forest_of nodes ∙ forest_of_whole (held_by t f) in
    ap (λ (u : Table). map (value_in (trees s)) u.stored) table ∙ ap (λ (g : Forest). map (value_in g) t.stored) trees_are ∙ values-counted (holders_in t) t.stored f (holders-told (entries t)).1

answer_values : (store : Option (List ℕ)) (i : ℕ) (t : Tree) (table : Table) (f g : Forest) → AreRoots table.stored f → plain (root_tree i (join f g)) ≡ t → map (value_in (join f g)) (with_answer store i table).stored ≡ with_value store t (map (value_in f) table.stored)
answer_values None i t table f g roots e = values-left table.stored f g roots
answer_values (Some x) i t table f g roots e =
    let rest = without_entry x table.stored in
    let entry : Entry = record { name = x; tree = i } in
    map-append (value_in (join f g)) rest (entry ∷ [])
    ∙ ap (λ (vs : List NamedTree). vs ++ value_in (join f g) entry ∷ []) (values-left rest f g (roots-without x table.stored f roots) ∙ values_without f x table.stored)
    ∙ ap (λ (u : Tree). without_value x (map (value_in f) table.stored) ++ record { name = x; tree = u } ∷ []) e

pub values_of_answer : (store : Option (List ℕ)) (t : Tree) (old new : State) → IsHeld old.table (trees old) → LeavesAnswer store t old new → stored_in new ≡ with_value store t (stored_in old)
values_of_answer store t old new held leaves =
    let i = root_id leaves.tree in
    let f = join (trees old) leaves.tree in
    let g = answer_left (λ u. u ≡ t) leaves refl in
    left_values (with_answer store i old.table) f new leaves.table (leaves.nodes ∙ ap (λ u. flatten (held_by u f)) leaves.table)
    ∙ answer_values store i t old.table (trees old) leaves.tree held.roots.1 (ap plain (last_tree g.ends) ∙ g.told)

values_of_others : (x : List ℕ) (old new : State) → LeavesOthers x old new → stored_in new ≡ without_value x (stored_in old)
values_of_others x old new leaves =
    left_values (without_name x old.table) (trees old) new leaves.table (leaves.nodes ∙ ap (λ u. flatten (held_by u (trees old))) leaves.table)
    ∙ values_without (trees old) x old.table.stored

-- ---- lines that read as stores

read_without : (x : List ℕ) (vs : List NamedTree) → ReadAsStores vs → ReadAsStores (without_value x vs)
read_without x [] h = tt
read_without x (v ∷ vs) h = by_test (λ t. ReadAsStores (cond t vs (v ∷ without_value x vs))) (bytes_eq v.name x) (λ p. h.1) (λ p. (h.0, read_without x vs h.1))

read_last : (vs : List NamedTree) (v : NamedTree) → ReadAsStores vs → Stores (store_line v) v.tree v.name → ReadAsStores (vs ++ v ∷ [])
read_last [] v h k = (k, tt)
read_last (w ∷ vs) v h k = (h.0, read_last vs v h.1 k)

module _ (room bits : Option (Tree → ℕ)) (old new : State) (before after : List Breaker) (line : List ℕ) (held : IsHeld old.table (trees old)) (read : ReadAsStores (stored_in old)) where
  -- what is stored is the face of a reduced tree, under a name
  stored_reads : (t : Tree) (x : List ℕ) → Displays old line (Some x) t → Stores (store_line (record { name = x; tree = t })) t x
  stored_reads t x d =
      let back = face_reads d.answer d.reduces.reduced d.defined (named_answer old line (Some x) t held d) in
      subst (λ u. Stores (store_line (record { name = x; tree = u })) u x) (sym d.face_is) (store_read (face d.answer) x back (read_name d.reads))

  read_by_reply : (reply : Reply) → IsReply room bits old before after line reply → Leaves reply old new → ReadAsStores (stored_in new)
  read_by_reply (shown t) h leaves = subst ReadAsStores (sym (values_of_answer None t old new held leaves)) read
  read_by_reply (stored t x) h leaves =
      let last = stored_reads t x (displays room bits before after old line (Some x) t h) in
      subst ReadAsStores (sym (values_of_answer (Some x) t old new held leaves)) (read_last (without_value x (stored_in old)) (record { name = x; tree = t }) (read_without x (stored_in old) read) last)
  read_by_reply (forgot x) h leaves = subst ReadAsStores (sym (values_of_others x old new leaves)) (read_without x (stored_in old) read)
  read_by_reply _ h leaves = subst (λ (s : State). ReadAsStores (stored_in s)) (sym leaves) read

pub read_along : (lines : List (List ℕ)) (old : Moment) (turns : List Turn) (new : Moment) → IsHeld old.state.table (trees old.state) → ReadAsStores (stored_in old.state) → Chain old lines turns new → ReadAsStores (stored_in new.state)
read_along [] old turns new held read h = subst (λ (m : Moment). ReadAsStores (stored_in m.state)) (sym h.1) read
read_along (line ∷ lines) old turns new held read (turn, rest, step, is, h) =
    let held' = held_behind _ _ old.state turn.after.state old.breakers step.checked line held turn.reply step.step in
    read_along lines turn.after rest new held' (read_by_reply _ _ old.state turn.after.state old.breakers step.checked line held read turn.reply step.step.reply_is step.step.state_is) h
