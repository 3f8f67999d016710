-- A session in which the lines of `:names` are answered.
use Rattle.session_laws.proofs.Shared.{◌≡◌, ◌∙◌, ℕ, List, [], ◌∷◌, ◌++◌, map, cond, Some, refl, sym, ap, subst, inl, inr, codes, Contains, bytes_eq, by_test, NamedTree, value_in, Tree}
use Rattle.session_laws.proofs.Shared.{IsHeld, Entry, Forest, Reply, State, trees, stored, Chain, LineStep, Moment, Turn}
use Rattle.session_laws.proofs.{HeldTrees.{held_behind}, StoredAgain.{stored_again}, StoredValues.{values_of_answer, with_value, without_value}}
use Rattle.session_laws.specs.StoredAgain.{AreStoredAgain, AreStores, IsStoredAgain, ReadAsStores, stored_in}
use Rattle.calc_session.specs.{Naming.{store_line, store_lines}, Steps.{IsReply, Leaves}}
use Rattle.calc_terms.proofs.SmallLaws.{behind, in_front, nobody, where_in}
use Rattle.name_table.specs.{Filling.{LacksNames}, Held.{AreDistinctNames, HoldLaterNames}, Tables.{table_names}}
use Rattle.std.proofs.Common.{append_assoc, append-nil}
use Rattle.std.proofs.lemmas.{List.Elements.{Contains-append_cases}, Slice.Eq.{bytes_eq-Decides}}

abbrev names_in : List NamedTree → List (List ℕ)
names_in vs = map (λ v. v.name) vs

-- the names of a table are those of what is stored, and that of the last answer
names_stored : (f : Forest) (es : List Entry) → map (λ e. e.name) es ≡ names_in (map (value_in f) es)
names_stored f [] = refl
names_stored f (e ∷ es) = ap (λ xs. e.name ∷ xs) (names_stored f es)

table_names_are : (s : State) → table_names s.table ≡ codes "ans" ∷ names_in (stored_in s)
table_names_are s = ap (λ xs. codes "ans" ∷ xs) (names_stored (trees s) s.table.stored)

-- a name that is not among them is removed in vain
removed_in_vain : (x : List ℕ) (ws : List NamedTree) → (Contains (names_in ws) x → ⊥) → without_value x ws ≡ ws
removed_in_vain x [] n = refl
removed_in_vain x (w ∷ ws) n =
    by_test (λ t. bytes_eq w.name x ≡ t → cond t ws (w ∷ without_value x ws) ≡ w ∷ ws) (bytes_eq w.name x)
    (λ p q. absurd (n (subst (λ y. Contains (y ∷ names_in ws) x) (sym ((bytes_eq-Decides w.name x).0 q)) (in_front x (names_in ws)))))
    (λ p q. ap (λ us. w ∷ us) (removed_in_vain x ws (λ c. n (behind w.name x (names_in ws) c))))
    refl

names_last : (ws : List NamedTree) (w : NamedTree) → names_in (ws ++ w ∷ []) ≡ names_in ws ++ w.name ∷ []
names_last [] w = refl
names_last (v ∷ ws) w = ap (λ xs. v.name ∷ xs) (names_last ws w)

-- what is stored is this, and then each of those once more
record IsRestored (ws vs : List NamedTree) (end : Moment) : Type 0 where
  again : List NamedTree
  stored_is : stored_in end.state ≡ ws ++ again
  are_stored : AreStoredAgain vs again

-- these are stored, their names and that of the last answer stand before those that follow, and no name follows again
record ComesAfter (before : List (List ℕ)) (ws vs : List NamedTree) (m : Moment) : Type 0 where
  held : IsHeld m.state.table (trees m.state)
  stored_is : stored_in m.state ≡ ws
  among : (x : List ℕ) → Contains (codes "ans" ∷ names_in ws) x → Contains before x
  apart : (x : List ℕ) → Contains (names_in ws) x → Contains (names_in vs) x → ⊥
  distinct : AreDistinctNames (names_in vs)
  later : HoldLaterNames before vs
  read : ReadAsStores vs

module _ (before : List (List ℕ)) (ws vs : List NamedTree) (v : NamedTree) (m : Moment) (c : ComesAfter before ws (v ∷ vs) m) where
  -- no name of the table is in the tree
  lacks_stored : LacksNames (table_names m.state.table) v.tree
  lacks_stored x k =
      let named = table_names_are m.state ∙ ap (λ us. codes "ans" ∷ names_in us) c.stored_is in
      c.later.0 x (behind v.name x before (c.among x (subst (λ xs. Contains xs x) named k)))

  -- one more is stored
  module _ (w : NamedTree) (name_is : w.name ≡ v.name) (next : Moment) (held : IsHeld next.state.table (trees next.state)) (stored_is : stored_in next.state ≡ with_value (Some w.name) w.tree (stored_in m.state)) where
    new_name : Contains (names_in ws) w.name → ⊥
    new_name k = c.apart w.name k (subst (λ y. Contains (y ∷ names_in vs) w.name) name_is (in_front w.name (names_in vs)))

    stored_last : stored_in next.state ≡ ws ++ w ∷ []
    stored_last = stored_is ∙ ap (λ us. without_value w.name us ++ w ∷ []) c.stored_is ∙ ap (λ us. us ++ w ∷ []) (removed_in_vain w.name ws new_name)

    among_last : (x : List ℕ) → Contains (codes "ans" ∷ names_in (ws ++ w ∷ [])) x → Contains (v.name ∷ before) x
    among_last x k = elim (where_in (codes "ans") x (names_in (ws ++ w ∷ [])) k) [
      | inl e ↦ behind v.name x before (c.among x (subst (λ y. Contains (y ∷ names_in ws) x) (sym e) (in_front x (names_in ws))))
      | inr h ↦ elim (Contains-append_cases (names_in ws) (w.name ∷ []) x (subst (λ xs. Contains xs x) (names_last ws w) h)) [
        | inl p ↦ behind v.name x before (c.among x (behind (codes "ans") x (names_in ws) p))
        | inr q ↦ elim (where_in w.name x [] q) [ inl f ↦ subst (λ y. Contains (y ∷ before) x) (sym f ∙ name_is) (in_front x before) | inr g ↦ absurd (nobody x g) ]
      ]
    ]

    apart_last : (x : List ℕ) → Contains (names_in (ws ++ w ∷ [])) x → Contains (names_in vs) x → ⊥
    apart_last x k h = elim (Contains-append_cases (names_in ws) (w.name ∷ []) x (subst (λ xs. Contains xs x) (names_last ws w) k)) [
      | inl p ↦ c.apart x p (behind v.name x (names_in vs) h)
      | inr q ↦ elim (where_in w.name x [] q) [ inl f ↦ c.distinct.0 (subst (Contains (names_in vs)) (sym f ∙ name_is) h) | inr g ↦ nobody x g ]
    ]

    comes_next : ComesAfter (v.name ∷ before) (ws ++ w ∷ []) vs next
    comes_next = record { held = held; stored_is = stored_last; among = among_last; apart = apart_last; distinct = c.distinct.1; later = c.later.1; read = c.read.1 }

one_more : (ws vs : List NamedTree) (v w : NamedTree) (end : Moment) → IsStoredAgain v w.tree w.name → IsRestored (ws ++ w ∷ []) vs end → IsRestored ws (v ∷ vs) end
one_more ws vs v w end h r = record { again = w ∷ r.again; stored_is = r.stored_is ∙ append_assoc ws (w ∷ []) r.again; are_stored = (h, r.are_stored) }

-- the rest of the lines, from the next moment on
record IsStep (before : List (List ℕ)) (ws vs : List NamedTree) (v : NamedTree) (next : Moment) : Type 0 where
  value : NamedTree
  again : IsStoredAgain v value.tree value.name
  comes : ComesAfter (v.name ∷ before) (ws ++ value ∷ []) vs next

stored_next : (before : List (List ℕ)) (ws vs : List NamedTree) (v : NamedTree) (m next : Moment) (reply : Reply) (t : Tree) (x : List ℕ) → ComesAfter before ws (v ∷ vs) m → LineStep m (store_line v) reply next → reply ≡ stored t x → IsStep before ws vs v next
stored_next before ws vs v m next reply t x c step e =
    let again = stored_again _ _ m.state m.breakers step.checked v (lacks_stored before ws vs v m c) t x (store_line v) c.read.0 (subst (IsReply _ _ m.state m.breakers step.checked (store_line v)) e step.step.reply_is) in
    let held = held_behind _ _ m.state next.state m.breakers step.checked (store_line v) c.held reply step.step in
    let left = values_of_answer (Some x) t m.state next.state c.held (subst (λ r. Leaves r m.state next.state) e step.step.state_is) in
    let w : NamedTree = record { name = x; tree = t } in
    record { value = w; again = again; comes = comes_next before ws vs v m c w again.name_is next held left }

restored_after : (vs ws : List NamedTree) (before : List (List ℕ)) (m : Moment) (turns : List Turn) (end : Moment) → ComesAfter before ws vs m → Chain m (map store_line vs) turns end → AreStores turns → IsRestored ws vs end
restored_after [] ws before m turns end c h s = record { again = []; stored_is = ap (λ (n : Moment). stored_in n.state) h.1 ∙ c.stored_is ∙ sym (append-nil ws); are_stored = tt }
restored_after (v ∷ vs) ws before m turns end c (turn, rest, step, is, h) s =
    let stores : AreStores (turn ∷ rest) = subst AreStores is s in
    let next = stored_next before ws vs v m turn.after turn.reply stores.0.0 stores.0.1 c step stores.0.2 in
    one_more ws vs v next.value end next.again (restored_after vs (ws ++ next.value ∷ []) (v.name ∷ before) turn.after rest end next.comes h stores.1)

lines_are : (f : Forest) (es : List Entry) → store_lines f es ≡ map store_line (map (value_in f) es)
lines_are f [] = refl
lines_are f (e ∷ es) = ap (λ ls. store_line (value_in f e) ∷ ls) (lines_are f es)

pub restored : (old : State) (start end : Moment) (turns : List Turn) → IsHeld old.table (trees old) → ReadAsStores (stored_in old) → IsHeld start.state.table (trees start.state) → start.state.table.stored ≡ []
    → Chain start (store_lines (trees old) old.table.stored) turns end → AreStores turns → AreStoredAgain (stored_in old) (stored_in end.state)
restored old start end turns held read held' empty chain stores =
    let none_stored : stored_in start.state ≡ [] = ap (λ es. map (value_in (trees start.state)) es) empty in
    let distinct = subst AreDistinctNames (table_names_are old) held.distinct in
    let c : ComesAfter (codes "ans" ∷ []) [] (stored_in old) start = record {
      held = held';
      stored_is = none_stored;
      among = λ x k. k;
      apart = λ x k h. nobody x k;
      distinct = distinct.1;
      later = held.later.1;
      read = read;
    } in
    let r = restored_after (stored_in old) [] (codes "ans" ∷ []) start turns end c (subst (λ ls. Chain start ls turns end) (lines_are (trees old) old.table.stored) chain) stores in
    subst (AreStoredAgain (stored_in old)) (sym r.stored_is) r.are_stored
