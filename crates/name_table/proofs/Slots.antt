-- Slots of the code, and the entries that they are.
use Rattle.name_table.proofs.Shared.{◌≡◌, ℕ, suc, ◌+◌, ◌<◌, ◌≤◌, List, [], ◌∷◌, ◌++◌, length, map, get_or, Bool, true, false, cond, eqb, ltb, Option, Some, None, IsSome, refl, sym, ap, ◌∙◌, subst}
use Rattle.name_table.proofs.Shared.{arith, is_some, bytes_eq, length-map, name_of, by_test, Slot, AreUsed, entry_of, root_in, Entry, Table, has_entry, has_room_for, name_limit, tree_under}
use Rattle.name_table.proofs.Shared.{without_entry, zero, slice_get, position-Some, position_from-zero, ◌||◌, not, position, remove, position_from}

-- the slot is that of the name
abbrev pub is_slot : List ℕ → Slot → Bool
is_slot x s = bytes_eq (name_of s.name) x

pub used_at : (ss : List Slot) (i : ℕ) (d : Slot) → AreUsed ss → i < length ss → IsSome (get_or ss i d).tree
used_at [] i d u h = absurd (omega arith)
used_at (s ∷ ss) zero d u h = u.0
used_at (s ∷ ss) (suc i) d u h = used_at ss i d u.1 (omega arith)

pub entry_at : (ss : List Slot) (i : ℕ) (d : Slot) → i < length ss → slice_get (map entry_of ss) i ≡ Some (entry_of (get_or ss i d))
entry_at [] i d h = absurd (omega arith)
entry_at (s ∷ ss) zero d h = refl
entry_at (s ∷ ss) (suc i) d h = entry_at ss i d (omega arith)

-- a slot that is read
pub slot_read : (items now : List Slot) (stored : List Entry) (i j : ℕ) (s : Slot) → map entry_of items ≡ stored → now ≡ items → j ≡ i → s ≡ get_or now j s → i < length stored → AreUsed items
    → IsSome s.tree × (slice_get stored i ≡ Some (entry_of s))
slot_read items now stored i j s e n q r h u =
    let k : i < length items = omega (arith, ap length e, length-map items entry_of) in
    let at : s ≡ get_or items i s = r ∙ ap (λ (xs : List Slot). get_or xs j s) n ∙ ap (λ (m : ℕ). get_or items m s) q in
    (subst (λ (t : Slot). IsSome t.tree) (sym at) (used_at items i s u k), ap (λ (es : List Entry). slice_get es i) (sym e) ∙ entry_at items i s k ∙ ap (λ (t : Slot). Some (entry_of t)) (sym at))

pub used_push : (ss : List Slot) (s : Slot) → AreUsed ss → IsSome s.tree → AreUsed (ss ++ s ∷ [])
used_push [] s u h = (h, tt)
used_push (t ∷ ss) s u h = (u.0, used_push ss s u.1 h)

-- a slot of the name is at a place, and none before it
pub record IsSlotAt (x : List ℕ) (ss : List Slot) (i : ℕ) : Type 0 where
  pub stored : has_entry x (map entry_of ss) ≡ true
  pub without : map entry_of (remove ss i) ≡ without_entry x (map entry_of ss)
  pub tree : (d : Slot) → IsSome (get_or ss i d).tree → (get_or ss i d).tree ≡ tree_under x (map entry_of ss)
  pub used : AreUsed ss → AreUsed (remove ss i)

root_some : (o : Option ℕ) → IsSome o → o ≡ Some (root_in o)
root_some o h = grind arith

slot_at : (x : List ℕ) (ss : List Slot) (i : ℕ) (d : Slot) → i < length ss → is_slot x (get_or ss i d) ≡ true → ((k : ℕ) → k < i → is_slot x (get_or ss k d) ≡ false) → IsSlotAt x ss i
slot_at x [] i d h p n = absurd (omega arith)
slot_at x (s ∷ ss) zero d h p n = record {
  stored = rw p refl;
  without = rw p refl;
  tree = λ d u. rw p (root_some s.tree u);
  used = λ u. u.1;
}
slot_at x (s ∷ ss) (suc i) d h p n =
    let q = slot_at x ss i d (omega arith) p (λ k l. n (suc k) (omega arith)) in
    let e : is_slot x s ≡ false = n 0 (omega arith) in
    record {
      stored = rw e q.stored;
      without = rw e (ap (λ (es : List Entry). entry_of s ∷ es) q.without);
      tree = λ d u. rw e (q.tree d u);
      used = λ u. (u.0, q.used u.1);
    }

pub place_found : (x : List ℕ) (ss : List Slot) (i : ℕ) → position (is_slot x) ss ≡ Some i → (i < length ss) × IsSlotAt x ss i
place_found x [] i e = absurd cc
place_found x (s ∷ ss) i e = let p = position-Some (is_slot x) (s ∷ ss) i s e in (p.0, slot_at x (s ∷ ss) i s p.0 p.1 p.2)

-- no slot is that of the name
pub record HasNoSlot (x : List ℕ) (ss : List Slot) : Type 0 where
  pub stored : has_entry x (map entry_of ss) ≡ false
  pub without : without_entry x (map entry_of ss) ≡ map entry_of ss
  pub tree : tree_under x (map entry_of ss) ≡ None

no_slot : (x : List ℕ) (ss : List Slot) (i : ℕ) → position_from (is_slot x) i ss ≡ None → HasNoSlot x ss
no_slot x [] i e = record { stored = refl; without = refl; tree = refl }
no_slot x (s ∷ ss) i e =
    by_test (λ t. cond t (Some i) (position_from (is_slot x) (i + 1) ss) ≡ None → is_slot x s ≡ t → HasNoSlot x (s ∷ ss)) (is_slot x s)
    (λ p e q. absurd cc)
    (λ p e q. let r = no_slot x ss (i + 1) e in record {
      stored = rw q r.stored;
      without = rw q (ap (λ (es : List Entry). entry_of s ∷ es) r.without);
      tree = rw q r.tree;
    })
    e refl

pub place_not_found : (x : List ℕ) (ss : List Slot) → position (is_slot x) ss ≡ None → HasNoSlot x ss
place_not_found x ss e = no_slot x ss 0 (sym (position_from-zero (is_slot x) ss) ∙ e)

-- the entry of a name is taken out
pub record IsTaken (x : List ℕ) (stored : List Entry) (s : Slot) (rest : List Slot) : Type 0 where
  pub found : is_some s.tree ≡ has_entry x stored
  pub without : map entry_of rest ≡ without_entry x stored
  pub tree : s.tree ≡ tree_under x stored
  pub used : AreUsed rest

pub taken : (x : List ℕ) (items now rest : List Slot) (stored : List Entry) (i : ℕ) (s : Slot) → map entry_of items ≡ stored → now ≡ items → position (is_slot x) now ≡ Some i → AreUsed items → s ≡ get_or items i s → rest ≡ remove items i → IsTaken x stored s rest
taken x items now rest stored i s e n p u r q =
    let found = place_found x items i (ap (position (is_slot x)) (sym n) ∙ p) in
    let here : IsSome (get_or items i s).tree = used_at items i s u found.0 in
    let f = found.1 in
    record {
      found = subst (λ (t : Slot). IsSome t.tree) (sym r) here ∙ sym f.stored ∙ ap (has_entry x) e;
      without = ap (map entry_of) q ∙ f.without ∙ ap (without_entry x) e;
      tree = ap (λ (t : Slot). t.tree) r ∙ f.tree s here ∙ ap (tree_under x) e;
      used = subst AreUsed (sym q) (f.used u);
    }

pub place_inside : (x : List ℕ) (items now : List Slot) (i : ℕ) → now ≡ items → position (is_slot x) now ≡ Some i → i < length items
place_inside x items now i n p = (place_found x items i (ap (position (is_slot x)) (sym n) ∙ p)).0

-- there is none
pub record IsMissing (x : List ℕ) (stored : List Entry) : Type 0 where
  pub stored_not : has_entry x stored ≡ false
  pub without : without_entry x stored ≡ stored
  pub tree : tree_under x stored ≡ None

pub missing : (x : List ℕ) (items now : List Slot) (stored : List Entry) → map entry_of items ≡ stored → now ≡ items → position (is_slot x) now ≡ None → IsMissing x stored
missing x items now stored e n p =
    let f = place_not_found x items (ap (position (is_slot x)) (sym n) ∙ p) in
    record {
      stored_not = ap (has_entry x) (sym e) ∙ f.stored;
      without = ap (without_entry x) (sym e) ∙ f.without ∙ e;
      tree = ap (tree_under x) (sym e) ∙ f.tree;
    }

-- ---- room for one more name

pub room_found : (x : List ℕ) (items now : List Slot) (t : Table) → map entry_of items ≡ t.stored → now ≡ items → (o : Option ℕ) → o ≡ position (is_slot x) now → is_some o ≡ true → (b : Bool) → b ≡ true → b ≡ has_room_for x t
room_found x items now t e n None p h b q = absurd cc
room_found x items now t e n (Some i) p h b q =
    let f = (place_found x items i (ap (position (is_slot x)) (sym n) ∙ sym p)).1 in
    q ∙ sym (ap (λ (u : Bool). u || ltb (length t.stored) name_limit) (ap (has_entry x) (sym e) ∙ f.stored))

fits_limit : (n : ℕ) (full : Bool) → full ≡ eqb n 64 → n ≤ 64 → not full ≡ ltb n 64
fits_limit n full e h = grind arith

pub room_beside : (x : List ℕ) (items now : List Slot) (t : Table) → map entry_of items ≡ t.stored → now ≡ items → (o : Option ℕ) → o ≡ position (is_slot x) now → is_some o ≡ false → (full : Bool) → full ≡ eqb (length items) 64 → length items ≤ 64 → not full ≡ has_room_for x t
room_beside x items now t e n None p h full q few =
    let f = place_not_found x items (ap (position (is_slot x)) (sym n) ∙ sym p) in
    let same : length items ≡ length t.stored = sym (length-map items entry_of) ∙ ap length e in
    fits_limit (length items) full q few ∙ ap (λ (m : ℕ). ltb m 64) same ∙ sym (ap (λ (u : Bool). u || ltb (length t.stored) name_limit) (ap (has_entry x) (sym e) ∙ f.stored))
room_beside x items now t e n (Some i) p h full q few = absurd cc
