-- Lemmas on what the tree of a line comes to.
use Rattle.calc_session.proofs.Shared.{◌≡◌, ◌∙◌, ◌↔◌, zero, suc, ◌*◌, [], ◌∷◌, true, false, ◌⊎◌, inl, inr, refl, sym, ap, subst, arith, Contains, HasNoNewName, Contains-append_cases, CalmChecks}
use Rattle.calc_session.proofs.Shared.{TripsRose, IsEasy, Reduces, face, HasNames, Token, building, IsTreeOf, one_line, Tree, undef, is_undef, names, nodes, root_kind, size, NamedTree, values}
use Rattle.calc_session.proofs.Shared.{LacksNames, lacks, fills, filling, refused_filling, FaultsFilling, IsKeepable, names_with, Table, table_names, Full, AreNodes, used, free_of, AreNodes-right}
use Rattle.calc_session.proofs.Shared.{MayExceed, Covers, CalmUpTo, TripsWithin, Evaluates, HasEasyBadPart, CountsRefusals, IfFull, IfInterrupted, IfOverflow, ReduceFault, Overflows, plain, Forest}
use Rattle.calc_session.proofs.Shared.{flatten, bytes_in, tree_of, Gives, KeepsFront, Starts, root_tree, without_root, LacksBytes, Stands, forest, KeepsRefusals, bytes_in-join, flatten-join}
use Rattle.calc_session.proofs.Shared.{behind_first, behind_new, front_after_one, front_at, front_end, front_same, front_without, given_rest, given_told, gives_as, last_tree, size-plain, Refusal}
use Rattle.calc_session.proofs.Shared.{Evaluation, Face, Found, Undefined, Refused, ComesTo, CountsRefusal, IsDisplayOf, LacksName, refusal_of, refusal_to_fill, reason_of, reply_of, HasFittingRationals}
use Rattle.calc_session.proofs.Shared.{IsAnswerTo, IsReplyWith, has_no_value, holds_its_name, is_shown, is_stored, OverflowsAt, IsReduction, lacks_bytes, is_answered, made, Unmade, IsReplyToTree}
use Rattle.calc_session.proofs.Shared.{is_made, Reply, displayed, circular, refused, refusal_in, state_of, is_overflow, nodes_to_overflow, IsPlainAnswer, IsPlainOverflow, plain_value, one_node}
use Rattle.calc_session.proofs.{Shared.{FillFault, used_forest, Shows, face_names, face_written}, StoredTrees.{fitting_tree, named_tree}}
use Rattle.calc_terms.proofs.SmallLaws.{only_one as only}
use Rattle.std.proofs.Common.{ℕ, ◌+◌, ◌≤◌, ◌<◌, List, Option, Some, None, Result, Ok, Err}
use Rattle.breakers.specs.State.{State as Breaker}
use Rattle.node_pool.specs.State.{State}
use Rattle.calc_session.specs.Evaluations.{is_interrupted, does_not_fit}
use Rattle.calc_terms.specs.declared.kind.Kind.TheVariants as kind
use Rattle.reduce_port.specs.declared.fault.ReduceFault.TheVariants as fault
use Rattle.calc_session.specs.declared.answers.Refusal.TheVariants as refusal

-- ---- the last tree

-- what a last tree takes of the bytes
pub last_bytes : {s : State} {others : Forest} {i : ℕ} {Told : Tree → Type 0} → Stands s → Gives others (forest s) i Told → used s.nodes ≡ bytes_in others + size (tree_of i s)
last_bytes h g = grind (arith, used_forest, bytes_in-join, size-plain, last_tree)

-- the bytes that are free without the last tree
pub free_without : {s : State} {others : Forest} {i : ℕ} {Told : Tree → Type 0} → Stands s → Gives others (forest s) i Told → bytes_in others + (free_of s + size (tree_of i s)) ≡ s.size
free_without {s} st g = omega (arith, last_bytes st g, st.pool.fits)

-- as many are free without it as were free before it
pub free_before : {s t : State} {i : ℕ} {Told : Tree → Type 0} → Stands s → Stands t → t.size ≡ s.size → Gives (forest s) (forest t) i Told → free_of t + size (tree_of i t) ≡ free_of s
free_before {s} st st' e g = omega (arith, free_without st' g, used_forest s st, st.pool.fits, e)

-- without the last tree, as many are free as without another that stands there
pub free_same : {s t : State} {others : Forest} {i j : ℕ} {P Q : Tree → Type 0} → Stands s → Stands t → t.size ≡ s.size → Gives others (forest s) i P → Gives others (forest t) j Q → free_of t + size (tree_of j t) ≡ free_of s + size (tree_of i s)
free_same {s} {t} st st' e g k = omega (arith, free_without st g, free_without st' k, e)

-- where others stand first, no more is free than without the last tree
pub free_there : {s t : State} {others : Forest} {i : ℕ} {P : Tree → Type 0} → Stands s → Stands t → t.size ≡ s.size → Gives others (forest s) i P → Starts others (forest t) → free_of t ≤ free_of s + size (tree_of i s)
free_there {s} {t} {others} st st' e g k =
    omega (arith, free_without st g, used_forest t st', ap bytes_in k.whole, bytes_in-join others k.behind, st'.pool.fits, e)

-- the nodes of a last tree are nodes of the pool
pub last_nodes : {s : State} {others : Forest} {i : ℕ} {Told : Tree → Type 0} → Stands s → (g : Gives others (forest s) i Told) → AreNodes (flatten g.tree)
last_nodes h g = grind (arith, AreNodes-right, flatten-join)

-- others stand first still
pub first_still : {others f g : Forest} {i : ℕ} {Told : Tree → Type 0} → Gives others f i Told → KeepsFront (i ∷ []) f g → Starts others g
first_still {others} g k = k.keeps others (record { behind = g.tree; whole = g.ends.whole }) (g.ends.clear, tt)

-- a tree in place of one that was placed behind
pub front_over : {f g h : Forest} {i : ℕ} {Told : Tree → Type 0} → Gives f g i Told → KeepsFront (i ∷ []) g h → KeepsFront [] f h
front_over g k = front_after_one (behind_new g.ends front_same) (front_end g.ends front_same) k

-- a tree was handed in, and then what it became
pub front_in_place : {f g h others : Forest} {i j : ℕ} {P Q : Tree → Type 0} → Gives others f i P → Gives others g j Q → KeepsFront (i ∷ []) f g → KeepsFront (j ∷ []) g h → KeepsFront (i ∷ []) f h
front_in_place p q k l = front_after_one (behind_new q.ends (front_at (front_without behind_first front_same) (sym (given_rest p)))) k l

-- what is told of the last tree may be said otherwise
pub gives_told : {f s : Forest} {i : ℕ} {P : Tree → Type 0} (Q : Tree → Type 0) → Gives f s i P → Q (plain (root_tree i s)) → Gives f s i Q
gives_told Q g q = record { tree = g.tree; ends = g.ends; once = g.once; whole = g.whole; told = subst (λ (x : Forest). Q (plain x)) (last_tree g.ends) q }

-- ---- reduced trees

-- a reducer's answer to a tree, where so many bytes are free
abbrev pub Answered : Option (Tree → ℕ) → (free : ℕ) → (t answer : Tree) → Type 0
Answered room free t answer = IsAnswerTo free t answer × Covers room t (5 * size answer)

pub answer_to : (room : Option (Tree → ℕ)) {s mid : State} {others : Forest} {i j : ℕ} {P : Tree → Type 0} → Stands s → Stands mid → mid.size ≡ s.size → Gives others (forest s) i P → Gives others (forest mid) j (Reduces (tree_of i s))
    → (IsEasy (tree_of i s) → Evaluates (tree_of i s) (tree_of j mid)) → (HasEasyBadPart (tree_of i s) → tree_of j mid ≡ undef) → IsPlainAnswer (plain_value (tree_of i s)) (tree_of j mid)
    → Covers room (tree_of i s) (5 * size (tree_of j mid)) → Gives others (forest mid) j (Answered room (free_of s + size (tree_of i s)) (tree_of i s))
answer_to room {s} {mid} {i = i} st st' e g a easy bad plainly within = gives_told (Answered room (free_of s + size (tree_of i s)) (tree_of i s)) a (
  record {
    reduces = given_told a;
    easy = easy;
    bad_part = bad;
    plain = plainly;
    room = omega (arith, free_same st st' e g a);
    fitting = subst (λ (x : Forest). HasFittingRationals (plain x)) (sym (last_tree a.ends)) (fitting_tree a.tree (last_nodes st' a));
  },
  within,
)

-- where four times an answer's bytes are not free, its tree's room is more than was free for both
exceeds : (room : Option (Tree → ℕ)) (t : Tree) (free left bytes : ℕ) → left + bytes ≡ free → left < 4 * bytes → Covers room t (5 * bytes) → MayExceed room t free
exceeds room t free left bytes e h c = grind arith

-- a name under which it may be stored
kept_reply : (answer : Tree) (store : Option (List ℕ)) → is_undef answer ≡ false → LacksName store answer → IsReplyWith answer store (displayed store (face answer))
kept_reply answer None d h = is_shown d
kept_reply answer (Some x) d h = is_stored d h

lacking_face : (store : Option (List ℕ)) (answer : Tree) → HasNoNewName answer (face answer) → LacksName store answer → LacksName store (face answer)
lacking_face None answer n h = tt
lacking_face (Some x) answer n h = λ m. h (n.name x m)

module _ (room bits : Option (Tree → ℕ)) (before after : List Breaker) (store : Option (List ℕ)) where
  -- what is shown of an answer, unless it holds the name under which it is to be stored
  pub shown_answer : {s mid new : State} {others : Forest} {i j : ℕ} {P : Tree → Type 0} (result : Evaluation) → Stands s → Stands mid → Stands new → mid.size ≡ s.size → new.size ≡ mid.size → Gives others (forest s) i P
      → Gives others (forest mid) j (Answered room (free_of s + size (tree_of i s)) (tree_of i s)) → CalmChecks (nodes (tree_of i s)) before after → LacksName store (tree_of j mid)
      → KeepsFront (j ∷ []) (forest mid) (forest new) → Shows j mid new result
      → ComesTo (IsReduction room bits (free_of s + size (tree_of i s)) (tree_of i s) before after store) (IsDisplayOf store (tree_of i s)) store others (forest new) result
  shown_answer {mid = mid} {j = j} (Face h) st st' st'' e e' g a calm clear k (defined, f) =
      let answer = tree_of j mid in
      let is = (given_told a).0 in
      let named : HasNames answer = subst (λ (x : Forest). HasNames (plain x)) (sym (last_tree a.ends)) (named_tree a.tree (last_nodes st' a)) in
      let names = face_names answer is.reduces.reduced named in (
        face answer,
        is_answered calm is (kept_reply answer store defined clear),
        record {
          writable = face_written answer is.reduces.reduced named;
          no_new_name = record { name = λ x m. is.reduces.no_new_name.name x (names.name x m) };
          clear = lacking_face store answer names clear;
        },
        gives_as f (given_rest a) (λ t x. x),
      )
  shown_answer Undefined st st' st'' e e' g a calm clear k f = is_answered calm (given_told a).0 (has_no_value f)
  shown_answer {s} {mid} {i = i} {j} (Refused (refusal.Full needed free)) st st' st'' e e' g a calm clear k (want, short) =
      lacks_bytes (record {
        lacking = want.lacking;
        few = omega (arith, want.free, free_there st st'' (e' ∙ e) g (first_still a k));
        beyond_room = exceeds room (tree_of i s) (free_of s + size (tree_of i s)) (free_of mid) (size (tree_of j mid)) (free_same st st' e g a) short (given_told a).1;
        checks = record { checks = nodes (tree_of i s); some = one_node (tree_of i s); few = omega arith; calm = calm };
      })
  shown_answer (Found _) st st' st'' e e' g a calm clear k f = absurd f
  shown_answer (Refused _) st st' st'' e e' g a calm clear k f = absurd f

  -- what a fault is answered with
  pub refused_reply : (A : Type 0) {s new : State} {others : Forest} {i : ℕ} {P : Tree → Type 0} (f : ReduceFault) → Stands s → Stands new → CountsRefusals {A = A} s new (Err f) → Gives others (forest s) i P
      → KeepsFront (i ∷ []) (forest s) (forest new)
      → IfInterrupted {A = A} (Err f) (TripsWithin (nodes (tree_of i s)) before after)
      → IfOverflow {A = A} (Err f) (OverflowsAt bits (tree_of i s) before after)
      → IfFull {A = A} (Err f) (LacksBytes new)
      → IfFull {A = A} (Err f) (λ _. MayExceed room (tree_of i s) (free_of s + size (tree_of i s)) × CalmUpTo (nodes (tree_of i s)) before after)
      → IsReduction room bits (free_of s + size (tree_of i s)) (tree_of i s) before after store (reply_of (refusal_of f))
  refused_reply A (fault.Full full) st st' r g k trips o want (beyond, checks) =
      lacks_bytes (record { lacking = want.lacking; few = omega (arith, want.free, free_there st st' r.size g (first_still g k)); beyond_room = beyond; checks = checks })
  refused_reply A (fault.Overflow a) st st' r g k trips o want more = does_not_fit a o
  refused_reply A (fault.Interrupted a) st st' r g k trips o want more = is_interrupted trips

-- the clauses of a reducer on an overflow, in one
pub overflow_at : (A : Type 0) (bits : Option (Tree → ℕ)) (t : Tree) (before after : List Breaker) (r : Result A ReduceFault) → IfOverflow r Overflows → IfOverflow r (IsPlainOverflow (plain_value t))
    → IfOverflow r (λ _. MayExceed bits t 124) → IfOverflow r (λ _. CalmUpTo (nodes t) before after)
    → IfOverflow r (λ _. is_overflow (plain_value t) ≡ true → CalmChecks (nodes_to_overflow t) before after) → IfOverflow r (OverflowsAt bits t before after)
overflow_at A bits t before after r a b c d e = grind arith

pub full_both : (A : Type 0) (r : Result A ReduceFault) (P Q : Type 0) → IfFull r (λ _. P) → IfFull r (λ _. Q) → IfFull r (λ _. P × Q)
full_both A r P Q p q = grind arith

-- ---- interruptions

-- nothing tripped where nothing was checked
pub none_rose : (bs : List Breaker) (place : ℕ) → TripsRose bs bs place → ⊥
none_rose [] place h = h
none_rose (b ∷ bs) zero h = omega (arith, h)
none_rose (b ∷ bs) (suc place) h = none_rose bs place h

is_refused : (r s : Refusal) → Refused r ≡ Refused s → r ≡ s
is_refused r s e = cc

-- ---- built and filled trees

-- what is said of the replies and of what is displayed may be said otherwise, also of the trees before
pub comes_as : {Is Now : Reply → Type 0} {Fits Will : Tree → Type 0} {f g : Forest} (store : Option (List ℕ)) (new : Forest) (result : Evaluation) → ((r : Reply) → Is r → Now r) → ((t : Tree) → Fits t → Will t) → f ≡ g → ComesTo Is Fits store f new result → ComesTo Now Will store g new result
comes_as store new result h k l m = grind arith

pub that_tree : (ts : List Token) (t u : Tree) → IsTreeOf ts t → IsTreeOf ts u → t ≡ u
that_tree ts t u (x, d) (y, e) = (one_line ts x y t u d e).trees

pub made_on : (free : ℕ) (values : List NamedTree) (t : Tree) (left : ℕ) → building free t ≡ Ok left → made free values t ≡ filling left values t
made_on free values t left e = rw (e, made) refl

pub made_none : (free : ℕ) (values : List NamedTree) (t : Tree) (full : Full) → building free t ≡ Err full → made free values t ≡ lacks full
made_none free values t full e = rw (e, made) refl

-- what is displayed holds no name of the table
pub keepable : (store : Option (List ℕ)) (table : Table) (t shown : Tree) → LacksNames (table_names table) t → IsDisplayOf store t shown → IsKeepable store table shown
keepable store table t shown clear d = record { writable = d.writable; clear = by store d.clear }
  where
    old : LacksNames (table_names table) shown
    old = λ x m h. clear x m (d.no_new_name.name x h)

    by : (s : Option (List ℕ)) → LacksName s shown → LacksNames (names_with s table) shown
    by None l = old
    by (Some x) l = λ y m h. one y h (Contains-append_cases (x ∷ []) (table_names table) y m)
      where
        one : (y : List ℕ) → Contains (names shown) y → Contains (x ∷ []) y ⊎ Contains (table_names table) y → ⊥
        one y h (inl m) = l (subst (λ (z : List ℕ). Contains (names shown) z) (sym (only x y m)) h)
        one y h (inr m) = old y m h

-- ---- refusals of the pool

pub keeps_then : (refusal : Option Full) (s t u : State) → KeepsRefusals s t → CountsRefusal refusal t u → CountsRefusal refusal s u
keeps_then refusal s t u k r = grind arith

pub size_kept : (refusal : Option Full) (s t : State) → CountsRefusal refusal s t → t.size ≡ s.size
size_kept refusal s t r = grind arith

-- ---- the name under which an answer is to be stored

defined_by_name : (t : Tree) (x : List ℕ) → Contains (names t) x → is_undef t ≡ false
defined_by_name t x h = grind arith

pub circular_reply : (answer : Tree) (x : List ℕ) → Contains (names answer) x → IsReplyWith answer (Some x) (refused (circular x))
circular_reply answer x h = holds_its_name (defined_by_name answer x h) h

-- ---- kinds

pub undef_by_kind : (t : Tree) → root_kind t ≡ kind.Undef → is_undef t ≡ true
undef_by_kind t e = grind arith

pub defined_by_kind : (t : Tree) → (root_kind t ≡ kind.Undef → ⊥) → is_undef t ≡ false
defined_by_kind t e = grind arith

-- ---- from the tree that was read to the one that is reduced

module _ (table : Table) (old mid : State) {i : ℕ} (ts : List Token) (t : Tree) (g : Gives (forest old) (forest mid) i (IsTreeOf ts)) (is : IsTreeOf ts t) (built : building (free_of old) t ≡ Ok (free_of mid)) where
  pub made_filled : made (free_of old) (values table (forest old)) t ≡ filling (free_of mid) (values table (without_root i (forest mid))) (tree_of i mid)
  made_filled =
      made_on (free_of old) (values table (forest old)) t (free_of mid) built
      ∙ ap (λ (f : Forest). filling (free_of mid) (values table f) t) (sym (given_rest g))
      ∙ ap (filling (free_of mid) (values table (without_root i (forest mid)))) (that_tree ts t (tree_of i mid) is (given_told g))

  pub unfilled : (f : FillFault) (r : Refusal) → filling (free_of mid) (values table (without_root i (forest mid))) (tree_of i mid) ≡ refused_filling f → r ≡ refusal_to_fill f → Unmade (made (free_of old) (values table (forest old)) t) (reason_of r)
  unfilled f r h k = grind (arith, made_filled)

pub unbuilt : (table : Table) (old : State) (t : Tree) (full : Full) (r : Refusal) → building (free_of old) t ≡ Err full → r ≡ refusal.Full full.needed full.free → Unmade (made (free_of old) (values table (forest old)) t) (reason_of r)
unbuilt table old t full r e is = subst (λ x. Unmade x (reason_of r)) (sym (made_none (free_of old) (values table (forest old)) t full e)) (ap reason_of is)

module _ (room bits : Option (Tree → ℕ)) (before after : List Breaker) (store : Option (List ℕ)) (table : Table) where
  pub comes_made : (old mid : State) {i : ℕ} (new : Forest) (t : Tree) (result : Evaluation) → Stands old → Stands mid → mid.size ≡ old.size → Gives (forest old) (forest mid) i (LacksNames (table_names table))
      → made (free_of old) (values table (forest old)) t ≡ fills (free_of mid) (tree_of i mid)
      → ComesTo (IsReduction room bits (free_of mid + size (tree_of i mid)) (tree_of i mid) before after store) (IsDisplayOf store (tree_of i mid)) store (without_root i (forest mid)) new result
      → ComesTo (IsReplyToTree room bits (state_of old table) before after store t) (IsKeepable store table) store (forest old) new result
  comes_made old mid {i} new t result st st' e g is h =
      comes_as {Now = IsReplyToTree room bits (state_of old table) before after store t} store new result
      (λ r m. is_made is (subst (λ n. IsReduction room bits n (tree_of i mid) before after store r) (free_before st st' e g) m))
      (λ u d. keepable store table (tree_of i mid) u (given_told g) d) (given_rest g) h

pub unfilled_count : (s t : State) (f : FillFault) (r : Refusal) → r ≡ refusal_to_fill f → FaultsFilling s t f → CountsRefusal (refusal_in (reason_of r)) s t
unfilled_count s t f r h k = grind arith

-- a refusal before the first check
pub calm_refused : (r : Refusal) (bs : List Breaker) → ((place : ℕ) → r ≡ refusal.Interrupted place → ⊥) → (place : ℕ) → ((Refused r ≡ Refused (refusal.Interrupted place)) ↔ TripsRose bs bs place)
calm_refused r bs h place = (λ e. absurd (h place (is_refused r (refusal.Interrupted place) e)), λ rose. absurd (none_rose bs place rose))

pub full_interrupts_none : (r : Refusal) (needed free place : ℕ) → r ≡ refusal.Full needed free → r ≡ refusal.Interrupted place → ⊥
full_interrupts_none r needed free place h e = grind arith

pub fault_interrupts_none : (r : Refusal) (f : FillFault) (place : ℕ) → r ≡ refusal_to_fill f → r ≡ refusal.Interrupted place → ⊥
fault_interrupts_none r f place h e = grind arith

-- ---- interruptions, passed on

errors_are : (A : Type 0) (r s : Refusal) → (let m : Result A Refusal = Err r in m) ≡ Err s → r ≡ s
errors_are A r s e = cc

-- an evaluation passes on a refusal
pub passed_on : (A : Type 0) (m : Result A Refusal) (r : Refusal) (P : ℕ → Type 0) → m ≡ Err r → ((place : ℕ) → (m ≡ Err (refusal.Interrupted place)) ↔ P place) → (place : ℕ) → (Refused r ≡ Refused (refusal.Interrupted place)) ↔ P place
passed_on A m r P is h place = (λ e. (h place).0 (is ∙ ap Err (is_refused r (refusal.Interrupted place) e)), λ p. ap Refused (errors_are A r (refusal.Interrupted place) (sym is ∙ (h place).1 p)))

-- nothing tripped before an answer
pub none_tripped : {A : Type 0} (x : A) (P : ℕ → Type 0) → ((place : ℕ) → (Ok x ≡ Err (refusal.Interrupted place)) ↔ P place) → (place : ℕ) → P place → ⊥
none_tripped x P h place p = cc ((h place).1 p)

pub none_tripped_then : {A : Type 0} (x : A) (P : ℕ → Type 0) → ((place : ℕ) → (Ok x ≡ Err (fault.Interrupted (record { by = place }))) ↔ P place) → (place : ℕ) → P place → ⊥
none_tripped_then x P h place p = cc ((h place).1 p)

-- nor is what is shown of it an interruption
pub shown_calm : (i : ℕ) (old new : State) (result : Evaluation) (P : ℕ → Type 0) → ((place : ℕ) → P place → ⊥) → Shows i old new result → (place : ℕ) → (result ≡ Refused (refusal.Interrupted place)) ↔ P place
shown_calm i old new result P none shows place = (λ e. absurd (subst (Shows i old new) e shows), λ p. absurd (none place p))

-- or another refusal
pub other_refusal : (r : Refusal) (P : ℕ → Type 0) → ((place : ℕ) → P place → ⊥) → ((place : ℕ) → r ≡ refusal.Interrupted place → ⊥) → (place : ℕ) → (Refused r ≡ Refused (refusal.Interrupted place)) ↔ P place
other_refusal r P none other place = (λ e. absurd (other place (is_refused r (refusal.Interrupted place) e)), λ p. absurd (none place p))

-- or a face
pub face_calm : (h : ℕ) (P : ℕ → Type 0) → ((place : ℕ) → P place → ⊥) → (place : ℕ) → (Face h ≡ Refused (refusal.Interrupted place)) ↔ P place
face_calm h P none place = (λ e. cc, λ p. absurd (none place p))

faults_are : (A : Type 0) (f g : ReduceFault) → (let m : Result A ReduceFault = Err f in m) ≡ Err g → f ≡ g
faults_are A f g e = cc

fault_is : (f : ReduceFault) (place : ℕ) → refusal_of f ≡ refusal.Interrupted place → f ≡ fault.Interrupted (record { by = place })
fault_is (fault.Full x) place e = absurd (cc e)
fault_is (fault.Overflow x) place e = absurd (cc e)
fault_is (fault.Interrupted i) place e = ap (λ n. fault.Interrupted (record { by = n })) (places_are i.by place e)
  where
    places_are : (a b : ℕ) → refusal.Interrupted a ≡ refusal.Interrupted b → a ≡ b
    places_are a b e = cc

-- a refusal passes on a fault
pub fault_passed : (A : Type 0) (m : Result A ReduceFault) (n : Result A Refusal) (f : ReduceFault) (r : Refusal) (P : ℕ → Type 0) → m ≡ Err f → n ≡ Err r → r ≡ refusal_of f
    → ((place : ℕ) → (m ≡ Err (fault.Interrupted (record { by = place }))) ↔ P place) → (place : ℕ) → (n ≡ Err (refusal.Interrupted place)) ↔ P place
fault_passed A m n f r P is told e h place = (
  λ k. (h place).0 (is ∙ ap Err (fault_is f place (sym e ∙ errors_are A r (refusal.Interrupted place) (sym told ∙ k)))),
  λ p. told ∙ ap Err (e ∙ ap refusal_of (faults_are A f (fault.Interrupted (record { by = place })) (sym is ∙ (h place).1 p))),
)

-- what it counts
pub fault_counted : (A : Type 0) (s t : State) (f : ReduceFault) (r : Refusal) → r ≡ refusal_of f → CountsRefusals {A = A} s t (Err f) → CountsRefusal (refusal_in (reason_of r)) s t
fault_counted A s t f r e k = subst (λ x. CountsRefusal (refusal_in (reason_of x)) s t) (sym e) (by f k)
  where
    by : (f : ReduceFault) → CountsRefusals {A = A} s t (Err f) → CountsRefusal (refusal_in (reason_of (refusal_of f))) s t
    by (fault.Full full) k = k
    by (fault.Overflow o) k = k
    by (fault.Interrupted i) k = k
