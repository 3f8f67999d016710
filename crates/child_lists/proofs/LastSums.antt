-- A sum that stands last, with other children.
use Rattle.child_lists.proofs.Shared.{AllExpressions, AllOnce, Ends, Forest, Gives, IsHanded, IsOnce, IsOwned, IsWhole, KeepsRefusals, Option, Payload, Represents, Stands, State, Tree, Trees, add}
use Rattle.child_lists.proofs.Shared.{all-first_trees, all-join, all-rest_trees, alone, ap, arith, arity, arity-tree_nth, bare, children_of, children_of-plain, count, count-plains, empty, ends_as}
use Rattle.child_lists.proofs.Shared.{ends_at, ends_without, expression_root, forest, free_of, given_handed, given_rest, given_root, given_same, given_told, gives, grown, inserted, is_add, kids}
use Rattle.child_lists.proofs.Shared.{kids_of, last_put, last_rest, last_root, last_tree, more, none, nth, other_handed, plain, plain-tree_nth, plain_root, plains, put, refl, removed, replaced_free}
use Rattle.child_lists.proofs.Shared.{represents_as, represents_handed, represents_with, rest_trees, root_tree, set_nth, size, sizes, subst, suc, sym, takes, tree, tree_nth, tree_of, true}
use Rattle.child_lists.proofs.Shared.{whole_kids, with_nth, with_nth-without_nth, with_root_kids, without_nth, without_root, zero, ℕ, ◌<◌, ◌∙◌, ◌≡◌, ◌≤◌, IsNextAt, Lists, List, root_ids}
use Rattle.child_lists.proofs.{ListedChildren.{children_number, lists_with}, PutBefore.{kept_kids}}
use Rattle.tree_handles.proofs.Lasts.{with_kids_alone as arity-with_root_kids, with_kids_root as root_id-with_root_kids}
use Rattle.calc_terms.specs.declared.kind.Kind.TheVariants as kind

-- ---- a node with other children

add_payload : (x : Payload) (us ts : Trees) → grown x us ≡ add ts → x ≡ bare kind.Add
add_payload x us ts e = grind arith

with_many : (x : Payload) (n : ℕ) → x ≡ bare kind.Add → takes x n ≡ true
with_many x n e = ap (λ (y : Payload). takes y n) e

with_these : (x : Payload) (us : Trees) → x ≡ bare kind.Add → grown x us ≡ add us
with_these x us e = ap (λ (y : Payload). grown y us) e

resummed : (t n : Forest) (us ts : Trees) → arity t ≡ 1 → AllOnce t → AllExpressions t → plain t ≡ add ts → Represents n us → Represents (with_root_kids n t) (more (add us) none)
resummed empty n us ts a o w p r = absurd (omega arith)
resummed (tree l k (tree m j s)) n us ts a o w p r = absurd (omega arith)
resummed (tree l k empty) n us ts a o w p r =
    let is : l.payload ≡ bare kind.Add = add_payload l.payload (plains k) ts p in
    record {
      once = (o.0, r.once, tt);
      whole = (with_many l.payload (arity n) is, r.whole, tt);
      plain_trees = ap (λ (x : Tree). more x none) (with_these l.payload (plains n) is ∙ ap add r.plain_trees);
    }

pub last_with : {i : ℕ} {t g f : Forest} (n : Forest) → Ends i t g f → Ends i (with_root_kids n t) g (put i n f)
last_with n e = grind (arith, last_put, arity-with_root_kids, root_id-with_root_kids)

-- ---- its children

once_kids : (t : Forest) → AllOnce t → AllOnce (kids t)
once_kids t o = grind arith

pub kids_represented : (t : Forest) → AllOnce t → AllExpressions t → Represents (kids t) (children_of (plain t))
kids_represented t o w = record { once = once_kids t o; whole = whole_kids t w; plain_trees = sym (children_of-plain t w) }

pub plains-without_nth : (n : ℕ) (f : Forest) → plains (without_nth n f) ≡ removed n (plains f)
plains-without_nth zero empty = refl
plains-without_nth (suc n) empty = refl
plains-without_nth zero (tree l k r) = refl
plains-without_nth (suc n) (tree l k r) = ap (more (grown l.payload (plains k))) (plains-without_nth n r)

pub represents_without : {k : Forest} {ts : Trees} (n : ℕ) → Represents k ts → Represents (without_nth n k) (removed n ts)
represents_without n r = grind (arith, all-join, all-first_trees, all-rest_trees, plains-without_nth)

pub once_nth : (n : ℕ) (k : Forest) → AllOnce k → AllOnce (tree_nth n k)
once_nth n k o = all-first_trees IsOnce 1 (rest_trees n k) (all-rest_trees IsOnce n k o)

-- ---- the sum

-- a sum that stands last, with other children
pub resum : {i : ℕ} {g f : Forest} {P Q : Tree → Type 0} (e : Gives g f i P) (n : Forest) (us ts : Trees) → plain e.tree ≡ add ts → Represents n us → Q (add us) → Gives g (put i n f) i Q
resum {Q = Q} e n us ts p r q = gives (last_with n e.ends) (resummed e.tree n us ts e.ends.alone e.once e.whole p r) q

pub gives_at : {i : ℕ} {g f h : Forest} {P : Tree → Type 0} → Gives g f i P → h ≡ f → Gives g h i P
gives_at {i = i} {g = g} {P = P} e q = subst (λ (x : Forest). Gives g x i P) (sym q) e

-- ---- one of its children alone

pub represents_nth : {k : Forest} {ts : Trees} (n : ℕ) → Represents k ts → n < count ts → Represents (tree_nth n k) (more (nth n ts) none)
represents_nth {k = k} {ts = ts} n r l = record {
  once = once_nth n k r.once;
  whole = all-first_trees IsWhole 1 (rest_trees n k) (all-rest_trees IsWhole n k r.whole);
  plain_trees = alone (tree_nth n k) (arity-tree_nth n k (let m : count ts ≡ arity k = ap count (sym r.plain_trees) ∙ count-plains k in omega (arith, m, l)))
      ∙ ap (λ (t : Tree). more t none) (plain-tree_nth n k ∙ ap (nth n) r.plain_trees);
}

-- the only child of a sum that is gone
pub only_child : {i h : ℕ} {g f f1 f2 : Forest} {P Q : Tree → Type 0} (e : Gives g f i P) (ts : Trees) → plain (root_tree i f) ≡ add ts → 0 < count ts
    → Ends h (tree_nth 0 (kids (root_tree i f))) (put i (without_nth 0 (kids (root_tree i f))) f) f1
    → f2 ≡ without_root i f1 → Q (nth 0 ts) → Gives g f2 h Q
only_child {i} {h} {g} {f} {f1} e ts p l x q w =
    let t = root_tree i f in
    let handed = given_handed e in
    let rep : Represents (kids t) ts = represents_as (kids_represented t handed.once handed.whole) refl (ap children_of p) in
    let rest = resum {Q = λ u. u ≡ add (removed 0 ts)} e (without_nth 0 (kids t)) (removed 0 ts) ts (ap plain (sym (last_tree e.ends)) ∙ p) (represents_without 0 rep) refl in
    gives (ends_at (ends_as (ends_without i x (given_root rest)) refl (given_rest rest)) q) (represents_nth 0 rep l) w

pub only_owned : {i h : ℕ} {g f f1 : Forest} {P : Tree → Type 0} (e : Gives g f i P) (ts : Trees) → plain (root_tree i f) ≡ add ts
    → Ends h (tree_nth 0 (kids (root_tree i f))) (put i (without_nth 0 (kids (root_tree i f))) f) f1 → IsHanded i f1
only_owned {i} {h} {g} {f} {f1} e ts p x =
    let t = root_tree i f in
    let handed = given_handed e in
    let rep : Represents (kids t) ts = represents_as (kids_represented t handed.once handed.whole) refl (ap children_of p) in
    let rest = resum {Q = λ u. u ≡ add (removed 0 ts)} e (without_nth 0 (kids t)) (removed 0 ts) ts (ap plain (sym (last_tree e.ends)) ∙ p) (represents_without 0 rep) refl in
    other_handed x (given_handed rest)

-- ---- a child less, a child more, and another child

-- a child is taken out and released
pub removed_child : {i h : ℕ} {g f f1 f2 : Forest} {P : Tree → Type 0} (at : ℕ) (e : Gives g f i P) → plain (root_tree i f) ≡ add (children_of (plain (root_tree i f)))
    → Ends h (tree_nth at (kids (root_tree i f))) (put i (without_nth at (kids (root_tree i f))) f) f1 → f2 ≡ without_root h f1 → Gives g f2 i (λ t. t ≡ add (removed at (children_of (plain (root_tree i f)))))
removed_child {i} {h} {g} {f} at e s x q =
    let tree = root_tree i f in
    let ts = children_of (plain tree) in
    let handed = given_handed e in
    gives_at (resum e (without_nth at (kids tree)) (removed at ts) ts (ap plain (sym (last_tree e.ends)) ∙ s) (represents_without at (kids_represented tree handed.once handed.whole)) refl)
    (q ∙ last_rest x)

-- a new tree is put in
pub inserted_child : {i h : ℕ} {g f f1 f2 : Forest} {P Q : Tree → Type 0} (at : ℕ) (e : Gives g f i P) → plain (root_tree i f) ≡ add (children_of (plain (root_tree i f))) → (p : Gives f f1 h Q)
    → f2 ≡ put i (with_nth at (root_tree h f1) (kids (root_tree i f1))) (without_root h f1) → Gives g f2 i (λ t. t ≡ add (inserted at (more (plain (root_tree h f1)) none) (children_of (plain (root_tree i f)))))
inserted_child {i} {h} {g} {f} {f1} at e s p q =
    let tree = root_tree i f in
    let ts = children_of (plain tree) in
    let handed = given_handed e in
    let all : Represents (with_nth at (root_tree h f1) (kids tree)) (inserted at (more (plain (root_tree h f1)) none) ts) = represents_with at (represents_handed (given_handed p)) (kids_represented tree handed.once handed.whole) in
    let same = given_same i p (given_root e) in
    let rest = given_rest p in
    gives_at (resum e (with_nth at (root_tree h f1) (kids tree)) (inserted at (more (plain (root_tree h f1)) none) ts) ts (ap plain (sym (last_tree e.ends)) ∙ s) all refl)
    (q ∙ (λ j. put i (with_nth at (root_tree h f1) (kids (same j))) (rest j)))

-- another tree comes in the place of one
pub exchanged_child : {i h : ℕ} {g f f1 f3 : Forest} {P Q : Tree → Type 0} (at : ℕ) (e : Gives g f i P) → plain (root_tree i f) ≡ add (children_of (plain (root_tree i f)))
    → (p : Gives f f1 h Q) → at < count (children_of (plain (root_tree i f)))
    → f3 ≡ put i (set_nth at p.tree (kids (root_tree i f))) f → Gives g f3 i (λ t. t ≡ add (inserted at (more (plain p.tree) none) (removed at (children_of (plain (root_tree i f))))))
exchanged_child {i} {h} {g} {f} at e s p l q =
    let tree = root_tree i f in
    let ts = children_of (plain tree) in
    let handed = given_handed e in
    let one : Represents p.tree (more (plain p.tree) none) = record { once = p.once; whole = p.whole; plain_trees = alone p.tree p.ends.alone } in
    let kids-are : Represents (kids tree) ts = kids_represented tree handed.once handed.whole in
    let many : count ts ≡ arity (kids tree) = ap count (sym kids-are.plain_trees) ∙ count-plains (kids tree) in
    let all : Represents (set_nth at p.tree (kids tree)) (inserted at (more (plain p.tree) none) (removed at ts)) =
    represents_as (represents_with at one (represents_without at kids-are)) (with_nth-without_nth at p.tree (kids tree) (omega (arith, l, many))) refl in
    gives_at (resum e (set_nth at p.tree (kids tree)) (inserted at (more (plain p.tree) none) (removed at ts)) ts (ap plain (sym (last_tree e.ends)) ∙ s) all refl) q

-- a child that was taken out is owned
pub taken_owned : {i h : ℕ} {f g f1 : Forest} (at : ℕ) → IsHanded i f → Ends h (tree_nth at (kids (root_tree i f))) g f1 → IsOwned h f1
taken_owned at h x = grind (arith, last_root, last_tree, once_nth, kids_represented)

-- ---- as it is read

pub many_kids : (i : ℕ) (s : State) → Stands s → IsHanded i (forest s) → arity (kids_of i (forest s)) ≡ count (children_of (plain (root_tree i (forest s))))
many_kids i s st h = children_number i (forest s) (expression_root st h) ∙ ap (λ (t : Tree). count (children_of t)) (plain_root i st h.root)

-- the child at a place is the same before a tree is placed behind
pub next_before : {i j : ℕ} {u g t f h : Forest} (n : ℕ) (o : Option ℕ) → Ends i u g f → Ends j t f h → IsNextAt n i h o → IsNextAt n i f o
next_before n o a b c = grind (arith, kept_kids)

-- and its children stay
pub lists_behind : {l : Option (List ℕ)} {g f h : Forest} {i j : ℕ} {P Q : Tree → Type 0} → Gives g f i P → Gives f h j Q → Lists l i f → Lists l i h
lists_behind a b lists = lists_with (ap root_ids (sym (kept_kids a.ends b.ends))) lists

pub sum_is : {t : Tree} → is_add t ≡ true → t ≡ add (children_of t)
sum_is {t} h = grind arith

-- ---- its bytes

removed_bytes : (n : ℕ) (ts : Trees) → sizes (removed n ts) ≤ sizes ts
removed_bytes n none = omega arith
removed_bytes zero (more t ts) = omega arith
removed_bytes (suc n) (more t ts) = omega (arith, removed_bytes n ts)

pub removed_free : {s t : State} {i : ℕ} (at : ℕ) → Stands s → Stands t → KeepsRefusals s t → Gives (without_root i (forest s)) (forest s) i (λ u. is_add u ≡ true)
    → Gives (without_root i (forest s)) (forest t) i (λ u. u ≡ add (removed at (children_of (tree_of i s)))) → free_of s ≤ free_of t
removed_free {s = s} {t = t} {i = i} at st su k e g =
    let ts : Trees = children_of (tree_of i s) in
    omega (arith, replaced_free st su k (given_handed e) g, ap size (given_told g), ap size (sum_is (given_told e)), removed_bytes at ts)
