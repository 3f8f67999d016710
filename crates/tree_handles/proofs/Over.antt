-- A root over these trees, and what it becomes: a child is taken out or put in, and the root goes last.
use Rattle.tree_handles.proofs.Shared.{◌≡◌, ℕ, eqb, refl, sym, ap, ◌∙◌, subst, arith, true, false, ◌∷◌, [], Kind, Payload, bare, Tree, Trees, none, more, append, count, is_mult, is_add, nth, grown}
use Rattle.tree_handles.proofs.Shared.{compound, plain, takes, takes_kind, children_of, inserted, Forest, empty, tree, arity, kids, root_payload, root_count, with_root_kids, tree_nth, without_nth}
use Rattle.tree_handles.proofs.{Shared.{with_nth, AllOnce, IsHanded, Represents, Ends, Gives, KeepsFront, kids_of, has_root, root_tree, without_root, put, State, Stands, forest}, Given.{gives}}
use Rattle.tree_handles.proofs.{Given.{gives_as, given_handed, given_told, given_rest, represents_handed, represents_with}, Counted.all-kids, Lasts.{other_tree, other_root, kids_of_root}}
use Rattle.tree_handles.proofs.{Plains.{children_of-plain, whole_kids}, Roots.{root_arity, root-put, root-without, tree-without, kids-put}, Cuts.{cut_at, represents_count}, Fronts.{behind_first}}
use Rattle.tree_handles.proofs.Fronts.{front_same, front_at, front_end, front_put, front_without}
use Rattle.calc_terms.specs.declared.kind.Kind.TheVariants as kind

-- ---- a root that holds these trees

-- a root of a kind over these trees, each node held once
pub record IsOver (k : Kind) (i : ℕ) (ts : Trees) (f : Forest) : Type 0 where
  pub root : has_root i f ≡ true
  pub payload : root_payload (root_tree i f) ≡ bare k
  pub count : root_count (root_tree i f) ≡ 1
  pub kids : Represents (kids (root_tree i f)) ts

-- ---- its tree

holds_mult : (t : Forest) → is_mult (plain t) ≡ true → root_payload t ≡ bare kind.Mult
holds_mult t h = grind arith

holds_add : (t : Forest) → is_add (plain t) ≡ true → root_payload t ≡ bare kind.Add
holds_add t h = grind arith

pub once_count : (t : Forest) → arity t ≡ 1 → AllOnce t → root_count t ≡ 1
once_count t e h = grind arith

over : {i : ℕ} {f : Forest} (k : Kind) → IsHanded i f → root_payload (root_tree i f) ≡ bare k → IsOver k i (children_of (plain (root_tree i f))) f
over k h e = grind (arith, once_count, root_arity, all-kids, whole_kids, children_of-plain)

-- a handed product
pub over_product : {i : ℕ} {f : Forest} → IsHanded i f → is_mult (plain (root_tree i f)) ≡ true → IsOver kind.Mult i (children_of (plain (root_tree i f))) f
over_product {i = i} {f = f} h e = over kind.Mult h (holds_mult (root_tree i f) e)

-- a handed sum
pub over_sum : {i : ℕ} {f : Forest} → IsHanded i f → is_add (plain (root_tree i f)) ≡ true → IsOver kind.Add i (children_of (plain (root_tree i f))) f
over_sum {i = i} {f = f} h e = over kind.Add h (holds_add (root_tree i f) e)

over_one : (k : Kind) (ts : Trees) (t : Forest) → arity t ≡ 1 → root_payload t ≡ bare k → root_count t ≡ 1 → Represents (kids t) ts → takes_kind k (count ts) ≡ true → Represents t (more (compound k ts) none)
over_one k ts (tree l b empty) e p c h w = record {
  once = (c, h.once, tt);
  whole = (ap (λ (x : Payload). takes x (arity b)) p ∙ ap (takes_kind k) (represents_count h) ∙ w, h.whole, tt);
  plain_trees = λ i. more (grown (p i) (h.plain_trees i)) none;
}
over_one k ts t e p c h w = absurd (omega arith)

pub over_tree : {k : Kind} {i : ℕ} {ts : Trees} {f : Forest} → IsOver k i ts f → takes_kind k (count ts) ≡ true → Represents (root_tree i f) (more (compound k ts) none)
over_tree {k = k} {i = i} {ts = ts} {f = f} h w = over_one k ts (root_tree i f) (root_arity i f h.root) h.payload h.count h.kids w

pub over_handed : {k : Kind} {i : ℕ} {ts : Trees} {f : Forest} → IsOver k i ts f → takes_kind k (count ts) ≡ true → IsHanded i f
over_handed h w = let t = over_tree h w in record { root = h.root; once = t.once; whole = t.whole }

pub over_plain : {k : Kind} {i : ℕ} {ts : Trees} {f : Forest} → IsOver k i ts f → takes_kind k (count ts) ≡ true → plain (root_tree i f) ≡ compound k ts
over_plain h w = ap (nth 0) (over_tree h w).plain_trees

-- ---- from call to call

pub tree_put : (i : ℕ) (n f : Forest) → root_tree i (put i n f) ≡ with_root_kids n (root_tree i f)
tree_put i n empty = refl
tree_put i n (tree l k r) = grind (arith, tree_put i n r)

-- a root goes, whichever children it has
pub without_put : (i : ℕ) (n f : Forest) → without_root i (put i n f) ≡ without_root i f
without_put i n empty = refl
without_put i n (tree l k r) = grind (arith, without_put i n r)

pub payload_with : (n t : Forest) → root_payload (with_root_kids n t) ≡ root_payload t
payload_with n t = grind arith

pub count_with : (n t : Forest) → root_count (with_root_kids n t) ≡ root_count t
count_with n t = grind arith

-- it has other children
pub over_put : {k : Kind} {i : ℕ} {ts us : Trees} {f : Forest} (n : Forest) → IsOver k i ts f → Represents n us → IsOver k i us (put i n f)
over_put n h r = grind (arith, root-put, tree_put, payload_with, count_with, kids-put)

at_tree : {k : Kind} {i : ℕ} {ts : Trees} {f g : Forest} → IsOver k i ts f → has_root i g ≡ true → root_tree i g ≡ root_tree i f → IsOver k i ts g
at_tree h r e = grind arith

-- another tree comes, or goes
pub over_end : {k : Kind} {i j : ℕ} {ts : Trees} {t f g : Forest} → IsOver k i ts g → Ends j t g f → IsOver k i ts f
over_end {i = i} h e = at_tree h (other_root i e h.root) (other_tree i e h.root)

pub over_beside : {k : Kind} {i : ℕ} {ts : Trees} {f : Forest} (j : ℕ) → eqb j i ≡ false → IsOver k i ts f → IsOver k i ts (without_root j f)
over_beside {i = i} {f = f} j d h = at_tree h (root-without j i f d ∙ h.root) (tree-without j i f d)

pub over_same : {k : Kind} {i : ℕ} {ts : Trees} {f g : Forest} → IsOver k i ts f → g ≡ f → IsOver k i ts g
over_same {k = k} {i = i} {ts = ts} h e = subst (IsOver k i ts) (sym e) h

-- the last root
pub over_gives : {k : Kind} {i : ℕ} {ts : Trees} {f g new : Forest} {Told : Tree → Type 0} → IsOver k i ts f → takes_kind k (count ts) ≡ true → Ends i (root_tree i f) g new → Told (compound k ts) → Gives g new i Told
over_gives h w e told = gives e (over_tree h w) told

-- a child that is taken stands last, and the others stay
pub record IsTaken (k : Kind) (i n : ℕ) (t : Tree) (others : Trees) (f new : Forest) (h : ℕ) : Type 0 where
  pub now : Forest
  pub kids : Represents now others
  pub gives : Gives (put i now f) new h (λ u. u ≡ t)
  pub over : IsOver k i others new

pub taken : {k : Kind} {i : ℕ} {f new : Forest} {h : ℕ} (n : ℕ) (ts : Trees) (t : Tree) (us : Trees) → IsOver k i (append ts (more t us)) f → n ≡ count ts
    → Ends h (tree_nth n (kids (root_tree i f))) (put i (without_nth n (kids (root_tree i f))) f) new → IsTaken k i n t (append ts us) f new h
taken {i = i} {f = f} n ts t us o e d =
    let c = cut_at n ts t us (kids (root_tree i f)) e o.kids in
    let now = without_nth n (kids (root_tree i f)) in
    record { now = now; kids = c.rest; gives = gives d c.one refl; over = over_end (over_put now o c.rest) d }

pub children_in : {s : State} {k : Kind} {i : ℕ} {ts : Trees} → Stands s → IsOver k i ts (forest s) → arity (kids_of i (forest s)) ≡ count ts
children_in {i = i} st h = ap arity (kids_of_root i st h.root) ∙ represents_count h.kids

-- ---- a child is put in

pub record IsAdded (k : Kind) (i : ℕ) (ts : Trees) (old new : Forest) : Type 0 where
  pub now : Forest
  pub kids : Represents now ts
  pub whole : new ≡ put i now old
  pub over : IsOver k i ts new

pub added : {k : Kind} {i j : ℕ} {ts : Trees} {old f new : Forest} {Told : Tree → Type 0} (n : ℕ) → IsOver k i ts old → Gives old f j Told
    → new ≡ put i (with_nth n (root_tree j f) (kids (root_tree i f))) (without_root j f) → IsAdded k i (inserted n (more (plain (root_tree j f)) none) ts) old new
added {k = k} {i = i} {j = j} {ts = ts} {old = old} {f = f} {new = new} n o g e =
    let now = with_nth n (root_tree j f) (kids (root_tree i old)) in
    let rep = represents_with n (represents_handed (given_handed g)) o.kids in
    let whole : new ≡ put i now old =
    e ∙ (λ x. put i (with_nth n (root_tree j f) (kids (other_tree i g.ends o.root x))) (given_rest g x)) in
    record { now = now; kids = rep; whole = whole; over = over_same (over_put now o rep) whole }

-- the same where the tree is known
pub added_as : {k : Kind} {i j : ℕ} {ts us : Trees} {t : Tree} {old f new : Forest} (n : ℕ) → IsOver k i ts old → Gives old f j (λ u. u ≡ t)
    → new ≡ put i (with_nth n (root_tree j f) (kids (root_tree i f))) (without_root j f) → inserted n (more t none) ts ≡ us → IsAdded k i us old new
added_as {k = k} {i = i} {ts = ts} {old = old} {new = new} n o g e w =
    subst (λ (us : Trees). IsAdded k i us old new) (ap (λ (t : Tree). inserted n (more t none) ts) (given_told g) ∙ w) (added n o g e)

-- ---- the root goes last

pub moved : {k : Kind} {i : ℕ} {us : Trees} {old f new : Forest} {Told : Tree → Type 0} → IsAdded k i us old f → takes_kind k (count us) ≡ true
    → Ends i (root_tree i f) (without_root i f) new → Told (compound k us) → Gives (without_root i old) new i Told
moved {i = i} {old = old} a w e told = gives_as (over_gives a.over w e told) (ap (without_root i) a.whole ∙ without_put i a.now old) (λ t x. x)

pub moved_front : {k : Kind} {i : ℕ} {us : Trees} {t old f new : Forest} → IsAdded k i us old f → Ends i t (without_root i f) new → KeepsFront (i ∷ []) old new
moved_front a e = front_end e (front_without behind_first (front_at (front_put a.now behind_first front_same) a.whole))

-- ---- a product of one factor

-- how many children a reader tells of a root
pub children_at : {s : State} {k : Kind} {i j : ℕ} {ts : Trees} → IsOver k i ts (forest s) → Stands s → j ≡ i → arity (kids_of j (forest s)) ≡ count ts
children_at {s = s} o st e = ap (λ (x : ℕ). arity (kids_of x (forest s))) e ∙ children_in st o

pub count_is : {s : State} {k : Kind} {i j n m : ℕ} {ts : Trees} → IsOver k i ts (forest s) → Stands s → j ≡ i → n ≡ arity (kids_of j (forest s)) → n ≡ m → count ts ≡ m
count_is o st e h k = sym (children_at o st e) ∙ sym h ∙ k
