-- Trees that are built from roots and from new nodes.
use Rattle.tree_handles.proofs.Shared.{arith, ◌≡◌, ℕ, zero, suc, eqb, refl, sym, ap, subst, true, false, Payload, Tree, Trees, none, more, append, count, nth, grown, plains, plain}
use Rattle.tree_handles.proofs.Shared.{inserted, takes, Forest, empty, tree, join, with_nth, one_tree, IsOwned, IsHanded, Represents, Ends, Gives, has_root, root_tree, without_root, put}
use Rattle.tree_handles.proofs.{Counted.all-with_nth, Forests.{join-empty, all-join}, Lasts.{last_root, last_tree, last_rest, other_tree, other_apart, other_handed, ends_without, ends_as}}
use Rattle.tree_handles.proofs.{Plains.{plains-join, count-plains, alone}, Roots.{root_arity, root-without, tree-without, root-put, tree-put}}

pub plains-with_nth : (n : ℕ) (c k : Forest) → plains (with_nth n c k) ≡ inserted n (plains c) (plains k)
plains-with_nth zero c k = plains-join c k
plains-with_nth (suc n) c empty = ap plains (join-empty c)
plains-with_nth (suc n) c (tree l b r) = ap (more (grown l.payload (plains b))) (plains-with_nth n c r)

-- ---- what a forest represents

pub represents_none : Represents empty none
represents_none = record { once = tt; whole = tt; plain_trees = refl }

pub represents_handed : {i : ℕ} {f : Forest} → IsHanded i f → Represents (root_tree i f) (more (plain (root_tree i f)) none)
represents_handed {i = i} {f = f} h = record { once = h.once; whole = h.whole; plain_trees = alone (root_tree i f) (root_arity i f h.root) }

pub represents_with : {c k : Forest} {us ts : Trees} (n : ℕ) → Represents c us → Represents k ts → Represents (with_nth n c k) (inserted n us ts)
represents_with n a b = grind (arith, all-with_nth, plains-with_nth)

pub represents_join : {f g : Forest} {ts us : Trees} → Represents f ts → Represents g us → Represents (join f g) (append ts us)
represents_join a b = grind (arith, all-join, plains-join)

-- a node that takes that many children
pub represents_node : {k : Forest} {ts : Trees} (i : ℕ) (x : Payload) → Represents k ts → takes x (count ts) ≡ true → Represents (one_tree i x k) (more (grown x ts) none)
represents_node i x h e = grind (arith, count-plains)

-- the same, in other words
pub represents_as : {f g : Forest} {ts us : Trees} → Represents f ts → f ≡ g → ts ≡ us → Represents g us
represents_as {g = g} {ts = ts} h p q = subst (Represents g) q (subst (λ (x : Forest). Represents x ts) p h)

-- ---- what a call gives

pub gives : {others t f : Forest} {i : ℕ} {u : Tree} {Told : Tree → Type 0} → Ends i t others f → Represents t (more u none) → Told u → Gives others f i Told
gives {t = t} {Told = Told} e r h = record { tree = t; ends = e; once = r.once; whole = r.whole; told = subst Told (sym (ap (nth 0) r.plain_trees)) h }

pub given_root : {others f : Forest} {i : ℕ} {Told : Tree → Type 0} → Gives others f i Told → has_root i f ≡ true
given_root g = last_root g.ends

pub given_handed : {others f : Forest} {i : ℕ} {Told : Tree → Type 0} → Gives others f i Told → IsHanded i f
given_handed g = grind (arith, last_root, last_tree)

pub given_told : {others f : Forest} {i : ℕ} {Told : Tree → Type 0} → Gives others f i Told → Told (plain (root_tree i f))
given_told {Told = Told} g = subst (λ (x : Forest). Told (plain x)) (sym (last_tree g.ends)) g.told

pub given_rest : {others f : Forest} {i : ℕ} {Told : Tree → Type 0} → Gives others f i Told → without_root i f ≡ others
given_rest g = last_rest g.ends

pub given_other : {others f : Forest} {i j : ℕ} {Told : Tree → Type 0} → Gives others f i Told → IsHanded j others → IsHanded j f
given_other g h = other_handed g.ends h

pub given_same : {others f : Forest} {i : ℕ} {Told : Tree → Type 0} (j : ℕ) → Gives others f i Told → has_root j others ≡ true → root_tree j f ≡ root_tree j others
given_same j g h = other_tree j g.ends h

pub given_apart : {others f : Forest} {i j : ℕ} {Told : Tree → Type 0} → Gives others f i Told → IsHanded j others → eqb i j ≡ false
given_apart {j = j} g h = other_apart j g.ends h.root

-- what is left when the new tree and then another goes, or the other one first
pub given_without : {others f : Forest} {i j : ℕ} {Told : Tree → Type 0} → Gives others f i Told → IsHanded j others → without_root i (without_root j f) ≡ without_root j others
given_without {j = j} g h = last_rest (ends_without j g.ends h.root)

-- the same answer, in other words
pub gives_as : {f g s : Forest} {i : ℕ} {P Q : Tree → Type 0} → Gives f s i P → f ≡ g → ((t : Tree) → P t → Q t) → Gives g s i Q
gives_as a e q = record { tree = a.tree; ends = ends_as a.ends refl e; once = a.once; whole = a.whole; told = q (plain a.tree) a.told }

-- ---- handed trees

pub owned : {i : ℕ} {f : Forest} → IsHanded i f → IsOwned i f
owned h = record { root = h.root; once = h.once }

-- beside a root that goes, or has other children
pub handed_beside : {j : ℕ} {f : Forest} (i : ℕ) → eqb i j ≡ false → IsHanded j f → IsHanded j (without_root i f)
handed_beside i d h = grind (arith, root-without, tree-without)

pub handed_by_put : {j : ℕ} {f : Forest} (i : ℕ) (n : Forest) → eqb i j ≡ false → IsHanded j f → IsHanded j (put i n f)
handed_by_put i n d h = grind (arith, root-put, tree-put)

pub handed_at : {i : ℕ} {f g : Forest} → IsHanded i f → g ≡ f → IsHanded i g
handed_at {i = i} h e = subst (IsHanded i) (sym e) h
