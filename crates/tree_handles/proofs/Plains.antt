-- Laws of the plain trees of a forest.
use Rattle.tree_handles.proofs.Shared.{◌≡◌, ℕ, zero, suc, ◌+◌, max, eqb, refl, sym, ap, ◌∙◌, arith, true, eqb-true, eq-eqb, Kind, Payload, rational, named, bare}
use Rattle.tree_handles.proofs.Shared.{kind_of_payload, has_short_form, IsPayload, Tree, Trees, none, more, append, count, root_kind, root_size, has_short_root, is_num, is_symbol, size, sizes}
use Rattle.tree_handles.proofs.Shared.{depth, depths, nodes, nodes_of, Label, Forest, empty, tree, join, arity, tree_nth, kids, root_payload, bytes_in, nodes_in, depth_in, nth, grown, plains}
use Rattle.tree_handles.proofs.Shared.{plain, takes, takes_kind, AllExpressions, children_of}
use Rattle.calc_terms.specs.declared.kind.Kind.TheVariants as kind

pub plains-join : (f g : Forest) → plains (join f g) ≡ append (plains f) (plains g)
plains-join empty g = refl
plains-join (tree l k r) g = ap (λ (x : Trees). more (grown l.payload (plains k)) x) (plains-join r g)

pub count-plains : (f : Forest) → count (plains f) ≡ arity f
count-plains empty = refl
count-plains (tree l k r) = ap suc (count-plains r)

pub plain-tree_nth : (n : ℕ) (f : Forest) → plain (tree_nth n f) ≡ nth n (plains f)
plain-tree_nth zero empty = refl
plain-tree_nth zero (tree l k r) = refl
plain-tree_nth (suc n) empty = refl
plain-tree_nth (suc n) (tree l k r) = plain-tree_nth n r

-- ---- what a node is, by its plain tree

-- only a node that holds a rational is a number, and only one that holds a name is a symbol
pub holds_number : (t : Forest) → is_num (plain t) ≡ true → kind_of_payload (root_payload t) ≡ kind.Num
holds_number t h = grind arith

pub holds_symbol : (t : Forest) → is_symbol (plain t) ≡ true → kind_of_payload (root_payload t) ≡ kind.Sym
holds_symbol t h = grind arith

-- the other way round
grown_number : (x : Payload) (ts : Trees) → IsPayload x → kind_of_payload x ≡ kind.Num → is_num (grown x ts) ≡ true
grown_number x ts v h = grind arith

grown_symbol : (x : Payload) (ts : Trees) → IsPayload x → kind_of_payload x ≡ kind.Sym → is_symbol (grown x ts) ≡ true
grown_symbol x ts v h = grind arith

pub is_num-plain : (l : Label) (k r : Forest) → IsPayload l.payload → kind_of_payload l.payload ≡ kind.Num → is_num (plain (tree l k r)) ≡ true
is_num-plain l k r v h = grown_number l.payload (plains k) v h

pub is_symbol-plain : (l : Label) (k r : Forest) → IsPayload l.payload → kind_of_payload l.payload ≡ kind.Sym → is_symbol (plain (tree l k r)) ≡ true
is_symbol-plain l k r v h = grown_symbol l.payload (plains k) v h

-- ---- trees of the language

no_trees : (ts : Trees) → eqb (count ts) 0 ≡ true → ts ≡ none
no_trees none h = refl
no_trees (more t ts) h = absurd (omega (arith, eqb-true (count (more t ts)) 0 h))

one_tree : (ts : Trees) → eqb (count ts) 1 ≡ true → ts ≡ more (nth 0 ts) none
one_tree none h = absurd (omega (arith, eqb-true (count none) 1 h))
one_tree (more t ts) h = ap (more t) (no_trees ts (eq-eqb (count ts) 0 (omega (arith, eqb-true (count (more t ts)) 1 h))))

two_trees : (ts : Trees) → eqb (count ts) 2 ≡ true → ts ≡ more (nth 0 ts) (more (nth 1 ts) none)
two_trees none h = absurd (omega (arith, eqb-true (count none) 2 h))
two_trees (more t ts) h = ap (more t) (one_tree ts (eq-eqb (count ts) 1 (omega (arith, eqb-true (count (more t ts)) 2 h))))

-- the trees below a node of the language are its children
pub record IsGrown (x : Payload) (ts : Trees) : Type 0 where
  pub kind-is : root_kind (grown x ts) ≡ kind_of_payload x
  pub short-is : has_short_root (grown x ts) ≡ has_short_form x
  pub children-are : children_of (grown x ts) ≡ ts

grown_kind : (k : Kind) (ts : Trees) → takes_kind k (count ts) ≡ true → IsGrown (bare k) ts
grown_kind k ts h = grind (arith, no_trees, two_trees, one_tree)

grown_is : (x : Payload) (ts : Trees) → takes x (count ts) ≡ true → IsGrown x ts
grown_is (rational r) ts h = record { kind-is = refl; short-is = refl; children-are = sym (no_trees ts h) }
grown_is (named x) ts h = record { kind-is = refl; short-is = refl; children-are = sym (no_trees ts h) }
grown_is (bare k) ts h = grown_kind k ts h

pub grown_whole : (l : Label) (k r : Forest) → AllExpressions (tree l k r) → IsGrown l.payload (plains k)
grown_whole l k r h = grown_is l.payload (plains k) (ap (takes l.payload) (count-plains k) ∙ h.0)

pub root_kind-plain : (t : Forest) → arity t ≡ 1 → AllExpressions t → root_kind (plain t) ≡ kind_of_payload (root_payload t)
root_kind-plain t e h = grind arith

pub children_of-plain : (t : Forest) → AllExpressions t → children_of (plain t) ≡ plains (kids t)
children_of-plain empty h = refl
children_of-plain (tree l k r) h = (grown_whole l k r h).children-are

pub whole_kids : (t : Forest) → AllExpressions t → AllExpressions (kids t)
whole_kids t h = grind arith

-- ---- measures

size_grown : (t : Tree) → size t ≡ root_size t + sizes (children_of t)
size_grown t = grind arith

depth_grown : (t : Tree) → depth t ≡ suc (depths (children_of t))
depth_grown t = grind arith

pub nodes_grown : (t : Tree) → nodes t ≡ suc (nodes_of (children_of t))
nodes_grown t = grind arith

pub depths-plains : (f : Forest) → AllExpressions f → depths (plains f) ≡ depth_in f
depths-plains empty h = refl
depths-plains (tree l k r) h =
    let t = grown l.payload (plains k) in
    let d : depth t ≡ suc (depth_in k) = depth_grown t ∙ ap suc (ap depths (grown_whole l k r h).children-are ∙ depths-plains k h.1) in
    rw (d, depths-plains r h.2) refl

pub nodes_of-plains : (f : Forest) → AllExpressions f → nodes_of (plains f) ≡ nodes_in f
nodes_of-plains empty h = refl
nodes_of-plains (tree l k r) h =
    let t = grown l.payload (plains k) in
    let d : nodes t ≡ suc (nodes_in k) = nodes_grown t ∙ ap suc (ap nodes_of (grown_whole l k r h).children-are ∙ nodes_of-plains k h.1) in
    rw (d, nodes_of-plains r h.2) (omega arith)

pub sizes-plains : (f : Forest) → AllExpressions f → sizes (plains f) ≡ bytes_in f
sizes-plains empty h = refl
sizes-plains (tree l k r) h = grind (arith, grown_whole, size_grown, sizes-plains k h.1, sizes-plains r h.2)

-- ---- one tree

pub alone : (t : Forest) → arity t ≡ 1 → plains t ≡ more (plain t) none
alone (tree l k empty) e = refl
alone t e = absurd (omega arith)

pub size-plain : (t : Forest) → arity t ≡ 1 → AllExpressions t → size (plain t) ≡ bytes_in t
size-plain t e h = let s : sizes (plains t) ≡ size (plain t) + 0 = ap sizes (alone t e) in omega (arith, s, sizes-plains t h)

pub nodes-plain : (t : Forest) → arity t ≡ 1 → AllExpressions t → nodes (plain t) ≡ nodes_in t
nodes-plain t e h = let s : nodes_of (plains t) ≡ nodes (plain t) + 0 = ap nodes_of (alone t e) in omega (arith, s, nodes_of-plains t h)

pub depth-plain : (t : Forest) → arity t ≡ 1 → AllExpressions t → depth (plain t) ≡ depth_in t
depth-plain t e h = let s : depths (plains t) ≡ max (depth (plain t)) 0 = ap depths (alone t e) in omega (arith, s, depths-plains t h)
