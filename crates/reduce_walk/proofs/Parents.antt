-- A root with its children, whatever it holds.
use Rattle.reduce_walk.proofs.Shared.{◌≡◌, ℕ, true, ap, ◌∙◌, arith, Payload, Tree, Trees, none, more, count, represents_count, children_of-plain, whole_kids, root_arity, grown, plain, takes}
use Rattle.reduce_walk.proofs.Shared.{children_of, AllExpressions, Forest, empty, tree, arity, kids, root_payload, root_count, IsHanded, Represents, has_root, root_tree, once_count, all-kids}

-- a root that holds x over these trees, each node held once
pub record IsParent (x : Payload) (i : ℕ) (ts : Trees) (f : Forest) : Type 0 where
  pub root : has_root i f ≡ true
  pub payload : root_payload (root_tree i f) ≡ x
  pub count : root_count (root_tree i f) ≡ 1
  pub kids : Represents (kids (root_tree i f)) ts

-- what a handed root holds
abbrev pub held_at : ℕ → Forest → Payload
held_at i f = root_payload (root_tree i f)

pub parent_handed : {i : ℕ} {f : Forest} → IsHanded i f → IsParent (held_at i f) i (children_of (plain (root_tree i f))) f
parent_handed h = grind (arith, once_count, root_arity, all-kids, whole_kids, children_of-plain)

no_tree : arity empty ≡ 1 → ⊥
no_tree e = absurd (omega arith)

-- it takes that many children, and is the node over them
pub record IsNodeOf (x : Payload) (ts : Trees) (t : Tree) : Type 0 where
  pub takes : takes x (count ts) ≡ true
  pub grown : t ≡ grown x ts

node_of_tree : (t : Forest) → arity t ≡ 1 → AllExpressions t → IsNodeOf (root_payload t) (children_of (plain t)) (plain t)
node_of_tree t e h = grind arith

pub handed_node : {i : ℕ} {f : Forest} → IsHanded i f → IsNodeOf (held_at i f) (children_of (plain (root_tree i f))) (plain (root_tree i f))
handed_node {i = i} {f = f} h = node_of_tree (root_tree i f) (root_arity i f h.root) h.whole

parent_one : (x : Payload) (ts : Trees) (t : Forest) → arity t ≡ 1 → root_payload t ≡ x → root_count t ≡ 1 → Represents (kids t) ts → takes x (count ts) ≡ true → Represents t (more (grown x ts) none)
parent_one x ts empty e p c h w = absurd (no_tree e)
parent_one x ts (tree l b empty) e p c h w = record {
  once = (c, h.once, tt);
  whole = (ap (λ (y : Payload). takes y (arity b)) p ∙ ap (takes x) (represents_count h) ∙ w, h.whole, tt);
  plain_trees = λ i. more (grown (p i) (h.plain_trees i)) none;
}
parent_one x ts (tree l b (tree m d s)) e p c h w = absurd (omega arith)

parent_tree : {x : Payload} {i : ℕ} {ts : Trees} {f : Forest} → IsParent x i ts f → takes x (count ts) ≡ true → Represents (root_tree i f) (more (grown x ts) none)
parent_tree {x = x} {i = i} {ts = ts} {f = f} h w = parent_one x ts (root_tree i f) (root_arity i f h.root) h.payload h.count h.kids w

pub parent_is_handed : {x : Payload} {i : ℕ} {ts : Trees} {f : Forest} → IsParent x i ts f → takes x (count ts) ≡ true → IsHanded i f
parent_is_handed h w = let t = parent_tree h w in record { root = h.root; once = t.once; whole = t.whole }
