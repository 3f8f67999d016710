-- Laws of roots that need no more than the tests.
use Rattle.tree_handles.proofs.Shared.{arith, ◌≡◌, ℕ, eqb, refl, ap, ◌∙◌, true, false, eqb-true, Label, Forest, empty, tree, join, arity, kids, root_id, holds, has_root, root_tree, without_root, put}
use Rattle.tree_handles.proofs.Shared.{or_true}
use Rattle.node_pool.proofs.Ids.{eqb_sym as eqb-sym}

-- ---- a root is a node

pub root_held : (i : ℕ) (f : Forest) → has_root i f ≡ true → holds i f ≡ true
root_held i empty h = absurd cc
root_held i (tree l k r) h = grind (arith, or_true, root_held i r)

pub no_root : (i : ℕ) (f : Forest) → holds i f ≡ false → has_root i f ≡ false
no_root i f h = grind (arith, root_held)

-- what a root's tree is
pub record IsTop (i : ℕ) (f : Forest) : Type 0 where
  pub left : Forest
  pub right : Forest
  pub label : Label
  pub kids-are : Forest
  pub id-is : label.id ≡ i
  pub tree-is : root_tree i f ≡ tree label kids-are empty
  pub whole : f ≡ join left (tree label kids-are right)
  pub without : without_root i f ≡ join left right
  pub clear : has_root i left ≡ false

top_here : (i : ℕ) (l : Label) (k r : Forest) → eqb l.id i ≡ true → IsTop i (tree l k r)
top_here i l k r e = record { left = empty; right = r; label = l; kids-are = k; id-is = eqb-true l.id i e; tree-is = rw e refl; whole = refl; without = rw e refl; clear = refl }

top_behind : (i : ℕ) (l : Label) (k r : Forest) → eqb l.id i ≡ false → IsTop i r → IsTop i (tree l k r)
top_behind i l k r e p = record {
  left = tree l k p.left;
  right = p.right;
  label = p.label;
  kids-are = p.kids-are;
  id-is = p.id-is;
  tree-is = rw e p.tree-is;
  whole = ap (λ (x : Forest). tree l k x) p.whole;
  without = rw e (ap (λ (x : Forest). tree l k x) p.without);
  clear = rw e p.clear;
}

pub top : (i : ℕ) (f : Forest) → has_root i f ≡ true → IsTop i f
top i empty h = absurd cc
top i (tree l k r) h = grind (arith, top_here, top_behind, top i r)

pub root_arity : (i : ℕ) (f : Forest) → has_root i f ≡ true → arity (root_tree i f) ≡ 1
root_arity i f h = ap arity (top i f h).tree-is

pub root_id-root_tree : (i : ℕ) (f : Forest) → has_root i f ≡ true → root_id (root_tree i f) ≡ i
root_id-root_tree i f h = let p = top i f h in ap root_id p.tree-is ∙ p.id-is

-- ---- two forests

pub root-left : (i : ℕ) (f g : Forest) → has_root i f ≡ true → has_root i (join f g) ≡ true
root-left i empty g h = absurd cc
root-left i (tree l k r) g h = grind (arith, root-left i r g)

pub root-right : (i : ℕ) (f g : Forest) → has_root i f ≡ false → has_root i (join f g) ≡ has_root i g
root-right i empty g h = refl
root-right i (tree l k r) g h = grind (arith, root-right i r g)

pub tree-left : (i : ℕ) (f g : Forest) → has_root i f ≡ true → root_tree i (join f g) ≡ root_tree i f
tree-left i empty g h = absurd cc
tree-left i (tree l k r) g h = grind (arith, tree-left i r g)

pub tree-right : (i : ℕ) (f g : Forest) → has_root i f ≡ false → root_tree i (join f g) ≡ root_tree i g
tree-right i empty g h = refl
tree-right i (tree l k r) g h = grind (arith, tree-right i r g)

pub without-left : (i : ℕ) (f g : Forest) → has_root i f ≡ true → without_root i (join f g) ≡ join (without_root i f) g
without-left i empty g h = absurd cc
without-left i (tree l k r) g h = grind (arith, without-left i r g)

pub without-right : (i : ℕ) (f g : Forest) → has_root i f ≡ false → without_root i (join f g) ≡ join f (without_root i g)
without-right i empty g h = refl
without-right i (tree l k r) g h = grind (arith, without-right i r g)

pub put-left : (i : ℕ) (n f g : Forest) → has_root i f ≡ true → put i n (join f g) ≡ join (put i n f) g
put-left i n empty g h = absurd cc
put-left i n (tree l k r) g h = grind (arith, put-left i n r g)

pub put-right : (i : ℕ) (n f g : Forest) → has_root i f ≡ false → put i n (join f g) ≡ join f (put i n g)
put-right i n empty g h = refl
put-right i n (tree l k r) g h = grind (arith, put-right i n r g)

-- ---- another root

pub root-without : (i j : ℕ) (f : Forest) → eqb i j ≡ false → has_root j (without_root i f) ≡ has_root j f
root-without i j empty d = refl
root-without i j (tree l k r) d = grind (arith, root-without i j r d)

pub tree-without : (i j : ℕ) (f : Forest) → eqb i j ≡ false → root_tree j (without_root i f) ≡ root_tree j f
tree-without i j empty d = refl
tree-without i j (tree l k r) d = grind (arith, tree-without i j r d)

-- two roots go in either order
pub without-swap : (i j : ℕ) (f : Forest) → eqb i j ≡ false → without_root i (without_root j f) ≡ without_root j (without_root i f)
without-swap i j empty d = refl
without-swap i j (tree l k r) d = grind (arith, eqb-sym, without-swap i j r d)

-- ---- other children

pub root-put : (i j : ℕ) (n f : Forest) → has_root j (put i n f) ≡ has_root j f
root-put i j n empty = refl
root-put i j n (tree l k r) = grind (arith, root-put i j n r)

pub kids-put : (i : ℕ) (n f : Forest) → has_root i f ≡ true → kids (root_tree i (put i n f)) ≡ n
kids-put i n empty h = absurd cc
kids-put i n (tree l k r) h = grind (arith, kids-put i n r)

-- the tree of another root
pub tree-put : (i j : ℕ) (n f : Forest) → eqb i j ≡ false → root_tree j (put i n f) ≡ root_tree j f
tree-put i j n empty d = refl
tree-put i j n (tree l k r) d = grind (arith, tree-put i j n r d)

pub put-put : (i : ℕ) (a b f : Forest) → put i a (put i b f) ≡ put i a f
put-put i a b empty = refl
put-put i a b (tree l k r) = grind (arith, put-put i a b r)

pub put-same : (i : ℕ) (f : Forest) → put i (kids (root_tree i f)) f ≡ f
put-same i empty = refl
put-same i (tree l k r) = grind (arith, put-same i r)

-- a root goes beside one with other children
pub without-put : (i j : ℕ) (n f : Forest) → eqb i j ≡ false → without_root j (put i n f) ≡ put i n (without_root j f)
without-put i j n empty d = refl
without-put i j n (tree l k r) d = grind (arith, eqb-sym, without-put i j n r d)
