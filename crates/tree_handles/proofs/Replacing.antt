-- A root beside a node whose children change.
use Rattle.tree_handles.proofs.Shared.{◌≡◌, ℕ, ◌<◌, ◌≤◌, refl, ap, ◌∙◌, arith, true, false, Forest, empty, tree, join, arity, tree_nth, without_nth, with_nth, set_nth, holds}
use Rattle.tree_handles.proofs.{Shared.{kids_of, with_kids, has_root, root_tree, without_root}, Distinct.held_parent, Forests.arity-without_nth, Nths.with_nth-without_nth}
use Rattle.tree_handles.proofs.{Joins.{holds-left, kids_of-join_left, with_kids-join_left, holds-with_kids, kids_of-with_kids, with_kids-with_kids}, Roots.{root-left, tree-left, without-left}}

pub has_root-with_kids : (c p : ℕ) (n f : Forest) → has_root c (with_kids p n f) ≡ has_root c f
has_root-with_kids c p n empty = refl
has_root-with_kids c p n (tree l k r) = grind (arith, has_root-with_kids c p n r)

pub root_tree-with_kids : (c p : ℕ) (n f : Forest) → holds p (root_tree c f) ≡ false → root_tree c (with_kids p n f) ≡ root_tree c f
root_tree-with_kids c p n empty a = refl
root_tree-with_kids c p n (tree l k r) a = grind (arith, root_tree-with_kids c p n r)

pub without_root-with_kids : (c p : ℕ) (n f : Forest) → holds p (root_tree c f) ≡ false → without_root c (with_kids p n f) ≡ with_kids p n (without_root c f)
without_root-with_kids c p n empty a = refl
without_root-with_kids c p n (tree l k r) a = grind (arith, without_root-with_kids c p n r)

-- a node that is not in the tree of a root is among the others
pub held_beside : (c p : ℕ) (f : Forest) → holds p (root_tree c f) ≡ false → holds p f ≡ true → holds p (without_root c f) ≡ true
held_beside c p empty a h = absurd cc
held_beside c p (tree l k r) a h = grind (arith, held_beside c p r)

-- ---- a child goes, and a root comes in its stead

pub record IsReplaced (p n c : ℕ) (f g : Forest) : Type 0 where
  pub live : holds p g ≡ true
  pub within : n ≤ arity (kids_of p g)
  pub root : has_root c g ≡ true
  pub apart : holds p (root_tree c g) ≡ false
  pub done : with_kids p (with_nth n (root_tree c g) (kids_of p g)) (without_root c g) ≡ join (with_kids p (set_nth n (root_tree c f) (kids_of p f)) (without_root c f)) (tree_nth n (kids_of p f))

pub replaced : (p n c : ℕ) (f g : Forest) → n < arity (kids_of p f) → has_root c f ≡ true → holds p (root_tree c f) ≡ false → g ≡ join (with_kids p (without_nth n (kids_of p f)) f) (tree_nth n (kids_of p f)) → IsReplaced p n c f g
replaced p n c f g within root apart e =
    let k = kids_of p f in
    let t = tree_nth n k in
    let less = without_nth n k in
    let f1 = with_kids p less f in
    let live : holds p f ≡ true = held_parent n p f within in
    let live1 : holds p f1 ≡ true = holds-with_kids p less f live in
    let root1 : has_root c f1 ≡ true = has_root-with_kids c p less f ∙ root in
    let kids-are : kids_of p g ≡ less = ap (kids_of p) e ∙ kids_of-join_left p f1 t live1 ∙ kids_of-with_kids p less f live in
    let tree-is : root_tree c g ≡ root_tree c f = ap (root_tree c) e ∙ tree-left c f1 t root1 ∙ root_tree-with_kids c p less f apart in
    let rest-is : without_root c g ≡ join (with_kids p less (without_root c f)) t = ap (without_root c) e ∙ without-left c f1 t root1 ∙ ap (λ (x : Forest). join x t) (without_root-with_kids c p less f apart) in
    let beside : holds p (without_root c f) ≡ true = held_beside c p f apart live in
    record {
      live = ap (holds p) e ∙ holds-left p f1 t live1;
      within = omega (arith, ap arity kids-are, arity-without_nth n k within, within);
      root = ap (has_root c) e ∙ root-left c f1 t root1;
      apart = ap (holds p) tree-is ∙ apart;
      done = rw (tree-is, kids-are, rest-is, with_nth-without_nth n (root_tree c f) k within, with_kids-join_left p (set_nth n (root_tree c f) k) (with_kids p less (without_root c f)) t (holds-with_kids p less (without_root c f) beside))
          (ap (λ (x : Forest). join x t) (with_kids-with_kids p (set_nth n (root_tree c f) k) less (without_root c f) beside));
    }
