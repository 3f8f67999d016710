-- A node below another one, beside the last tree.
use Rattle.expand_forms.proofs.Shared.{arith, ◌≡◌, ◌<◌, ℕ, Bool, true, false, cond, eqb, ap, ◌∙◌, eq-eqb, tree_at-join_left, or_true, at, root_held, IsExpression, plain, Forest, arity, root_id}
use Rattle.expand_forms.proofs.Shared.{tree_nth, Gives, holds, kids_of, tree_at, Tree, holds-tree_at, nth_root}

pub inside_itself : (i : ℕ) (f : Forest) → holds i f ≡ true → holds i (tree_at i f) ≡ true
inside_itself i f h =
    let p = at i f h in
    ap (holds i) p.tree-is ∙ ap (λ (b : Bool). cond b true (cond (holds i (kids_of i f)) true false)) (eq-eqb p.label.id i p.id-is)

pub inside_child : (n i x : ℕ) (f : Forest) → holds i f ≡ true → n < arity (kids_of i f) → x ≡ root_id (tree_nth n (kids_of i f)) → holds x (tree_at i f) ≡ true
inside_child n i x f h l e =
    let p = at i f h in
    let k = kids_of i f in
    let below : holds x k ≡ true = ap (λ (y : ℕ). holds y k) e ∙ root_held (root_id (tree_nth n k)) k (nth_root n k l) in
    ap (holds x) p.tree-is ∙ ap (λ (b : Bool). cond (eqb p.label.id x) true (cond b true false)) below ∙ or_true (eqb p.label.id x)

-- it stands beside the last tree, too
pub record IsWithin (j : ℕ) (g f : Forest) : Type 0 where
  pub expression : IsExpression j g
  pub same : plain (tree_at j f) ≡ plain (tree_at j g)

pub within : {g f : Forest} {i b j : ℕ} {P : Tree → Type 0} → Gives g f i P → IsExpression b g → holds j (tree_at b f) ≡ true → IsExpression j f → IsWithin j g f
within e h k x = grind (arith, holds-tree_at, tree_at-join_left)
