-- The tree under a root that is handed.
use Rattle.radical_forms.proofs.Shared.{◌≡◌, ◌≢◌, ℕ, ◌<◌, true, false, sym, ap, ◌∙◌, arith, subst, Tree, undef, root, is_num, is_undef, is_root, root_kind, count, State, plain, nth, children_of}
use Rattle.radical_forms.proofs.Shared.{IsExpression, arity, IsHanded, tree_of, kids_of, tree_at, Stands, forest, expression_root, plain_root, expression_children, argument_of}
use Rattle.calc_terms.specs.declared.kind.Kind.TheVariants as kind

-- a root is over its argument
pub root_is : (t : Tree) → is_root t ≡ true → t ≡ root (argument_of t)
root_is t h = grind arith

-- its node has a child
pub has_child : {s : State} {i : ℕ} → Stands s → IsHanded i (forest s) → is_root (tree_of i s) ≡ true → 0 < arity (kids_of i (forest s))
has_child {s = s} {i = i} h o r =
    let e : plain (tree_at i (forest s)) ≡ root (argument_of (tree_of i s)) = plain_root i h o.root ∙ root_is (tree_of i s) r in
    let n : count (children_of (plain (tree_at i (forest s)))) ≡ 1 = ap (λ (t : Tree). count (children_of t)) e in
    omega (arith, expression_children i (forest s) (expression_root h o))

-- which is the argument
pub child_is : {s : State} {i : ℕ} → Stands s → IsHanded i (forest s) → is_root (tree_of i s) ≡ true → nth 0 (children_of (plain (tree_at i (forest s)))) ≡ argument_of (tree_of i s)
child_is {s = s} {i = i} h o r = ap (λ (t : Tree). nth 0 (children_of t)) (plain_root i h o.root ∙ root_is (tree_of i s) r)

-- the tree of that child, as a reader finds it
pub argument_at : (i j k : ℕ) (s : State) → Stands s → IsHanded i (forest s) → is_root (tree_of i s) ≡ true → k ≡ i
    → (IsExpression k (forest s) → plain (tree_at j (forest s)) ≡ nth 0 (children_of (plain (tree_at k (forest s))))) → argument_of (tree_of i s) ≡ plain (tree_at j (forest s))
argument_at i j k s h o r e p =
    sym (subst (λ x. IsExpression x (forest s) → plain (tree_at j (forest s)) ≡ nth 0 (children_of (plain (tree_at x (forest s))))) e p (expression_root h o) ∙ child_is h o r)

-- ---- by kind

pub undef_by_kind : (t : Tree) → root_kind t ≡ kind.Undef → t ≡ undef
undef_by_kind t e = grind arith

pub no_num_by_kind : (t : Tree) → root_kind t ≢ kind.Num → is_num t ≡ false
no_num_by_kind t e = grind arith

pub no_undef_by_kind : (t : Tree) → root_kind t ≢ kind.Undef → is_undef t ≡ false
no_undef_by_kind t e = grind arith
