use Rattle.expand_forms.proofs.Shared.{◌≡◌, ◌<◌, ◌∙◌, ◌∷◌, ◌++◌, [], ℕ, suc, ap, sym, length, arith, true, false, length-append, nodes, are_polynomials, is_polynomial, root_ids, children_of, nth}
use Rattle.expand_forms.proofs.{Shared.{plain, rest_trees, tree_at, kids_of, forest, next_child, last_child}, Nodes.{by_children, by_root, fewer_nodes, from, next_is, next_is_not, none_left}}
use Rattle.expand_forms.proofs.polynomial.+is_polynomial.Goals as goal

pub returns-then-not-has_polynomial_root : goal.returns-then-not-has_polynomial_root
returns-then-not-has_polynomial_root t c = sym (by_root (plain (tree_at c.args.tree (forest c.args.pool.now))) (sym c.has_polynomial_root.ensures ∙ c.if-not-has_polynomial_root.true))

pub loop-child-init : goal.loop-child-init
loop-child-init t c = record {
  ids = c.into_iter-child-iterator.ensures.into_iter_gives ∙ c.child_ids-child-items.ensures;
  left = by_children (plain (tree_at c.args.tree (forest c.args.pool.now))) (sym c.has_polynomial_root.ensures ∙ c.if-not-has_polynomial_root.false);
}

pub is_polynomial-requires : goal.is_polynomial-requires
is_polynomial-requires t c =
    let n = next_child c.requires.stands c.requires.expression c.loop-child.invariant.ids c.in-Some.ensures.steps in
    let less : nodes (plain (tree_at c.in-Some.child (forest c.args.pool.now))) < t =
    omega (arith, ap nodes n.tree, fewer_nodes (length c.loop-child.yielded) (plain (tree_at c.args.tree (forest c.args.pool.now))) n.within, c.decreases) in
    (less, (c.requires.stands, n.expression))

pub returns-then-not-is_polynomial : goal.returns-then-not-is_polynomial
returns-then-not-is_polynomial t c =
    let n = next_child c.requires.stands c.requires.expression c.loop-child.invariant.ids c.in-Some.ensures.steps in
    let not_this : is_polynomial (nth (length c.loop-child.yielded) (children_of (plain (tree_at c.args.tree (forest c.args.pool.now))))) ≡ false =
    ap is_polynomial (sym n.tree) ∙ sym c.is_polynomial.ensures ∙ c.if-not-is_polynomial.true in
    sym (next_is_not (length c.loop-child.yielded) (children_of (plain (tree_at c.args.tree (forest c.args.pool.now)))) n.within not_this) ∙ c.loop-child.invariant.left

pub loop-child-preserved : goal.loop-child-preserved
loop-child-preserved t c =
    let more : suc (length c.loop-child.yielded) ≡ length (c.loop-child.yielded ++ c.in-Some.child ∷ []) = omega (arith, length-append c.loop-child.yielded (c.in-Some.child ∷ [])) in
    let n = next_child c.requires.stands c.requires.expression c.loop-child.invariant.ids c.in-Some.ensures.steps in
    let ts = children_of (plain (tree_at c.args.tree (forest c.args.pool.now))) in
    let this : is_polynomial (nth (length c.loop-child.yielded) ts) ≡ true = ap is_polynomial (sym n.tree) ∙ sym c.is_polynomial.ensures ∙ c.if-not-is_polynomial.false in
    record {
      ids = n.left-are ∙ ap (λ (k : ℕ). root_ids (rest_trees k (kids_of c.args.tree (forest c.args.pool.now)))) more;
      left = ap (λ (k : ℕ). are_polynomials (from k ts)) (sym more) ∙ sym (next_is (length c.loop-child.yielded) ts n.within this) ∙ c.loop-child.invariant.left;
    }

pub returns : goal.returns
returns t c =
    sym (none_left (length c.loop-child.yielded) (children_of (plain (tree_at c.args.tree (forest c.args.pool.now))))
    (last_child c.requires.stands c.requires.expression c.loop-child.invariant.ids c.in-None.ensures.steps.0)) ∙ c.loop-child.invariant.left
