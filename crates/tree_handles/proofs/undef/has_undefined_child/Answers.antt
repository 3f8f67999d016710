use Rattle.tree_handles.proofs.Shared.{ℕ, suc, ◌≡◌, [], ◌∷◌, ◌++◌, length, ap, ◌∙◌, sym, arith, length-append, is_undef, has_undef, root_ids, children_of, plain}
use Rattle.tree_handles.proofs.{Shared.{rest_trees, tree_at, kids_of, forest}, UndefChildren.{behind, undef_here, undef_later, undef_end}, NextChildren.{next_child, last_child}}
use Rattle.tree_handles.proofs.undef.has_undefined_child.Goals as goal

pub is_undefined-requires-clause-expression : goal.is_undefined-requires-clause-expression
is_undefined-requires-clause-expression c = (next_child c.requires.stands c.requires.expression c.loop-child.invariant.ids c.in-Some.ensures.steps).expression

pub returns-then-is_undefined : goal.returns-then-is_undefined
returns-then-is_undefined c =
    let t = next_child c.requires.stands c.requires.expression c.loop-child.invariant.ids c.in-Some.ensures.steps in
    let ts = children_of (plain (tree_at c.args.id (forest c.args.pool.now))) in
    sym (c.loop-child.invariant.undef ∙ undef_here (length c.loop-child.yielded) ts t.within (ap is_undef (sym t.tree) ∙ sym c.is_undefined.ensures ∙ c.if-is_undefined.true))

pub loop-child-preserved : goal.loop-child-preserved
loop-child-preserved c =
    let t = next_child c.requires.stands c.requires.expression c.loop-child.invariant.ids c.in-Some.ensures.steps in
    let ts = children_of (plain (tree_at c.args.id (forest c.args.pool.now))) in
    let more : suc (length c.loop-child.yielded) ≡ length (c.loop-child.yielded ++ c.in-Some.child ∷ []) = omega (arith, length-append c.loop-child.yielded (c.in-Some.child ∷ [])) in
    record {
      ids = t.left-are ∙ ap (λ (n : ℕ). root_ids (rest_trees n (kids_of c.args.id (forest c.args.pool.now)))) more;
      undef = c.loop-child.invariant.undef ∙ undef_later (length c.loop-child.yielded) ts t.within (ap is_undef (sym t.tree) ∙ sym c.is_undefined.ensures ∙ c.if-is_undefined.false) ∙ ap (λ (n : ℕ). has_undef (behind n ts)) more;
    }

pub returns : goal.returns
returns c =
    let ts = children_of (plain (tree_at c.args.id (forest c.args.pool.now))) in
    sym (c.loop-child.invariant.undef ∙ undef_end (length c.loop-child.yielded) ts (last_child c.requires.stands c.requires.expression c.loop-child.invariant.ids c.in-None.ensures.steps.0))
