use Rattle.expand_forms.proofs.{Shared.{◌<◌, sym, subst, arith, IsExpanded, arity, children_number, children_of, forest, kids_of, plain, tree_at, value_of, IsReady}, NodeChildren.{expanded_nth}}
use Rattle.expand_forms.proofs.{NodeParts.{part_next, parts_within}, PowersOfSums.{ready_nth}, Within.{inside_child}}
use Rattle.expand_forms.proofs.parts.part_at.Goals as goal

pub child_id-requires-clause-within : goal.child_id-requires-clause-within
child_id-requires-clause-within c =
    let f = forest c.args.pool.now in omega (arith, parts_within (plain (tree_at c.args.id f)) c.args.at c.requires.within, children_number c.args.id f c.requires.expression)

pub returns : goal.returns
returns c =
    let f = forest c.args.pool.now in
    let t = plain (tree_at c.args.id f) in
    let within = parts_within t c.args.at c.requires.within in
    let few : c.args.at < arity (kids_of c.args.id f) = omega (arith, within, children_number c.args.id f c.requires.expression) in
    let child = c.child_id.ensures.plain c.requires.expression in
    record {
      part = part_next t (plain (tree_at c.child_id.result f)) c.args.at (value_of c.factor_at.result) c.requires.within c.factor_at.ensures.value child;
      nonzero = c.factor_at.ensures.nonzero;
      expression = c.child_id.ensures.expression c.requires.expression;
      inside = inside_child c.args.at c.args.id c.child_id.result f c.requires.expression.live few c.child_id.ensures.value;
      child = child;
      ready = subst IsReady (sym child) (ready_nth c.args.at (children_of t) c.requires.children within);
      expanded = λ h. subst IsExpanded (sym child) (expanded_nth c.args.at (children_of t) h within);
    }
