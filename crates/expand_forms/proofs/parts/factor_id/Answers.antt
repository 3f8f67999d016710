use Rattle.expand_forms.proofs.{Shared.{◌≡◌, ◌<◌, ◌∙◌, refl, sym, arith, arity, children_number, children_of, count, forest, kids_of, plain, tree_at}, NodeKinds.{many_children, power_node}}
use Rattle.expand_forms.proofs.{NodeParts.{power_factor, product_factor}, Within.{inside_child}}
use Rattle.expand_forms.proofs.parts.factor_id.Goals as goal

pub child_id-requires-clause-within : goal.child_id-requires-clause-within
child_id-requires-clause-within c =
    let t = plain (tree_at c.args.id (forest c.args.pool.now)) in
    let two : count (children_of t) ≡ 2 = many_children (power_node t (sym c.in-Pow.is ∙ c.kind.ensures.plain c.requires.expression)) refl in
    omega (arith, two, children_number c.args.id (forest c.args.pool.now) c.requires.expression)

pub returns-in-Pow : goal.returns-in-Pow
returns-in-Pow c =
    let f = forest c.args.pool.now in
    let t = plain (tree_at c.args.id f) in
    let k = sym c.in-Pow.is ∙ c.kind.ensures.plain c.requires.expression in
    let two : count (children_of t) ≡ 2 = many_children (power_node t k) refl in
    let few : 0 < arity (kids_of c.args.id f) = omega (arith, two, children_number c.args.id f c.requires.expression) in
    record {
      expression = c.child_id.ensures.expression c.requires.expression;
      inside = inside_child 0 c.args.id c.child_id.result f c.requires.expression.live few c.child_id.ensures.value;
      factor = c.child_id.ensures.plain c.requires.expression ∙ power_factor t c.args.at k c.requires.within;
    }

pub child_id-requires-in_default-clause-within : goal.child_id-requires-in_default-clause-within
child_id-requires-in_default-clause-within c =
    let f = forest c.args.pool.now in
    let t = plain (tree_at c.args.id f) in
    let factor = product_factor t c.args.at (λ e. c.in_default.not-Pow (c.kind.ensures.plain c.requires.expression ∙ sym e)) c.requires.within in
    omega (arith, factor.0, children_number c.args.id f c.requires.expression)

pub returns-in_default : goal.returns-in_default
returns-in_default c =
    let f = forest c.args.pool.now in
    let t = plain (tree_at c.args.id f) in
    let factor = product_factor t c.args.at (λ e. c.in_default.not-Pow (c.kind.ensures.plain c.requires.expression ∙ sym e)) c.requires.within in
    let few : c.args.at < arity (kids_of c.args.id f) = omega (arith, factor.0, children_number c.args.id f c.requires.expression) in
    record {
      expression = c.child_id-in_default.ensures.expression c.requires.expression;
      inside = inside_child c.args.at c.args.id c.child_id-in_default.result f c.requires.expression.live few c.child_id-in_default.ensures.value;
      factor = c.child_id-in_default.ensures.plain c.requires.expression ∙ factor.1;
    }
