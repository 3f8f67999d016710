use Rattle.expand_forms.proofs.Shared.{◌≡◌, ◌∙◌, ap, refl, sym, subst, arith, IsExpanded, children_number, children_of, count, exponent_of, forest, has_polynomial_root, is_exponent, plain, tree_at}
use Rattle.expand_forms.proofs.{NodeKinds.{many_children, power_node, second_expanded}, NodeParts.{power_number, product_number}}
use Rattle.expand_forms.proofs.parts.factor_number.Goals as goal

pub child_id-requires-clause-within : goal.child_id-requires-clause-within
child_id-requires-clause-within c =
    let t = plain (tree_at c.args.id (forest c.args.pool.now)) in
    let two : count (children_of t) ≡ 2 = many_children (power_node t (sym c.in-Pow.is ∙ c.kind.ensures.plain c.requires.expression)) refl in
    omega (arith, two, children_number c.args.id (forest c.args.pool.now) c.requires.expression)

pub exponent_of-requires : goal.exponent_of-requires
exponent_of-requires c =
    let t = plain (tree_at c.args.id (forest c.args.pool.now)) in
    let node = power_node t (sym c.in-Pow.is ∙ c.kind.ensures.plain c.requires.expression) in
    let two : count (children_of t) ≡ 2 = many_children node refl in record {
      stands = c.requires.stands;
      expression = c.child_id.ensures.expression c.requires.expression;
      expanded = subst IsExpanded (sym (c.child_id.ensures.plain c.requires.expression)) (second_expanded t c.requires.children two);
      small = ap is_exponent (c.child_id.ensures.plain c.requires.expression) ∙ ap has_polynomial_root (sym node) ∙ c.requires.polynomial;
    }

pub returns-in-Pow : goal.returns-in-Pow
returns-in-Pow c =
    let t = plain (tree_at c.args.id (forest c.args.pool.now)) in
    c.from.ensures ∙ c.exponent_of.ensures ∙ ap exponent_of (c.child_id.ensures.plain c.requires.expression) ∙ power_number t (sym c.in-Pow.is ∙ c.kind.ensures.plain c.requires.expression)

pub returns-in_default : goal.returns-in_default
returns-in_default c =
    c.children.ensures.plain c.requires.expression
    ∙ product_number (plain (tree_at c.args.id (forest c.args.pool.now))) c.requires.factors (λ e. c.in_default.not-Pow (c.kind.ensures.plain c.requires.expression ∙ sym e))
