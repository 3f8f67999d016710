use Rattle.expand_forms.proofs.Shared.{◌≡◌, ◌∙◌, true, ap, refl, sym, subst, arith, IsExpanded, Tree, children_number, children_of, count, divisor_of, forest, has_polynomial_root, inverse, is_divisor}
use Rattle.expand_forms.proofs.{Shared.{is_zero_fraction, nth, one_value, plain, tree_at, value_of, one_nonzero}, NodeAnswers.{opposite_value}, NodeKinds.{many_children, quotient_node}}
use Rattle.expand_forms.proofs.{PowersOfSums.{divisor_expanded, ready_nth}, NodeParts.{factor_opposite, factor_other, factor_quotient, factor_sign, minus_nonzero}}
use Rattle.expand_forms.proofs.parts.factor_at.Goals as goal

pub returns-in-Neg : goal.returns-in-Neg
returns-in-Neg c = let minus = opposite_value c.whole.result c.whole.ensures in record {
  value = minus ∙ factor_opposite (plain (tree_at c.args.id (forest c.args.pool.now))) c.args.at (sym c.in-Neg.is ∙ c.kind.ensures.plain c.requires.expression);
  nonzero = ap is_zero_fraction minus ∙ minus_nonzero;
}

pub returns-in-Sub : goal.returns-in-Sub
returns-in-Sub c = record {
  value = factor_sign (plain (tree_at c.args.id (forest c.args.pool.now))) c.args.at (value_of c.sign_at.result)
      (sym c.in-Sub.is ∙ c.kind.ensures.plain c.requires.expression) c.sign_at.ensures.first c.sign_at.ensures.second;
  nonzero = c.sign_at.ensures.nonzero;
}

pub child_id-requires-clause-within : goal.child_id-requires-clause-within
child_id-requires-clause-within c =
    let t = plain (tree_at c.args.id (forest c.args.pool.now)) in
    let two : count (children_of t) ≡ 2 = many_children (quotient_node t (sym c.in-Div.is ∙ c.kind.ensures.plain c.requires.expression)) refl in
    omega (arith, two, children_number c.args.id (forest c.args.pool.now) c.requires.expression)

pub inverse_divisor-requires : goal.inverse_divisor-requires
inverse_divisor-requires c =
    let t = plain (tree_at c.args.id (forest c.args.pool.now)) in
    let node = quotient_node t (sym c.in-Div.is ∙ c.kind.ensures.plain c.requires.expression) in
    let two : count (children_of t) ≡ 2 = many_children node refl in
    let divisor : is_divisor (nth 1 (children_of t)) ≡ true = ap has_polynomial_root (sym node) ∙ c.requires.polynomial in
    record {
      stands = c.requires.stands;
      expression = c.child_id.ensures.expression c.requires.expression;
      expanded = subst IsExpanded (sym (c.child_id.ensures.plain c.requires.expression)) (divisor_expanded (ready_nth 1 (children_of t) c.requires.children (omega (arith, two))) divisor);
      divisor = ap is_divisor (c.child_id.ensures.plain c.requires.expression) ∙ divisor;
    }

pub returns-in-Div : goal.returns-in-Div
returns-in-Div c = let t = plain (tree_at c.args.id (forest c.args.pool.now)) in record {
  value = c.inverse_divisor.ensures.value ∙ ap (λ (d : Tree). inverse (divisor_of d)) (c.child_id.ensures.plain c.requires.expression)
      ∙ factor_quotient t c.args.at (sym c.in-Div.is ∙ c.kind.ensures.plain c.requires.expression);
  nonzero = c.inverse_divisor.ensures.nonzero;
}

pub returns-in_default : goal.returns-in_default
returns-in_default c = let k = c.kind.ensures.plain c.requires.expression in let one = one_value c.whole-in_default.result c.whole-in_default.ensures in record {
  value = one ∙ factor_other (plain (tree_at c.args.id (forest c.args.pool.now))) c.args.at (λ e. c.in_default.not-Neg (k ∙ sym e)) (λ e. c.in_default.not-Sub (k ∙ sym e))
      (λ e. c.in_default.not-Div (k ∙ sym e));
  nonzero = ap is_zero_fraction one ∙ one_nonzero;
}
