use Rattle.expand_forms.proofs.{Shared.{◌∙◌, ap, arith, subst, sym, IsExpanded, children_number, children_of, forest, has_polynomial_root, is_exponent, plain, tree_at}, NodeKinds.{power_node}}
use Rattle.expand_forms.proofs.PowersOfSums.{exponent_expanded, power_kind, ready_nth, two_children}
use Rattle.expand_forms.proofs.powers_of_sums.has_great_exponent.Goals as goal

pub child_id-requires-clause-within : goal.child_id-requires-clause-within
child_id-requires-clause-within c =
    let t = plain (tree_at c.args.id (forest c.args.pool.now)) in
    omega (arith, two_children t (sym (power_kind t c.requires.power)), children_number c.args.id (forest c.args.pool.now) c.requires.expression)

pub exponent_of-requires : goal.exponent_of-requires
exponent_of-requires c =
    let t = plain (tree_at c.args.id (forest c.args.pool.now)) in
    let k = sym (power_kind t c.requires.power) in
    let child = c.child_id.ensures.plain c.requires.expression in
    let exponent = ap has_polynomial_root (sym (power_node t k)) ∙ c.requires.polynomial in
    record {
      stands = c.requires.stands;
      expression = c.child_id.ensures.expression c.requires.expression;
      expanded = subst IsExpanded (sym child) (exponent_expanded (ready_nth 1 (children_of t) c.requires.children (omega (arith, two_children t k))) exponent);
      small = ap is_exponent child ∙ exponent;
    }
