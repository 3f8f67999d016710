use Rattle.expand_forms.proofs.Shared.{children_number, List, Term, IsListOf, list_power, ◌≡◌, ◌∙◌, ap, arith, sym, subst, true, raised, IsExpanded, children_of, exponent_of, forest, has_polynomial_root, is_exponent, nth, plain}
use Rattle.expand_forms.proofs.{Shared.{polynomial_of, tree_at, IsReady}, NodeKinds.{power_node}, PowersOfSums.{exponent_expanded, ready_nth, two_children}, ValueNodes.{can_name_child, went}}
use Rattle.expansions.proofs.{ListLaws.{list_as}, SameCoefficients.{same_is}}
use Rattle.expansions.specs.Named.{names_of}
use Rattle.expand_forms.proofs.by_values.list_power.Goals as goal

pub child_id-requires-clause-within : goal.child_id-requires-clause-within
child_id-requires-clause-within c = omega (arith, two_children (plain (tree_at c.args.id (forest c.args.pool.now))) c.requires.power, children_number c.args.id (forest c.args.pool.now) c.requires.expression)

pub child_id-requires-2-clause-within : goal.child_id-requires-2-clause-within
child_id-requires-2-clause-within c = omega (arith, two_children (plain (tree_at c.args.id (forest c.args.pool.now))) c.requires.power, children_number c.args.id (forest c.args.pool.now) c.requires.expression)

pub exponent_of-exponent-requires : goal.exponent_of-exponent-requires
exponent_of-exponent-requires c =
    let t = plain (tree_at c.args.id (forest c.args.pool.now)) in
    let child = c.child_id.ensures.plain c.requires.expression in
    let exponent : is_exponent (nth 1 (children_of t)) ≡ true = ap has_polynomial_root (sym (power_node t c.requires.power)) ∙ c.requires.polynomial in record {
      stands = c.requires.stands;
      expression = c.child_id.ensures.expression c.requires.expression;
      expanded = subst IsExpanded (sym child) (exponent_expanded (ready_nth 1 (children_of t) c.requires.children (omega (arith, two_children t c.requires.power))) exponent);
      small = ap is_exponent child ∙ exponent;
    }

pub list_child-requires : goal.list_child-requires
list_child-requires c = let t = plain (tree_at c.args.id (forest c.args.pool.now)) in let child = c.child_id-2.ensures.plain c.requires.expression in record {
  stands = c.requires.stands;
  expression = c.child_id-2.ensures.expression c.requires.expression;
  ready = subst IsReady (sym child) (ready_nth 0 (children_of t) c.requires.children (omega (arith, two_children t c.requires.power)));
  names = can_name_child 0 c.requires.names child;
}

pub returns-clause-list : goal.returns-clause-list
returns-clause-list c = λ e.
    let t = plain (tree_at c.args.id (forest c.args.pool.now)) in
    let base = c.child_id-2.ensures.plain c.requires.expression in
    let exponent = c.exponent_of-exponent.ensures ∙ ap exponent_of (c.child_id.ensures.plain c.requires.expression) in
    let ns = names_of c.args.lists.now.names.items in
    let w = polynomial_of (plain (tree_at c.child_id-2.result (forest c.args.pool.now))) in
    let child = c.list_child.ensures.list c.if-not-list_child.false in
    list_as (same_is ((λ i. raised (polynomial_of (base i)) (exponent i)) ∙ ap polynomial_of (sym (power_node t c.requires.power))))
    (list_power c.exponent_of-exponent.result (subst (λ (ts : List Term). IsListOf ns ts w) (sym c.deref-2.ensures.value) child)
    (went c.power.result c.power.ensures.terms (sym c.is_ok.ensures.value ∙ e)))
