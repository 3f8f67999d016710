use Rattle.expand_forms.proofs.Shared.{◌∙◌, List, length, ap, arith, sym, subst, names, Name, Term, AreNames, IsListOf, raised, AreAmong, IsExpanded, children_number, children_of, exponent_of, forest}
use Rattle.expand_forms.proofs.{Shared.{has_polynomial_root, is_exponent, plain, polynomial_of, tree_at, list_as, list_power, names_length, same_is}, NodeChildren.{expanded_nth}}
use Rattle.expand_forms.proofs.{NodeKinds.{power_node}, PowersOfSums.{power_kind, ready_power, two_children}, ValueNodes.{can_name_child, passed, went}}
use Rattle.expansions.specs.Named.{names_of}
use Rattle.expand_forms.proofs.by_values.list_raised.Goals as goal

pub child_id-base-requires-clause-within : goal.child_id-base-requires-clause-within
child_id-base-requires-clause-within c =
    let t = plain (tree_at c.args.child (forest c.args.pool.now)) in
    omega (arith, two_children t (sym (power_kind t c.requires.power)), children_number c.args.child (forest c.args.pool.now) c.requires.expression)

pub read_terms-requires : goal.read_terms-requires
read_terms-requires c =
    let t = plain (tree_at c.args.child (forest c.args.pool.now)) in
    let base = c.child_id-base.ensures.plain c.requires.expression in
    let two = two_children t (sym (power_kind t c.requires.power)) in
    let name = can_name_child 0 c.requires.names base in
    record {
      stands = c.requires.stands;
      expression = c.child_id-base.ensures.expression c.requires.expression;
      expanded = subst IsExpanded (sym base) (expanded_nth 0 (children_of t) (ready_power c.requires.ready c.requires.power).1 (omega (arith, two)));
      names = subst (λ (xs : List Name). AreNames (names_of xs)) (sym c.deref.ensures.value) name.names;
      few = omega (arith, ap length c.deref.ensures.value, names_length c.args.lists.now.names.items, name.few);
      named = subst (λ (xs : List Name). AreAmong (names_of xs) (names (plain (tree_at c.child_id-base.result (forest c.args.pool.now))))) (sym c.deref.ensures.value) name.all;
    }

pub child_id-requires-clause-within : goal.child_id-requires-clause-within
child_id-requires-clause-within c =
    let t = plain (tree_at c.args.child (forest c.args.pool.now)) in
    omega (arith, two_children t (sym (power_kind t c.requires.power)), children_number c.args.child (forest c.args.pool.now) c.requires.expression)

pub exponent_of-exponent-requires : goal.exponent_of-exponent-requires
exponent_of-exponent-requires c =
    let t = plain (tree_at c.args.child (forest c.args.pool.now)) in
    let k = sym (power_kind t c.requires.power) in
    let child = c.child_id.ensures.plain c.requires.expression in
    let (root, children) = ready_power c.requires.ready c.requires.power in
    record {
      stands = c.requires.stands;
      expression = c.child_id.ensures.expression c.requires.expression;
      expanded = subst IsExpanded (sym child) (expanded_nth 1 (children_of t) children (omega (arith, two_children t k)));
      small = ap is_exponent child ∙ ap has_polynomial_root (sym (power_node t k)) ∙ root;
    }

pub returns-clause-list : goal.returns-clause-list
returns-clause-list c = λ e.
    let t = plain (tree_at c.args.child (forest c.args.pool.now)) in
    let k = sym (power_kind t c.requires.power) in
    let ns = names_of c.args.lists.now.names.items in
    let w = polynomial_of (plain (tree_at c.child_id-base.result (forest c.args.pool.now))) in
    let base = c.child_id-base.ensures.plain c.requires.expression in
    let exponent = c.exponent_of-exponent.ensures ∙ ap exponent_of (c.child_id.ensures.plain c.requires.expression) in
    let read = passed c.read_terms.result c.read_terms.ensures.terms (sym c.is_err.ensures.value ∙ c.if-is_err.false) in
    let list = subst (λ (xs : List Name). IsListOf (names_of xs) c.read_terms.new.list.items w) c.deref.ensures.value read in
    list_as (same_is ((λ i. raised (polynomial_of (base i)) (exponent i)) ∙ ap polynomial_of (sym (power_node t k))))
    (list_power c.exponent_of-exponent.result (subst (λ (ts : List Term). IsListOf ns ts w) (sym c.deref-3.ensures.value) list)
    (went c.power.result c.power.ensures.terms (sym c.is_ok.ensures.value ∙ e)))
