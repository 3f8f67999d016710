use Rattle.expand_forms.proofs.Shared.{◌≡◌, ◌<◌, ◌+◌, ◌-◌, ◌∙◌, ℕ, ap, refl, sym, subst, arith, children_of, count, forest, plain, polynomial_of, product, product_of, tree_at, IsReady}
use Rattle.expand_forms.proofs.{ValueNodes.{can_name_child, passed}, NodeAnswers.{product_from, product_from_none, product_polynomial_of}, Nodes.{from}, PowersOfSums.{ready_nth}}
use Rattle.expansions.proofs.{ListLaws.{list_as, list_none, list_power}, SameCoefficients.{same_is}}
use Rattle.expansions.specs.Named.{names_of}
use Rattle.expand_forms.proofs.by_values.list_products.Goals as goal

pub loop-left-init : goal.loop-left-init
loop-left-init c =
    let ns = names_of c.args.lists.now.names.items in
    let ts = children_of (plain (tree_at c.args.id (forest c.args.pool.now))) in
    let many = c.children-left.ensures.plain c.requires.expression in
    let one = passed c.power.result c.power.ensures.terms (sym c.is_err.ensures.value ∙ c.if-is_err.false) in
    record {
      names = refl;
      within = omega (arith, many);
      list = list_as (same_is (sym (product_from_none c.children-left.result ts (omega (arith, many))))) (list_power 0 (list_none ns c.requires.names.names c.requires.names.few) one);
    }

pub multiply_child-requires-clause-ready : goal.multiply_child-requires-clause-ready
multiply_child-requires-clause-ready c =
    let ts = children_of (plain (tree_at c.args.id (forest c.args.pool.now))) in
    subst IsReady (sym (c.child_id.ensures.plain c.requires.expression))
    (ready_nth (c.loop-left.left - 1) ts c.requires.children (omega (arith, c.loop-left.invariant.within, c.loop-left-test.true)))

pub multiply_child-requires-clause-names : goal.multiply_child-requires-clause-names
multiply_child-requires-clause-names c = rw c.loop-left.invariant.names (can_name_child (c.loop-left.left - 1) c.requires.names (c.child_id.ensures.plain c.requires.expression))

pub loop-left-preserved : goal.loop-left-preserved
loop-left-preserved c =
    let i = c.loop-left.invariant in
    let n = c.loop-left.left - 1 in
    let ts = children_of (plain (tree_at c.args.id (forest c.args.pool.now))) in
    let some : n < count ts = omega (arith, i.within, c.loop-left-test.true) in
    let behind : c.loop-left.left ≡ n + 1 = omega (arith, c.loop-left-test.true) in
    let child = c.child_id.ensures.plain c.requires.expression in
    let times = c.multiply_child.ensures.list (product_of (from c.loop-left.left ts)) (rw i.names i.list) c.if-not-multiply_child.false in
    record {
      names = c.multiply_child.ensures.names ∙ i.names;
      within = omega (arith, some);
      list = list_as (same_is ((λ j. product (polynomial_of (child j)) (product_of (from (behind j) ts))) ∙ sym (product_from n ts some))) (rw i.names at times);
    }

pub returns-clause-list : goal.returns-clause-list
returns-clause-list c = λ e.
    let t = plain (tree_at c.args.id (forest c.args.pool.now)) in
    let none : c.loop-left.left ≡ 0 = omega (arith, c.loop-left-test.false) in
    list_as (same_is (ap (λ (n : ℕ). product_of (from n (children_of t))) none ∙ product_polynomial_of t c.requires.product)) c.loop-left.invariant.list
