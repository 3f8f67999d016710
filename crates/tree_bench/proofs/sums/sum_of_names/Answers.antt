use Rattle.tree_bench.proofs.Shared.{◌≡◌, ◌≤◌, ◌∙◌, ap, refl, arith, is_reduced, are_reduced, count, tree_of, forest, given_root, given_told, root_held, terms_in, count_inserted, reduced_inserted}
use Rattle.tree_bench.proofs.Shared.{put_in, roots_apart, empty_sum, empty_terms, placed, symbol_monic}
use Rattle.tree_bench.proofs.sums.sum_of_names.Goals as goal

pub loop-number-init : goal.loop-number-init
loop-number-init c = record {
  sum = empty_sum (c.in_ok-sum.ensures.given refl);
  reduced = ap are_reduced (empty_terms (c.in_ok-sum.ensures.given refl));
  many = omega arith;
  stands = c.in_ok-sum.ensures.stands;
}

pub add_child-requires-clause-live : goal.add_child-requires-clause-live
add_child-requires-clause-live c =
    let t = (placed c.loop-number.invariant.sum c.in_ok-term.ensures.given).takes in
    root_held c.in_ok-sum.sum _ t.sum.handed.root

pub add_child-requires-clause-root : goal.add_child-requires-clause-root
add_child-requires-clause-root c = given_root c.in_ok-term.ensures.given

pub add_child-requires-clause-apart : goal.add_child-requires-clause-apart
add_child-requires-clause-apart c =
    let t = (placed c.loop-number.invariant.sum c.in_ok-term.ensures.given).takes in
    roots_apart c.in_ok-term.ensures.stands t

pub loop-number-preserved : goal.loop-number-preserved
loop-number-preserved c =
    let i = c.loop-number.invariant in
    let r = placed i.sum c.in_ok-term.ensures.given in
    let x = put_in 0 r.takes (c.add_child.ensures.root r.takes.sum.handed.root) in
    record {
      sum = x.changes.sum;
      reduced = ap are_reduced x.terms ∙ reduced_inserted 0 _ _ (ap is_reduced (given_told c.in_ok-term.ensures.given) ∙ (symbol_monic _).reduced) (ap are_reduced r.terms ∙ i.reduced);
      many = omega (arith, i.many, ap count x.terms, count_inserted 0 (tree_of c.in_ok-term.term c.symbol.new.pool) (terms_in c.in_ok-sum.sum (forest c.symbol.new.pool)), ap count r.terms);
      stands = c.add_child.ensures.stands;
    }

pub returns-clause-handed : goal.returns-clause-handed
returns-clause-handed c = c.loop-number.invariant.sum.handed

pub returns-clause-sum : goal.returns-clause-sum
returns-clause-sum c = c.loop-number.invariant.sum.sum

pub returns-clause-some : goal.returns-clause-some
returns-clause-some c = omega (arith, c.loop-number.invariant.many, c.loop-number-test.false, c.requires.some)

pub returns-clause-reduced : goal.returns-clause-reduced
returns-clause-reduced c = c.loop-number.invariant.reduced
