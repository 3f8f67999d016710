use Rattle.deep_reduce.proofs.Shared.{rules, ap, sym, ◌∙◌, refl, arith, subst, Tree, count, is_add, power, SpansTree, passed_on, forest, free_of, base_in, exponent_in, are_reduced, IsSumHeld}
use Rattle.deep_reduce.proofs.Shared.{addends_of_each, tree_of, IsSumAnswer, ChangesTree, changes_as, changes_last, changes_last_front, children_of, given_handed, given_told, hole_stays}
use Rattle.deep_reduce.proofs.{Shared.{KeepsSumBounds}, Lacking.{exponent_lacks, exponent_spans}, Children.{exponent_told, exponent_set}, exponents.sum_exponent.Goals.{After-fill}}
use Rattle.deep_reduce.proofs.exponents.sum_exponent.Goals as goal

pub reduce_sum-requires : goal.reduce_sum-requires
reduce_sum-requires c =
    let told = exponent_told c.requires.power c.open_child-hole.ensures.child in
    record {
      stands = search rules;
      handed = given_handed c.open_child-hole.ensures.child;
      sum = ap is_add told ∙ ap (λ (t : Tree). is_add (exponent_in t)) c.requires.power;
      some = omega (arith, ap (λ (t : Tree). count (children_of t)) told, c.requires.some);
      reduced = ap (λ (t : Tree). are_reduced (children_of t)) told ∙ c.requires.reduced;
    }

pub returns-in_err-sum : goal.returns-in_err-sum
returns-in_err-sum c =
    let told = exponent_told c.requires.power c.open_child-hole.ensures.child in
    let x : Tree = tree_of c.open_child-hole.result.1 c.open_child-hole.new.pool in
    record {
      ok = search rules;
      front = c.open_child-hole.ensures.front _ _ c.reduce_sum.ensures.front;
      room = λ gs s. passed_on c.from_residual.result c.in_err-sum.field-0.0 _ c.from_residual.ensures.0 c.from_residual.ensures.1
          (exponent_lacks gs (tree_of c.args.power c.args.pool.now) x (free_of c.open_child-hole.new.pool)
          (free_of c.args.pool.now) c.in_err-sum.field-0.0 c.requires.power told c.open_child-hole.ensures.free
          (c.in_err-sum.ensures.room gs (subst (SpansTree gs) (sym told) (exponent_spans gs _ c.requires.power s))));
      bits = λ h l s few.
          passed_on c.from_residual.result c.in_err-sum.field-0.0 _ c.from_residual.ensures.0 c.from_residual.ensures.1
          (c.in_err-sum.ensures.bits h l (subst (λ (t : Tree). IsSumHeld (addends_of_each (children_of t)) h l) (sym told) s) few);
      leaves = search rules;
    }

pub fill-requires : goal.fill-requires
fill-requires c =
    let g = c.in_ok-sum.ensures.ok in
    record { stands = search rules; hole = (_, _, _, hole_stays g c.open_child-hole.ensures.hole); handed = given_handed g }

-- the sum stands where its terms did
summed : (c : After-fill)
    → ChangesTree c.args.power (power (base_in (tree_of c.args.power c.args.pool.now)) (tree_of c.in_ok-sum.sum c.reduce_sum.new.pool)) (forest c.args.pool.now) (forest c.fill.new.pool)
summed c = changes_as (c.fill.ensures.changed _ _ _ (hole_stays c.in_ok-sum.ensures.ok c.open_child-hole.ensures.hole)) (exponent_set _ c.requires.power)

pub move_last-requires-clause-root : goal.move_last-requires-clause-root
move_last-requires-clause-root c = (summed (goal.at.move_last-requires-clause-root c).After-fill).handed.root

pub returns : goal.returns
returns c =
    let told = exponent_told c.requires.power c.open_child-hole.ensures.child in
    let sum = c.in_ok-sum.ensures in
    let v : Tree = tree_of c.in_ok-sum.sum c.reduce_sum.new.pool in
    let p = summed (goal.at.returns c).After-fill in
    record {
      ok = changes_last p c.move_last.ensures.last (record {
        exponent = v;
        sum = subst (λ (t : Tree). IsSumAnswer (children_of t) v) told (given_told sum.ok);
        bounds = subst (λ (t : Tree). KeepsSumBounds (children_of t) v) told sum.bounds;
        is = refl;
      });
      front = changes_last_front p c.move_last.ensures.last;
      room = λ gs s. tt;
      bits = λ h l s few. tt;
      leaves = search rules;
    }
