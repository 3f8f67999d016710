use Rattle.calc_session.proofs.Shared.{◌≡◌, ◌∙◌, refl, sym, ap, subst, arith, All, states, equations_in, values, flatten, free_of, IsExpression, forest, CountsRefusal, keeps_after, reason_of}
use Rattle.calc_session.proofs.{Shared.{refusal_in, Become, are_made, are_not_made}, PoolLemmas.{old_below, still_counted}, SolvingLemmas.{calm_refusal, on_ok}}
use Rattle.std.proofs.Common.{length}
use Rattle.calc_session.proofs.SolvingLemmas.{err_as}
use Rattle.calc_terms.proofs.SmallLaws.{if_ok_map as ok_as}
use Rattle.calc_session.proofs.solving.solve_read.Goals as goal

pub roll_back-requires : goal.roll_back-requires
roll_back-requires g c = record { stands = c.build_equations.ensures.stands; below = (forest c.args.pool.now, old_below (c.open_mark-mark.ensures.trees c.requires.stands) c.build_equations.ensures.front) }

pub roll_back-requires-in-Err : goal.roll_back-requires-in-Err
roll_back-requires-in-Err g c = record { stands = c.build_equations.ensures.stands; below = (forest c.args.pool.now, old_below (c.open_mark-mark.ensures.trees c.requires.stands) c.build_equations.ensures.front) }

pub returns-in-Err : goal.returns-in-Err
returns-in-Err g c =
    let back = c.roll_back-in-Err.ensures in
    record {
      solved = λ es reads. tt;
      refused = λ es reads. are_not_made (c.in-Err.ensures.refused es reads) refl;
      calm = tt;
      interrupted = calm_refusal c.in-Err.refusal (states g.B.Breaker.state c.args.watch.now) c.in-Err.ensures.no_breaker;
      counted_ok = tt;
      counted = still_counted (refusal_in (reason_of c.in-Err.refusal)) c.args.pool.now c.build_equations.new.pool c.roll_back-in-Err.new.pool c.in-Err.ensures.counted back.kept;
      as_before = back.stands.flat ∙ ap flatten (back.forest (forest c.args.pool.now) (old_below (c.open_mark-mark.ensures.trees c.requires.stands) c.build_equations.ensures.front)) ∙ sym c.requires.stands.flat;
      stands = back.stands;
    }

pub returns-in-Ok-clause-as_before : goal.returns-in-Ok-clause-as_before
returns-in-Ok-clause-as_before g c =
    c.roll_back.ensures.stands.flat ∙ ap flatten (c.roll_back.ensures.forest (forest c.args.pool.now) (old_below (c.open_mark-mark.ensures.trees c.requires.stands) c.build_equations.ensures.front)) ∙ sym c.requires.stands.flat

pub solve_trees-solved-requires : goal.solve_trees-solved-requires
solve_trees-solved-requires g c = record {
  stands = c.build_equations.ensures.stands;
  left = subst (All (λ i. IsExpression i (forest c.build_equations.new.pool))) (sym c.as_slice.ensures.value) c.in-Ok.ensures.roots.left_expressions;
  right = subst (All (λ i. IsExpression i (forest c.build_equations.new.pool))) (sym c.as_slice-in-Ok.ensures.value) c.in-Ok.ensures.roots.right_expressions;
  pairs = ap length c.as_slice-in-Ok.ensures.value ∙ c.in-Ok.ensures.roots.right_many ∙ sym c.in-Ok.ensures.roots.left_many ∙ sym (ap length c.as_slice.ensures.value);
  few = omega (arith, ap length c.as_slice.ensures.value, c.in-Ok.ensures.roots.left_many, c.requires.few);
}

pub returns-in-Ok-clause-solved : goal.returns-in-Ok-clause-solved
returns-in-Ok-clause-solved g c = λ es reads.
    let same : equations_in (forest c.build_equations.new.pool) c.build_equations.new.roots.left.items c.build_equations.new.roots.right.items ≡ equations_in (forest c.build_equations.new.pool) c.as_slice.result.now c.as_slice-in-Ok.result.now
    = λ i. equations_in (forest c.build_equations.new.pool) ((sym c.as_slice.ensures.value) i) ((sym c.as_slice-in-Ok.ensures.value) i) in
    ok_as c.solve_trees-solved.result c.solve_trees-solved.ensures.solved (λ s h. (free_of c.build_equations.new.pool, equations_in (forest c.build_equations.new.pool) c.as_slice.result.now c.as_slice-in-Ok.result.now, subst (λ bs. Become (values c.args.table.now (forest c.args.pool.now)) (free_of c.args.pool.now) es (free_of c.build_equations.new.pool) bs) same (c.in-Ok.ensures.built es reads), h))

pub returns-in-Ok-clause-refused : goal.returns-in-Ok-clause-refused
returns-in-Ok-clause-refused g c = λ es reads.
    let same : equations_in (forest c.build_equations.new.pool) c.build_equations.new.roots.left.items c.build_equations.new.roots.right.items ≡ equations_in (forest c.build_equations.new.pool) c.as_slice.result.now c.as_slice-in-Ok.result.now
    = λ i. equations_in (forest c.build_equations.new.pool) ((sym c.as_slice.ensures.value) i) ((sym c.as_slice-in-Ok.ensures.value) i) in
    err_as c.solve_trees-solved.result (c.solve_trees-solved.ensures.refused (free_of c.args.pool.now)) (λ r h. are_made (subst (λ bs. Become (values c.args.table.now (forest c.args.pool.now)) (free_of c.args.pool.now) es (free_of c.build_equations.new.pool) bs) same (c.in-Ok.ensures.built es reads)) h)

pub returns-in-Ok-clause-counted_ok : goal.returns-in-Ok-clause-counted_ok
returns-in-Ok-clause-counted_ok g c = on_ok c.solve_trees-solved.result _ (keeps_after c.args.pool.now c.build_equations.new.pool c.roll_back.new.pool c.in-Ok.ensures.kept c.roll_back.ensures.kept)

pub returns-in-Ok-clause-counted : goal.returns-in-Ok-clause-counted
returns-in-Ok-clause-counted g c = err_as c.solve_trees-solved.result c.solve_trees-solved.ensures.no_pool (λ r none. subst (λ x. CountsRefusal x c.args.pool.now c.roll_back.new.pool) (sym none) (keeps_after c.args.pool.now c.build_equations.new.pool c.roll_back.new.pool c.in-Ok.ensures.kept c.roll_back.ensures.kept))
