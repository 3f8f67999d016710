use Rattle.calc_session.proofs.Shared.{◌≡◌, suc, map, take, refl, sym, ap, subst, arith, All, solving_checks, length-map, states, name_of, AreDistinct, IsLinearIn, equations_in, OfOverflow}
use Rattle.calc_session.proofs.Shared.{StopsAfter, solving, misfit_of, forest, names_listed, not_linear, refused, IsReplyToSolve, are_not_linear, have_too_many_names, rises_distinct}
use Rattle.calc_session.proofs.{SolutionMeanings.{linear_in}, SolvingLemmas.{calm_refusal, found_within, names_same, none_there, unsolved_reply}}
use Rattle.std.proofs.Common.{ℕ, ◌+◌, ◌≤◌, List, length}
use Rattle.std.specs.Prelude.{Err}
use Rattle.calc_session.specs.declared.answers.Refusal.TheVariants as refusal
use Rattle.calc_session.proofs.solving.solve_trees.Goals as goal

pub names_in-requires : goal.names_in-requires
names_in-requires g c = record { stands = c.requires.stands; left = c.requires.left; right = c.requires.right; pairs = c.requires.pairs }

pub first_not_linear-requires : goal.first_not_linear-requires
first_not_linear-requires g c = record { stands = c.requires.stands; left = c.requires.left; right = c.requires.right; pairs = c.requires.pairs }

pub returns-in_default : goal.returns-in_default
returns-in_default g c = record {
  solved = tt;
  refused = λ room. have_too_many_names (c.in_default.ensures.none refl) refl;
  no_pool = refl;
  calm = tt;
  interrupted = calm_refusal refusal.TooMany (states g.B.Breaker.state c.args.watch.now) (λ place e. cc);
}

pub overflow_cast-equation : goal.overflow_cast-equation
overflow_cast-equation g c =
    let within = found_within (forest c.args.pool.now) c.args.left.now c.args.right.now c.in-Some-first_not_linear.at c.requires.pairs c.in-Some-first_not_linear.ensures in
    omega (arith, within, c.requires.few)

pub overflow_add-equation : goal.overflow_add-equation
overflow_add-equation g c =
    let within = found_within (forest c.args.pool.now) c.args.left.now c.args.right.now c.in-Some-first_not_linear.at c.requires.pairs c.in-Some-first_not_linear.ensures in
    omega (arith, within, c.requires.few)

pub returns-in-Some-first_not_linear : goal.returns-in-Some-first_not_linear
returns-in-Some-first_not_linear g c = record {
  solved = tt;
  refused = λ room.
      let one : suc c.in-Some-first_not_linear.at ≡ c.in-Some-first_not_linear.at + 1 = omega arith in
      let few : length (names_listed c.in-Some.names.items) ≤ 6 = omega (arith, length-map c.in-Some.names.items (λ l. name_of l.name), c.as_slice.ensures.fits, ap length c.as_slice.ensures.value) in
      subst (λ (k : ℕ). IsReplyToSolve room (equations_in (forest c.args.pool.now) c.args.left.now c.args.right.now) (states g.B.Breaker.state c.args.watch.now) (states g.B.Breaker.state c.args.watch.now) (refused (not_linear k))) one (are_not_linear c.in-Some.ensures.some few (sym c.in-Some-first_not_linear.ensures) refl);
  no_pool = refl;
  calm = tt;
  interrupted = calm_refusal (refusal.NotLinear (c.in-Some-first_not_linear.at + 1)) (states g.B.Breaker.state c.args.watch.now) (λ place e. cc);
}

pub solve-requires-clause-distinct : goal.solve-requires-clause-distinct
solve-requires-clause-distinct g c =
    subst AreDistinct (sym (names_same c.in-Some.names.items c.as_slice.result.now c.in_array-array.result c.len.result c.as_slice.ensures.value c.len.ensures.value c.in_array-array.ensures)) (rises_distinct (names_listed c.in-Some.names.items) c.in-Some.ensures.some.rising)

pub solve-requires-clause-linear : goal.solve-requires-clause-linear
solve-requires-clause-linear g c =
    subst (λ (ys : List (List ℕ)). All (IsLinearIn ys) (equations_in (forest c.args.pool.now) c.args.left.now c.args.right.now)) (sym (names_same c.in-Some.names.items c.as_slice.result.now c.in_array-array.result c.len.result c.as_slice.ensures.value c.len.ensures.value c.in_array-array.ensures))
    (linear_in (names_listed c.in-Some.names.items) (equations_in (forest c.args.pool.now) c.args.left.now c.args.right.now) c.in-Some.ensures.some (none_there c.first_not_linear.result (equations_in (forest c.args.pool.now) c.args.left.now c.args.right.now) c.in_default-first_not_linear.not-Some c.first_not_linear.ensures))

pub returns-in-Err-clause-refused : goal.returns-in-Err-clause-refused
returns-in-Err-clause-refused g c = λ room.
    let same : map name_of (take c.len.result c.in_array-array.result) ≡ names_listed c.in-Some.names.items = names_same c.in-Some.names.items c.as_slice.result.now c.in_array-array.result c.len.result c.as_slice.ensures.value c.len.ensures.value c.in_array-array.ensures in
    let few : length (names_listed c.in-Some.names.items) ≤ 6 = omega (arith, length-map c.in-Some.names.items (λ l. name_of l.name), c.as_slice.ensures.fits, ap length c.as_slice.ensures.value) in
    unsolved_reply room (names_listed c.in-Some.names.items) (equations_in (forest c.args.pool.now) c.args.left.now c.args.right.now) (states g.B.Breaker.state c.args.watch.now) (states g.B.Breaker.state c.solve.new.watch) c.in-Err.fault c.unsolved.result c.in-Some.ensures.some few (none_there c.first_not_linear.result (equations_in (forest c.args.pool.now) c.args.left.now c.args.right.now) c.in_default-first_not_linear.not-Some c.first_not_linear.ensures) c.unsolved.ensures
    (subst (λ (ys : List (List ℕ)). OfOverflow (λ o. solving ys (equations_in (forest c.args.pool.now) c.args.left.now c.args.right.now) ≡ Err (misfit_of o)) c.in-Err.fault) same c.in-Err.ensures.overflow)
    (subst (λ (ys : List (List ℕ)). StopsAfter (solving_checks ys (equations_in (forest c.args.pool.now) c.args.left.now c.args.right.now)) (states g.B.Breaker.state c.args.watch.now) (states g.B.Breaker.state c.solve.new.watch) c.in-Err.fault) same c.in-Err.ensures.stops)
