use Rattle.deep_reduce.proofs.Shared.{ℕ, rules, refl, subst, if_map, tree_of, gives_as, given_handed, given_told, CalmChecks, states, overflow_as, unfit_after_checks}
use Rattle.deep_reduce.proofs.ChildRooms.{five_answers, lacks_room}
use Rattle.reduce_walk.proofs.Port.{full_as}
use Rattle.deep_reduce.proofs.driver.DeepReducerReducer.reduce.Goals as goal

pub returns : goal.returns
returns g c =
    let t = tree_of c.args.tree c.args.pool.now in
    let unfit = c.walk.ensures.overflow_at_its_node in
    record {
      reduces = if_map c.walk.result _ _ c.walk.ensures.ok (λ h x. gives_as x refl (λ u a. a.reduces));
      one_check_a_node = search rules;
      within_room = if_map c.walk.result _ _ c.walk.ensures.ok (λ h x. five_answers h t c.walk.new.pool c.walk.ensures.stands (given_handed x) (given_told x));
      easy_trees = if_map c.walk.result _ _ c.walk.ensures.ok (λ h x. (given_told x).easy);
      bad_parts = if_map c.walk.result _ _ c.walk.ensures.ok (λ h x. (given_told x).bad_part);
      plain_answers = if_map c.walk.result _ _ c.walk.ensures.ok (λ h x. (given_told x).plain);
      plain_overflows = overflow_as c.walk.result unfit (λ o u. u.unfit.plain);
      plain_overflow_at_its_node =
          overflow_as c.walk.result unfit
          (λ o u v. subst (λ (n : ℕ). CalmChecks n (states g.B.Breaker.state c.args.watch.now) (states g.B.Breaker.state c.walk.new.watch)) (u.unfit.at_its_node v) u.calm);
      interrupted = search rules;
      by_the_one_whose_trips_rose = search rules;
      overflow = search rules;
      overflow_beyond_bits = overflow_as c.walk.result unfit (λ o u. u.unfit.beyond_bits);
      overflow_after_checks = overflow_as c.walk.result unfit (λ o u. unfit_after_checks u);
      full = search rules;
      full_beyond_room = full_as c.walk.result c.walk.ensures.full_where_it_may_lack (λ f l. lacks_room c.args.tree c.args.pool.now c.requires.stands c.requires.handed l);
      full_after_checks = search rules;
      refusals = search rules;
      front = search rules;
      stands = search rules;
    }
