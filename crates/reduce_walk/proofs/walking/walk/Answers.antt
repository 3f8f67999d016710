use Rattle.reduce_walk.proofs.{Shared.{rules, sym, ap, subst, OnOk, CalmChecks, states, Tree, nodes, plain, tree_of, behind_first, front_after_one, gives_as, if_map}, Bytes.{last_free}}
use Rattle.reduce_walk.proofs.{Port.{if_full, if_overflow, if_interrupted, counts, rose}, Stopping.{stopped, kept_from}, Walks.{moved}}
use Rattle.reduce_walk.proofs.walking.walk.Goals as goal

pub walk_last-requires-clause-handed : goal.walk_last-requires-clause-handed
walk_last-requires-clause-handed g c = (moved c.requires.handed c.move_last.ensures.last).handed

pub walk_last-requires-clause-last : goal.walk_last-requires-clause-last
walk_last-requires-clause-last g c = (moved c.requires.handed c.move_last.ensures.last).last

pub walk_last-requires-clause-taken : goal.walk_last-requires-clause-taken
walk_last-requires-clause-taken g c = subst g.S.NodeStep.can_take (sym (ap plain (moved c.requires.handed c.move_last.ensures.last).same)) c.requires.taken

pub returns : goal.returns
returns g c =
    let m = moved c.requires.handed c.move_last.ensures.last in
    let S = g.S.NodeStep in
    let t = tree_of c.args.tree c.args.pool.now in
    let same = ap plain m.same in
    let before = states g.B.Breaker.state c.args.watch.now in
    let after = states g.B.Breaker.state c.walk_last.new.watch in
    let free = last_free c.requires.stands c.move_last.ensures.stands c.move_last.ensures.kept c.requires.handed m.handed m.last m.rest in
    let checks = subst (λ (u : Tree). OnOk c.walk_last.result (CalmChecks (nodes u) before after)) same c.walk_last.ensures.checks in
    let kept = kept_from _ c.walk_last.result c.move_last.ensures.kept c.walk_last.ensures.kept in
    let stops = stopped S.may_lack S.may_overflow c.walk_last.result c.walk_last.new.pool before after same c.move_last.ensures.kept free c.walk_last.ensures.stops in
    record {
      ok = if_map c.walk_last.result _ _ c.walk_last.ensures.ok (λ h x. gives_as x m.rest (λ u a. subst (λ (v : Tree). S.answers v u) same a));
      one_check_a_node = checks;
      interrupted = if_interrupted S.may_lack S.may_overflow c.walk_last.result t c.args.pool.now c.walk_last.new.pool before after _ stops (λ i s. s.1);
      by_the_one_whose_trips_rose = rose S.may_lack S.may_overflow c.walk_last.result t c.args.pool.now c.walk_last.new.pool before after _ checks stops;
      overflow = if_overflow S.may_lack S.may_overflow c.walk_last.result t c.args.pool.now c.walk_last.new.pool before after _ stops (λ o s. s.0);
      overflow_at_its_node = if_overflow S.may_lack S.may_overflow c.walk_last.result t c.args.pool.now c.walk_last.new.pool before after _ stops (λ o s. s.2);
      full = if_full S.may_lack S.may_overflow c.walk_last.result t c.args.pool.now c.walk_last.new.pool before after _ stops (λ f s. s.0);
      full_where_it_may_lack = if_full S.may_lack S.may_overflow c.walk_last.result t c.args.pool.now c.walk_last.new.pool before after _ stops (λ f s. s.3);
      full_after_checks = if_full S.may_lack S.may_overflow c.walk_last.result t c.args.pool.now c.walk_last.new.pool before after _ stops (λ f s. s.2);
      refusals = counts S.may_lack S.may_overflow c.walk_last.result t c.args.pool.now c.walk_last.new.pool before after kept stops;
      front = front_after_one behind_first m.front c.walk_last.ensures.front;
      stands = search rules;
    }
