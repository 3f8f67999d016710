use Rattle.calc_session.proofs.Shared.{both_ways, refl, sym, subst, arith, Contains, TripsRose, states, name_in, name_of, Tree, names, tree_of, forest, given_handed, given_rest, given_told, gives_as}
use Rattle.calc_session.proofs.{Shared.{held_entries, refusal_of_evaluation, is_answered, is_not_made, LacksName, expression, reason_of, refusal_in, Handle, keeps_after, seen}, EvaluationLemmas.{calm_refused, circular_reply, comes_made}}
use Rattle.calc_session.proofs.{EvaluationLemmas.{front_in_place, front_over, keeps_then, none_tripped, other_refusal, passed_on, shown_answer, shown_calm, size_kept}, parts.Parts.evaluate.Goals.{After-show, in-Some+else-holds_name, in_default}}
use Rattle.std.proofs.Common.{Err}
use Rattle.calc_session.specs.declared.answers.Refusal.TheVariants as refusal
use Rattle.calc_session.specs.declared.evaluating.Evaluation.TheVariants as evaluation
use Rattle.calc_session.proofs.parts.Parts.evaluate.Goals as goal

pub build_and_fill-requires : goal.build_and_fill-requires
build_and_fill-requires g c = record { stands = c.requires.kept.ready.stands; entries = held_entries c.args.self.now.table (forest c.args.self.now.work.pool) c.requires.kept.held; line = c.requires.line }

pub reduce_tree-requires : goal.reduce_tree-requires
reduce_tree-requires g c = record { stands = c.build_and_fill.ensures.stands; last = gives_as c.in-Ok.ensures.ok (sym (given_rest c.in-Ok.ensures.ok)) (λ t x. tt) }

pub holds_name-requires : goal.holds_name-requires
holds_name-requires g c = record { stands = c.reduce_tree.ensures.stands; expression = expression c.id.ensures c.reduce_tree.ensures.stands (given_handed c.in-Ok-reduce_tree.ensures.answer) }

pub show-requires : goal.show-requires
show-requires g c =
    let a = c.in-Ok-reduce_tree.ensures.answer in
    record {
      ready = record { stands = c.reduce_tree.ensures.stands; lists = omega (arith, c.requires.kept.ready.lists, c.in-Ok.ensures.kept.size, c.in-Ok-reduce_tree.ensures.kept.size) };
      handed = given_handed a;
      reduced = (given_told a).0.reduces.reduced;
    }

pub returns-in-Err : goal.returns-in-Err
returns-in-Err g c =
    let lack = refusal_in (reason_of c.in-Err.refusal) in
    let size = size_kept lack c.args.self.now.work.pool c.build_and_fill.new.pool c.in-Err.ensures.counted in
    record {
      reply = λ t is. is_not_made (c.in-Err.ensures.refused t is) refl;
      interrupted = calm_refused c.in-Err.refusal (states g.B.Breaker.state c.args.watch.now) c.in-Err.ensures.no_breaker;
      counted = c.in-Err.ensures.counted;
      front = c.build_and_fill.ensures.front;
      ready = record { stands = c.build_and_fill.ensures.stands; lists = omega (arith, c.requires.kept.ready.lists, size) };
      table = refl;
      text = refl;
      drafter = refl;
    }

pub returns-in-Err-reduce_tree : goal.returns-in-Err-reduce_tree
returns-in-Err-reduce_tree g c =
    let ok = c.in-Ok.ensures.ok in
    let before = states g.B.Breaker.state c.args.watch.now in
    let after = states g.B.Breaker.state c.reduce_tree.new.watch in
    let lack = refusal_in (reason_of c.in-Err-reduce_tree.refusal) in
    let counted = keeps_then lack c.args.self.now.work.pool c.build_and_fill.new.pool c.reduce_tree.new.pool c.in-Ok.ensures.kept c.in-Err-reduce_tree.ensures.counted in
    record {
      reply = λ t is.
          comes_made g.R.Reducer.room g.R.Reducer.bits before after (name_in c.args.store) c.args.self.now.table c.args.self.now.work.pool c.build_and_fill.new.pool (forest c.reduce_tree.new.pool) t (evaluation.Refused c.in-Err-reduce_tree.refusal)
          c.requires.kept.ready.stands c.build_and_fill.ensures.stands c.in-Ok.ensures.kept.size ok (c.in-Ok.ensures.made t is) (c.in-Err-reduce_tree.ensures.refused (name_in c.args.store));
      interrupted = passed_on Handle (Err c.in-Err-reduce_tree.refusal) c.in-Err-reduce_tree.refusal (TripsRose before after) refl c.in-Err-reduce_tree.ensures.interrupted;
      counted = counted;
      front = front_over ok c.reduce_tree.ensures.front;
      ready = record { stands = c.reduce_tree.ensures.stands; lists = omega (arith, c.requires.kept.ready.lists, size_kept lack c.args.self.now.work.pool c.reduce_tree.new.pool counted) };
      table = refl;
      text = refl;
      drafter = refl;
    }

pub returns-then-holds_name : goal.returns-then-holds_name
returns-then-holds_name g c =
    let a = c.in-Ok-reduce_tree.ensures.answer in
    let x = name_of c.in-Some.name in
    let before = states g.B.Breaker.state c.args.watch.now in
    let after = states g.B.Breaker.state c.reduce_tree.new.watch in
    let holds = subst (λ (t : Tree). Contains (names t) x) (seen c.id.ensures c.reduce_tree.ensures.stands (given_handed a)) (c.holds_name.ensures.0 c.if-holds_name.true) in
    let kept = keeps_after _ _ _ c.in-Ok.ensures.kept c.in-Ok-reduce_tree.ensures.kept in
    record {
      reply = λ t is.
          comes_made g.R.Reducer.room g.R.Reducer.bits before after (name_in c.args.store) c.args.self.now.table c.args.self.now.work.pool c.build_and_fill.new.pool (forest c.reduce_tree.new.pool) t (evaluation.Refused (refusal.Circular c.in-Some.name))
          c.requires.kept.ready.stands c.build_and_fill.ensures.stands c.in-Ok.ensures.kept.size c.in-Ok.ensures.ok (c.in-Ok.ensures.made t is)
          (rw c.in-Some.is (is_answered c.in-Ok-reduce_tree.ensures.calm (given_told a).0 (circular_reply (tree_of c.in-Ok-reduce_tree.answer c.reduce_tree.new.pool) x holds)));
      interrupted = other_refusal (refusal.Circular c.in-Some.name) (TripsRose before after) (none_tripped c.in-Ok-reduce_tree.answer (TripsRose before after) c.in-Ok-reduce_tree.ensures.interrupted) (λ place e. cc);
      counted = kept;
      front = front_over c.in-Ok.ensures.ok c.reduce_tree.ensures.front;
      ready = record { stands = c.reduce_tree.ensures.stands; lists = omega (arith, c.requires.kept.ready.lists, kept.size) };
      table = refl;
      text = refl;
      drafter = refl;
    }

-- the answer lacks the name under which it is to be stored
clear : (g : _) (c : After-show g) → LacksName (name_in c.args.store) (tree_of c.in-Ok-reduce_tree.answer c.reduce_tree.new.pool)
clear g c =
    let a = c.in-Ok-reduce_tree.ensures.answer in
    elim c.match-store.branch [
      | in-Some+else-holds_name w ↦ rw w.in-Some.is (λ h. both_ways w.holds_name.result w.if-holds_name.false (w.holds_name.ensures.1 (subst (λ (t : Tree). Contains (names t) (name_of w.in-Some.name)) (sym (seen w.id.ensures c.reduce_tree.ensures.stands (given_handed a))) h)))
      | in_default w ↦ rw w.in_default.is tt
    ]

pub returns : goal.returns
returns g c =
    let before = states g.B.Breaker.state c.args.watch.now in
    let after = states g.B.Breaker.state c.reduce_tree.new.watch in
    let ok = c.in-Ok.ensures.ok in
    let answer = c.in-Ok-reduce_tree.ensures in
    let shown = c.show.ensures in
    let lack = refusal_of_evaluation c.show.result in
    let kept = keeps_after _ _ _ c.in-Ok.ensures.kept answer.kept in
    record {
      reply = λ t is.
          comes_made g.R.Reducer.room g.R.Reducer.bits before after (name_in c.args.store) c.args.self.now.table c.args.self.now.work.pool c.build_and_fill.new.pool (forest c.show.new.work.pool) t c.show.result
          c.requires.kept.ready.stands c.build_and_fill.ensures.stands c.in-Ok.ensures.kept.size ok (c.in-Ok.ensures.made t is)
          (shown_answer g.R.Reducer.room g.R.Reducer.bits before after (name_in c.args.store) c.show.result c.build_and_fill.ensures.stands c.reduce_tree.ensures.stands shown.ready.stands
          answer.kept.size (size_kept lack c.reduce_tree.new.pool c.show.new.work.pool shown.counted) (gives_as ok (sym (given_rest ok)) (λ t x. x)) answer.answer answer.calm (clear g (goal.at.returns g c).After-show) shown.front shown.shows);
      interrupted = shown_calm c.in-Ok-reduce_tree.answer c.reduce_tree.new.pool c.show.new.work.pool c.show.result (TripsRose before after) (none_tripped c.in-Ok-reduce_tree.answer (TripsRose before after) answer.interrupted) shown.shows;
      counted = keeps_then lack c.args.self.now.work.pool c.reduce_tree.new.pool c.show.new.work.pool kept shown.counted;
      front = front_over ok (front_in_place (gives_as ok (sym (given_rest ok)) (λ t x. x)) answer.answer c.reduce_tree.ensures.front shown.front);
      ready = shown.ready;
      table = refl;
      text = refl;
      drafter = refl;
    }
