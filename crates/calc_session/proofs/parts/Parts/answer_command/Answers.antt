use Rattle.calc_session.proofs.{Shared.{inl, refl, sym, subst, IsNone, states, asked_of, refusal_of_pool, is_no_command, state_in}, CommandLemmas.{calm_told, refusal_uninterrupted}}
use Rattle.calc_session.proofs.{CountingLemmas.{counted_asked}, EvaluationLemmas.{none_rose}, SessionLemmas.{answers_command, answers_vain}}
use Rattle.calc_session.specs.declared.answers.LineAnswer.TheVariants as answer
use Rattle.calc_session.specs.declared.answers.Refusal.TheVariants as refusal
use Rattle.calc_session.proofs.parts.Parts.answer_command.Goals as goal

pub returns-in-Some-clause-answers : goal.returns-in-Some-clause-answers
returns-in-Some-clause-answers g c =
    answers_command g.R.Reducer.room g.R.Reducer.bits (states g.B.Breaker.state c.args.watch.now) (states g.B.Breaker.state c.perform.new.watch) c.args.line.now (state_in c.args.self.now) (state_in c.perform.new.self) (asked_of c.in-Some.command) c.perform.result c.perform.new.self.text.bytes c.requires.short c.in-Some.ensures.some c.perform.ensures.answers

pub returns-in-Some-clause-counted : goal.returns-in-Some-clause-counted
returns-in-Some-clause-counted g c = counted_asked c.args.self.now.work.pool c.perform.new.self.work.pool (state_in c.args.self.now) c.args.line.now (asked_of c.in-Some.command) (refusal_of_pool c.perform.result) c.in-Some.ensures.some c.perform.ensures.counted

pub returns-in-None : goal.returns-in-None
returns-in-None g c =
    let before = states g.B.Breaker.state c.args.watch.now in
    record {
      answers = answers_vain g.R.Reducer.room g.R.Reducer.bits before before c.args.line.now (state_in c.args.self.now) refusal.Command c.args.self.now.text.bytes (is_no_command c.requires.short c.requires.command (c.read_command.ensures.none.0 (subst IsNone (sym c.in-None.is) refl))) refl c.requires.empty;
      interrupted = calm_told (answer.Refused refusal.Command) before before (refusal_uninterrupted refusal.Command (λ place e. cc)) (none_rose before);
      counted = inl (tt, record { size = refl; refusals = refl; last_refused = refl });
      kept = c.requires.kept;
    }
