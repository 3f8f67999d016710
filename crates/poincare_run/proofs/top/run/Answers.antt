use Rattle.poincare_run.proofs.Shared.{◌≡◌, ◌∙◌, ◌⊎◌, [], ◌∷◌, Contains, Some, map, sym, ap, subst, option_map, Seen, beginning_of, beginning_with, begun, place_of, states}
use Rattle.poincare_run.proofs.StatusLemmas.{nothing_read, not_there, begins_at, is_status, is_no_memory, no_usage, early, all_read_if, read_in_part_if, written_in_part_if, limit_reached_if}
use Rattle.poincare_run.proofs.StatusLemmas.{summed_up_if, summed_up_in_part_if, unread_if, within_limit_if, read_stops, reads_calm, write_stops, writes_calm, stopped_rose}
use Rattle.poincare_run.proofs.top.run.Goals as goal

pub returns-in-Ok-None-clause-limit : goal.returns-in-Ok-None-clause-limit
returns-in-Ok-None-clause-limit g c = λ input rest before after. nothing_read _ input rest 2 before after

pub returns-in-Err-clause-status : goal.returns-in-Err-clause-status
returns-in-Err-clause-status g c = is_no_memory

pub returns-in-Err-clause-limit : goal.returns-in-Err-clause-limit
returns-in-Err-clause-limit g c = λ input rest before after. nothing_read _ input rest 5 before after

pub returns-in_default-clause-status : goal.returns-in_default-clause-status
returns-in_default-clause-status g c = is_no_memory

pub returns-in_default-clause-limit : goal.returns-in_default-clause-limit
returns-in_default-clause-limit g c = λ input rest before after. nothing_read _ input rest 5 before after

pub returns-in_default-open-clause-status : goal.returns-in_default-open-clause-status
returns-in_default-open-clause-status g c = is_no_memory

pub returns-in_default-open-clause-limit : goal.returns-in_default-open-clause-limit
returns-in_default-open-clause-limit g c = λ input rest before after. nothing_read _ input rest 5 before after

pub returns : goal.returns
returns g c =
    -- the program begins as the words say
    let start : beginning_of g.B.Breaker.state c.args.words.now c.args.breakers.items ≡ Some (begun (place_of g.B.Breaker.state c.new-dialog.result).now c.in-Ok-Some.options.generated) =
    ap (option_map (beginning_with (map g.B.Breaker.state c.args.breakers.items))) (sym (rw c.in-Ok-Some.field-0-is at c.in-Ok-Some.ensures.value))
    ∙ ap (λ m. Some (begun m c.in-Ok-Some.options.generated))
    (begins_at (place_of g.B.Breaker.state c.new-dialog.result).now _ _ _ (ap (λ (s : Seen). s.state) (c.new-dialog.ensures.session ∙ c.in-Ok.ensures))
    (ap (states g.B.Breaker.state) c.new-dialog.ensures.watch ∙ c.armed-watch.ensures) c.new-dialog.ensures.draws) in record {
      status = subst (Contains (0 ∷ 2 ∷ 3 ∷ 4 ∷ 5 ∷ 6 ∷ [])) (sym c.status_of.ensures) (is_status c.answer.result);
      usage = λ e. absurd (no_usage c.answer.result (sym c.status_of.ensures ∙ e));
      usage_or_no_memory = λ none. absurd (not_there _ _ start none);
      untouched = λ e. early c.answer.result _ (subst (λ s. (s ≡ 2) ⊎ (s ≡ 5)) c.status_of.ensures e) c.answer.ensures.untouched;
      answered = λ e. all_read_if _ _ start c.answer.result _ _ _ _ c.answer.ensures.ends (sym c.status_of.ensures ∙ e);
      read_failed = λ e. stopped_rose _ _ _ _ _ (read_stops _ _ _ _ c.answer.result c.answer.ensures.reads (sym c.status_of.ensures ∙ e));
      read_stops = λ e. read_stops _ _ _ _ c.answer.result c.answer.ensures.reads (sym c.status_of.ensures ∙ e);
      reads_calm = λ e. reads_calm _ _ _ _ c.answer.result c.answer.ensures.reads (λ s. e (c.status_of.ensures ∙ s));
      read_in_part = λ e. read_in_part_if _ _ start c.answer.result _ _ _ _ c.answer.ensures.ends (sym c.status_of.ensures ∙ e);
      write_failed = λ e. stopped_rose _ _ _ _ _ (write_stops _ _ _ _ c.answer.result c.answer.ensures.writes (sym c.status_of.ensures ∙ e));
      write_stops = λ e. write_stops _ _ _ _ c.answer.result c.answer.ensures.writes (sym c.status_of.ensures ∙ e);
      writes_calm = λ e. writes_calm _ _ _ _ c.answer.result c.answer.ensures.writes (λ s. e (c.status_of.ensures ∙ s));
      written_in_part = λ e. written_in_part_if _ _ start c.answer.result _ _ _ _ c.answer.ensures.ends (sym c.status_of.ensures ∙ e);
      limit_reached = λ e. limit_reached_if _ _ start c.answer.result _ _ _ _ c.answer.ensures.ends (sym c.status_of.ensures ∙ e);
      limit = λ input rest before after. rw c.status_of.ensures (within_limit_if _ _ start c.answer.result _ _ _ _ c.answer.ensures.ends input rest before after);
      unread = rw c.status_of.ensures (unread_if _ _ start c.answer.result _ _ _ _ c.answer.ensures.ends _ c.answer.ensures.unread);
      summed_up = λ e. summed_up_if _ _ start c.answer.result _ _ _ _ c.answer.ensures.ends (sym c.status_of.ensures ∙ e);
      summed_up_in_part = λ e. summed_up_in_part_if _ _ start c.answer.result _ _ _ _ c.answer.ensures.ends (sym c.status_of.ensures ∙ e);
    }
