use Rattle.calc_session.proofs.Shared.{◌∙◌, sym, finds_names_full, is_ans}
use Rattle.calc_session.proofs.reading.check_store.Goals as goal

pub returns-then-is_ans-clause-refused : goal.returns-then-is_ans-clause-refused
returns-then-is_ans-clause-refused c = rw (c.in-Some.is) (is_ans (sym c.is_ans.ensures ∙ c.if-is_ans.true))

pub returns-then-not-has_room_for-clause-refused : goal.returns-then-not-has_room_for-clause-refused
returns-then-not-has_room_for-clause-refused c = rw (c.in-Some.is) (finds_names_full (sym c.is_ans.ensures ∙ c.if-is_ans.false) (sym c.has_room_for.ensures ∙ c.if-not-has_room_for.true))
