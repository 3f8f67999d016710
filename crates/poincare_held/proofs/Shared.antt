-- The names that the proofs share.
pub use Rattle.calc_session.specs.Replies.{Reply}
pub use Rattle.poincare_held.specs.{Answering.{AnswersLine, AnswersLines, moment_of}, declared.held.Held.{Held}, declared.page.Page.{Page}, Writing.{Writes, told_on}}
pub use Rattle.poincare_run.specs.{Steps.{LineStep, Moment, Steps, written}, Lines.{all_but_last, is_newline, last_of, line_of_rest, lines_of, parts}}
pub use Rattle.std.proofs.Common.{All, Bool, List, [], ap, append-nil, append_assoc, arith, false, length, map, refl, rules, subst, sym, true, ℕ, ◌++◌, ◌<◌, ◌^◌, ◌∙◌, ◌∷◌, ◌≡◌}
pub use Rattle.std.proofs.{lemmas.Grind.{common_steps}, lemmas.List.Splits.{slice_split-cons_no, slice_split-cons_yes, slice_split_at, slice_split_none}}
pub use Rattle.std.specs.{List.{onto_first}, Str.Lines.{strip_carriage_return}}
