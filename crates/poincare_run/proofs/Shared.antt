-- The names that the proofs share.
pub use Rattle.breakers.specs.Watch.{states}
pub use Rattle.calc_commands.specs.Numbers.{is_digits}
unfoldable pub use Rattle.calc_commands.specs.Numbers.{value_of}
pub use Rattle.calc_edges.proofs.{Giving.{Gives-nil, Gives-trans}, Parts.{AppendsPart-after}, Stops.{stops_later}}
pub use Rattle.calc_edges.specs.{SourceBytes.{Gives, SourceBytes}, Taken.{AppendsPart}, declared.failures.Failures.{Failures}}
pub use Rattle.calc_edges.specs.Faults.{IsCalm, Rose, StopsAtFailedRead, StopsAtFailure, StopsKeeping}
pub use Rattle.calc_session.specs.{Answers.{Answers, IsAnswer, IsReport, printed}, Drawing.{FailsToDraw, IsDrawnInPart, rows_in}, Replies.{Reason, Reply, forgot, report}, Seen.{Seen}, States.{State}}
pub use Rattle.calc_session.specs.{Steps.{IsReply, asks_in_vain, is_replied}, declared.answers.LineAnswer.{LineAnswer}, declared.answers.LineAnswer.TheVariants.{Blank, Draw, Refused, Report, Shown}}
pub use Rattle.calc_session.specs.{declared.answers.LineAnswer.TheVariants.{Stored, Undef}, declared.answers.DrawFault.{DrawFault}}
pub use Rattle.clap.proofs.WalkLemmas.{first_value-rows, list_any-map, one_text-rows}
pub use Rattle.clap.specs.Faults.{bundle_fault, default_fault, entered_fault, fault_of, flag_word_fault, is_simple_and_free, level_fault, long_fault, settle_fault, step_fault, turn_fault, use_fault}
pub use Rattle.clap.specs.{Kinds.{HasKind, IsAmong, Kinds, or_else}, Simple.{App, HasMatchesOf, Shape, app_of, built, entered, filled, is_simple, matches_of}, Walk.{Held, Outcome, Row, Rule, Step}}
pub use Rattle.clap.specs.Walk.{Text, Waiting, Walk, after_flag, after_step, arg_by_id, arg_by_long, at_row, bundle, first_of, has_row, idle, long_or_other, more_values, nothing_held, one_of, option}
pub use Rattle.clap.specs.Walk.{plain, plain_word, positional, row_text, rows_of, settled, settled_rows, short_or_plain, trailing, used, used_by_id, walk, with_default, with_values, without}
pub use Rattle.clap.specs.{declared.builder.value_parser.Reading.TheVariants.{AsWritten}, declared.parser.matches.ValueSource.TheVariants.{CommandLine, DefaultValue}}
pub use Rattle.clap.specs.{declared.parser.matches.ArgMatches.{ArgMatches}, declared.error.Error.{Error}, declared.error.kind.ErrorKind.{ErrorKind}}
pub use Rattle.clap.specs.{declared.builder.action.ArgAction.TheVariants.{Set, SetTrue}, Values.{bool_text, kind_of}, Matches.{first_value, found_of, one_text}}
pub use Rattle.clap.specs.Lexer.{long_of, long_of_rest, name_and_value, short_of}
unfoldable pub use Rattle.clap.specs.{Faults.{defaults_fault, flags_fault, walk_fault}, Walk.{bundle_met, walked}}
pub use Rattle.node_pool.specs.State.{IsPoolSize}
pub use Rattle.poincare_run.specs.{Beginnings.{Beginning, IfGenerates, IfReads, beginning_of, beginning_with, begun, generates, reads}, Buffer.{Holds, StandsFor}}
pub use Rattle.poincare_run.specs.{CommandLine.{command_line, number_in, option_named, values_named}, Endings.{ReadsAll, ReadsLimit, ReadsPart, SumsUp, SumsUpInPart, WriteStops, Writes, WritesPart}}
pub use Rattle.poincare_run.specs.{Endings.{session_limit}, Generated.{digits_for, first_number, line_of, next_seed, pattern, second_number, with_digits}}
pub use Rattle.poincare_run.specs.{Lines.{all_but_last, is_newline, last_of, lines_of, parts}, Options.{Generated, Interrupt, Key, Pool, Reading, is_pool_size, is_session_number, key_of, named_in}}
pub use Rattle.poincare_run.specs.Options.{no_values, options_with, read, size_in, with_draw, with_generated, with_interrupt, with_next, with_number, with_pool, with_value, with_word}
pub use Rattle.poincare_run.specs.Progress.{Answered, AnswersLine, Breaks, Continues, EndsAs, EndsFrom, FailsAtLine, Goes, IfNoMemory, IsSummed, IsUnderWay, Outset, Place, StopsReading}
pub use Rattle.poincare_run.specs.Progress.{StopsWriting}
pub use Rattle.poincare_run.specs.{Progress.{SumsUpAs, TakesLine, Tallied, place_of, status}, Settings.{Asks, IsDrawn, IsNumber, IsSpelled, OptionsAreAsked, OrderIsFree, Setting, Spells, draw}}
pub use Rattle.poincare_run.specs.{Settings.{draws_of, name_of, text_in, texts_of, value}, Steps.{Chain, LineStep, Moment, Steps, Turn, all_written, bits, is_drawn, picture_if, picture_text}}
pub use Rattle.poincare_run.specs.{Steps.{replies_of, room, with_newline, written}, Summaries.{IsWithin, Sort, as_other, as_refusal, as_shown, as_stored, as_undefined, how_many, one_refusal}}
pub use Rattle.poincare_run.specs.{Summaries.{one_shown, one_stored, one_undefined, sort_of, text_length}, declared.buffer.LineBuffer.{LineBuffer}, declared.words.Options.{Options}}
pub use Rattle.poincare_run.specs.{declared.words.Values.{Values}, declared.dialog.Ending.{Ending}, declared.dialog.Ending.TheVariants.{LimitReached, NoMemory, ReadFailed, ReadToEnd, WriteFailed}}
pub use Rattle.poincare_run.specs.declared.tally.Tally.{Tally}
unfoldable pub use Rattle.poincare_run.specs.{Generated.{first_lines, seed}, Lines.{rest_of, whole_lines}, Options.{options_of}, Summaries.{tally_of}}
pub use Rattle.std.proofs.{KnownBytes.{Appends-nil, Appends-trans}, lemmas.Bool.{eqb-true, leb-false, leb-true, ne_eqb}, lemmas.List.{append_assoc, append_cancel_right}}
pub use Rattle.std.proofs.{lemmas.List.{drop_more, length-take-le, map-append, take-append-drop, take_all, take_more}, lemmas.Result.{err_from_is_err_and, on_err_weaker, on_ok_weaker}}
pub use Rattle.std.proofs.{lemmas.Slice.Eq.{bytes_eq-Decides, starts_is}, Common.{Bool, Contains, List, None, Option, Some, [], ap, append-nil, ap₂, arith, codes, cond, drop, false, get_or}}
pub use Rattle.std.proofs.Common.{if◌then◌else◌, inl, inr, is_some, length, length-append, map, nat_eq, nat_le, nat_lt, refl, subst, suc, sym, take, true, zero, ℕ, ◌&&◌, ◌++◌, ◌+◌, ◌-◌, ◌<◌, ◌==◌}
pub use Rattle.std.proofs.{Common.{◌^◌, ◌||◌, ◌↔◌, ◌∙◌, ◌∷◌, ◌≡◌, ◌≢◌, ◌≤◌, ◌⊎◌}, lemmas.Bool.Decides.{Decides-eqb}, Math.Seq.{get_or-append_seam, take-append_seam}, lemmas.List.Sums.{sum_by_push}}
pub use Rattle.std.specs.{Io.KnownBytes.{Appends, Consumes, IsAtEnd}, List.{find, fold, list_all, list_any, onto_first, starts_with}, Option.{option_and_then, option_map, option_map_or}}
pub use Rattle.std.specs.{Str.{bytes_eq}, Str.Lines.{strip_carriage_return}, Prelude.{IfSome, eqb, unwrap_or, ⊤}, Str.Parse.{digits_value}, Char.{is_ascii_digit}}
