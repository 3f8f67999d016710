-- The names that the proofs share.
pub use Rattle.arrayvec.specs.ArrayVec.{ArrayVec}
pub use Rattle.calc_commands.specs.Parsing.{are_blanks, argument_of, asked_alone, asked_by, asked_for, asked_in, asked_with, BeginsWithWord, behind_colon, is_in, name_and_text, name_and_text_behind, text_behind, word_and_rest, asked_to_round, places_and_text}
pub use Rattle.calc_commands.specs.{Reports.{byte_text, dump_of, entries, entry, parting}, Equations.{AreSides, Sides, Splits, all_placed, cut_at, placed, written, written_all}, Ranges.{AreSplit}}
pub use Rattle.calc_commands.specs.{Ranges.{IsWithin, between, pieces_at, pieces_from, sides_at}, Commands.{Asked, Has, HasText, IsCommandLine, IsTextBehind, after, asked_of, asks_after, asks_diff}}
pub use Rattle.calc_commands.specs.Words.{all_words, help_line, help_report, newline_before, with_newlines, word_among, word_bytes, word_of}
pub use Rattle.calc_commands.specs.Commands.{asks_explain, asks_help, asks_names, explain, help, list_names}
pub use Rattle.calc_commands.specs.Commands.{asks_draw, asks_dump, asks_expand, asks_forget, asks_layout, asks_pool, asks_solve, begins_dark, diff, draw, dump, expand, forget, is_command, layout}
pub use Rattle.calc_commands.specs.Commands.{asks_decimals, asks_latex, asks_roots, asks_sign, decimals, latex, roots, sign, most_places}
pub use Rattle.calc_commands.specs.{Commands.{pool, solve}, declared.command.Command.{Command}, declared.equations.EquationRange.{EquationRange}, Numbers.{value_of}}
pub use Rattle.calc_language.proofs.LeadingRuns.{run_all, run_back, run_front, run_of, run_stops, run_whole, stops}
pub use Rattle.calc_language.specs.Tokens.{is_blank, leading_run}
pub use Rattle.calc_terms.proofs.Names.{both, spelled}
pub use Rattle.calc_terms.specs.Name.{is_name, is_name_byte}
pub use Rattle.line_text.specs.Content.{Content, extended}
pub use Rattle.node_pool.proofs.Sizes.{length-encodings}
pub use Rattle.node_pool.specs.{State.{IsPool, State, bytes_of, free_of}, Nodes.{encodings, used}}
pub use Rattle.std.proofs.Common.{Bool, Err, IsOk, List, MatchResult, None, Ok, Option, Result, Some, [], ap, append_assoc, arith, cond, drop, drop-cons, false, get_or, inl, inr, length}
pub use Rattle.std.proofs.{Common.{length-append, length-drop, ltb, map, refl, replicate, rules, subst, suc, sym, take, true, ℕ, ◌*◌, ◌++◌, ◌+◌, ◌<◌, ◌^◌, ◌∙◌, ◌∷◌, ◌≡◌, ◌≤◌}, lemmas.Bool.{both_ways}}
pub use Rattle.std.proofs.{lemmas.Bool.{cases_lt, eq-eqb, eqb-true, le-leb, lt-leb, lt-ltb, ne_eqb}, lemmas.List.{append-nil, drop-drop, drop-take, get_or-take, get_or_default, length-map}}
pub use Rattle.std.proofs.{lemmas.List.{map-append, take-append-drop, take-take, take_all, take_at, take_more, take_rest}, lemmas.List.Elements.{All-append, All-cons, All-drop, All-head, All-nil}}
pub use Rattle.std.proofs.{lemmas.List.Elements.{All-push, All-tail, All-take}, lemmas.Fmt.{IsAscii-from_digits}, lemmas.Str.Parse.{IsNumeralModel, numerals_by_value, parse_digits}}
pub use Rattle.std.proofs.{lemmas.Str.{IsUtf8-from_ascii}, lemmas.Slice.Eq.{bytes_eq-Decides}, lemmas.List.Sums.{fails_before_first, passes_at_first, prefix_len-le-length}}
pub use Rattle.std.proofs.lemmas.List.Splits.{join_with_byte-slice_split, length-slice_split, slice_split_at, slice_split_first, slice_split_none}
pub use Rattle.std.specs.{Char.{is_ascii_digit}, List.{join_with_byte, list_all, position_or_len, slice_split}, Prelude.{All, Contains, IfSome, IsNone, OnErr, OnOk, codes, not, ◌&&◌, ◌||◌}}
pub use Rattle.std.specs.{Result.{is_err, result_ok}, Str.Parse.{ParsesUnsigned, digits_value}, Str.{IsUtf8, bytes_eq}, Option.{option_and_then, option_map}}
pub use Rattle.tree_handles.proofs.Outcomes.{by_test}
