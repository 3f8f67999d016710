-- The names that the proofs share.
pub use Rattle.beautify.proofs.{FaceLaws.{reduced_face_means}, FaceTexts.{face_names, face_written}}
pub use Rattle.breakers.specs.{Breakers.{CalmChecks, TripsRose, armed_first}, Watch.{states}}
pub use Rattle.calc_algebra.proofs.{MeaningLaws.{Same-sym}, ReducedLaws.{AllParts-zip, reduced_test}, SquareClassLaws.{Same-trans}, TermLaws.{Same-eq, Same-refl, joined_radicand, surd_times-terms}}
pub use Rattle.calc_algebra.proofs.{TermLaws.{zero_term}, MeaningRewrites.{none_sum, one_sum, product_more, product_one, sum_more, sum_none}}
pub use Rattle.calc_algebra.specs.{BadAndEasy.{IsEasy}, Meanings.{Assignment, IsAssignment, Means}, Numbers.{terms_of}, Reduced.{HasForm, IsProductForm, NoneIs, RisesBy, is_reduced, number_terms}}
pub use Rattle.calc_algebra.specs.{Reduced.{other_terms, part_of}, Rewritings.{HasNoNewName, Reduces}, Surds.{surd_of}, TreeOrder.{tree_cmp}}
unfoldable pub use Rattle.calc_algebra.specs.Numbers.{is_number}
pub use Rattle.calc_commands.proofs.{Lines.{once}, Colons.{asks_colon}}
pub use Rattle.calc_commands.specs.Commands.{Asked, HasText, IsCommandLine, asked_of, asks_diff, asks_expand, asks_solve, diff, dump, expand, forget, is_command, layout, pool, solve}
pub use Rattle.calc_commands.specs.{Reports.{after_report, dump_of, forgot_report, pool_report, unknown_report}, Equations.{Pieces}, Ranges.{AreSplit, IsSplitFault, IsWithin, pieces_at}}
pub use Rattle.calc_commands.specs.{Parsing.{are_blanks}, declared.equations.EquationRange.{EquationRange}, declared.command.Command.{Command}}
pub use Rattle.calc_edges.proofs.Parts.{AppendsPart-after, AppendsPart-more}
pub use Rattle.calc_edges.specs.{Taken.{AppendsPart}, Faults.{IsCalm}}
pub use Rattle.calc_language.specs.{Faces.{face, has_minus, next_term, next_terms, unsigned_face, with_minus}, Grammar.{SoFar, as_tree}, Texts.{HasNames, IsNamed, IsWritable, text}, Tokens.{Token}}
pub use Rattle.calc_measures.specs.{PlainTrees.{IsPlainAnswer, IsPlainOverflow}, Measures.{bits}, PlainOverflows.{is_overflow, nodes_to_overflow}, PlainValues.{plain_value}}
pub use Rattle.calc_parser.proofs.Checks.{SameLine, one_line}
pub use Rattle.calc_parser.specs.{Building.{building}, Lines.{IsLine, IsTreeOf}, Outcomes.{IsFaultOf, IsShallow}, Refused.{IsLineFaultOf}}
pub use Rattle.calc_session.specs.Answers.{Answers, AnswersBy, AnswersUntold, ComesTo, CountsRefusal, IsAnswer, IsDisplayOf, IsTextOf, LacksName, Tells, TellsAs, answer_to, printed, reason_of}
pub use Rattle.calc_session.specs.{Answers.{refusal_of, refusal_of_evaluation, refusal_of_pool, refusal_to_fill, reply_of}, Arguments.{IsMisread, IsNoExpression, ReadsText, forms_a_deep_line}}
pub use Rattle.calc_session.specs.{Arguments.{forms_a_store, forms_no_line, is_misread, meets_a_wide_number, meets_no_token}, Asking.{AsksInVain, is_asked, is_long, is_no_command, is_no_line}}
pub use Rattle.calc_session.specs.{Asking.{is_nothing, is_text}, Calculating.{ExpressionBecomes, IsReplyToExpression, is_no_expression, is_read, made_in}, Commanding.{IsReplyToArming}}
pub use Rattle.calc_session.specs.Commanding.{IsReplyToCommand, IsTold, arms_a_breaker, finds_no_breaker, forgets, is_to_be_drawn, keeps_ans, knows_no_name, layout_reply, refuses, tells}
pub use Rattle.calc_session.specs.{Counting.{AsksForTooMuch, IsCountedBut, IsKnownOf, LacksBytesFor}, Deriving.{IsReplyToDerivative, LacksDerivative, has_none}, Drawing.{IsDrawn, IsDrawnInPart}}
pub use Rattle.calc_session.specs.{Drawing.{first_rows, lack_in, row_text, rows_text, line_in, serial_in, told_at, told_by}, Evaluations.{HasFittingRationals, IsAnswerTo, IsFitting, IsReduction, IsReplyWith}}
pub use Rattle.calc_session.specs.Evaluations.{OverflowsAt, Unmade, has_no_value, holds_its_name, is_answered, is_made, is_not_made, is_shown, is_stored, lacks_bytes, made}
pub use Rattle.calc_session.specs.{Expanding.{IsReplyToExpansion, LacksExpansionRoom, is_expanded, is_no_polynomial}, Forms.{IsLast, IsPlaced, IsSmall, IsSmallForm, form_room}}
pub use Rattle.calc_session.specs.{Kept.{IsKept, IsReady, seen_of, state_in}, Pools.{IsRolledBack, after}, Reading.{IsUnstorable, ReadsAs, ReadsTree, finds_names_full, is_ans}, Replies.{Reason}}
pub use Rattle.calc_session.specs.Replies.{Reply, blank, circular, denominator_text, displayed, drawn, forgot, not_linear, operand_text, refusal_in, refused, report, reported, reserved, undefined}
pub use Rattle.calc_session.specs.{Seen.{Counts, Seen, pool_of}, SolutionTexts.{comma_before, form_tree, line_text, line_texts, lines_text, multiple_of, multiples, solution_text, sum_of_trees}}
pub use Rattle.calc_session.specs.{SolutionTexts.{summands, with_commas}, SolutionsMeant.{HasPrintedValue, TellsSolutions, tells_forms, tells_none}, Solved.{AreSolved, BuildsSide, refusal_to_solve}}
pub use Rattle.calc_session.specs.Solving.{AreUnmade, Become, IsNoEquation, IsReplyToEquations, IsReplyToRead, IsReplyToSolve, IsSolution, ReadsEquation, ReadsSide, are_linear, are_made}
pub use Rattle.calc_session.specs.Solving.{are_not_linear, are_not_made, are_not_read, are_not_written, are_read, are_too_many, at_left, at_right, does_not_fit, equation, first_not_linear}
pub use Rattle.calc_session.specs.{Solving.{have_too_many_names, is_interrupted, is_linear_equation, is_told, nothing}, States.{State, first_state, state_of}, Steps.{IsReply, IsReplyToTree, Leaves}}
pub use Rattle.calc_session.specs.{Steps.{LeavesAnswer, asks_in_vain, cannot_be_stored, is_evaluated, is_replied}, Telling.{HasFace}, declared.answers.LineAnswer.{LineAnswer}}
pub use Rattle.calc_session.specs.{declared.answers.Refusal.{Refusal}, declared.evaluating.Evaluation.{Evaluation}, declared.evaluating.Evaluation.TheVariants.{Face, Found, Refused, Undefined}}
pub use Rattle.calc_session.specs.{Evaluations.{IsReplyToMade}, Findings.{finding_text}}
pub use Rattle.calc_commands.specs.Commands.{asks_decimals, asks_sign, decimals, most_places, sign}
pub use Rattle.calc_session.specs.{declared.parts.Parts.{Parts}, Faces.{Shows}, declared.solving.Solved.{Solved}}
unfoldable pub use Rattle.calc_session.specs.Replies.{text_of}
pub use Rattle.calc_terms.proofs.{FractionFacts.{no_one, no_zero, one_is, one_test, whole_denominator, whole_numerator, zero_is, zero_test}, Sizes.{payload_most}}
pub use Rattle.calc_terms.proofs.{SmallLaws.{append_none as append-none, one_node}, ShortForm.{whole_short}}
pub use Rattle.calc_terms.specs.{Fractions.{Fraction, is_one_fraction, is_zero_fraction, lowest, plus, times}, Leaf.{name_of}, Name.{is_name}, Node.{Node, fresh}}
pub use Rattle.calc_terms.specs.{Payload.{IsPayload, Payload, named, rational, size_of_payload}, Rat.{ratio_of, value_of}, Ratio.{IsRat, Ratio, whole}, Trees.{AllParts, AllPartsOf, Tree, Trees, add}}
pub use Rattle.calc_terms.specs.{Trees.{append, count, depth, is_add, is_undef, more, mult, names, nodes, none, num, root_kind, size, sizes, symbol, undef, whole_num}, declared.kind.Kind.{Kind}}
pub use Rattle.calc_terms.specs.{declared.name.Name.{Name}, declared.rat.Rat.{Rat}, Fits.{fraction_fits}, Integers.{int_is_one, int_is_zero}, FractionLaws.{one_times, zero_plus, zero_times}}
unfoldable pub use Rattle.calc_terms.specs.Fractions.{one_fraction, zero_fraction}
pub use Rattle.calc_tokens.proofs.OneScan.{character_or_all, one_list, wide_or_all}
pub use Rattle.calc_tokens.specs.{Placed.{Placed, bare}, Scanned.{AreTokensOf, IsFirstCharacter, IsFirstWide}, Tokens.{tokens_of}}
pub use Rattle.dual_diff.proofs.Added.{added_begin, added_few, adds_as, adds_first, adds_free, adds_join, adds_more, adds_none, adds_one, adds_over, adds_tree, still_expression, still_plain}
pub use Rattle.dual_diff.specs.{Derivatives.{HasDerivative, derivative}, Placing.{Adds, AddsAll}}
pub use Rattle.expansions.proofs.{ReducedExpansions.{tree_expanded_reduced}, Defined.{expanded_defined}}
pub use Rattle.expansions.specs.{ExpandedTrees.{expanded}, ExpansionRoom.{expansion_room}, PolynomialTrees.{is_polynomial, polynomial_of}}
pub use Rattle.line_text.proofs.{Fitting.{fitting}, Lengths.{short}}
pub use Rattle.line_text.specs.{Content.{Content, extended, spare_of}, Lengths.{HasFittingNumbers}}
pub use Rattle.linear_solve.proofs.{Theorem.{forms_are_later, forms_are_many, multipliers_are_many, never_solved, one_from, solved_where}, RisingLemmas.{before_is, rises_distinct}}
pub use Rattle.linear_solve.proofs.{Calculations.{both, ok_is}, Meanings.{one_rational_meaning}}
pub use Rattle.linear_solve.specs.{Listed.{names_listed}, RisingNames.{AreNamesOf, IsNameIn, Rises, is_before}, declared.side_names.Listed.{Listed}, Equations.{AreDistinct, Assigns, Equation}}
pub use Rattle.linear_solve.specs.{Equations.{IsLinearIn, SolvesAll, equation_at, equations_in}, Faults.{OfOverflow, StopsAfter}, Fitting.{and_then}, Forms.{Answer, Form, HasItsValue}}
pub use Rattle.linear_solve.specs.{Forms.{HaveTheirValues, HoldLaterFreeNames, answer_of, answer_with, bound, form_of, forms_of, free, multiple_in, multipliers, never, solved}, Rows.{Row, worth}}
pub use Rattle.linear_solve.specs.{Solutions.{IfNever, IfSolved, answer_told, form_told}, Told.{entries_of, misfit_of}, declared.solution.Line.{Line}, declared.solution.Solution.{Solution}}
pub use Rattle.linear_solve.specs.{Elimination.{Rows, equation_rows, first_with, row_at, settled_up_to}, declared.fault.SolveFault.{SolveFault}, Checks.{solving_checks}}
unfoldable pub use Rattle.linear_solve.specs.Solving.{solving}
pub use Rattle.name_table.proofs.{Entries.{entries-left, held_entries}, Counting.{counted-same}, Ready.{first_held}}
pub use Rattle.name_table.specs.{Filling.{FaultsFilling, LacksNames, NamedTree, filling, fills, lacks, refused_filling, values}, Held.{HasEntries, IsHeld, held_by}}
pub use Rattle.name_table.specs.{Storing.{IsKeepable, name_in, names_with}, Tables.{Entry, Table, first_table, has_entry, table_names, with_answer, without_entry, without_name}}
pub use Rattle.name_table.specs.declared.fault.FillFault.{FillFault}
pub use Rattle.node_pool.proofs.{Sizes.{AreNodes-left, AreNodes-right}, Ids.{AreApart, AreDistinct-parts}}
pub use Rattle.node_pool.specs.{Nodes.{AreNodes, IsLeastFree, has, used}, State.{free_of}, declared.full.Full.{Full}}
pub use Rattle.pool_checkpoints.proofs.RollingBack.{all_below, still_below}
pub use Rattle.pool_checkpoints.specs.Marks.{IsBelow}
pub use Rattle.pool_layouts.proofs.{Given.{given_drawing, given_layout, given_room}, Inks.{extended_twice}, RowLines.{row_room}}
pub use Rattle.pool_layouts.specs.{Drafts.{Draft, Measures}, Drawings.{GivesLayout, IsLayout, drawing}, Pictures.{Block, before_cut, cut, height, picture}, Serial.{serial}, Layouts.{Layout}}
pub use Rattle.pool_layouts.specs.Building.{laying}
pub use Rattle.rational128.proofs.{LowestTerms.{parts_themselves, ratio_parts}, Signed.{told}}
pub use Rattle.reduce_port.specs.{Bounds.{Covers, MayExceed}, Checks.{CalmUpTo, TripsWithin}, EasyTrees.{Evaluates, HasEasyBadPart}, Faults.{CountsRefusals, IfFull, IfInterrupted, IfOverflow}}
pub use Rattle.reduce_port.specs.declared.fault.ReduceFault.{ReduceFault}
pub use Rattle.std.proofs.{KnownBytes.{Appends-nil, Appends-trans}, lemmas.Bool.{and_parts, both_ways, cases_lt, le-ltb, leb-false, leb-true, lt-ltb, not-false}}
pub use Rattle.std.proofs.{lemmas.List.{get_or-map, length-map, take-append-drop, take_all}, lemmas.List.Elements.{All-cons, All-head, All-tail, Contains-append_cases}}
pub use Rattle.std.proofs.{lemmas.List.Sums.{fails_before_first, position_or_len_is}, lemmas.Result.{err_from_is_err_and}, Common.{Bool, IfSome, [], ap, append-nil, arith, below_more, codes, cond}}
pub use Rattle.std.proofs.Common.{encode_utf8_all, false, get_or, inl, inr, length-append, map, nat_le, of_z, refl, rules, subst, suc, sym, take, to_z, true, zero, ◌*◌, ◌++◌, ◌↔◌, ◌∙◌, ◌∷◌, ◌≡◌, ◌≢◌}
pub use Rattle.std.proofs.{Common.{◌⊎◌}, lemmas.Str.{encodes-append}, lemmas.List.FromFn.{length-map-range_with_len}, lemmas.List.Quantifiers.{position-Some}}
pub use Rattle.std.specs.{Fmt.{signed_decimal}, Io.KnownBytes.{Appends}, List.{AllZip, enumerate_from, position_or_len}, Str.{bytes_eq}, Prelude.{All, Contains, IfErr, IsNone, nat_lt, pos, zip, ℤ, ⊤}}
pub use Rattle.std.specs.{Prelude.{◌&&◌, ◌==◌, ◌^◌}, Int.{w128}}
pub use Rattle.tree_handles.proofs.{Forests.{bytes_in-join, flatten-join, forest_of_whole, has-flatten, join_assoc, keeps_after, refuses_after}, Fronts.{behind_first, behind_new, front_after}}
pub use Rattle.tree_handles.proofs.{Fronts.{front_after_one, front_at, front_end, front_same, front_without}, Given.{given_handed, given_other, given_rest, given_root, given_told, gives, gives_as}}
pub use Rattle.tree_handles.proofs.{Given.{owned, represents_node, represents_none}, Lasts.{ends_as, ends_at, ends_without, expression_root, last_tree, plain_root, tree_of_root}}
pub use Rattle.tree_handles.proofs.{Plains.{alone, size-plain}, Roots.{root_held}, Counted.{all-root_tree}, Seen.{expression, seen}, Places.{used_forest}}
pub use Rattle.tree_handles.specs.{Causes.{Overflows}, Expressions.{IsExpression, compound, grown, nth, plain, plains, takes_kind}, Forest.{Forest, before_last, bytes_in, empty, flatten, join}}
pub use Rattle.tree_handles.specs.{Forest.{last_trees, one_tree, tree}, Handed.{Ends, Gives, IsHanded, KeepsFront, Starts, tree_of}, Inside.{tree_at}, Roots.{root_tree, without_root}}
pub use Rattle.tree_handles.specs.{Standing.{IsRefused, KeepsRefusals, LacksBytes, Stands, forest}, declared.handle.Handle.{Handle}}
unfoldable pub use Rattle.tree_handles.specs.Forest.{forest_of}
