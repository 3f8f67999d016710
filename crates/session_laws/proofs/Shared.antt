-- The names that the proofs share.
pub use Rattle.beautify.proofs.{FaceLaws.{reduced_face_means}, FaceSizes.{face_large}}
pub use Rattle.calc_algebra.proofs.{MeaningLaws.{one_meaning}, SquareClassLaws.{Same-trans}, SurdLaws.{Agree-Same}, NumberLaws.{number_words}, NumberUniqueness.{one_number}}
pub use Rattle.calc_algebra.specs.{BadAndEasy.{HasValue, IsEasy}, Numbers.{value}, Rewritings.{KeepsMeanings, Reduces}, Surds.{Surd}, SquareClasses.{Same}}
pub use Rattle.calc_commands.proofs.{Lines.{once}, Colons.{asks_colon, blank_line}, Splitting.{split_once}}
pub use Rattle.calc_commands.specs.{Commands.{Asked, IsCommandLine, diff, draw, expand, forget, solve}, Equations.{Piece, Pieces, all_placed}}
pub use Rattle.calc_language.specs.{Faces.{face}, Texts.{text}}
pub use Rattle.calc_measures.specs.Measures.{all_simple, roots}
pub use Rattle.calc_parser.proofs.Sizes.{building_takes_the_size, takes_room}
pub use Rattle.calc_parser.specs.Building.{building}
pub use Rattle.calc_session.proofs.{TextLemmas.{never_misread, no_store, one_text, read_at_all}, SolutionMeanings.{told_says}}
pub use Rattle.calc_session.specs.{Arguments.{IsNoExpression, bytes_before}, Asking.{Asks, AsksInVain, Request, commanded, is_asked, is_long, is_no_command, is_no_line, is_nothing, is_text}}
pub use Rattle.calc_session.specs.{Calculating.{ExpressionBecomes, IsReplyToExpression, is_no_expression, is_read, made_in}, Commanding.{IsReplyToCommand, IsTold, forgets, is_to_be_drawn, refuses}}
pub use Rattle.calc_session.specs.{Commanding.{tells}, Deriving.{IsReplyToDerivative, has_none}, Evaluations.{IsReduction, IsReplyToMade, IsReplyWith, Unmade, has_no_value, holds_its_name}}
pub use Rattle.calc_session.specs.{Evaluations.{is_answered, is_made, is_not_made, is_shown, is_stored, lacks_bytes, made}, Expanding.{IsReplyToExpansion, expansion_text, is_expanded}}
pub use Rattle.calc_session.specs.{Expanding.{is_no_polynomial}, Forms.{form_room}, Reading.{IsUnstorable, ReadsTree, finds_names_full, is_ans}, Replies.{Reason, Reply, circular, forgot, full}}
pub use Rattle.calc_session.specs.{Replies.{not_polynomial, refused, report, reported, shown, stored, undefined}, SolutionTexts.{solution_text}, SolutionsMeant.{AsksToSolve, TellsSolutionsOf}}
pub use Rattle.calc_session.specs.Solving.{AreUnmade, Become, IsNoEquation, IsReplyToEquations, IsReplyToRead, IsReplyToSolve, IsSolution, ReadsEquation, ReadsSide, are_linear, are_made}
pub use Rattle.calc_session.specs.Solving.{are_not_linear, are_not_made, are_not_read, are_not_written, are_read, are_too_many, does_not_fit, equation, first_not_linear, have_too_many_names}
pub use Rattle.calc_session.specs.{Solving.{is_interrupted, is_told, nothing}, States.{State, first_state, free_bytes, trees}, Steps.{IsReply, IsReplyTo, IsReplyToTree, IsReplyToValue, Leaves}}
pub use Rattle.calc_session.specs.Steps.{LeavesAnswer, LeavesOthers, Step, asks_in_vain, cannot_be_stored, is_evaluated, is_replied}
pub use Rattle.calc_terms.proofs.{Sizes.{num_least}, SmallLaws.{one_node}}
pub use Rattle.calc_terms.specs.{Node.{Node}, Trees.{Tree, depth, is_undef, more, names, nodes, none, size, undef}}
pub use Rattle.calc_tokens.specs.Placed.{Placed}
pub use Rattle.dual_diff.proofs.Derived.{slope_means}
pub use Rattle.dual_diff.specs.Derivatives.{HasDerivative, derivative}
pub use Rattle.expansions.proofs.{ReducedExpansions.{tree_expanded_reduced}, ExpandedMeanings.{expanded_means}, NormalForms.{one_normal_form}}
pub use Rattle.expansions.specs.{ExpandedTrees.{expanded, sum_tree, term_trees}, ExpansionRoom.{expansion_room}, PolynomialTrees.{is_polynomial, polynomial_of}}
pub use Rattle.linear_solve.proofs.{NamesOnce.{names_once, over_six}, CheckCounts.{trips_among_all}}
pub use Rattle.linear_solve.specs.{Equations.{Equation, nodes_of_sides}, Fitting.{Misfit}, RisingNames.{AreNamesOf}}
unfoldable pub use Rattle.linear_solve.specs.Solving.{solving}
pub use Rattle.name_table.proofs.{FilledBytes.{Fares, FitsOnTheWay, fares, fits_by_bytes, fits_by_nodes, fits_first}, Holders.{holders-told}, Later.{values-counted, values-left}}
pub use Rattle.name_table.specs.{Filling.{Filling, NamedTree, depth_limit, filled, filling, fills, lacks, too_deep, value_in, values}, Held.{AreRoots, IsHeld, held_by, holders_in}}
pub use Rattle.name_table.specs.{Storing.{IsStorable}, Tables.{Entry, Table, entries, with_answer, without_entry, without_name}}
pub use Rattle.node_pool.specs.{Nodes.{has}, declared.full.Full.{Full}}
pub use Rattle.poincare_run.proofs.SettingLemmas.{options_are_asked}
pub use Rattle.poincare_run.specs.{Beginnings.{first_moment}, Steps.{Chain, LineStep, Moment, Turn, bits, room}, declared.words.Options.{Options}}
unfoldable pub use Rattle.poincare_run.specs.Options.{options_of}
pub use Rattle.reduce_port.specs.{Bounds.{MayExceed}, Checks.{TripsWithin}, EasyTrees.{Evaluates}}
pub use Rattle.session_laws.specs.{Enough.{HasBytesFor, HoldsNoSmallTree, IsAnswered, ReadsFilled, of_its_nodes, of_the_tree}, ExpansionsMeant.{AsksExpansionOf, HaveSameCoefficients, TellsExpansion}}
pub use Rattle.session_laws.specs.{Meant.{Becomes, HasNoMeaning, HasSmallRadicands, MeanTheSame, MeansNothing, ShowsMeaning}, Slopes.{TellsDerivative, TellsNoSlope, TellsSlope}}
pub use Rattle.std.proofs.{lemmas.List.Elements.{All-cons, All-head, All-nil, All-tail}, Common.{All, Bool, Contains, Err, List, None, Ok, Option, Result, Some, [], ap, arith, codes, cond, eqb}}
pub use Rattle.std.proofs.{Common.{false, inl, inr, length, map, refl, subst, suc, sym, true, zero, ℕ, ◌*◌, ◌++◌, ◌+◌, ◌-◌, ◌<◌, ◌^◌, ◌↔◌, ◌∙◌, ◌∷◌, ◌≡◌, ◌≤◌, ◌⊎◌}, lemmas.Bool.{both_ways}}
pub use Rattle.std.proofs.lemmas.Nat.{mul-le, pow_pos}
pub use Rattle.std.specs.{List.{AllZip}, Str.{bytes_eq}}
pub use Rattle.tree_handles.proofs.{Forests.{forest_of_whole}, Outcomes.{by_test}, Roots.{tree-right}}
pub use Rattle.tree_handles.specs.{Expressions.{plain, plains}, Forest.{Forest, empty, flatten, join, rest_trees, root_id, tree}, Inside.{holds}, Roots.{has_root, root_tree}}
unfoldable pub use Rattle.tree_handles.specs.Forest.{forest_of}
