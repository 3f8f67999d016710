-- The names that the proofs share.
pub use Rattle.breakers.proofs.{Runs.{CalmChecks-append, calm_checks_raise_no_trips, only_the_tripped_rose}, Stops.{one_calm, trips_after, trips_more, trips_within_after}}
pub use Rattle.breakers.specs.{Breakers.{CalmChecks, TripsRose, TripsWithin}, State.{State}, Watch.{states}}
pub use Rattle.calc_algebra.proofs.{InverseLaws.{Inverts-surd_of, inverse_times_itself, negative_times, same_from_difference}, MeaningLaws.{Same-sym, one_meaning, surd_of_one}}
pub use Rattle.calc_algebra.proofs.{SquareClassLaws.{Same-Agree, Same-trans}, SurdLaws.{Agree-sym, Agree-trans, times_zero}, TermLaws.{Same-eq, Same-refl, joined_radicand, surd_times-terms}}
pub use Rattle.calc_algebra.proofs.{TermLaws.{zero_term}, MeaningRewrites.{product_more, product_none, sum_more, sum_none}}
pub use Rattle.calc_algebra.specs.{Meanings.{Assignment, Binding, Gives, IsAssignment, Means, bound_names}, Surds.{surd_of, surd_one}, TreeOrder.{tree_cmp}}
pub use Rattle.calc_terms.proofs.{FractionFacts.{no_zero, zero_is, zero_test}, SmallLaws.{and_true, in_front, only_one, or_false, plus_both, times_one}, Names.{clash}}
pub use Rattle.calc_terms.proofs.SmallFractions.{one_value, plus_zero, zero_value}
pub use Rattle.calc_terms.specs.{Fits.{Operation, add_op, mul_op, result_of}, FractionLaws.{negative_lowest, one_times, plus_negative, times_assoc, times_comm, times_plus, zero_plus, zero_times}}
pub use Rattle.calc_terms.specs.{Fractions.{Fraction, inverse, is_zero_fraction, lowest, minus_one_fraction, negative, plus, plus_assoc, plus_comm, times}, Leaf.{name_of}, Rat.{ratio_of, value_of}}
pub use Rattle.calc_terms.specs.Trees.{Tree, Trees, add, count, div, is_symbol, more, mult, names, names_of, neg, nodes, nodes_of, none, num, power, root, root_kind, sub, symbol, undef}
pub use Rattle.calc_terms.specs.{declared.kind.Kind.{Kind}, declared.rat.Rat.{Rat}, Ratio.{Ratio, whole}}
unfoldable pub use Rattle.calc_terms.specs.Fractions.{one_fraction, zero_fraction}
pub use Rattle.linear_solve.specs.{Checks.{checks_behind, checks_of_each, equation_checks, name_checks, row_checks, rows_checks, side_checks}, Elimination.{Rows, cleared, cleared_pivot}}
pub use Rattle.linear_solve.specs.{Elimination.{difference_of, equation_row, equation_rows, first_with, others, row_at, settled, settled_at, settled_up_to, unit}, Equations.{AreDistinct, Assigns}}
pub use Rattle.linear_solve.specs.{Equations.{Equation, IsLinearIn, Solves, SolvesAll, equation_at, equations_in, nodes_of_sides}, Faults.{OfOverflow, StopsAfter}}
pub use Rattle.linear_solve.specs.{Fitting.{Misfit, and_then, each, fitted, product_of, sum_of}, Forms.{Answer, Form, HasItsValue, HaveTheirValues, HoldLaterFreeNames, IsFree, answer_of, differences}}
pub use Rattle.linear_solve.specs.{Forms.{form_of, forms_of, free, multiple_in, multipliers, never, solved}, Linear.{are_linear, count_named, has_name, have_name, is_divisor, is_linear, is_nonzero}}
pub use Rattle.linear_solve.specs.{Linear.{joined_name, name_where_linear, root_name}, Rows.{Row, added, entry, negated, scaled, without, worth}, Sides.{Names, Side, bare_row, constant_of}}
pub use Rattle.linear_solve.specs.Sides.{constant_row, difference_row, joined_from, joined_row, joined_rows, name_row, over_both, own_row, product_row, quotient_row, row_of, rows_of, signed_row}
pub use Rattle.linear_solve.specs.{Sides.{sum_row}, Solutions.{IfSolved, answer_told, form_told}, Solving.{rows_at_first, rows_solved}, States.{rows_told}}
pub use Rattle.linear_solve.specs.{Told.{entries_of, misfit_of, pivot_of, side_of, side_told}, declared.fault.SolveFault.{SolveFault}, RisingNames.{AreNamesOf, HoldOverSixNames, Includes, IsNameIn}}
pub use Rattle.linear_solve.specs.{RisingNames.{Rises, is_before, names_at}, declared.row.Entry.{Entry}, declared.side_names.Listed.{Listed}, declared.solution.Solution.{Solution}}
pub use Rattle.linear_solve.specs.Listed.{names_listed}
unfoldable pub use Rattle.linear_solve.specs.{Checks.{solving_checks}, Solving.{solving}}
pub use Rattle.rational128.proofs.LowestTerms.{ratio_parts}
pub use Rattle.rational128.specs.{declared.overflow.Overflow.{Overflow}, Refusals.{DoesNotFit}}
pub use Rattle.std.proofs.{lemmas.Bool.{and_parts, cases_eq, cases_lt, eq-eqb, eqb-true, false_from_ne_true, leb-true, lt-leb, ne_eqb, not-false}, lemmas.List.{append-nil, drop_all, drop_more}}
pub use Rattle.std.proofs.lemmas.List.{get_or-drop, get_or-map, get_or-replicate, get_or_append_left, get_or_at, get_or_default, get_or_past, get_or_push, length-append, length-map, length-replicate}
pub use Rattle.std.proofs.{lemmas.List.{length_push, map_more, map_push, take-append-drop, take_all, take_more}, lemmas.List.Edits.{length-swap, swapped_from_swap}, lemmas.List.Elements.{All-cons}}
pub use Rattle.std.proofs.lemmas.List.Elements.{All-contains, All-drop, All-from_get_or, All-get_or, All-head, All-nil, All-same, All-set, All-tail, Contains-append_cases, Contains-append_left}
pub use Rattle.std.proofs.{lemmas.List.Elements.{Contains-append_right, Contains-push}, lemmas.List.FromFn.{get_or-enumerate_from, get_or-map-range_with_len, length-enumerate_from}}
pub use Rattle.std.proofs.{lemmas.List.FromFn.{length-map-range_with_len, map-range_with_len_more}, lemmas.List.Sums.{prefix_len-le-length, prefix_len_passes, sum_by-cons}}
pub use Rattle.std.proofs.{lemmas.Result.{err_from_is_err_and}, lemmas.Slice.Zip.{AllZip-long, get_or-zip, length-zip}, Common.{Bool, Err, IfErr, IfOk, IsErr, List, None, Ok, OnOk, Option, Result}}
pub use Rattle.std.proofs.Common.{Some, [], add-one, ap, append_assoc, arith, cond, drop, false, get_or, inl, inr, length, length-drop, lit<, map, min, pos, refl, set, subst, suc, sym, take, true}
pub use Rattle.std.proofs.{Common.{zero, zero-add, ℕ, ◌++◌, ◌+◌, ◌-◌, ◌<◌, ◌↔◌, ◌∙◌, ◌∷◌, ◌≡◌, ◌≢◌, ◌≤◌, ◌⊎◌}, lemmas.Map.Views.{Contains-from_any}, lemmas.Slice.Eq.{bytes_eq-Decides}, Math.Dec.{eqb}}
pub use Rattle.std.proofs.{lemmas.Map.Lookups.{exact_bytes}, lemmas.List.Folds.{list_any_at}, lemmas.Cmp.{nat_list_cmp_total, tied_itself}, lemmas.List.Quantifiers.{position-Some}}
pub use Rattle.std.proofs.Math.Seq.{take-suc}
pub use Rattle.std.specs.{List.{AllZip, enumerate_from, insert, list_any, prefix_len, range_with_len}, Str.{bytes_eq}, Prelude.{All, Contains, nat_le, nat_lt, not, option_and_then, position}}
pub use Rattle.std.specs.{Prelude.{replicate, sum_by, swap, zip, ◌&&◌, ◌==◌, ◌||◌}, declared.cmp.Ordering.TheVariants.{Less}}
pub use Rattle.tree_handles.specs.{Expressions.{children_of, nth, plain}, Inside.{tree_at}, Standing.{forest}, Forest.{Forest}}
