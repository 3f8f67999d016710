-- The names that the proofs share.
pub use Rattle.calc_algebra.proofs.MeaningRewrites.{KeepsMeanings-eq, KeepsMeanings-power, KeepsMeanings-refl, KeepsMeanings-trans, one_factor_of_product}
pub use Rattle.calc_algebra.proofs.{NumberClasses.{AreProper, value_proper, value_rises}, NumberLaws.{number_test, number_words}, NumberRewrites.{fraction_whole, negative_power_of_rational}}
pub use Rattle.calc_algebra.proofs.{NumberRewrites.{power_of_inverse, power_of_number, power_of_rational, split_keeps}, PowerRewrites.{half_power, power_of_power, power_of_product, power_one_is_base}}
pub use Rattle.calc_algebra.proofs.{PowerRewrites.{power_zero_is_one, powers}, ReducedLaws.{reduced_test, reduced_words, undef_words}, UndefRewrites.{undef_part, zero_to_nothing}}
pub use Rattle.calc_algebra.proofs.{SmallLaws.{keeps, no_names}, SurdLaws.{Agree-Same}, TermLaws.{Same-refl}, HalfLaws.{half_is_odd}, InverseLaws.{inverse_of_term, inverse_of_terms, term_has_inverse}}
pub use Rattle.calc_algebra.proofs.{InverseLaws.{terms_have_inverse}, Names.{names_of_terms}, NumberValues.{number_means}, MeaningLaws.{one_meaning}}
pub use Rattle.calc_algebra.specs.{Numbers.{AreTerms, IsNumber, IsTerm, Rises, classes, term_of, terms_of, value}, Reduced.{HasForm, IsPowerForm, IsProductForm, IsWholePowerForm, NoneIs, base_of}}
pub use Rattle.calc_algebra.specs.Reduced.{is_half_num, is_num_one, is_opaque_exponent, is_transparent_power, is_whole_num, num_one, split_product}
pub use Rattle.calc_algebra.specs.{Rewritings.{HasNoNewName, KeepsMeanings, Rewrites}, SquareClasses.{Inverts}, Surds.{Surd, surd_of, surd_one, surd_power, term}, Meanings.{Means}}
unfoldable pub use Rattle.calc_algebra.specs.{Numbers.{is_number}, Reduced.{is_reduced}}
pub use Rattle.calc_bits.proofs.Held.{held_power}
pub use Rattle.calc_bits.specs.{Masses.{IsHeld, mass_from}, Bounds.{IsNoLargerThanPower}}
pub use Rattle.calc_measures.proofs.{Weights.{base_nest, to_number, to_other}, Nests.{nest_number, nest_terms}}
pub use Rattle.calc_measures.specs.{Loads.{has_coefficient, load, load_of_factor, load_of_factors, nest, nest_of, weight, weight_of_factors}, PlainTrees.{IsPlainAnswer, IsPlainOverflow}}
pub use Rattle.calc_measures.specs.PlainValues.{PlainValue, calculated, exactly, nothing, overflow, plain_value, powered, undefined}
pub use Rattle.calc_room.proofs.{TreeBytes.{counted_other, tree_bytes}, NumberBytes.{num_bytes}, NumberSpans.{power_spanned, spans_power, spans_same, tree_spanned, value_spanned}}
pub use Rattle.calc_room.specs.{Counts.{counted, counted_among}, Spans.{Spans, SpansTree, SpansTrees}, Needs.{inverse_need, power_need}}
pub use Rattle.calc_terms.proofs.{FractionFacts.{no_zero, one_is, one_test, whole_denominator, whole_numerator, zero_is}, Sizes.{num_least, num_most, whole_size}}
pub use Rattle.calc_terms.proofs.SmallLaws.{and_false, and_true, count_append, passed_on}
pub use Rattle.calc_terms.specs.{Fits.{Operation, fraction_fits, fraction_power, operation_fits, pow_op, result_of}, FractionLaws.{one_times, times_comm}, Fractions.{Fraction, inverse}}
pub use Rattle.calc_terms.specs.{Fractions.{is_one_fraction, is_zero_fraction, times, whole_fraction}, Integers.{int_is_even, int_is_negative, int_is_one, int_is_zero}, Payload.{Payload, bare}}
pub use Rattle.calc_terms.specs.{Rat.{ratio_of, value_of}, Ratio.{Ratio, whole}, Trees.{AllParts, AllPartsOf, Tree, Trees, add, append, count, div, in_base, in_exponent, is_mult, is_num, is_root}}
pub use Rattle.calc_terms.specs.{Trees.{is_undef, itself, more, mult, names, names_of, neg, none, num, power, root, root_kind, size, sizes, sub, symbol, undef}, declared.rat.Rat.{Rat}}
pub use Rattle.calc_terms.specs.{declared.kind.Kind.{Kind}, Short.{is_short_int}, Kind.{size_by_form}}
unfoldable pub use Rattle.calc_terms.specs.Fractions.{lowest, one_fraction, zero_fraction}
pub use Rattle.coefficients.proofs.{Coefficients.{leading_factors, product_form_of}, Factors.{AreFactors, no_split}, Forms.{number_parts, parts_reduced, reduced_parts, terms_parts}}
pub use Rattle.coefficients.proofs.{Splits.{IsCoefficient, Leads, in_front}, Steps.{one_value}, Loops.{IsPart, next_at, none_done, part_all, part_free, part_next, part_nth, part_within, product_row}}
pub use Rattle.coefficients.proofs.{FirstFactors.{first_factor, first_front}, Lengths.{some_factors}}
pub use Rattle.coefficients.specs.{Coefficients.{factors_of}, Multiples.{mapped}, Pairs.{GivesTwo}, Bytes.{IsShort, bytes_of_coefficient}}
pub use Rattle.node_pool.proofs.Ids.{eqb_sym as eqb-sym}
pub use Rattle.node_pool.specs.{State.{State, free_of}, declared.full.Full.{Full}}
pub use Rattle.number_forms.proofs.{Placings.{one_test as one_is_one}, RationalCalls.{num_same, plain_overflow, rational_power, rational_power_over}, Rooms.{full_as, refusal_as}}
pub use Rattle.number_forms.proofs.{InverseBits.{inverse_no_larger}, WithinBits.{inverse_within}, RationalBits.{power_no_larger, power_parts, rational_power_fits}, PowersWithin.{power_within}}
pub use Rattle.number_forms.proofs.Refusals.{faults_after, keeps_on, lacks_in, none_given, none_kept, refuses_on}
pub use Rattle.number_forms.specs.{Answers.{AnswersRationals, IsNumberOf}, Inverses.{AnswersInverse, IfValue, IsInverseOf}, Readers.{is_zero, numerator}, Rooms.{LacksRoom, SpansInverse}}
pub use Rattle.number_forms.specs.{declared.inverting.Inverse.{Inverse}, Overflows.{InverseOverflows, PowerOverflows}}
pub use Rattle.power_reduce.specs.{Bits.{HasFewBitsRaised, IsFactorHeld, IsHeldAsPowerOf, IsNumberPower}, Misfits.{IsPowerMisfit, LoweringOverflows, NamesPower, RaisingOverflows, WholeOverflows}}
pub use Rattle.power_reduce.specs.{Misfits.{inverting, raising}, PowerAnswers.{HasReducedSides, IsPowerAnswer, IsStep, IsWrittenPower, base_in, exponent_in, has_no_power, has_number_power}}
pub use Rattle.power_reduce.specs.{PowerAnswers.{is_at_most_zero, is_power}, PowerRules.{AreBoundedPowers, EachTree, HalvesRoot, IsByRule, IsLighterPart, IsRewritable, JoinsExponents, RaisesParts}}
pub use Rattle.power_reduce.specs.{PowerSteps.{goes_inside, half, is_even_whole, is_zero_or_one, parts_of, power_of_root, raised, rewritten, rewritten_whole}, Rooms.{IsShortOfRoot, IsShortOfStep}}
pub use Rattle.power_reduce.specs.Rooms.{LacksRoot, LacksStep, SpansStep}
pub use Rattle.rational128.proofs.{LowestTerms.{ratio_parts}, Signed.{told}, SmallLaws.{zero_rational}}
pub use Rattle.rational128.specs.{declared.overflow.Overflow.{Overflow}, declared.overflow.Op.TheVariants.{Pow}, Refusals.{operation_of}}
pub use Rattle.reduce_port.proofs.ChildBytes.{merged_free, taken_free}
pub use Rattle.reduce_port.specs.{Steps.{AnswersRationalStep, IfDone}, declared.step.Step.{Step}}
pub use Rattle.std.proofs.lemmas.Bool.{and_from, and_parts, eq-eqb, eqb-true, false_from_ne_true, false≢true, le-leb, leb-true, not-false, not-true, not_from_false, or_left, or_parts, or_right}
pub use Rattle.std.proofs.{lemmas.Bool.{true≢false}, lemmas.Int.{fits_signed_from_abs, ints, rem_is}, lemmas.List.Elements.{Contains-append_cases, Contains-append_left, Contains-append_right}}
pub use Rattle.std.proofs.{lemmas.Nat.{pow_pos}, Common.{Bool, Err, FitsSigned, List, None, Ok, Result, Some, [], ap, arith, eqb, false, inl, inr, length, nat_eq, neg_ℤ, negsuc, not, of_z, pos, refl}}
pub use Rattle.std.proofs.Common.{rules, subst, suc, sym, to_z, true, zero, ℕ, ℤ, ◌&&◌, ◌*◌, ◌+◌, ◌-ℤ◌, ◌<ℤ◌, ◌<◌, ◌^◌, ◌||◌, ◌∙◌, ◌∷◌, ◌≡◌, ◌≢◌, ◌≤ℤ◌, ◌≤◌, ◌⊎◌}
pub use Rattle.std.specs.{Int.{w128}, Result.{IsErrAnd}, Prelude.{IfErr, IfOk, IsOk, int_div, int_le, int_lt, int_rem, max, nat_abs, nat_le}}
pub use Rattle.surd_bits.proofs.Inverted.{one_no_larger}
pub use Rattle.surd_bits.specs.Inverted.{IsNoLargerThanInverse}
pub use Rattle.tree_bits.proofs.{Factors.{as_number, factor_as_tree, tree_as_base}, Numbers.{alone, held_number, held_wider, nothing_held, number_held}, Powers.{addend_raised, held_as_inverse}}
pub use Rattle.tree_bits.proofs.{Powers.{held_as_power, inverse_raised}, Sums.{one_counts, one_weighted}, Children.{tree_as_sum}}
pub use Rattle.tree_bits.specs.{HeldTrees.{Addend, AreWeighted, IsPartHeld, addend, addend_of, factor_held, more_weighted, no_factor_held, none_weighted, power_high, power_low}, Exponents.{Counts}}
pub use Rattle.tree_bits.specs.{Exponents.{are_counted, counts, counts_of, is_counted, multiple}, Powers.{IsHeldAsPower, raised_high, raised_low}, Children.{IsSumHeld}, Weighted.{Weighted, weighted}}
pub use Rattle.tree_bits.specs.Factors.{as_factor}
pub use Rattle.tree_handles.proofs.{Beside.{gives_put, gives_without}, Counted.{all-kids}, Cuts.{cut, cut_rest, represents_count}, Filling.{IsAsBefore, as_before, changes_as, changes_beside}}
pub use Rattle.tree_handles.proofs.Filling.{changes_front, changes_last, changes_last_front, changes_other, changes_same, children_told, front_again, hole_beside, hole_stays}
pub use Rattle.tree_handles.proofs.{Forests.{bytes_in-join, keeps_after}, FreeBytes.{refused_below, replaced_free}, Fronts.{behind_first, behind_later, behind_new, front_after, front_after_one}}
pub use Rattle.tree_handles.proofs.{Fronts.{front_after_two, front_at, front_end, front_put, front_same, front_without}, Refused.{kept_after, kept_same, kept_same as keeps_none, overflow_as}}
pub use Rattle.tree_handles.proofs.{Refused.{refused_as, refuses_after}, Given.{given_apart, given_handed, given_other, given_rest, given_root, given_same, given_told, given_without, gives, gives_as}}
pub use Rattle.tree_handles.proofs.{Given.{handed_beside, owned, represents_handed, represents_join, represents_node, represents_none, represents_with}, Lasts.{apart, ends_as, ends_at, ends_without}}
pub use Rattle.tree_handles.proofs.{Lasts.{kids_of_root, last_apart, last_tree, other_apart, other_root, tree_of_root}, Outcomes.{by_test, if_map}, Over.{IsAdded, IsOver, IsTaken, added_as}}
pub use Rattle.tree_handles.proofs.{Over.{children_at, children_in, moved, once_count, over_end, over_gives, over_handed, over_plain, over_put, over_same, taken, without_put}, Places.{used_forest}}
pub use Rattle.tree_handles.proofs.{Plains.{children_of-plain, size-plain, whole_kids}, Room.{given_free, least_size, released_free}, Roots.{put-put, root_arity, root_held, tree-without}}
pub use Rattle.tree_handles.proofs.{Seen.{expression, live, seen}, SmallLaws.{once_one}}
pub use Rattle.tree_handles.specs.{Expressions.{IsExpression, children_of, compound, grown, nth, plain}, Faults.{Faults, OfOverflow}, Forest.{Forest, arity, bytes_in, empty, kids, merged_nth}}
pub use Rattle.tree_handles.specs.{Forest.{one_tree, root_count, root_payload, tree, tree_nth, with_nth, with_root_kids, without_nth}, Handed.{AllOnce, Ends, Gives, IsHanded, IsOnce, IsOwned}}
pub use Rattle.tree_handles.specs.{Handed.{KeepsFront, Represents, tree_of}, Holes.{ChangesTree, IsHole, Place, set_child}, Inside.{holds, kids_of, tree_at}, Roots.{put, root_tree, without_root}}
pub use Rattle.tree_handles.specs.{Standing.{KeepsRefusals, LacksBytes, Refuses, Stands, forest}, declared.fault.NumberFault.{NumberFault}, Causes.{IsCaused}, Lacking.{OfFull}}
pub use Rattle.tree_room.proofs.{Coefficients.{split_counts}, Counts.{counts_one, number_counts_one}, PowerCounts.{power_no_number}, Handed.{raised_factor, raised_number}, Multiples.{scaled}}
pub use Rattle.tree_room.specs.Handed.{counted_in_all}
pub use lib.Signed.{le_z, lt_z}
