-- The names that the proofs share.
pub use Rattle.breakers.specs.{Breakers.{CalmChecks}, Watch.{states}}
pub use Rattle.calc_algebra.proofs.{HalfLaws.{half_is_odd}, MeaningRewrites.{KeepsMeanings-power, KeepsMeanings-product_more, KeepsMeanings-refl}, NumberLaws.{number_test, number_words}}
pub use Rattle.calc_algebra.proofs.{NumberLaws.{numbers_defined, term_words}, ReducedLaws.{reduced_words}, Rewritings.{Rewrites-refl, Rewrites-trans, reduces, reduces_after, rewrites_of}}
pub use Rattle.calc_algebra.proofs.{SmallLaws.{keeps, keeps as kept}, EasyLaws.{EasyHalfPower, EasyWholePower, HasBad, bad_div, bad_neg, bad_part, bad_power, bad_product, bad_root, bad_sub, bad_sum}}
pub use Rattle.calc_algebra.proofs.EasyLaws.{easy_divisor, easy_part, easy_power, easy_root, negative_reduced, num_is_not_bad, product_of_bad, rational_reduced, reduced_value, sum_of_bad}
pub use Rattle.calc_algebra.proofs.{EasyLaws.{undef_is_bad, zero_reduced}, BadLaws.{bad_has_no_value, easy_decided}, PowerRewrites.{div_as_product}, NumberRewrites.{negative_power_of_rational}}
pub use Rattle.calc_algebra.proofs.{NumberRewrites.{product_of_rationals, sum_of_numbers}, Names.{no_new_name}, UndefRewrites.{undef_part}}
pub use Rattle.calc_algebra.specs.{BadAndEasy.{GivesZeroNoPower, HasValue, IsBad, IsBadNode, IsEasy, IsHalf, IsNegative, IsZero}, Meanings.{IsAssignment}, Numbers.{AreTerms, IsNumber, IsTerm}}
pub use Rattle.calc_algebra.specs.{Numbers.{are_numbers, classes, is_term, natural_of, term_of, value}, Reduced.{HasForm, IsSumForm, NoneIs, are_reduced, base_of, is_half_num, is_opaque_exponent}}
pub use Rattle.calc_algebra.specs.{Reduced.{is_whole_num, num_one, number_terms, other_terms}, Rewritings.{KeepsMeanings, Reduces, Rewrites}, Surds.{Surd, surd_of, surd_times}}
unfoldable pub use Rattle.calc_algebra.specs.{Numbers.{is_number}, Reduced.{is_reduced}}
pub use Rattle.calc_measures.proofs.Weights.{base_nest, exponent_nest, heavy, loads_few, numbers_nest, some_weight, to_number, to_other}
pub use Rattle.calc_measures.proofs.{LiteralValues.{half_answer, half_literal_answer, whole_answer}, Inverses.{inverse_value, opposite_value, times_minus_one, zero_inverse}, Nests.{nest_number}}
pub use Rattle.calc_measures.proofs.ZeroBounds.{zero_high}
pub use Rattle.calc_measures.specs.{Literals.{half_literal, is_half_literal, is_whole_literal, or_literal, whole_literal}, Loads.{has_coefficient, load_of_factor, load_of_factors, nest, nest_of}}
pub use Rattle.calc_measures.specs.{Loads.{weight}, Measures.{all_simple, are_all_simple, bits, bounds, bounds_of_factors, high, is_simple_power, low, most_bits, power_bounds, room, roots, roots_of}}
pub use Rattle.calc_measures.specs.{Measures.{unbounded_bits, unbounded_room}, PlainTrees.{IsPlainAnswer, IsPlainOverflow}, PlainValues.{Gathered, PlainValue, are_plain, calculated, decided, divided}}
pub use Rattle.calc_measures.specs.PlainValues.{exactly, folded, gather, is_plain, nothing, on_one, on_two, overflow, plain_of, plain_of_children, plain_value, powered, undefined, values}
pub use Rattle.calc_measures.specs.PlainOverflows.{is_overflow, nodes_among, nodes_to_overflow, with_child}
pub use Rattle.calc_room.proofs.{NumberBytes.{num_bytes}, TreeBytes.{tree_bytes}}
pub use Rattle.calc_room.specs.{Counts.{counted}, Spans.{SpansRoot, SpansTree, SpansTrees}}
pub use Rattle.calc_terms.proofs.{FractionFacts.{no_zero, whole_denominator, whole_numerator, zero_is}, SmallLaws.{append_assoc, append_none as append-none, count_append, if_ok_both, or_false}}
pub use Rattle.calc_terms.proofs.SmallLaws.{passed_on, sizes_append, two_count}
pub use Rattle.calc_terms.specs.{Fits.{Operation, add_op, fraction_fits, mul_op, operation_fits, result_of}, Fractions.{Fraction, inverse, is_zero_fraction, lowest, minus_one_fraction, plus, times}}
pub use Rattle.calc_terms.specs.{Fractions.{whole_fraction}, Integers.{int_is_even, int_is_negative, int_is_zero}, Limits.{bits_limit, number_limit}}
pub use Rattle.calc_terms.specs.{Payload.{Payload, bare, rational, size_of_payload}, Rat.{ratio_of, value_of}, Trees.{AllPartsOf, HasTwo, IsPart, IsPartOf, Tree, Trees, add, append, are_rationals}}
pub use Rattle.calc_terms.specs.Trees.{count, div, first, has_undef, in_add, in_base, in_dividend, in_divisor, in_exponent, in_left, in_mult, in_neg, in_right, in_root, is_add, is_div, is_mult}
pub use Rattle.calc_terms.specs.Trees.{is_num, is_root, is_sub, is_symbol, is_undef, itself, later, more, mult, names, names_of, neg, nodes, nodes_of, none, num, power, root, root_kind, root_size}
pub use Rattle.calc_terms.specs.{Trees.{size, sizes, sub, symbol, undef}, declared.kind.Kind.{Kind}, declared.rat.Rat.{Rat}, Ratio.{Ratio, whole}, FractionLaws.{one_times, times_comm}}
unfoldable pub use Rattle.calc_terms.specs.Fractions.{negative, one_fraction, zero_fraction}
pub use Rattle.coefficients.proofs.{Coefficients.{product_form_of}, Factors.{no_split}, Forms.{parts_reduced, reduced_parts}, Free.{number_refused}, Lacks.{sum_whole as sum_words}}
pub use Rattle.coefficients.proofs.{Splits.{Leads, in_front}, Puttings.{fault_after, on_ok_after}}
pub use Rattle.coefficients.specs.Coefficients.{factors_of}
pub use Rattle.deep_reduce.specs.{Connectives.{joined_by, joined_room, kind_of, neutral_of, of_sides, turned, turned_room}, Halves.{IsRooted}, Nodes.{IsNodeAnswer, IsNodeOverflow, has_no_value}}
pub use Rattle.deep_reduce.specs.{Nodes.{has_number, is_neg}, Pairs.{GivesSides}, Reductions.{IsReducedFrom, IsWithinTree, MayLack, MayOverflow}, Unfinished.{AreTransparent, Finishes, IsLess}}
pub use Rattle.deep_reduce.specs.Unfinished.{IsNested, IsSettled, IsTransparent, IsUnfinished, Joins, joins_gathered, joins_none, joins_pair, joins_then, nest_of_joint, nest_of_rewritten, nest_over}
pub use Rattle.deep_reduce.specs.{Unfinished.{weight_below, weight_of_bases}, declared.connective.Connective.{Connective}}
pub use Rattle.node_bounds.proofs.NodeBytes.{AreSides, difference_fits, factors_fit, inverse_calm, inverse_spans, negated_calm, negated_fits, negated_spans, no_factors, no_half_power, node_sides}
pub use Rattle.node_bounds.proofs.NodeBytes.{node_spans, opposite_calm, opposite_fits, opposite_spans, quotient_fits, right_inverse_lacks, right_opposite_lacks, root_result, some_factors}
pub use Rattle.node_bounds.proofs.{JointBytes.{IsJoining, joining, joint_lacks, split_bytes}, Calm.{all_nth, calm_exponent, calm_no_half, calm_power, calm_product, one_whole, whole_kept}}
pub use Rattle.node_bounds.proofs.Clashes.{and_other, base_reduced, clash, contrary, exponent_reduced, or_other, power_no_number, rational_number, undef_has_none, undef_test, undef_words, zero_words}
pub use Rattle.node_bounds.proofs.NodeBits.{answer_defined, as_overflow, difference_right, first_side, holds_as, measured_facts, one_held, only_undef, opposite_factors, power_answer_held}
pub use Rattle.node_bounds.proofs.{NodeBits.{power_node_fits, root_node_fits, second_side, two_factors, zero_held}, PowerBytes.{argument_needs, exponents_lack, inner_needs, last_parts, needs_most}}
pub use Rattle.node_bounds.proofs.{PowerBytes.{part_lacks, product_lacks, split_at}, Rewritten.{by_power, by_product, exponents_calm, exponents_span, is_rewritten, parts_calm, parts_single}}
pub use Rattle.node_bounds.proofs.{Rewritten.{power_keeps, powers_raised, product_keeps, raised_calm, some_counted}, NodeRooms.{difference_room, inverse_count, node_room, number_room, opposite_room}}
pub use Rattle.node_bounds.proofs.{NodeRooms.{quotient_room, root_node_room, same_room, undef_room}, HeldFits.{exponent_ready, joint_exponents, joint_fits, part_ready, powers_ready, product_fits}}
pub use Rattle.node_bounds.proofs.{HeldFactors.{factor_tree, factor_wider, tree_factor, undef_factor}, JointRooms.{finished_keeps, gathered_hands_on, hands_on_next, joined_calm, joined_spans}}
pub use Rattle.node_bounds.proofs.{JointRooms.{keeps_next, settled_hands_on, summed_calm, summed_spans, whole_count_most}, PowerRooms.{finished_room, half_room, kept_counts, root_room}}
pub use Rattle.node_bounds.proofs.{PowerRooms.{undef_root_room}, HeldJoints.{first_reduced, settled_held}, HeldRoots.{half_held, half_no_whole, root_answer_held}}
pub use Rattle.node_bounds.proofs.{HeldPowers.{power_holds, product_holds}, ProductCounts.{product_counts, product_joins_none}}
pub use Rattle.node_bounds.specs.{Answers.{IsReducedPower, IsReducedProduct, has_no_half_power, is_number_power, lacks_power}, Bits.{IsHeldAsRootPower}, HandedOn.{AreReducedPowers, HandsOn, IsLifted}}
pub use Rattle.node_bounds.specs.{HandedOn.{IsMultiplied, IsProductOfPowers, IsSummed}, NodeBits.{HoldsNode, HoldsPower, holds_half, holds_kept, holds_whole}, NodeRooms.{HasNodesFor, KeepsNodeRoom}}
pub use Rattle.node_bounds.specs.{NodeRooms.{SpansNode, factors_room, node_count}, Rooms.{IsCalmAtZero, IsJoinedFrom, IsRewritten, KeepsRootRoom, SpansRootOf, power_count, whole_power_room}}
pub use Rattle.node_pool.proofs.Ids.{eqb_sym as eqb-sym}
pub use Rattle.node_pool.specs.State.{State, free_of}
pub use Rattle.number_forms.proofs.{Shaped.{term_number as number_of_term}, Placings.{one_test as one_is_one}, RationalBits.{as_num, sum_parts}, Rooms.{full_as, refusal_as}}
pub use Rattle.number_forms.proofs.{Shared.{IsHeld, held_times, no_larger}, RationalCalls.{num_same, plain_answer, rational_over, rational_product, rational_sum}}
pub use Rattle.number_forms.specs.{Readers.{is_zero, numerator}, Sums.{removed}, Answers.{AnswersRationals, IsNumberOver}}
pub use Rattle.power_reduce.proofs.{ByRule.{is_rewritable, transparent_whole}, Cases.{no_plain_value, one_kept, root_once, undef_base_kept, zero_kept}, Exponents.{as_whole, by_half, no_half}}
pub use Rattle.power_reduce.proofs.{Exponents.{one_is_not_two, whole_no_half}, Leaves.{number_reduced, symbol_reduced}, RaisedBytes.{handed_bytes}, Rules.{chosen}, Spanned.{parts_span}}
pub use Rattle.power_reduce.proofs.{Weights.{number_weight, power_nest, product_parts, weights, weights_more, weights_none}, Whole.{whole_is}, Answered.{number_nest}}
pub use Rattle.power_reduce.proofs.HeldPowers.{number_power_held, rational_power_held}
pub use Rattle.power_reduce.specs.{Bits.{IsHeldAsPowerOf}, Misfits.{IsPowerMisfit}, PowerAnswers.{IsPowerAnswer, IsStep, IsWrittenPower, base_in, exponent_in, has_no_power, has_number_power}}
pub use Rattle.power_reduce.specs.{PowerAnswers.{is_at_most_zero}, PowerSteps.{goes_inside, half, parts_of, power_of_root, raised, rewritten, rewritten_whole}, Rooms.{LacksRoot, LacksStep}}
pub use Rattle.product_reduce.proofs.{Bounds.{load_number, load_product}, Finished.{rationals_defined}, Joined.{joined_keeps, one_base}, JointBounds.{base_reduced as base_is_reduced}}
pub use Rattle.product_reduce.proofs.{JointBounds.{exponent_reduced as exponent_is_reduced}, Neighbours.{joint_there, neighbours_joint, partners_of_pair}, Small.{undef_reduced}}
pub use Rattle.product_reduce.proofs.{HeldNumbers.{alone_held, number_as_factor, value_held}, Joints.{flat_load}, NoNewNames.{names_joined}}
pub use Rattle.product_reduce.specs.{Bounds.{KeepsFactorBounds, KeepsProductBounds}, Answers.{AreJoinable, IfFinished, IfJoined, IsFinished}}
pub use Rattle.product_reduce.specs.{Bits.{AreFactorsHeld, IsFactorHeld, factor_held, none_held}, Factors.{opened, others_in}, Gathering.{IsGathered}, Joining.{IsJointAt, exponent_of, have_partners}}
pub use Rattle.product_reduce.specs.{Joining.{is_partner, joined, joint}, Neighbours.{IsNextPair, IsPairAt, NoPairBetween, joined_pair}, declared.gathering.Joining.{Joining}}
pub use Rattle.radical_forms.proofs.{RootValues.{of_root}, Handed.{root_is}, Spanned.{spans_root_of}}
pub use Rattle.radical_forms.specs.{Refusals.{IsFull, NamesProduct}, RootAnswers.{IfRational, IsRootAnswer, argument_of, has_no_root}}
pub use Rattle.rational128.proofs.{Products.{parts_fit}, LowestTerms.{ratio_parts}}
pub use Rattle.rational128.specs.declared.overflow.Overflow.{Overflow}
pub use Rattle.reduce_port.specs.{Steps.{IfDone}, declared.step.Step.{Step}, EasyTrees.{Evaluates}}
pub use Rattle.reduce_walk.proofs.{Parents.{IsParent, held_at, parent_handed}, Walks.{nodes_by_children, none_left, stands_last}, TakenOut.{IsTakenOut, parent_end, parent_owned, taken_out}}
pub use Rattle.reduce_walk.proofs.Port.{overflow_as, unfit_after_checks}
pub use Rattle.reduce_walk.specs.{Answers.{AreAnswers, EachTree, IsNext}, Leaves.{is_leaf}}
pub use Rattle.std.proofs.lemmas.Bool.{and_from, and_left, and_parts, and_right, cases_Bool, eq-eqb, eqb-true, false_from_ne_true, le-leb, leb-false, leb-true, not-true, not_from_false, or_cases}
pub use Rattle.std.proofs.{lemmas.Bool.{or_from, or_left, or_parts, or_right}, lemmas.Int.{ints}, lemmas.List.Elements.{Contains-append_cases, Contains-append_left, Contains-append_right}}
pub use Rattle.std.proofs.{lemmas.Nat.{mul-le, pow_pos}, Common.{Bool, Contains, IfErr, IsErrAnd, IsOk, List, MatchOption, None, Option, Result, Some, [], add-one, ap, append-nil, arith, eqb, false}}
pub use Rattle.std.proofs.Common.{if◌then◌else◌, inl, inr, length, max, nat_le, negsuc, not, of_z, pos, refl, rules, subst, suc, sym, to_z, true, zero, ℕ, ℤ, ◌&&◌, ◌*◌, ◌++◌, ◌+◌, ◌-◌, ◌<ℤ◌, ◌<◌}
pub use Rattle.std.proofs.{Common.{◌==◌, ◌^◌, ◌||◌, ◌↔◌, ◌∙◌, ◌∷◌, ◌≡◌, ◌≢◌, ◌≤ℤ◌, ◌≤◌, ◌⊎◌}, lemmas.List.{length-append}}
pub use Rattle.std.specs.{Prelude.{nat_abs, ⊤}, Result.{result_ok}, Int.{w128}}
pub use Rattle.sum_reduce.proofs.Held.{both_held}
pub use Rattle.sum_reduce.specs.{Bounds.{KeepsSumBounds}, SumAnswers.{IsSumAnswer}}
pub use Rattle.surd_bits.specs.Rooted.{IsNoLargerThanRoot}
pub use Rattle.surd_terms.proofs.Rationals.{rational_fits}
pub use Rattle.tree_bits.proofs.{Factors.{factor_is_held}, Sums.{symbol_is_held}, RaisedBits.{base_most}, Numbers.{held_wider, no_undef}}
pub use Rattle.tree_bits.proofs.Rows.{rational_row, rational_to_symbol, sum_row, symbol_to_symbol}
pub use Rattle.tree_bits.specs.{Rows.{AreFewBits, bounds_of_each}, Children.{AreTreesHeld, IsSumHeld, addends_of_each}, Powers.{raised_high, raised_low}}
pub use Rattle.tree_handles.proofs.{Beside.{gives_itself, gives_without}, Cuts.{represents_count}, Filling.{changes_after, changes_as, changes_free, changes_front, changes_last, changes_last_front}}
pub use Rattle.tree_handles.proofs.{Filling.{changes_none, children_told, front_again, handed_arity, hole_stays}, Forests.{bytes_in-join, keeps_after}, Refused.{kept_same as keeps_none}}
pub use Rattle.tree_handles.proofs.{FreeBytes.{both_replaced_free, refused_below, replaced_free}, Fronts.{behind_first, behind_later, behind_new, front_after, front_after_one, front_after_two}}
pub use Rattle.tree_handles.proofs.{Fronts.{front_at, front_end, front_put, front_same, front_without}, Given.{given_apart, given_handed, given_other, given_rest, given_root, given_same, given_told}}
pub use Rattle.tree_handles.proofs.{Given.{given_without, gives, gives_as, handed_at, owned, represents_handed}, Lasts.{ends_at, kids_of_root, last_tree, tree_of_root}, Outcomes.{if_map}}
pub use Rattle.tree_handles.proofs.{Over.{without_put}, Places.{used_forest}, Plains.{nodes-plain, size-plain}, Room.{given_free, released_free}, Roots.{root_arity}, Seen.{expression, kind_of_root}}
pub use Rattle.tree_handles.proofs.{Seen.{no_product_kind, product_kind, seen, sum_kind}, UndefChildren.{undef_inside}, Measures.{few_in}, SmallLaws.{replaced_count}}
pub use Rattle.tree_handles.specs.{Expressions.{IsExpression, children_of, compound, nth, plain, takes_kind}, Faults.{IfOverflow, OfOverflow}}
pub use Rattle.tree_handles.specs.{Forest.{Forest, arity, bytes_in, kids, tree_nth, without_nth}, Handed.{Ends, Gives, IsHanded, IsOwned, KeepsFront, tree_of}}
pub use Rattle.tree_handles.specs.{Holes.{ChangesTree, set_child, set_tree}, Inside.{kids_of, tree_at}, Lacking.{LacksBelow, OfFull}, Roots.{put, root_tree, without_root}}
pub use Rattle.tree_handles.specs.{Standing.{KeepsRefusals, Stands, forest}, declared.fault.NumberFault.{NumberFault}}
pub use Rattle.tree_room.proofs.{Calm.{literal_whole, whole_number}, Counts.{counts_one, numbers_and_others}, Multiples.{scaled}, Rooms.{all_written_bytes, five_times, more_rooms, power_simple}}
pub use Rattle.tree_room.proofs.{Rooms.{reduced_bytes, room_is, spanned_room, term_room, two_simple}, Zeros.{each_once, symbol_zero}, NodeCounts.{all_within}, Handed.{product_bytes, sum_bytes}}
pub use Rattle.tree_room.proofs.JoinedSpans.{tree_first, tree_second, trees_second}
pub use Rattle.tree_room.specs.{Children.{CountWithin, answer_bytes, answers_bytes}, Exponents.{AreCalm, HasCalmExponent, IsCalm, MeansWhole, zeros}, Handed.{product_count, sum_count}}
pub use Rattle.tree_room.specs.Needs.{power_room, product_room, simple_room, sum_room}
