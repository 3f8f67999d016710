-- The names that the proofs share.
pub use Rattle.calc_algebra.proofs.{MeaningLaws.{Same-sym}, MeaningRewrites.{KeepsMeanings, KeepsMeanings-eq, KeepsMeanings-product_append, KeepsMeanings-product_more, KeepsMeanings-refl}}
pub use Rattle.calc_algebra.proofs.MeaningRewrites.{KeepsMeanings-trans, Permuted, Permuted-append_right, Permuted-refl, Permuted-sym, joined_in_product, nested_product, none_product}
pub use Rattle.calc_algebra.proofs.MeaningRewrites.{one_factor_of_product, permuted_more, permuted_none, permuted_product, permuted_swap, permuted_trans, product_parts, single_product}
pub use Rattle.calc_algebra.proofs.{MeaningRewrites.{to_single_product, zero_product}, Names.{Within, names_of-append, names_permuted, no_new_name, number_names, within_beside, within_both}}
pub use Rattle.calc_algebra.proofs.{Names.{within_eq, within_left, within_none, within_right, within_same, within_trans}, NumberClasses.{AreProper, number_zero, one_not_zero, value_proper}}
pub use Rattle.calc_algebra.proofs.{NumberClasses.{value_rises}, NumberLaws.{number_test, number_words, numbers_defined}, NumberRewrites.{number_value, product_tree_keeps, value_means}}
pub use Rattle.calc_algebra.proofs.{Rewritings.{reduces_after}, SquareClassLaws.{Alike, Same-trans, alike_from, alike_true}, SmallLaws.{keeps, own_form}, SurdLaws.{Agree-Same, surd_times-one}}
pub use Rattle.calc_algebra.proofs.{SurdLaws.{surd_times-surd_one, surd_times_assoc}, TermLaws.{Same-eq, Same-refl, Same-surd_times}, TreeOrderLaws.{tree_cmp_equal, tree_cmp_total}}
pub use Rattle.calc_algebra.proofs.{PowerRewrites.{same_bases}, SquareRootLaws.{square_from_scaled}, UndefRewrites.{undef_part}, ReducedLaws.{undef_words}}
pub use Rattle.calc_algebra.specs.{Numbers.{IsBelowAll, IsNumber, Rises, are_numbers, natural_of, value}, Reduced.{HasForm, IsProductForm, IsSumForm, NoneIs, RisesBy, Split, all_parts, are_reduced}}
pub use Rattle.calc_algebra.specs.Reduced.{base_of, has_form, is_num_one, is_one_add, is_opaque_exponent, is_transparent_power, is_whole_num, none_is, num_one, product_tree, split, split_product}
pub use Rattle.calc_algebra.specs.{SquareClasses.{Same, are_alike}, Surds.{Surd, Term, surd_of, surd_one, surd_times, term, term_times}, TreeOrder.{tree_cmp}}
pub use Rattle.calc_algebra.specs.{Meanings.{Assignment, IsAssignment, Means}, Rewritings.{Rewrites}}
unfoldable pub use Rattle.calc_algebra.specs.{Numbers.{is_number}, Reduced.{is_reduced}, SquareRoots.{square_root}}
pub use Rattle.calc_bits.proofs.{Quotients.{den_divides}, Held.{held_power, held_times}, ClassMasses.{mass_same}, MassLaws.{parts_scale, parts_times}, RootsAbove.{root_enough, root_least}}
pub use Rattle.calc_bits.specs.{Bounds.{HasFewBits}, Masses.{IsHeld, mass_from, root_above}, Denominators.{Parts, magnitude_over}}
pub use Rattle.calc_measures.proofs.{Nests.{nest-append, nest_number, nest_permuted}, Weights.{some_weight}}
pub use Rattle.calc_measures.specs.{Loads.{has_coefficient, load, load_of_factor, load_of_factors, nest, nest_of, weight, weight_of_factors}, PlainTrees.{IsPlainAnswer, IsPlainOverflow}}
pub use Rattle.calc_measures.specs.{PlainValues.{PlainValue, calculated, fold_values, plain_value}, Measures.{HighLow}}
pub use Rattle.calc_room.proofs.{SpanLaws.{one_spanned}, NumberSpans.{spans_same, spans_times, tree_spanned, value_spanned}}
pub use Rattle.calc_room.specs.{Counts.{counted, counted_among}, Powers.{HasPowersOf, IsPowerOf}, Spans.{Spans, SpansRoot, SpansTree, SpansTrees}, Needs.{product_need}}
pub use Rattle.calc_terms.proofs.{FractionFacts.{no_zero, one_is, whole_denominator, zero_is, zero_test}, SmallLaws.{if_ok_both, if_ok_map, less_of, no_factors, passed_on, sizes_append, times_one}}
pub use Rattle.calc_terms.specs.{Fits.{mul_op}, Fractions.{Fraction, is_one_fraction, is_zero_fraction, whole_fraction}, Ratio.{Ratio}, Trees.{AllParts, AllPartsOf, Tree, Trees, add, append}}
pub use Rattle.calc_terms.specs.Trees.{are_rationals, count, has_undef, in_mult, is_add, is_mult, is_num, is_undef, more, mult, names, names_of, none, num, power, root, root_kind, size, sizes, undef}
unfoldable pub use Rattle.calc_terms.specs.{Fractions.{lowest, one_fraction, zero_fraction}, Gcd.{gcd}}
pub use Rattle.coefficients.proofs.{Coefficients.{monic_sum, put_formed, put_reduces}, Factors.{AreFactors, factors_monic, monic_parts, no_split}, Forms.{AllPartsOf-append, number_parts}}
pub use Rattle.coefficients.proofs.{Forms.{parts_defined, parts_reduced, reduced_parts}, Lacks.{passed_lacks, refusal_lacks, result_lacks}, NumberMultiples.{IsFactor, not_one_is}}
pub use Rattle.coefficients.proofs.{Splits.{Leads, NoneIs-append, factors_no_number, in_front}, Bounds.{append_load, coefficient_load, coefficient_nest, of_factors_load, of_factors_nest, tree_nest}}
pub use Rattle.coefficients.proofs.{TermMultiples.{behind_none}, Named.{put_as}, Loops.{set_removed}, Rooms.{spans_product}, Keeps.{tree_names}}
pub use Rattle.coefficients.specs.{Coefficients.{IsMonic, factors_of, rational_before, with_coefficient}, Multiples.{mapped, rational_times_term}, Overflows.{NamesPut}, Rooms.{LacksRoom, put_room}}
pub use Rattle.like_children.proofs.{Folds.{first_of, fold_begun, no_numbers, plain_product, some_number}, Kids.{count_removed, represents_kids, represents_merged, represents_nth, represents_without}}
pub use Rattle.like_children.proofs.{Kids.{sizes_taken}, Many.{IsMany, IsOut, child_within, many, out, put_bytes}, NumbersIn.{append_none, append_one, both_true, count_append, front_numbers}}
pub use Rattle.like_children.proofs.{NumbersIn.{no_numbers_none, no_numbers_others, numbers_are, numbers_first, numbers_removed, others_removed, trees_assoc}, SoFar.{parts_taken}}
pub use Rattle.like_children.proofs.{Places.{count_inserted, nth_inserted, removed_inserted}, Counted.{counted_at_most, counted_in, number_factors, permuted_counted, put_counted}}
pub use Rattle.like_children.proofs.{Parts.{factors_parts, formed_reduced, permuted_parts, product_tree_parts, reduced_formed, with_parts}, Addends.{multiple_addends, one_value, split_sum}}
pub use Rattle.like_children.proofs.{Permutations.{none_permuted, of_lists, sorted_behind}, OwnPowers.{number_powers, own_powers_of}, Fits.{rational_fits}, OneOrder.{rising_once}}
pub use Rattle.like_children.specs.{Children.{LeavesChildren}, Folds.{AnswersTotal, rational_of, rationals_of}, Joining.{AreJoined, IsNextOf}, Numbers.{IsNextNumber, NoNumberBetween}, Opening.{Opens}}
pub use Rattle.node_order.specs.Sorting.{IsSorting, list_of}
pub use Rattle.node_pool.proofs.Ids.{eqb_sym as eqb-sym}
pub use Rattle.node_pool.specs.{State.{State, free_of}, declared.full.Full.{Full}}
pub use Rattle.number_forms.proofs.{Rooms.{number_size}, Kept.{zero_value}}
pub use Rattle.number_forms.specs.{Answers.{AnswersRationals}, Readers.{is_zero}, Sums.{removed}, Overflows.{ProductOverflows}}
pub use Rattle.product_reduce.specs.Answers.{AnswersRationalFactors, AreJoinable, AreOthers, IfFinished, IfJoined, IsEnding, IsFinished, IsJoined, IsStop, IsWritten, IsWrittenProduct, at_end, at_zero}
pub use Rattle.product_reduce.specs.{Bits.{AreFactorsHeld, IsFactorHeld, factor_held, none_held, term_held}, Bounds.{KeepsFactorBounds, KeepsProductBounds}, Factors.{IsCoefficient}}
pub use Rattle.product_reduce.specs.{Factors.{coefficient_before, coefficient_times, numbers_in, opened, others_in, product_of_values}, Gathering.{IsGathered, IsLead, IsOrdered}, Joining.{IsJointAt}}
pub use Rattle.product_reduce.specs.{Joining.{exponent_of, first_partner, has_partner, have_partners, is_partner, joined, joint, without_partner}, FirstPairs.{HasNoPartner, IsFirstPair, IsRejoined}}
pub use Rattle.product_reduce.specs.{Misfits.{IsFactorMisfit, MultiplyingOverflows, NamesProduct, SpreadingOverflows, multiplying, spreading}, Multiplying.{IsBegun, IsProductOf, IsUnderway}}
pub use Rattle.product_reduce.specs.{Neighbours.{IsNextPair, IsPairAt, NoPairBetween, is_pair, is_single, joined_pair}, Products.{Becomes, IsBeside, IsProduct, IsSplit, IsTakenOut, factors_in}}
pub use Rattle.product_reduce.specs.{declared.gathering.Joining.{Joining}, Sorting.{SortsFactors}}
pub use Rattle.rational128.specs.declared.overflow.Overflow.{Overflow}
pub use Rattle.reduce_port.specs.{Steps.{AnswersRationalStep, IfAgain, IfDone}, declared.step.Step.{Step}}
pub use Rattle.std.proofs.lemmas.Bool.{and_from, and_parts, false_from_ne_true, ltb-false, ltb-true, ne_eqb, or_parts, or_right, true≢false}
pub use Rattle.std.proofs.{lemmas.List.Sorted.{IsPermutation-refl, IsPermutation-trans}, lemmas.Nat.{mul-le, pow_pos}, Common.{Bool, Err, FitsSigned, List, Ok, [], add-one, ap, append-nil}}
pub use Rattle.std.proofs.Common.{append_assoc, arith, eqb, false, if◌then◌else◌, inl, inr, length, max, nat_eq, nat_lt, not, of_z, pos, refl, rules, subst, suc, sym, true, zero, ℕ, ◌&&◌, ◌*◌, ◌++◌}
pub use Rattle.std.proofs.Common.{◌+◌, ◌-◌, ◌<◌, ◌^◌, ◌||◌, ◌↔◌, ◌∙◌, ◌∷◌, ◌≡◌, ◌≢◌, ◌≤◌, ◌⊎◌}
pub use Rattle.std.specs.{Int.{w128}, Ordering.{is_eq, is_lt, ordering_reverse}, declared.cmp.Ordering.TheVariants.{Equal, Less}, declared.cmp.Ordering.{Ordering}, Prelude.{IfErr, IfOk, IsErr}}
pub use Rattle.std.specs.Prelude.{IsErrAnd, IsPermutation, IsSortedByKey, IsTrue, MatchOption, Option, ⊤}
pub use Rattle.tree_bits.proofs.{Factors.{distributed_held, factor_as_tree, factor_is_held}, HeldTrees.{parts_multiply, wider}, Numbers.{held_number, held_wider, nothing_held}}
pub use Rattle.tree_bits.proofs.{Sums.{one_counts, one_weighted, wider_held}, Weighted.{put_before, split_off}, Children.{sum_as_tree, tree_as_sum}, Joined.{swapped}}
pub use Rattle.tree_bits.specs.{Children.{ArePositive, AreTreesHeld, IsSumHeld, high_sum, low_sum}, Exponents.{counts_of}, Factors.{as_factor, distributed}, HeldTrees.{Addend, AreWeighted}}
pub use Rattle.tree_bits.specs.{HeldTrees.{IsPartHeld, addend, addend_of, addends, exponent_in, more_weighted, no_factor_held, none_weighted, power_high, power_low}, Rows.{AreFewBits}}
pub use Rattle.tree_bits.specs.Weighted.{AreHeld, Weighted, weighted}
pub use Rattle.tree_handles.proofs.{FreeBytes.{all_bytes, beside_bytes as handed_bytes, both_replaced_free, refused_below, replaced_free}, Counted.{all-tree_nth, all-without_nth}}
pub use Rattle.tree_handles.proofs.{Forests.{arity-tree_nth, arity-without_nth, keeps_after}, Fronts.{IsBehind, behind_first, behind_later, behind_new, front_after_one, front_after_two, front_at}}
pub use Rattle.tree_handles.proofs.{Fronts.{front_end, front_put, front_same, front_without, not_first}, Given.{given_apart, given_handed, given_other, given_rest, given_same, given_told}}
pub use Rattle.tree_handles.proofs.{Given.{given_without, gives, gives_as, handed_at, handed_beside, owned, represents_as, represents_handed, represents_with}, Lasts.{apart, ends_as, expression_root}}
pub use Rattle.tree_handles.proofs.{Lasts.{kids_of_root, last_tree, other_apart, plain_root}, Outcomes.{by_test, if_map}, Over.{IsOver, once_count, over_handed, over_plain, over_product, over_put}}
pub use Rattle.tree_handles.proofs.{Over.{tree_put, without_put}, Refused.{overflow_as, refused_as}, Roots.{kids-put, put-put, put-same, root-put, root-without, root_held, tree-without, without-swap}}
pub use Rattle.tree_handles.proofs.{Filling.{IsAsBefore, as_before, changes_front, changes_rest, gone, hole_beside, hole_stays}, Plains.{children_of-plain, count-plains}, Distinct.{distinct}}
pub use Rattle.tree_handles.proofs.{Cuts.{represents_count}, UndefChildren.{undef_inside}}
pub use Rattle.tree_handles.specs.{Expressions.{IsExpression, children_of, inserted, nth, plain, plains}, Faults.{OfOverflow}, Forest.{Forest, arity, bytes_in, kids, merged_nth, root_count, tree_nth}}
pub use Rattle.tree_handles.specs.{Forest.{with_nth, with_root_kids, without_nth}, Handed.{AllOnce, Ends, Gives, IsHanded, IsOnce, IsOwned, KeepsFront, Represents, tree_of}}
pub use Rattle.tree_handles.specs.{Inside.{holds, kids_of, tree_at}, Roots.{has_root, put, root_tree, without_root}, Standing.{KeepsRefusals, Stands, forest}, declared.fault.NumberFault.{NumberFault}}
pub use Rattle.tree_handles.specs.{Holes.{ChangesTree, IsHole, Place, set_child}, Causes.{IsCaused, Overflows}, Lacking.{LacksBelow}}
pub use Rattle.tree_room.proofs.{Coefficients.{product_counts}, Counts.{appended, counts_one, flat_product, number_counts_one}, Handed.{factors_bytes, product_bytes}, PowerCounts.{power_no_number}}
pub use Rattle.tree_room.specs.{Handed.{numbers_among, product_count}, Needs.{product_step_room}}
