-- The names that the proofs share.
pub use Rattle.calc_algebra.proofs.MeaningRewrites.{KeepsMeanings, KeepsMeanings-eq, KeepsMeanings-refl, KeepsMeanings-sum_append, KeepsMeanings-sum_more, KeepsMeanings-trans, Permuted}
pub use Rattle.calc_algebra.proofs.MeaningRewrites.{Permuted-append_right, Permuted-refl, Permuted-sym, Permuted-to_front, empty_sum, flat_sum, joined_in_sum, permuted_more, permuted_none}
pub use Rattle.calc_algebra.proofs.{MeaningRewrites.{permuted_sum, permuted_swap, permuted_trans, same_factor, single_sum, zero_goes}, Names.{Within, names_of-append, names_permuted, no_new_name}}
pub use Rattle.calc_algebra.proofs.Names.{number_names, within_beside, within_both, within_eq, within_left, within_none, within_of, within_right, within_same, within_trans}
pub use Rattle.calc_algebra.proofs.{NumberClasses.{number_rational}, NumberLaws.{number_test, number_words, numbers_defined, term_words}, NumberRewrites.{coefficient_times_part, sum_of_numbers}}
pub use Rattle.calc_algebra.proofs.{NumberShapes.{AsNumber, as_number}, Rewritings.{Rewrites-trans, reduces_after}, SquareClassLaws.{Same-Agree, Same-trans}, SurdLaws.{Agree, Agree-Same}}
pub use Rattle.calc_algebra.proofs.{SurdLaws.{Agree-append, Agree-eq, Agree-refl, Agree-trans, append_comm, surd_times-surd_one}, SmallLaws.{keeps, keeps as kept}}
pub use Rattle.calc_algebra.proofs.{TreeOrderLaws.{tree_cmp_equal, tree_cmp_refl, tree_cmp_total}, TermLaws.{Same-append, Same-eq, joined_radicand, zero_term}, MeaningLaws.{Same-sym}}
pub use Rattle.calc_algebra.proofs.{UndefRewrites.{undef_part}, ExponentLaws.{whole_plus, whole_times}}
pub use Rattle.calc_algebra.specs.{Numbers.{AreTerms, IsNumber, IsTerm, Rises, are_numbers, is_radicand, term_of, terms_of, value}, Reduced.{HasForm, IsSumForm, NoneIs, RisesBy, num_one, part_of}}
pub use Rattle.calc_algebra.specs.{Reduced.{product_tree, split_product}, SquareClasses.{Same}, Surds.{Surd, surd_of, surd_one, surd_times}, TreeOrder.{tree_cmp}}
unfoldable pub use Rattle.calc_algebra.specs.{Numbers.{is_number}, Reduced.{is_reduced}}
pub use Rattle.calc_bits.proofs.{MassLaws.{mass-append, mass_scale, mass_times, parts_append, parts_scale, parts_times}, Parts.{parts_left, parts_right}, NoLarger.{no_larger}}
pub use Rattle.calc_bits.specs.{Bounds.{HasFewBits, IsNoLarger}, Denominators.{Parts, SharesDenominators}, Masses.{IsHeld, mass}}
pub use Rattle.calc_measures.proofs.Nests.{nest-append, nest_number, nest_permuted}
pub use Rattle.calc_measures.specs.{Loads.{nest, nest_of}, PlainValues.{PlainValue, calculated, fold_values, plain_value}, PlainTrees.{IsPlainAnswer}}
pub use Rattle.calc_room.proofs.{TreeBytes.{counted_number, none_counted, number_counts}, NumberSpans.{spans_append, spans_same, term_spanned, tree_spanned, value_spanned}}
pub use Rattle.calc_room.specs.{Counts.{counted, counted_among}, Powers.{HasPowersOf, IsPowerOf}, Spans.{Spans, SpansRoot, SpansTree, SpansTrees}, Needs.{sum_need}}
pub use Rattle.calc_terms.proofs.{FractionFacts.{no_zero, one_is, whole_denominator, whole_numerator, zero_test}, SmallLaws.{if_ok_both, less_of, passed_on, sizes_append, two_count}}
pub use Rattle.calc_terms.specs.{Fits.{add_op}, Fractions.{Fraction, is_one_fraction, is_zero_fraction, mul_pos, times, whole_fraction}, Trees.{AllParts, AllPartsOf, HasTwo, Tree, Trees, add, append}}
pub use Rattle.calc_terms.specs.Trees.{are_rationals, count, has_undef, in_add, is_add, is_mult, is_num, is_undef, more, mult, names, names_of, nodes, nodes_of, none, num, root, size, sizes, symbol}
pub use Rattle.calc_terms.specs.Trees.{undef}
unfoldable pub use Rattle.calc_terms.specs.Fractions.{one_fraction, zero_fraction}
pub use Rattle.coefficients.proofs.{Coefficients.{coefficient_same, monic_sum, put, put_formed, put_reduces, taken, zero_or_not}, Factors.{monic_no_number, monic_part, monic_parts}}
pub use Rattle.coefficients.proofs.{Forms.{AllPartsOf-append, number_parts, parts_defined, parts_reduced, terms_parts}, Lacks.{passed_lacks, refusal_lacks, result_lacks, sum_whole}}
pub use Rattle.coefficients.proofs.{Named.{fault_named, passed_named, put_as, result_named}, NumberMultiples.{IsFactor, not_one_is, scaled}, SumMultiples.{EachTerm, each_term, terms_no_sum}}
pub use Rattle.coefficients.proofs.{TermMultiples.{behind_none, behind_parts, multiple}, Lengths.{IsMeasured, long, measured, product_part, some_factors}, Splits.{NoneIs-append}}
pub use Rattle.coefficients.proofs.{Keeps.{coefficient_keeps, tree_names}, Bounds.{coefficient_nest, tree_nest}, Loops.{set_removed}}
pub use Rattle.coefficients.specs.Coefficients.{IsMonic, coefficient_length, coefficient_of, factors_of, rational_before, with_coefficient}
pub use Rattle.coefficients.specs.{Multiples.{mapped, rational_times_sum, rational_times_term}, Overflows.{NamesPut}, Rooms.{put_room}, Pairs.{GivesTwo}, Bytes.{IsShort, bytes_of_taking}}
pub use Rattle.like_children.proofs.{Folds.{first_of, fold_done, no_numbers, no_rationals, num_number, plain_sum, rational_others, sum_begun}, Kids.{count_removed, represents_merged, represents_nth}}
pub use Rattle.like_children.proofs.{Kids.{represents_without, sizes_taken}, NumbersIn.{append_none, both_true, count_append, end_numbers, front_numbers, no_numbers_none, no_numbers_others}}
pub use Rattle.like_children.proofs.{NumbersIn.{none_number, number_in, number_out, numbers_are, numbers_first, other_in, trees_assoc}, Parts.{first_parts, formed_reduced, permuted_parts}}
pub use Rattle.like_children.proofs.{Parts.{product_tree_parts, reduced_formed, with_parts}, Addends.{IsSplit, monic_addends, multiple_addends, number_terms-terms, one_addend, one_value}}
pub use Rattle.like_children.proofs.{Addends.{other_terms-terms, spliced_addends, split_sum, sum_addends, term_addends}, Many.{child_once, child_within, many}, Places.{count_inserted}}
pub use Rattle.like_children.proofs.{Places.{inserted_permuted, nth_behind_inserted, nth_behind_removed, nth_inserted, removed_inserted, removed_two, taken_permuted}, Permutations.{count_permuted}}
pub use Rattle.like_children.proofs.{Permutations.{none_permuted, of_lists, sorted_behind, to_lists}, Counted.{counted_at_most, counted_in, permuted_counted, put_counted}, SoFar.{joint_given}}
pub use Rattle.like_children.proofs.{OwnPowers.{number_powers, own_powers_of}, Fits.{rational_fits}, OneOrder.{rising_once}}
pub use Rattle.like_children.specs.{Neighbours.{IsNextPair, IsPairAt, NoPairBetween}, Folds.{AnswersTotal, IsTotal, rational_of, rationals_of}, Joining.{AreJoined, IsNextOf}}
pub use Rattle.like_children.specs.{Numbers.{IsNextNumber, NoNumberBetween}, Children.{LeavesChildren}, Opening.{Opens}}
pub use Rattle.node_order.specs.{Sorting.{IsSorting, SortsChildren, list_of}, Keys.{IsKey, key_tree, trees_behind}, declared.keys.Key.{Key}}
pub use Rattle.node_pool.proofs.Ids.{eqb_sym as eqb-sym}
pub use Rattle.node_pool.specs.{State.{State, free_of}, declared.full.Full.{Full}}
pub use Rattle.number_forms.proofs.{Shaped.{term_number as number_of_term, term_value}, Refusals.{faults_after, none_given, none_kept}, Rooms.{full_as, number_size, sum_spans}}
pub use Rattle.number_forms.specs.{Answers.{AnswersRationals, IsNumberOf, IsNumberOver}, Readers.{is_zero}, Sums.{removed}, Overflows.{SumOverflows}}
pub use Rattle.rational128.specs.declared.overflow.Overflow.{Overflow}
pub use Rattle.std.proofs.{Math.Nat.{pow-le-pow_right}, lemmas.Bool.{and_from, and_parts, false≢true, ltb-true, not_from_false, true≢false}, lemmas.Nat.{mul-le, pow-add, pow_pos}, Common.{Bool, List}}
pub use Rattle.std.proofs.Common.{[], add-one, ap, append-nil, append_assoc, arith, cond, eqb, false, if◌then◌else◌, inl, inr, length, map, nat_lt, negsuc, not, pos, refl, rules, subst, suc, sym}
pub use Rattle.std.proofs.{Common.{true, zero, ℕ, ℤ, ◌&&◌, ◌*ℤ◌, ◌*◌, ◌++◌, ◌+ℤ◌, ◌+◌, ◌<◌, ◌==◌, ◌^◌, ◌∙◌, ◌∷◌, ◌≡◌, ◌≤◌}, lemmas.List.Sorted.{IsPermutation-refl, IsPermutation-trans}}
pub use Rattle.std.specs.{Ordering.{is_eq, is_lt, ordering_reverse}, declared.cmp.Ordering.{Ordering}, declared.cmp.Ordering.TheVariants.{Less}, Prelude.{Err, IfErr, IsPermutation, IsSortedByKey, Ok}}
pub use Rattle.std.specs.Prelude.{Option, Result, is_some, ⊤}
pub use Rattle.sum_reduce.specs.{Arranging.{AnswersFold, IsArranged, IsFolded, IsLead, IsLed, IsNumbered, IsSettled}, Bits.{HaveFewBits, KeepsHeld}, Bounds.{KeepsSumBounds}, Collected.{AreLike}}
pub use Rattle.sum_reduce.specs.Collected.{AreUnlike, Collects, IsTotalNumber, IsWritten, IsWrittenSum, collects_like, collects_numbers, collects_opened, collects_ordered, collects_then, numbers_in}
pub use Rattle.sum_reduce.specs.{Collected.{others_in, sum_of_coefficients, sum_of_values}, Joining.{IsAdded, IsJoining}, Overflows.{NamesSum, Overflows, hinders_like, hinders_numbers, hinders_part}}
pub use Rattle.sum_reduce.specs.{Stages.{IsRearranged, IsStage, width, widths}, SumAnswers.{IsCollected, IsSumAnswer}, Sums.{Changes, IsSum, Takes, terms_in}, Terms.{AreFormed, is_loose, is_partner}}
pub use Rattle.sum_reduce.specs.{Terms.{leads_number, opened, sum_tree, terms_of_loose, terms_of_number, written_tree}, Rooms.{terms_room}}
pub use Rattle.tree_bits.proofs.{Children.{sum_as_tree, weighted_both}, Numbers.{alone}, Joined.{addend_from_front, addend_left_out, addend_to_front, addends_joined}, Sums.{one_counts}}
pub use Rattle.tree_bits.proofs.Factors.{times_weighted}
pub use Rattle.tree_bits.specs.{Children.{IsSumHeld, addends_of_each}, Exponents.{Counts, added, are_counted, counts, counts_of, counts_of_all, is_counted}, Factors.{distributed}, HeldTrees.{Addend}}
pub use Rattle.tree_bits.specs.{HeldTrees.{AreWeighted, IsPartHeld, IsTreeHeld, addend, addends, addends_of, more_weighted, no_factor_held, sum_held}, Powers.{IsCountedWithin, IsWithin}}
pub use Rattle.tree_bits.specs.Weighted.{AreHeld, PartsAll, Weighted, lows, weighted, weighted_mass}
pub use Rattle.tree_handles.proofs.{Forests.{keeps_after}, Fronts.{IsBehind, behind_first, behind_later, behind_new, front_after_one, front_after_two, front_at, front_end, front_put, front_same}}
pub use Rattle.tree_handles.proofs.{Fronts.{front_without}, Refused.{kept_same as keeps_none}, Given.{given_handed, given_other, given_rest, given_root, given_same, given_told, given_without, gives}}
pub use Rattle.tree_handles.proofs.{Given.{gives_as, handed_beside, handed_by_put, owned, represents_handed, represents_with}, Lasts.{apart, last_tree, other_apart}}
pub use Rattle.tree_handles.proofs.{Outcomes.{by_test, if_map, passed_result}, Over.{IsOver, over_beside, over_end, over_handed, over_plain, over_put, over_same, over_sum, without_put}}
pub use Rattle.tree_handles.proofs.{Roots.{put-left, put-put, put-same, root-put, root_held, tree-left, tree-put, tree-without, without-put}, Seen.{expression, live, product_kind, seen}}
pub use Rattle.tree_handles.proofs.{FreeBytes.{all_bytes}, Filling.{as_before, hole_behind, hole_beside, hole_stays}, Beside.{gives_without}, Cuts.{represents_count}, UndefChildren.{undef_inside}}
pub use Rattle.tree_handles.specs.{Expressions.{IsExpression, children_of, inserted, nth, plain, plains}, Faults.{Faults, OfOverflow}, Forest.{Forest, arity, bytes_in, join, kids, merged_nth}}
pub use Rattle.tree_handles.specs.{Forest.{root_count, tree_nth, with_nth, without_nth}, Handed.{Ends, Gives, IsHanded, KeepsFront, Represents, tree_of}, Inside.{holds, kids_of, tree_at}}
pub use Rattle.tree_handles.specs.{Roots.{has_root, root_tree, without_root}, Standing.{KeepsRefusals, Stands, forest}, declared.fault.NumberFault.{NumberFault}}
pub use Rattle.tree_handles.specs.{Holes.{ChangesTree, IsHole, Place, set_child, set_tree}, Causes.{IsCaused}}
pub use Rattle.tree_room.proofs.{Counts.{all_appended, appended, counts_one, number_counts_one, numbers_and_others}, Coefficients.{part_counts}, Handed.{sum_bytes}}
pub use Rattle.tree_room.specs.{Handed.{counted_in_all, sum_count}, Needs.{sum_room, tree_bytes}}
pub use native.Mathlib.Nat.{mul_comm}
