-- The names that the proofs share.
pub use Rattle.calc_algebra.proofs.MeaningRewrites.{Permuted, Permuted-refl, Permuted-sym, Permuted-to_front, permuted_more, permuted_none, permuted_swap, permuted_trans, permuted_trees, trees_of}
pub use Rattle.calc_algebra.proofs.{TreeOrderLaws.{tree_cmp_refl, tree_cmp_total}, NumberClasses.{AreProper, one_not_zero, terms_proper, value_proper}, TermLaws.{Same-refl, zero_term}}
pub use Rattle.calc_algebra.proofs.{MeaningLaws.{Same-sym}, NumberLaws.{number_test, number_words, term_test, term_words}, InverseLaws.{product_not_zero}}
pub use Rattle.calc_algebra.specs.{Numbers.{AreTerms, IsNumber, IsTerm, are_numbers, natural_of, term_of, terms_of, value}, Reduced.{HasForm, IsProductForm, IsSumForm, NoneIs, RisesBy, Split}}
pub use Rattle.calc_algebra.specs.{Reduced.{are_reduced, is_reduced, num_one, number_terms, other_terms, part_of, product_tree, split, split_product}, Surds.{Surd, surd_of, surd_one, surd_scale}}
pub use Rattle.calc_algebra.specs.{Surds.{surd_times, term, term_times}, TreeOrder.{tree_cmp}, SquareClasses.{Same}}
unfoldable pub use Rattle.calc_algebra.specs.Numbers.{is_number}
pub use Rattle.calc_bits.proofs.Parts.{held_left, held_right}
pub use Rattle.calc_bits.specs.{Bounds.{HasFewBits, IsNoLarger}, Masses.{IsHeld, mass}}
pub use Rattle.calc_measures.specs.{PlainTrees.{IsPlainAnswer, IsPlainOverflow}, PlainValues.{PlainValue, are_plain, calculated, exactly, fold_values, gather, plain_of_children, plain_value, values}}
pub use Rattle.calc_measures.specs.Loads.{has_coefficient}
pub use Rattle.calc_room.proofs.TreeBytes.{term_counts}
pub use Rattle.calc_room.specs.{Powers.{HasPowersOf, IsPowerOf}, Spans.{SpansRoot, SpansTree, SpansTrees}, Counts.{counted, counted_among}}
pub use Rattle.calc_terms.proofs.{FractionFacts.{no_zero, one_is, zero_is, zero_test}, SmallLaws.{times_one}}
pub use Rattle.calc_terms.specs.{Fits.{Operation, add_op, fraction_fits, mul_op, operation_fits}, Fractions.{Fraction, is_one_fraction, is_zero_fraction, one_fraction, times, zero_fraction}}
pub use Rattle.calc_terms.specs.Trees.{AllParts, AllPartsOf, IsPart, IsPartOf, Tree, Trees, add, append, are_rationals, count, div, first, has_undef, in_add, in_base, in_dividend, in_divisor}
pub use Rattle.calc_terms.specs.Trees.{in_exponent, in_left, in_mult, in_neg, in_right, in_root, is_add, is_num, is_undef, itself, later, more, mult, neg, none, num, power, root, size, sizes, sub}
pub use Rattle.calc_terms.specs.{Trees.{symbol, undef}, declared.kind.Kind.{Kind}, Rat.{value_of}}
pub use Rattle.coefficients.proofs.{Forms.{AllPartsOf-append, no_term, parts_defined, parts_reduced, reduced_parts}, Named.{fault_named}, Openings.{nth_opened, opened_at, opened_beside, opened_from}}
pub use Rattle.coefficients.proofs.{Openings.{opened_from_end}, Factors.{AreFactors, factors_monic, factors_of_tree, monic_coefficient, monic_no_number, monic_part, monic_parts, no_split, none_leads}}
pub use Rattle.coefficients.proofs.{Factors.{spliced_split}, SumMultiples.{EachTerm, each_term, number_term}, Splits.{IsCoefficient, in_front}, NumberMultiples.{IsFactor, not_one_is, number_scaled}}
pub use Rattle.coefficients.proofs.{NumberMultiples.{terms-scaled}, TermMultiples.{behind_none, behind_parts, multiple, unled}, Coefficients.{leading_factors, monic_sum, product_form_of, taken}}
pub use Rattle.coefficients.specs.{Coefficients.{IsMonic, coefficient_of, factors_of, rational_before, spliced, with_coefficient}, Multiples.{mapped, rational_times, rational_times_number}}
pub use Rattle.coefficients.specs.{Multiples.{rational_times_sum, rational_times_term}, Overflows.{LeadsIn, LeadsTerm, NamesPut}}
pub use Rattle.like_children.specs.{Children.{HasChildren, IsSumOrProduct, LeavesChildren}, Folds.{AnswersTotal, AreFolded, IsTotal, rational_of, rationals_of}, Joining.{AreJoined, IsJoint, IsNextOf}}
pub use Rattle.like_children.specs.{Keyed.{IsKeyOf, have_one_key}, Neighbours.{NoPairBetween, are_alike}, Numbers.{IsNextNumber, NoNumberBetween, numbers_in, others_in}}
pub use Rattle.like_children.specs.Opening.{IsLastToOpen, NoneOpensBetween, Opens}
pub use Rattle.node_order.specs.{Keys.{IsKey}, declared.keys.Key.{Key}, Sorting.{IsSorting, list_of}}
pub use Rattle.node_pool.proofs.Ids.{eqb_sym as eqb-sym}
pub use Rattle.node_pool.specs.{Nodes.{used}, State.{State, free_of}}
pub use Rattle.number_forms.proofs.{LastSums.{plains-without_nth}, Rooms.{full_as}, RationalBits.{rational_product_fits}}
pub use Rattle.number_forms.specs.{Answers.{AnswersRationals, IsNumberOf}, Sums.{removed}}
pub use Rattle.rational128.specs.{declared.overflow.Overflow.{Overflow}, Refusals.{operation_of}}
pub use Rattle.std.proofs.Common.{Bool, Err, IfOk, IfSome, List, MatchOption, Option, Result, [], add-one, ap, append-nil, arith, eqb, false, if◌then◌else◌, inl, inr, map, max, not, one-mul, refl}
pub use Rattle.std.proofs.Common.{rules, subst, suc, sym, take, true, zero, ℕ, ◌*◌, ◌++◌, ◌+◌, ◌-◌, ◌<◌, ◌^◌, ◌∙◌, ◌∷◌, ◌≡◌, ◌≢◌, ◌≤◌, ◌⊎◌}
pub use Rattle.std.proofs.{lemmas.Bool.{and_from, and_parts, not_from_false, or_parts, true≢false}, lemmas.List.Sorted.{IsPermutation-cons, IsPermutation-middle, IsPermutation-refl}}
pub use Rattle.std.proofs.{lemmas.List.Sorted.{IsPermutation-trans}, lemmas.Nat.{mul-le, pow_pos}}
pub use Rattle.std.specs.{declared.cmp.Ordering.TheVariants.{Less}, Prelude.{IsPermutation}}
pub use Rattle.surd_bits.proofs.ProductsFit.{coefficients_fit}
pub use Rattle.tree_bits.proofs.{Joined.{addend_left_out}, Numbers.{nothing_held}}
pub use Rattle.tree_bits.specs.{HeldTrees.{Addend, AreWeighted, addend, addend_of, addends, addends_of, more_weighted}, Rows.{AreFewBits}, Weighted.{AreHeld, Weighted, lows, weighted_mass}}
pub use Rattle.tree_bits.specs.{Children.{IsSumHeld}, Factors.{distributed}}
pub use Rattle.tree_handles.proofs.{ChildPlaces.{no_more, seen_child, step_on}, Counted.{all-kids, all-tree_nth, all-without_nth}, Cuts.{represents_count}, Forests.{arity-tree_nth, keeps_after}}
pub use Rattle.tree_handles.proofs.{FreeBytes.{all_bytes, bytes_without}, Fronts.{behind_first, behind_later, behind_new, front_after_two, front_end, front_put, front_same, front_without}}
pub use Rattle.tree_handles.proofs.{Refused.{kept_same as keeps_none}, Given.{given_apart, given_handed, given_other, given_rest, given_same, given_told, given_without, gives, gives_as}}
pub use Rattle.tree_handles.proofs.{Given.{handed_by_put, represents_as, represents_with}, Lasts.{expression_root, kids_of_root, last_tree, other_apart, plain_root}, Nths.{with_nth-without_nth}}
pub use Rattle.tree_handles.proofs.{Over.{IsOver, once_count, over_end, over_handed, over_plain, over_product, over_put, over_same, over_sum, without_put}, Places.{used_forest}, Plains.{alone}}
pub use Rattle.tree_handles.proofs.{Plains.{children_of-plain, count-plains, plain-tree_nth, size-plain, whole_kids}, Roots.{put-put, put-same, root-put, root_arity, tree-put, tree-without}}
pub use Rattle.tree_handles.proofs.Roots.{without-put}
pub use Rattle.tree_handles.specs.{Children.{root_ids}, Expressions.{IsExpression, IsWhole, children_of, compound, inserted, nth, plain, takes_kind}, Forest.{Forest, arity, bytes_in, kids}}
pub use Rattle.tree_handles.specs.{Forest.{merged_nth, rest_trees, root_count, tree_nth, without_nth}, Handed.{Ends, Gives, IsHanded, IsOnce, KeepsFront, Represents, tree_of}}
pub use Rattle.tree_handles.specs.{Inside.{kids_of, tree_at}, Roots.{has_root, put, root_tree, without_root}, Standing.{KeepsRefusals, Stands, forest}, declared.fault.NumberFault.{NumberFault}}
pub use Rattle.tree_handles.specs.Causes.{Overflows}
pub use Rattle.tree_room.proofs.{Counts.{appended, at_most_itself, counts_one}, Coefficients.{same_parts}}
pub use Rattle.tree_room.specs.Handed.{HasSamePart, HaveSameParts}
