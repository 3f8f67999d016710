-- The names that the proofs share.
pub use Rattle.calc_algebra.proofs.{MeaningLaws.{one_meaning}, NumberClasses.{number_rational, one_not_zero}, NumberLaws.{number_test, number_words, term_words}, ReducedLaws.{reduced_words}}
pub use Rattle.calc_algebra.proofs.{SquareClassLaws.{Same-trans}, TermLaws.{Same-eq, Same-surd_times}, SurdLaws.{Agree-Same}, NumberValues.{number_means}, ExponentLaws.{whole_times}}
pub use Rattle.calc_algebra.specs.{Meanings.{Assignment, IsAssignment}, Numbers.{AreTerms, IsNumber, Rises, terms_of, value}, Reduced.{HasForm, IsProductForm, IsSumForm, NoneIs, Split, are_reduced}}
pub use Rattle.calc_algebra.specs.Reduced.{base_of, is_half_num, is_num_one, is_opaque_exponent, is_whole_num, num_one, number_terms, other_terms, product_tree, split_product}
pub use Rattle.calc_algebra.specs.{Rewritings.{KeepsMeanings}, SquareClasses.{Same}, Surds.{Surd, surd_of, surd_one, term}}
unfoldable pub use Rattle.calc_algebra.specs.{Numbers.{is_number}, Reduced.{is_reduced}}
pub use Rattle.calc_bits.specs.Masses.{IsHeld, mass, mass_from}
pub use Rattle.calc_measures.specs.{Loads.{has_coefficient}, Measures.{HighLow}}
pub use Rattle.calc_room.proofs.{NumberBytes.{num_bytes}, TreeBytes.{counted_number, counted_other, tree_bytes}}
pub use Rattle.calc_room.specs.{Counts.{counted, counted_among}, Powers.{HasPowersOf}, Spans.{SpansRoot, SpansTree, SpansTrees}}
pub use Rattle.calc_terms.proofs.{FractionFacts.{one_is, whole_denominator, whole_numerator, zero_is, zero_test}, SmallLaws.{sizes_append}}
pub use Rattle.calc_terms.specs.{Fractions.{Fraction, minus_one_fraction, whole_fraction}, Integers.{int_is_negative}, Trees.{AllParts, AllPartsOf, HasTwo, Tree, Trees, add, append, count, div}}
pub use Rattle.calc_terms.specs.Trees.{has_undef, is_add, is_div, is_mult, is_num, is_root, is_sub, is_undef, more, mult, neg, none, num, power, root, root_kind, size, sizes, sub, symbol, undef}
pub use Rattle.calc_terms.specs.declared.kind.Kind.{Kind}
unfoldable pub use Rattle.calc_terms.specs.Fractions.{one_fraction, zero_fraction}
pub use Rattle.coefficients.proofs.{Coefficients.{product_form_of}, Factors.{no_split, symbol_monic}, Forms.{parts_defined, parts_reduced, reduced_parts}, Splits.{Leads, in_front}, Rooms.{no_numbers}}
pub use Rattle.coefficients.proofs.{Lengths.{some_factors}, SumMultiples.{two_terms}}
pub use Rattle.coefficients.specs.Coefficients.{IsMonic, with_coefficient}
pub use Rattle.like_children.proofs.{Parts.{formed_reduced}, Permutations.{of_lists}, Kids.{sizes_taken}}
pub use Rattle.node_bounds.specs.{Answers.{IsReducedPower, IsReducedProduct, lacks_power}, Bits.{IsHeldAsRootPower, MultipliesCounts}, HandedOn.{AreReducedPowers, HandsOn, IsLifted, IsMultiplied}}
pub use Rattle.node_bounds.specs.{HandedOn.{IsProductOfPowers, IsSummed}, NodeBits.{HoldsDifference, HoldsNode, HoldsPower}, NodeRooms.{HasNodesFor, KeepsNodeRoom, SpansNode, factors_room}}
pub use Rattle.node_bounds.specs.{NodeRooms.{node_count}, Rooms.{IsCalmAtZero, IsJoinedFrom, IsRewritten, KeepsRoom, KeepsRootRoom, SpansRootOf, power_count, whole_power_count, whole_power_room}}
pub use Rattle.number_forms.proofs.{RationalCalls.{rational_value as num_value}, Rooms.{number_size}}
pub use Rattle.number_forms.specs.{Readers.{is_zero, numerator}, Sums.{removed}}
pub use Rattle.power_reduce.proofs.{Cases.{inside_other}, Counted.{answer_counts, parts_counted, whole_power_counts}, Exponents.{as_whole, whole_exponent, whole_no_half}}
pub use Rattle.power_reduce.proofs.{Rooms.{HasFactors, product_factors}, Rules.{chosen, nothing}, Spanned.{answer_spans, parts_span}, Weights.{product_parts}, Whole.{whole_is}}
pub use Rattle.power_reduce.specs.{Bits.{HasFewBitsRaised, IsHeldAsPowerOf}, Misfits.{IsPowerMisfit}, PowerAnswers.{IsPowerAnswer, IsWrittenPower, base_in, exponent_in, has_no_power}}
pub use Rattle.power_reduce.specs.{PowerAnswers.{has_number_power}, PowerSteps.{goes_inside, half, is_zero_or_one, parts_of, raised, rewritten, rewritten_whole}}
pub use Rattle.product_reduce.proofs.{Finished.{reduced_nth}, HeldFactors.{no_terms, number_some, part_single, rational_some, single_part}, HeldNumbers.{no_factors_held, number_as_factor, value_held}}
pub use Rattle.product_reduce.proofs.{Joined.{one_base}, JointBounds.{base_reduced as base_is_reduced, exponent_reduced as exponent_is_reduced}, LastSteps.{permuted_none_is}}
pub use Rattle.product_reduce.proofs.{Neighbours.{joint_there, neighbours_joint, partners_of_pair}, HeldPairs.{neighbours_held}, Misfits.{permuted_one_is}}
pub use Rattle.product_reduce.specs.{Bounds.{KeepsFactorBounds, KeepsProductBounds}, Answers.{IsFinished, IsWrittenProduct}, Bits.{AreFactorsHeld, IsFactorHeld, none_held}}
pub use Rattle.product_reduce.specs.{Factors.{coefficient_times, numbers_in, opened, others_in, product_of_values}, Joining.{exponent_of, have_partners, is_partner, joint}}
pub use Rattle.product_reduce.specs.Neighbours.{IsPairAt, is_single, joined_pair}
pub use Rattle.radical_forms.proofs.{HeldRationals.{rational_without}, RootValues.{root_of_zero}}
pub use Rattle.radical_forms.specs.{Refusals.{HasWideRoot, IsFull, IsOverflow}, RootAnswers.{IfRational, IsRootAnswer, argument_of, has_no_root}}
pub use Rattle.rational128.specs.declared.overflow.Overflow.{Overflow}
pub use Rattle.std.proofs.{Math.Nat.{pow-le-pow_right}, lemmas.Bool.{and_cases, and_from, and_parts, and_right, cases_Bool, eqb-true, not-false, not-true, not_from_true, or_parts, true≢false}}
pub use Rattle.std.proofs.{lemmas.Nat.{mul-le, pow-add, pow_pos}, Math.IntN.{*ℤ_comm}, Common.{Bool, Err, IfErr, IfOk, IsOk, List, None, Ok, Option, Result, Some, [], ap, arith, false, if◌then◌else◌}}
pub use Rattle.std.proofs.Common.{inl, inr, length, max, nat_abs, neg_ℤ, negsuc, not, pos, refl, rules, subst, suc, sym, true, zero, ℕ, ℤ, ◌&&◌, ◌*ℤ◌, ◌*◌, ◌+◌, ◌-◌, ◌/◌, ◌<◌, ◌==◌, ◌^◌, ◌||◌, ◌∙◌}
pub use Rattle.std.proofs.Common.{◌∷◌, ◌≡◌, ◌≢◌, ◌≤◌, ◌⊎◌}
pub use Rattle.sum_reduce.proofs.{CollectedExponents.{num_counted, put_counted, whole_of, zero_counted}, CountedMultiples.{product_within, within_after}}
pub use Rattle.sum_reduce.specs.{Bounds.{KeepsSumRoom}, SumAnswers.{IsSumAnswer}}
pub use Rattle.surd_bits.specs.Rooted.{IsNoLargerThanRoot}
pub use Rattle.tree_bits.proofs.{Children.{tree_as_sum, trees_together}, Factors.{factor_as_tree, factor_is_held, minus_one_held, tree_as_base}, Joined.{addend_left_out, addend_to_front}}
pub use Rattle.tree_bits.proofs.{Joined.{factor_left_out, factors_joined}, Numbers.{base_positive, exponents_within, held_number, nothing_held}, Sums.{one_counted, one_counts, root_is_held}}
pub use Rattle.tree_bits.proofs.{Sums.{symbol_is_held, tree_wider}, RaisedBits.{counted_bits, raised_both, raised_most}, ExponentBits.{counted_defined, exponent_is_held, multiple_of, some_counts}}
pub use Rattle.tree_bits.proofs.{Powers.{part_raised, part_turned}, Weighted.{split_off}}
pub use Rattle.tree_bits.specs.{Rows.{AreFewBits}, Children.{IsSumHeld, addends_of_each}, Exponents.{Counts, counts, counts_of, counts_of_all, is_counted, multiple}, HeldTrees.{Addend, AreWeighted}}
pub use Rattle.tree_bits.specs.HeldTrees.{IsBaseHeld, IsPartHeld, IsTreeHeld, addend, addend_of, addends_of, factor_held, more_weighted, no_factor_held, none_weighted, power_high, power_low}
pub use Rattle.tree_bits.specs.{HeldTrees.{root_held, symbol_held, tree_held, undef_held}, Powers.{AddsCounts, IsCountedWithin, IsFactorPower, IsWithin, raised_high, raised_low}}
pub use Rattle.tree_bits.specs.{Weighted.{AreHeld, Weighted}, Joined.{IsJoint}, Factors.{as_factor}}
pub use Rattle.tree_handles.specs.{Expressions.{children_of, inserted, nth}, Faults.{IfOverflow, OfOverflow}, Holes.{set_tree}, Lacking.{LacksBelow}, declared.fault.NumberFault.{NumberFault}}
pub use Rattle.tree_room.proofs.{Calm.{no_half, number_calm, parts_calm, product_whole, sum_whole, whole_number}, Counts.{appended, at_most_itself, counts_one, number_counts_one, numbers_and_others}}
pub use Rattle.tree_room.proofs.{Counts.{product_at_most}, Handed.{product_bytes, raised_factor, raised_number}, Multiples.{scaled}, PowerCounts.{exponents_added, exponents_multiplied, joined}}
pub use Rattle.tree_room.proofs.{PowerCounts.{of_a_power, of_a_root, power_counts}, Coefficients.{split_counts}}
pub use Rattle.tree_room.specs.{Exponents.{AreCalm, HasCalmExponent, IsCalm, MeansWhole, zeros}, Handed.{counted_in_all, exponent_count, numbers_among, product_count, sum_count}, Needs.{power_room}}
pub use Rattle.tree_room.specs.Needs.{product_power_room, product_room, simple_room, sum_room}
