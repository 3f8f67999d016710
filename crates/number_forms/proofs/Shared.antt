-- The names that the proofs share.
pub use Rattle.calc_algebra.proofs.{CleanLaws.{IsSquareFree, alike_square_free, clean_square_free}, InverseLaws.{Inverts-Same, factor_not_zero, inverse_times_itself, term_not_zero}}
pub use Rattle.calc_algebra.proofs.{NumberClasses.{AreProper, IsProper, alike_through, alike_turned, first_coefficient, one_not_zero, terms_proper, value_proper, value_rises}, NumberLaws.{clean_test}}
pub use Rattle.calc_algebra.proofs.{NumberLaws.{clean_words, number_test, number_words, term_test, term_words}, NumberShapes.{AsNumber, as_number}, NumberUniqueness.{term_simplest}}
pub use Rattle.calc_algebra.proofs.{PowerLaws.{surd_power-multiplied, surd_power-squared, surd_power-surd_of, zero_surd_of}, SquareClassLaws.{Same-Agree, Same-sym, Same-trans, alike_true}}
pub use Rattle.calc_algebra.proofs.{SquareRootLaws.{square_le}, SurdLaws.{Agree, Agree-Same, Agree-append, Agree-eq, Agree-refl, Agree-sym, Agree-trans, class_coefficient-append}}
pub use Rattle.calc_algebra.proofs.SurdLaws.{class_coefficient-map, class_coefficient-surd_scale, map-append', surd_times-append, surd_times-one, surd_times-surd_one, surd_times_comm}
pub use Rattle.calc_algebra.proofs.TermLaws.{Same-append, Same-append_comm, Same-cons, Same-eq, Same-refl, Same-surd_power, Same-surd_times, Same-to_front, joined_radicand, share_apart}
pub use Rattle.calc_algebra.proofs.TermLaws.{surd_times-terms}
pub use Rattle.calc_algebra.specs.{Clean.{IsClean, is_clean}, Numbers.{AreTerms, IsBelowAll, IsNumber, IsRadicand, IsTerm, Rises, are_terms, classes, is_below_all, is_radicand, is_term, natural_of}}
pub use Rattle.calc_algebra.specs.{Numbers.{rises, terms_of, value}, Reduced.{all_parts, all_parts_of, has_form, is_num_one, none_is, number_terms, other_terms, sum_form}}
pub use Rattle.calc_algebra.specs.{SquareClasses.{Inverts, Same, are_alike, class_coefficient}, Surds.{Surd, Term, surd_of, surd_one, surd_power, surd_scale, surd_times, term, term_times}}
unfoldable pub use Rattle.calc_algebra.specs.{Numbers.{is_number}, Reduced.{is_reduced}}
pub use Rattle.calc_bits.proofs.{Fitting.{magnitude_power, multiple_fits, power_den, sum_fits_over}, Held.{held_times, low_power, magnitudes_cross, parts_power, power_bound, power_once}}
pub use Rattle.calc_bits.proofs.{MassLaws.{mass-append, parts_append, parts_times}, NoLarger.{held_so_far, no_larger, no_larger_power}}
pub use Rattle.calc_bits.proofs.{Parts.{held_left, held_pair, held_right, parts_left, parts_right}, Quotients.{abs_cross, cancel_le, cancel_right, coprime, multiple_den, over_den, plus_den}}
pub use Rattle.calc_bits.proofs.{Quotients.{plus_over}, RootsAbove.{root_enough, root_scale}}
pub use Rattle.calc_bits.specs.{Bounds.{HasFewBits, IsNoLarger, IsNoLargerThanPower, SharesPowers}, Denominators.{AreWholeOver, Parts, SharesDenominators, magnitude_over}}
pub use Rattle.calc_bits.specs.Masses.{IsHeld, mass, mass_from, root_above, term_mass}
pub use Rattle.calc_measures.specs.{PlainTrees.{IsPlainAnswer, IsPlainOverflow}, PlainValues.{calculated}}
pub use Rattle.calc_room.proofs.{NumberBytes.{count_terms, num_bytes, number_bytes, partial_bytes}, NumberSpans.{inverse_spanned, power_spanned, product_spanned, spans_append, spans_row}}
pub use Rattle.calc_room.proofs.{NumberSpans.{spans_same_terms, spans_scale, spans_times, sum_spanned, value_spanned}, TreeBytes.{term_is_number}}
pub use Rattle.calc_room.specs.{Needs.{inverse_need, power_need, product_need, sum_need}, Spans.{IsSpanned, Spans, SpansTree}}
pub use Rattle.calc_terms.proofs.{FractionFacts.{no_zero, one_is, whole_denominator, whole_numerator, zero_is, zero_test}, Sizes.{num_least, num_most, payload_most}, SmallLaws.{passed_on}}
pub use Rattle.calc_terms.specs.{Fits.{Operation, add_op, fraction_fits, fraction_power, mul_op, operation_fits, pow_op, result_of, sum_fits}, FractionLaws.{one_times, plus_negative, times_comm}}
pub use Rattle.calc_terms.specs.{FractionLaws.{times_plus, zero_plus, zero_times}, Fractions.{Fraction, den_pos, inverse, is_one_fraction, is_zero_fraction, mul_pos, negative, plus, plus_assoc}}
pub use Rattle.calc_terms.specs.{Fractions.{plus_comm, times_lowest, whole_fraction}, Gcd.{gauss}, Integers.{int_is_zero}, Node.{Node}, Payload.{Payload, bare, kind_of_payload, named, rational}}
pub use Rattle.calc_terms.specs.{Payload.{size_of_payload}, Rat.{ratio_of, value_of}, Ratio.{Ratio, whole}, Trees.{Tree, Trees, add, append, count, div, has_two, is_add, is_mult, is_num, more, mult}}
pub use Rattle.calc_terms.specs.{Trees.{neg, none, num, power, root, root_kind, root_size, size, sizes, sub}, declared.kind.Kind.{Kind}, declared.rat.Rat.{Rat}}
unfoldable pub use Rattle.calc_terms.specs.{Fractions.{lowest, one_fraction, times, zero_fraction}, Gcd.{gcd}}
pub use Rattle.child_lists.proofs.{LastSums.{lists_behind, only_child, only_owned}, ListedChildren.{children_number, lists_at, lists_kept, lists_listed, lists_none}}
pub use Rattle.child_lists.specs.Lists.{Lists}
pub use Rattle.node_pool.proofs.Ids.{eqb_sym as eqb-sym}
pub use Rattle.node_pool.specs.{State.{State, free_of}, declared.full.Full.{Full}}
pub use Rattle.number_forms.specs.{Answers.{AnswersRationals, IsNumberOf, IsNumberOver, IsPowerOver}, Inverses.{HasInverse, IsInverseOf, LacksInverse, inverse_trees, tree_of_terms}}
pub use Rattle.number_forms.specs.{Joins.{IsMatch, IsOther}, Joints.{LacksJointRoom, both, is_neutral, joint_need, operation}, Overflows.{InverseOverflows, JoinOverflows, PowerOverflows}}
pub use Rattle.number_forms.specs.Overflows.{ProductJoinOverflows, ProductOverflows, RowOverflows, SquareOverflows, SquareRowOverflows, SumOverflows, inverting_calculations, terms_from}
pub use Rattle.number_forms.specs.Safety.{IsSafe, IsSafePlacing}
pub use Rattle.number_forms.specs.{Placed.{Adds}, Readers.{is_zero}, Rooms.{LacksRoom, joining_need, raising_need}, Shapes.{first_kind, has_term_shape, is_multiple_next, is_num_kind, is_number_next}}
pub use Rattle.number_forms.specs.{Shapes.{is_root_kind, is_root_of_num, sum_of_terms, term_tree}, Squares.{square_row, square_terms, twice}, Sums.{AreBelow, AreRising, IsApart, IsPlace, IsSum}}
pub use Rattle.number_forms.specs.{Sums.{IsSumOf, Ranks, RanksTerms, removed, trees_from}, Values.{AreListed, AreSmall, AreTermsOf, number_tree, trees_of}, declared.calculating.Joint.{Joint}}
pub use Rattle.number_forms.specs.{declared.joining.Match.{Match}, declared.inverting.Terms.{Terms}}
pub use Rattle.rational128.proofs.{Coprime.{IsCoprime, IsCoprime-from_gcd, IsCoprime-mul, IsCoprime-swap, IsGcd-from_coprime}, Divisors.{IsGcd-same}, LowestTerms.{ratio_parts}}
pub use Rattle.rational128.specs.{Refusals.{DoesNotFit, operation_of}, declared.overflow.Op.TheVariants.{Mul}, declared.overflow.Overflow.{Overflow}}
pub use Rattle.std.proofs.Common.{Bool, Err, FitsSigned, IfErr, IfOk, IsErr, IsOk, IsTrue, List, None, Ok, OnOk, Result, Some, [], add-one, ap, append-nil, append_assoc, arith, below_more, drop, eqb}
pub use Rattle.std.proofs.Common.{false, get_or, if◌then◌else◌, inl, inr, insert, length, length-append, lit<, ltb-true, map, max, mul_comm, nat_abs, nat_le, nat_lt, not, of_z, pos, refl, remove}
pub use Rattle.std.proofs.Common.{rules, set, slice_get, subst, suc, sym, take, to_z, true, zero, ℕ, ℤ, ◌%◌, ◌&&◌, ◌*ℤ◌, ◌*◌, ◌++◌, ◌+◌, ◌-◌, ◌/◌, ◌<◌, ◌==◌, ◌^◌, ◌||◌, ◌↔◌, ◌∙◌, ◌∷◌, ◌≡◌, ◌≢◌, ◌≤ℤ◌}
pub use Rattle.std.proofs.{Common.{◌≤◌, ◌⊎◌}, Math.Nat.{dvd-mul_left, dvd-mul_right}, lemmas.Bool.{and_from, and_parts, eq-eqb, eqb-false, eqb-true, false_from_ne_true, le-leb, lt-leb, not-true}}
pub use Rattle.std.proofs.{lemmas.Int.{to_z-of_z, unsigned_abs-mul}, lemmas.List.{drop-drop, drop_all, length-set, length-take-le, length_push, take-append-drop, take_all, take_more}}
pub use Rattle.std.proofs.{lemmas.Nat.{mul-le, pow-add, pow_pos}, lemmas.Nat.Gcd.{dvd_refl, le_of_dvd, same_from_IsGcd}}
pub use Rattle.std.specs.{Int.{IsGcd, w128, ◌∣◌}, List.{refill}, declared.cmp.Ordering.{Ordering}}
pub use Rattle.surd_bits.proofs.{Bounds.{denominator_bound, held_bound, magnitude_positive, magnitude_whole, power_fits}, InversesFit.{inverse_fits, inverse_of_sum_fits}}
pub use Rattle.surd_bits.proofs.{Inverted.{one_no_larger, two_no_larger}, JoinsFit.{joins_fit}, ProductsFit.{coefficients_fit, extracted_fits, radicands_fit}, Steps.{extracted_den, joined_den}}
pub use Rattle.surd_bits.specs.Inverted.{IsNoLargerThanInverse}
pub use Rattle.surd_terms.proofs.{Misfits.{passed}, Values.{inverse_not_zero}}
pub use Rattle.surd_terms.specs.Calculations.{Calculation, IsProductMisfit, calculation, calculation_of, first_misfit, has_rational, joining_calculations, misfit_of, radicand_calculations}
pub use Rattle.surd_terms.specs.{Inverses.{first_of_inverse, inverse_of, second_of_inverse}, Products.{IsExtracted}, Sums.{IfTerm, Joins}, Terms.{term_of}, declared.sums.Joined.{Joined}}
pub use Rattle.tree_handles.proofs.{Adopting.{adopted_all, behind_there}, Beside.{gives_itself, gives_rest, gives_without, other_expression, other_plain, other_read}, ChildPlaces.{item, seen_child}}
pub use Rattle.tree_handles.proofs.{Cuts.{represents_count}, ForestLists.{kids_below, length-root_ids, no_trees, rest-rest}, Forests.{bytes_in-join, join-empty, join_assoc}}
pub use Rattle.tree_handles.proofs.{FreeBytes.{both_released_free, both_replaced_free, refused_below, replaced_free, room_of}, Fronts.{behind_first, behind_later, behind_new, front_after}}
pub use Rattle.tree_handles.proofs.{Fronts.{front_after_one, front_after_two, front_at, front_end, front_put, front_same, front_without}, Given.{given_apart, given_handed, given_other, given_rest}}
pub use Rattle.tree_handles.proofs.Given.{given_root, given_told, given_without, gives, gives_as, handed_at, handed_beside, owned, represents_handed, represents_join, represents_node, represents_none}
pub use Rattle.tree_handles.proofs.{Lasts.{expression_root, kids_of_last, last_root, last_tree, plain_root}, Measures.{few_in, one_at}, Outcomes.{by_test, passed_result}, Places.{used_forest}}
pub use Rattle.tree_handles.proofs.{Plains.{alone, children_of-plain, count-plains, sizes-plains}, Refused.{kept_after, kept_same, overflow_as, refused_as}, Room.{given_free, released_free}}
pub use Rattle.tree_handles.proofs.{Roots.{root-left, tree-without, without-swap}, Seen.{expression, seen}}
pub use Rattle.tree_handles.specs.{Building.{building, node_sizes, nodes_sizes, taking}, Causes.{LacksLongForm, OnlyLacksLongForm}, Children.{root_ids}, Expressions.{AllExpressions, IsExpression}}
pub use Rattle.tree_handles.specs.{Expressions.{children_of, compound, grown, inserted, nth, plain, plains, takes, takes_kind}, Faults.{OfOverflow}, Forest.{Forest, Label, arity, bytes_in, empty}}
pub use Rattle.tree_handles.specs.{Forest.{first_trees, flatten, join, kids, one_tree, rest_trees, root_id, tree}, Handed.{Ends, Gives, IsHanded, KeepsFront, tree_of}, Inside.{kids_of, tree_at}}
pub use Rattle.tree_handles.specs.{Lacking.{OfFull}, Roots.{adopted, behind_root, has_root, root_tree, without_root}, Standing.{IsRefused, KeepsRefusals, Stands, forest}, Visits.{visit_of, visits_of}}
pub use Rattle.tree_handles.specs.declared.fault.NumberFault.{NumberFault}
pub use lib.Signed.{lt_z}
