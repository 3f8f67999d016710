-- The names that the proofs share.
pub use Rattle.calc_algebra.proofs.{InverseLaws.{Inverts-surd_of, inverse_times_itself}, MeaningLaws.{Means-Same, Same-sym, one_meaning, one_value, whole_one}, Names.{Within, no_new_name}}
pub use Rattle.calc_algebra.proofs.{Names.{within_both, within_left, within_none, within_of, within_right, within_same, within_trans}, PowerLaws.{rational_power, surd_power-surd_of}}
pub use Rattle.calc_algebra.proofs.{PowerRewrites.{exponent_is, power_whole}, SquareClassLaws.{Same-trans}, SurdLaws.{Agree-Same, times_exchange, times_zero}, TermLaws.{Same-append, Same-eq}}
pub use Rattle.calc_algebra.proofs.{TermLaws.{Same-refl, Same-surd_power, Same-surd_scale, Same-surd_times, joined_radicand, surd_times-terms, zero_term}, TreeOrderLaws.{tree_chain, tree_cmp_equal}}
pub use Rattle.calc_algebra.proofs.{TreeOrderLaws.{tree_cmp_refl, tree_cmp_same, tree_cmp_total, tree_cmp_turned, trees_cmp_turned}, MeaningRewrites.{none_product, none_sum, one_product, one_sum}}
pub use Rattle.calc_algebra.proofs.{MeaningRewrites.{product_more, product_none, sum_more, sum_none}, NumberLaws.{number_words}, ReducedLaws.{reduced_test}, SmallLaws.{whole_by}}
pub use Rattle.calc_algebra.specs.{Meanings.{Assignment, Binding, Gives, IsAssignment, IsWholePower, Means, MeansProduct, MeansSum}, Numbers.{IsNumber, is_term}, Reduced.{HasForm, IsFrontForm}}
pub use Rattle.calc_algebra.specs.Reduced.{IsPowerForm, IsProductForm, IsSumForm, NoneIs, RisesBy, Split, base_of, is_num_one, is_one_add, is_opaque_exponent, is_undistributed, num_one, number_terms}
pub use Rattle.calc_algebra.specs.{Reduced.{other_terms, part_of, product_tree, split, split_product}, Rewritings.{HasNoNewName}, Surds.{Surd, surd_of, surd_one}, TreeOrder.{tree_cmp, trees_cmp}}
pub use Rattle.calc_algebra.specs.SquareClasses.{Same}
unfoldable pub use Rattle.calc_algebra.specs.{Numbers.{is_number}, Reduced.{is_reduced}}
pub use Rattle.calc_bits.proofs.Quotients.{cancel_right, den_divides, magnitude_cross, magnitude_lowest, magnitude_scale, magnitude_times, over_multiple, plus_den, plus_over, times_den, whole_over}
pub use Rattle.calc_bits.proofs.{Quotients.{whole_over-abs}, Held.{one_magnitude, two_powers}, SmallLaws.{magnitude_plus}}
pub use Rattle.calc_bits.specs.Denominators.{magnitude_over}
pub use Rattle.calc_measures.proofs.CeilLog2.{ceil_log2_is}
pub use Rattle.calc_measures.specs.{Literals.{half_literal, opposite, or_literal, whole_literal, whole_value}, Measures.{HighLow, bounds, bounds_of_terms, ceil_log2, high, low, power_bounds}}
pub use Rattle.calc_terms.proofs.{FractionFacts.{no_one, no_zero, one_is, whole_denominator, whole_numerator, zero_is, zero_test}, Sizes.{num_most}, SmallLaws.{and_false, negative_not_zero}}
pub use Rattle.calc_terms.proofs.{SmallLaws.{plus_both, then-equal, times_one, zero_is_zero}, SmallFractions.{plus_zero}}
pub use Rattle.calc_terms.specs.{Fits.{fraction_power}, FractionLaws.{one_times, plus_negative, times_assoc, times_comm, times_plus, zero_plus, zero_times}, Fractions.{Fraction, den_pos}}
pub use Rattle.calc_terms.specs.Fractions.{fraction_cmp, inverse, inverse_of, is_one_fraction, is_zero_fraction, lowest, minus_one_fraction, mul_pos, negative, plus, plus_assoc, plus_comm, times}
pub use Rattle.calc_terms.specs.{Fractions.{times_lowest, whole_fraction}, Integers.{int_is_zero}, Kind.{code_of}, Leaf.{name_of}, Name.{before_zero, padded}, Rat.{value_of}, Trees.{AllParts}}
pub use Rattle.calc_terms.specs.Trees.{AllPartsOf, HasTwo, Tree, Trees, add, count, div, is_add, is_mult, is_num, is_undef, more, mult, names, names_of, neg, nodes, none, num, power, root, root_code}
pub use Rattle.calc_terms.specs.{Trees.{root_kind, size, sizes, sub, symbol, undef, whole_num}, declared.name.Name.{Name}}
unfoldable pub use Rattle.calc_terms.specs.Fractions.{one_fraction, zero_fraction}
pub use Rattle.expansions.specs.ExpandedTrees.{IsBeforeAll, IsNormal, expanded, factor_tree, factor_trees, joined, monomial_cmp, monomial_tree, normal, sum_tree, term_tree, term_trees, with_summand}
pub use Rattle.expansions.specs.{ExpandedTrees.{without_zeros}, ExpansionBits.{AreHeldTogether, AreWhole, HasExponents, HaveExponents, IsHeld, mass}, ExpansionRoom.{AreNamed, HasFewTerms, IsNamed}}
pub use Rattle.expansions.specs.{ExpansionRoom.{count_distinct, expansion_room, is_among, most_terms, product_of_terms, sum_bytes, sum_of_terms, term_bytes, terms, terms_bytes}, Named.{AreNames}}
pub use Rattle.expansions.specs.Named.{AreNamesBelow, AreOf, AreZero, HasName, HaveNames, IsBelowNames, IsListOf, IsOfNames, IsWithin, StartNamesFrom, factors_of, led, named, named_polynomial}
pub use Rattle.expansions.specs.{PackedOrder.{behind_cmp, eight_names, exponents_cmp, first_exponent, kind_with, packed_term_cmp}, PolynomialTrees.{are_polynomials, divisor_of, exponent_of}}
pub use Rattle.expansions.specs.{PolynomialTrees.{is_divisor, is_exponent, is_nonzero, is_polynomial, is_small, natural_of, polynomial_of, product_of, sum_of}, Polynomials.{AreMonomials, Factor}}
pub use Rattle.expansions.specs.Polynomials.{IsBelowAll, IsMonomial, Monomial, Polynomial, Summand, coefficient_at, constant, factor, is_same_monomial, monomial_times, product, raised, scaled}
pub use Rattle.expansions.specs.{Polynomials.{summand, summand_times, variable, with_factor}, Sums.{AreSame, IsExpanded, IsSum, IsSumOf}, Terms.{IsTerm, coefficient_in, factors_in, terms_in}}
pub use Rattle.expansions.specs.Values.{factor_value, given, monomial_value, polynomial_value, summand_value}
unfoldable pub use Rattle.expansions.specs.PackedOrder.{packed_cmp}
pub use Rattle.polynomials.proofs.{Coefficients.{one_unpacked, same_coefficient}, Worth.{plus_left_comm, plus_times}}
pub use Rattle.polynomials.specs.{Packed.{unpacked}, Polynomials.{one_monomial, worth}, Terms.{AreTermsOf}, declared.term.Term.{Term}}
unfoldable pub use Rattle.polynomials.specs.Packed.{monomial_of}
pub use Rattle.rational128.proofs.Reciprocals.{negative_parts}
pub use Rattle.std.proofs.Common.{Bool, IsPermutation, List, Option, Some, [], ap, append-nil, append_assoc, arith, cond, drop, false, get_or, get_or-set_other, get_or-set_same, inl, inr, length, map}
pub use Rattle.std.proofs.Common.{max, negsuc, pos, refl, replicate, set, subst, suc, sum_by, sym, take, true, zero, ℕ, ℤ, ◌%◌, ◌*ℤ◌, ◌*◌, ◌++◌, ◌+ℤ◌, ◌+◌, ◌/◌, ◌<◌, ◌^◌, ◌∙◌, ◌∷◌, ◌≡◌, ◌≢◌, ◌≤◌, ◌⊎◌}
pub use Rattle.std.proofs.Math.Nat.{div-div-eq-div-mul, dvd-mul_left, dvd_refl, le-max_left, le-max_right, max-le, one-dvd, one-le-pow, pow-le-pow_left, pow-le-pow_right, pow-succ', pow-zero}
pub use Rattle.std.proofs.{lemmas.Bool.{and_from, and_parts, cases_Bool, cases_eq, eq-eqb, eqb-true, false_from_ne_true, ne_eqb, not_from_false}, lemmas.Int.{ints}, lemmas.List.{drop_all}}
pub use Rattle.std.proofs.lemmas.List.{length-append, length-map, length-reverse, length-set, map-append, reverse-append, reverse-reverse, take-append-drop, take_all}
pub use Rattle.std.proofs.{lemmas.List.Elements.{All-from_recursion, Contains-push, recursion_from_All}, lemmas.List.Sorted.{All-permutation, IsPermutation-keeps, sum_by-IsPermutation}}
pub use Rattle.std.proofs.{lemmas.Nat.{mul-le, pow-add}, lemmas.Nat.Gcd.{dvd_trans}, lemmas.Slice.Eq.{bytes_eq-Decides}, Math.Seq.{drop-cons, take-suc}, lemmas.Map.Text.{is_eq-slice_cmp}}
pub use Rattle.std.proofs.lemmas.List.Sums.{sum_by-cons}
pub use Rattle.std.specs.{Cmp.Lexicographic.{nat_list_cmp_total, slice_cmp}, Int.{bytes_high_first, ◌∣◌}, List.{AllByRecursion, swap}, Ordering.{int_cmp, is_eq, is_lt, nat_cmp, ordering_index}}
pub use Rattle.std.specs.{Ordering.{ordering_reverse, ordering_then}, Prelude.{Contains, IsSorted, None, if◌then◌else◌, insert, nat_abs, neg_ℤ, not, reverse, ◌&&◌, ◌==◌, ◌||◌}, Str.{bytes_eq}}
pub use Rattle.std.specs.{declared.cmp.Ordering.{Ordering}, declared.cmp.Ordering.TheVariants.{Equal, Greater, Less}, Cmp.{IsTotalOrder, on_total}}
