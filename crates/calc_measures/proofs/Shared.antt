-- The names of other crates that the proofs share.
pub use Rattle.calc_algebra.proofs.{ComputedNumbers.{below_power}, HalfLaws.{half_of, half_of_is}, MeaningRewrites.{Permuted, permuted_more, permuted_none, permuted_swap, permuted_trans}}
pub use Rattle.calc_algebra.proofs.{NumberLaws.{number_words}, ReducedLaws.{reduced_words}}
pub use Rattle.calc_algebra.specs.{Numbers.{AreTerms, IsNumber, IsTerm, are_numbers}, Reduced.{base_of, is_half_num, is_opaque_exponent, is_reduced}}
unfoldable pub use Rattle.calc_algebra.specs.{Clean.{is_clean, left_of}, Numbers.{is_number}, SquareRoots.{square_root}}
pub use Rattle.calc_measures.specs.{Literals.{half_literal, half_quotient, half_value, int_is_two, is_half_literal, is_some, opposite, or_literal, whole_literal, whole_value}, Loads.{has_coefficient}}
pub use Rattle.calc_measures.specs.{Loads.{load, load_of_factor, load_of_factors, nest, nest_of, weight, weight_of_factors}, Measures.{HighLow, bounds, bounds_of_factors, bounds_of_terms, ceil_log2}}
pub use Rattle.calc_measures.specs.{Measures.{high, least_exponent, low, power_bounds}, PlainOverflows.{is_overflow, nodes_among, nodes_to_overflow, with_child}, PlainTrees.{IsPlainAnswer}}
pub use Rattle.calc_measures.specs.PlainValues.{PlainValue, calculated, divided, exactly, gather, on_one, overflow, plain_of, plain_value, powered, undefined, values}
pub use Rattle.calc_terms.proofs.FractionFacts.{whole_denominator, whole_numerator}
pub use Rattle.calc_terms.specs.{Fits.{fits, fraction_fits, fraction_power, mul_op, operation_fits, pow_op, result_of}, FractionLaws.{one_times, times_comm}, Fractions.{Fraction, den_pos, inverse}}
pub use Rattle.calc_terms.specs.{Fractions.{inverse_of, is_zero_fraction, lowest_parts, minus_one_fraction, times_lowest, whole_fraction}, Integers.{int_is_even, int_is_zero}, Trees.{Tree, Trees}}
pub use Rattle.calc_terms.specs.Trees.{add, append, div, more, mult, neg, nodes, nodes_of, none, num, power, root, sub, symbol, undef}
unfoldable pub use Rattle.calc_terms.specs.{Fractions.{lowest, negative, one_fraction, plus, times, zero_fraction}, Gcd.{gcd}, Short.{is_short}}
pub use Rattle.rational128.proofs.Reciprocals.{abs_negative, inverts, negative_parts}
pub use Rattle.std.proofs.Common.{Bool, None, Option, Some, [], ap, arith, false, if◌then◌else◌, inl, inr, max, nat_abs, nat_le, nat_lt, neg_ℤ, negsuc, not, pos, refl, subst, suc, sym, true, zero, ℕ}
pub use Rattle.std.proofs.{Common.{ℤ, ◌&&◌, ◌*ℤ◌, ◌*◌, ◌+◌, ◌<ℤ◌, ◌<◌, ◌==◌, ◌^◌, ◌∙◌, ◌≡◌, ◌≢◌, ◌≤ℤ◌, ◌≤◌, ◌⊎◌}, lemmas.Bool.{and_from, and_parts, eqb-true, leb-false, leb-true, not-true}}
pub use Rattle.std.proofs.{lemmas.Int.{ints}, lemmas.Nat.{mul-le}}
