-- The names that the proofs share.
pub use Rattle.calc_algebra.proofs.NumberLaws.{number_test, term_test}
pub use Rattle.calc_algebra.specs.{Numbers.{AreTerms, IsTerm, are_terms, is_term, rises, terms_of, value}, Reduced.{HasForm, NoneIs, num_one, number_terms, other_terms}}
pub use Rattle.calc_algebra.specs.Surds.{Surd, Term, surd_of, surd_one, surd_times, term}
unfoldable pub use Rattle.calc_algebra.specs.Numbers.{is_number}
pub use Rattle.calc_bits.proofs.{Held.{held_power, two_powers}, MassLaws.{mass-append, mass_scale, mass_times, parts_append, parts_scale, parts_times}, Quotients.{abs_cross, cancel_le, cancel_right}}
pub use Rattle.calc_bits.proofs.{Quotients.{den_divides, magnitude_cross, magnitude_is}, RootsAbove.{root_least}}
pub use Rattle.calc_bits.specs.{Bounds.{IsNoLarger, IsNoLargerThanPower}, Denominators.{AreWholeOver, Parts, magnitude_over}, Masses.{IsHeld, mass, root_above}}
pub use Rattle.calc_measures.proofs.{CeilLog2.{ceil_log2_is}, LiteralValues.{whole_of}}
pub use Rattle.calc_measures.specs.{Literals.{half_literal, or_literal, whole_literal}, Measures.{HighLow, all_simple, bits, bounds, bounds_of_factors, bounds_of_terms, ceil_log2, high, low}}
pub use Rattle.calc_measures.specs.Measures.{most_bits, most_bits_of, power_bounds}
pub use Rattle.calc_terms.proofs.{SmallLaws.{lesser_power, trans}, FractionFacts.{no_zero, one_test, whole_denominator, whole_numerator, zero_test}}
pub use Rattle.calc_terms.specs.{Fractions.{Fraction, den_pos, is_zero_fraction, lowest, minus_one_fraction, mul_pos, whole_fraction}, Limits.{bits_limit}, Trees.{AllParts, AllPartsOf, AreComplete}}
pub use Rattle.calc_terms.specs.{Trees.{IsComplete, Tree, Trees, add, append, count, div, is_add, is_undef, more, mult, neg, none, num, power, root, sub, symbol, undef}, Integers.{int_is_zero}}
unfoldable pub use Rattle.calc_terms.specs.Fractions.{one_fraction}
pub use Rattle.std.proofs.{Math.Nat.{dvd_refl, pow-le-pow_right}, lemmas.Nat.{mul-le, pow-add, pow_pos}, Common.{Bool, List, [], ap, arith, false, if◌then◌else◌, inl, inr, max, min, negsuc, not, pos}}
pub use Rattle.std.proofs.{Common.{refl, subst, suc, sym, true, ℕ, ℤ, ◌*◌, ◌++◌, ◌+◌, ◌-◌, ◌<◌, ◌==◌, ◌^◌, ◌∙◌, ◌∷◌, ◌≡◌, ◌≢◌, ◌≤◌, ◌⊎◌}, lemmas.Bool.{and_parts, eqb-true, not_from_false}}
pub use Rattle.std.specs.{Prelude.{Option, length, nat_le, ◌&&◌}, Int.{◌∣◌}}
pub use Rattle.tree_bits.specs.{Children.{ArePositive, AreTreesHeld, IsSumHeld, addends_of_each, high_sum, largest_high, low_sum, power_sum}, Exponents.{Counts, are_counted, counts, counts_of}}
pub use Rattle.tree_bits.specs.{Exponents.{counts_of_all, is_counted, multiple}, Factors.{as_factor, distributed, multiplied, product_of, surd_minus_one}, HeldTrees.{Addend, AreWeighted, IsBaseHeld}}
pub use Rattle.tree_bits.specs.HeldTrees.{IsPartHeld, IsTreeHeld, addend, addend_of, addends, addends_of, base_in, exponent_in, factor_held, more_weighted, no_factor_held, none_weighted, power_high}
pub use Rattle.tree_bits.specs.{HeldTrees.{power_low, root_held, sum_held, symbol_held, tree_held, undef_held}, Powers.{IsAddendPower, IsHeldAsPower, IsPartPower, IsWithin, IsZeroAlone, raised_high}}
pub use Rattle.tree_bits.specs.{Powers.{raised_low}, Rows.{IsWithinBits, bounds_of_each}, Weighted.{AreHeld, PartsAll, Weighted, coefficients, lesser, lows, weighted, weighted_mass}, Joined.{IsJoint}}
pub use native.Mathlib.Nat.{mul_comm}
