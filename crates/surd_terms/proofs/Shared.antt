-- The names that the proofs share.
pub use Rattle.calc_algebra.proofs.InverseLaws.{Inverts-Same, difference_not_zero, factor_not_zero, inverse_times_itself, product_not_zero, term_has_inverse, terms_have_inverse}
pub use Rattle.calc_algebra.proofs.{MeaningLaws.{Same-sym}, NumberClasses.{one_not_zero}, NumberRewrites.{root_extracted}, SquareClassLaws.{Same-trans, alike_true}}
pub use Rattle.calc_algebra.proofs.{SquareRootLaws.{square_root-square}, TermLaws.{Same-eq, Same-refl, extracted, joined, zero_term}}
pub use Rattle.calc_algebra.specs.{Clean.{IsClean}, Meanings.{IsRootOf}, SquareClasses.{Inverts, Same, are_alike}, SquareRoots.{square_root}, Surds.{Term, term, term_times}}
pub use Rattle.calc_terms.proofs.{FractionFacts.{cross_products, whole_numerator, zero_is}, SmallLaws.{negative_not_zero, positive_factor}}
pub use Rattle.calc_terms.specs.{Fits.{fraction_fits}, FractionLaws.{one_times, plus_negative, times_assoc, times_comm, zero_plus}, Fractions.{Fraction, den_pos, inverse, is_lowest, lowest_parts}}
pub use Rattle.calc_terms.specs.{Fractions.{mul_pos, negative, plus, plus_comm, quotient, same_lowest, times_lowest, whole_fraction}, Gcd.{gcd, gcd_is}, Integers.{diffs, eq_diff, int_is_zero, parts}}
pub use Rattle.calc_terms.specs.{Rat.{ratio_of, value_of}, Ratio.{Ratio, whole}, declared.rat.Rat.{Rat}}
unfoldable pub use Rattle.calc_terms.specs.Fractions.{lowest, one_fraction, times, zero_fraction}
pub use Rattle.rational128.proofs.{Coprime.{IsCoprime, IsCoprime-divisors, IsCoprime-mul, IsCoprime-swap, IsGcd-from_coprime, factor_divides, quotients_coprime}, LowestTerms.{HasParts}}
pub use Rattle.rational128.proofs.{LowestTerms.{fraction_coprime, is_lowest_from, made_parts, parts_by_cross, parts_themselves, ratio_parts, same_parts}, Products.{parts_fit}, Signed.{told}}
pub use Rattle.rational128.specs.{Refusals.{DoesNotFit}, declared.overflow.Op.{Op}, declared.overflow.Op.TheVariants.{Add, Mul}, declared.overflow.Overflow.{Overflow}}
pub use Rattle.square_parts.proofs.{CleanLaws.{clean_part}, CleanProducts.{clean_below_over_shared}, LeftOf.{left_of_is}}
pub use Rattle.std.proofs.Common.{Bool, FitsSigned, IfErr, IfOk, IsErr, IsErrAnd, List, MatchOption, None, Option, Result, Some, [], ap, arith, false, if◌then◌else◌, inl, inr, lt_of_le_of_lt}
pub use Rattle.std.proofs.Common.{mul-le-mul, mul-one, nat_abs, of_z, pos, refl, rules, subst, suc, sym, to_z, true, zero, ℕ, ℤ, ◌*ℤ◌, ◌*◌, ◌++◌, ◌/◌, ◌<ℤ◌, ◌<◌, ◌^◌, ◌↔◌, ◌∙◌, ◌∷◌, ◌≡◌, ◌≢◌, ◌≤◌}
pub use Rattle.std.proofs.Math.Nat.{dvd-mul_left, dvd-mul_right, mul-div_cancel', mul-div_cancel_left, mul-dvd-mul, one-dvd, pos_of_dvd_of_pos}
pub use Rattle.std.proofs.{lemmas.Int.{ints, to_z-of_z, to_z_pos, unsigned_abs-mul}, lemmas.Nat.Gcd.{dvd_refl, dvd_trans, same_from_IsGcd}}
pub use Rattle.std.specs.{Int.{IsGcd, w128, ◌∣◌}, Option.{SomeIff}}
pub use Rattle.surd_terms.specs.Calculations.{Calculation, IsCancelled, IsCancelledMisfit, IsProductMisfit, calculation, calculation_of, cancelled_calculations, does_fit, first_misfit, has_rational}
pub use Rattle.surd_terms.specs.{Calculations.{joining_calculations, misfit_of, radicand_calculations, scaled, scaling, square_calculations}, Inverses.{conjugate_product, first_of_inverse}}
pub use Rattle.surd_terms.specs.{Inverses.{inverse_of, second_of_inverse, square_of}, Products.{HasRational, IsExtracted}, Sums.{ComesTo, IfTerm, IsSum, Joins}, Terms.{term_of}}
pub use Rattle.surd_terms.specs.declared.sums.Joined.{Joined}
pub use native.Mathlib.Nat.{div-mul_cancel}
