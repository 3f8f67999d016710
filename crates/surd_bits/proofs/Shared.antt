-- The names that the proofs share.
pub use Rattle.calc_algebra.proofs.{ComputedNumbers.{below_power}, InverseLaws.{difference_not_zero, inverse_times_itself, product_not_zero, term_not_zero}, SquareRootLaws.{square_le, square_root_is}}
pub use Rattle.calc_algebra.specs.{Numbers.{value}, SquareClasses.{are_alike}, SquareRoots.{square_root}, Surds.{Surd, Term, surd_of, term, term_times}}
pub use Rattle.calc_bits.proofs.{ClassMasses.{abs_plus}, Fitting.{multiple_fits, quotient_fits, sum_fits_over}, Held.{magnitudes_cross, square_held}, Quotients.{abs_cross, cancel_le, cancel_right}}
pub use Rattle.calc_bits.proofs.Quotients.{coprime, den_divides, magnitude_cross, magnitude_is, magnitude_lowest, magnitude_scale, magnitude_times, multiple_den, over_multiple, plus_den, plus_over}
pub use Rattle.calc_bits.proofs.{Quotients.{times_den, whole_over, whole_over-abs}, RootsAbove.{root_enough, root_least, root_scale}, SmallLaws.{magnitude_plus}}
pub use Rattle.calc_bits.specs.{Denominators.{Parts, magnitude_over}, Masses.{IsHeld, IsHeldByOne, mass, mass_from, root_above, term_mass}}
pub use Rattle.calc_terms.proofs.{FractionFacts.{cross_products, zero_is, zero_test}, SmallLaws.{trans}}
pub use Rattle.calc_terms.specs.{Fits.{fraction_fits, sum_fits}, Fractions.{Fraction, den_pos, inverse, lowest, lowest_parts, mul_pos, plus, times, times_lowest, whole_fraction, zero_fraction}}
pub use Rattle.calc_terms.specs.{Gcd.{gauss, gcd}, Integers.{int_is_zero}, Trees.{num}}
unfoldable pub use Rattle.calc_terms.specs.Fractions.{negative, one_fraction}
pub use Rattle.rational128.proofs.Reciprocals.{abs_negative}
pub use Rattle.rational128.specs.declared.overflow.Op.TheVariants.{Add, Mul}
pub use Rattle.std.proofs.Common.{Bool, List, None, [], ap, arith, false, if◌then◌else◌, max, mul_comm, nat_abs, neg_ℤ, pos, refl, subst, suc, sym, true, zero, ℕ, ℤ, ◌*ℤ◌, ◌*◌, ◌+ℤ◌, ◌+◌, ◌/◌, ◌<◌}
pub use Rattle.std.proofs.{Common.{◌^◌, ◌∙◌, ◌∷◌, ◌≡◌, ◌≢◌, ◌≤◌}, Math.Nat.{dvd-mul_left, pow-le-pow_right}, lemmas.Bool.{false_from_ne_true}, lemmas.Int.{ints, unsigned_abs-mul}}
pub use Rattle.std.proofs.{lemmas.Nat.{mul-le, pow-add, pow_pos}, lemmas.Nat.Gcd.{dvd_trans, le_of_dvd}}
pub use Rattle.std.specs.Int.{◌∣◌}
pub use Rattle.surd_bits.specs.{Inverted.{IsNoLargerThanInverse}, Proper.{parts_of}, Rooted.{IsNoLargerThanRoot}}
pub use Rattle.surd_terms.proofs.{Misfits.{passed}, WholeFactors.{part_le}}
pub use Rattle.surd_terms.specs.Calculations.{Calculation, calculation, first_misfit, inverse_calculations, inverse_of_sum_calculations, joining_calculations, root_calculations, scaled, scaling}
pub use Rattle.surd_terms.specs.{Inverses.{conjugate_product, first_of_inverse, inverse_of, second_of_inverse, square_of}, Products.{IsExtracted}, SquareRoots.{IsRootTerm}, Sums.{IsSum}}
