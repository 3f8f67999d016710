-- The names of other crates that the proofs share.
pub use Rattle.calc_algebra.proofs.{NumberClasses.{AreProper, IsProper, alike_common, behind_coefficient, first_coefficient, terms_proper, value_proper, value_rises}, NumberLaws.{number_words}}
pub use Rattle.calc_algebra.proofs.{SquareClassLaws.{Alike, Same-Agree, alike_from}, SquareRootLaws.{square_le, square_root_is}, SurdLaws.{Agree, Agree-Same, class_coefficient-append}}
pub use Rattle.calc_algebra.proofs.TermLaws.{share_alike, share_apart}
pub use Rattle.calc_algebra.specs.{Numbers.{IsBelowAll, Rises, is_number, terms_of, value}, SquareClasses.{Same, are_alike, class_coefficient, term_share}}
pub use Rattle.calc_algebra.specs.Surds.{Surd, Term, surd_one, surd_power, surd_times, term_times}
unfoldable pub use Rattle.calc_algebra.specs.SquareRoots.{square_root}
pub use Rattle.calc_bits.specs.{Bounds.{IsNoLarger, IsNoLargerThanPower, SharesPowers}, Denominators.{AreWholeOver, Parts, SharesDenominators, magnitude_over}}
pub use Rattle.calc_bits.specs.Masses.{IsHeld, IsHeldByOne, mass, mass_from, root_above, term_mass}
pub use Rattle.calc_terms.specs.{Fits.{fits, fraction_fits, fraction_power, sum_fits}, FractionLaws.{plus_negative, zero_plus}, Fractions.{Fraction, den_pos, lowest_cross, lowest_parts, mul_pos}}
pub use Rattle.calc_terms.specs.{Fractions.{negative, plus, plus_assoc, plus_comm, plus_lowest, quotient, same_lowest, second_held, times_lowest, whole_fraction}, Gcd.{divided, gauss, gcd_is}}
pub use Rattle.calc_terms.specs.{Integers.{diffs, eq_diff, parts}, Trees.{Tree}}
unfoldable pub use Rattle.calc_terms.specs.{Fractions.{lowest, one_fraction, times, zero_fraction}, Gcd.{gcd}}
pub use Rattle.std.proofs.Common.{Bool, [], ap, arith, false, if◌then◌else◌, inl, inr, map, max, min, mul_comm, nat_abs, pos, refl, subst, suc, sym, true, zero, ℕ, ℤ, ◌*ℤ◌, ◌*◌, ◌++◌, ◌+ℤ◌, ◌+◌, ◌/◌}
pub use Rattle.std.proofs.{Common.{◌<◌, ◌==◌, ◌^◌, ◌∙◌, ◌∷◌, ◌≡◌, ◌≢◌, ◌≤◌, ◌⊎◌}, Math.Nat.{dvd-mul_left, dvd_of_mul-dvd-mul_left, mul-div_cancel', mul-dvd-mul, mul-le-mul_left, pos_of_dvd_of_pos}}
pub use Rattle.std.proofs.{Math.Nat.{pow-suc, pow-zero}, lemmas.Bool.{and_from, cases_lt, eqb-false, eqb-true, false_from_ne_true}, lemmas.Int.{ints, unsigned_abs-mul}, lemmas.Nat.{mul-le, pow-add}}
pub use Rattle.std.proofs.lemmas.Nat.Gcd.{IsGcd-swap, dvd_of_mod-eq-zero, dvd_trans, le_of_dvd, same_from_IsGcd}
pub use Rattle.std.specs.{Int.{IsGcd, ◌∣◌}, Prelude.{⊤}}
