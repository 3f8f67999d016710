-- The names of other crates that the proofs share.
pub use Rattle.calc_terms.proofs.{FractionFacts.{whole_denominator, whole_numerator}, ShortForm.{holds, short_parts}, SmallLaws.{positive_factor}}
pub use Rattle.calc_terms.specs.{Fits.{fits, fraction_fits, fraction_power, sum_fits}, Fractions.{Fraction, Holds, den_pos, fraction_path, inverse, inverse_of, is_lowest, is_zero_fraction, lowest}}
pub use Rattle.calc_terms.specs.Fractions.{lowest_parts, mul_pos, over, over_abs, over_back, plus_lowest, same_lowest, second_held, times_lowest, whole_fraction}
pub use Rattle.calc_terms.specs.{Gcd.{IsGcd-scaled, divided, gauss, gcd_is}, Integers.{combine, diffs, eq_diff, int_is_zero, parts}, Rat.{ratio_of, value_of}, Ratio.{IsRat, whole}, Short.{is_short}}
pub use Rattle.calc_terms.specs.{declared.rat.Rat.{Rat}, Trees.{num}}
unfoldable pub use Rattle.calc_terms.specs.Fractions.{negative, one_fraction, plus, times}
pub use Rattle.std.proofs.Common.{Bool, FitsSigned, ap, arith, cond, false, inl, inr, max, min, nat_abs, neg_ℤ, negsuc, of_z, pos, refl, rules, subst, suc, sym, to_z, true, zero, ℕ, ℤ, ◌%◌, ◌&&◌}
pub use Rattle.std.proofs.{Common.{◌*ℤ◌, ◌*◌, ◌+ℤ◌, ◌+◌, ◌-ℤ◌, ◌-◌, ◌/◌, ◌<ℤ◌, ◌<◌, ◌==◌, ◌^◌, ◌∙◌, ◌≡◌, ◌≢◌, ◌≤ℤ◌, ◌≤◌, ◌⊎◌}, Math.Nat.{dvd-mul_left, dvd-mul_left_of_dvd, dvd-mul_right}}
pub use Rattle.std.proofs.Math.Nat.{mod-eq_of_lt, mul-div_cancel', one-dvd, one-le-pow, pos_of_dvd_of_pos, pow-le-pow_left, pow-le-pow_right, pow-suc, pow-succ', pow-zero}
pub use Rattle.std.proofs.{lemmas.Bool.{eq-eqb, eqb-false, eqb-true, le-ltb, lt-ltb}, lemmas.Int.{fits_signed_from_abs, ints, to_z-of_z, to_z_pos, unsigned_abs-mul}, lemmas.Nat.{div_below}}
pub use Rattle.std.proofs.{lemmas.Nat.{leading_length, mod-pow-add, mod_below, mul-le, mul-pow, one_shl, pow-add, pow_pos, shr_le}, lemmas.Nat.Bits.{bit_at-trailing_zeros}}
pub use Rattle.std.proofs.lemmas.Nat.Gcd.{IsGcd-from_sub, IsGcd-swap, dvd_refl, dvd_trans, le_of_dvd, same_from_IsGcd}
pub use Rattle.std.specs.{Int.{IsGcd, Width, bit_at, int_pow, trailing_zeros, w128, w64, ◌∣◌}, Option.{SomeIff}}
pub use lib.{Count.{count_leading_zeros}, Signed.{lt_z}}
pub use mir.Val.{bits}
