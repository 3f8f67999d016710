-- The names of other crates that the proofs share.
pub use Rattle.calc_algebra.proofs.{CleanLaws.{clean_positive}, ComputedNumbers.{below_power}, SquareClassLaws.{alike_from, alike_sym, alike_trans, alike_true}}
pub use Rattle.calc_algebra.proofs.SquareRootLaws.{square_from_scaled, square_le}
pub use Rattle.calc_algebra.specs.{Clean.{IsClean, left_from, trial_limit, without}, SquareClasses.{are_alike}, SquareRoots.{square_root}}
unfoldable pub use Rattle.calc_algebra.specs.Clean.{left_of}
pub use Rattle.calc_terms.proofs.{SmallLaws.{factor_positive, positive_factor}, Names.{both}}
pub use Rattle.calc_terms.specs.Gcd.{gcd, gcd_is}
pub use Rattle.rational128.proofs.Coprime.{IsCoprime, IsCoprime-divisors, IsCoprime-from_gcd, IsCoprime-mul, IsCoprime-swap, IsGcd-from_coprime, factor_divides, other_factor, quotients_coprime}
pub use Rattle.rational128.proofs.Sums.{same_factor}
pub use Rattle.square_parts.specs.{Divisors.{HasNoDivisorBelow, HasNoOtherDivisor, IsSmooth, IsSquareFree}, Found.{IsFound, number_of}, Primes.{IsDividedBelow, are_composite, has_divisor_among}}
pub use Rattle.square_parts.specs.{Primes.{holds_all_primes, is_composite, primes_below_hundred}, declared.division.Found.{Found}}
pub use Rattle.std.proofs.Common.{Bool, List, [], ap, arith, drop, false, if◌then◌else◌, inl, inr, length, nat_le, nat_lt, refl, rules, slice_index, subst, suc, sym, take, true, zero, ℕ, ◌%◌, ◌&&◌}
pub use Rattle.std.proofs.{Common.{◌*◌, ◌+◌, ◌-◌, ◌/◌, ◌<◌, ◌==◌, ◌^◌, ◌∙◌, ◌∷◌, ◌≡◌, ◌≢◌, ◌≤◌, ◌⊎◌}, Math.Nat.{dvd-mul_left, dvd-mul_right, dvd_of_mul-dvd-mul_right, eq-one_of_dvd-one}}
pub use Rattle.std.proofs.{Math.Nat.{mod-mod_of_dvd, mul-div_cancel', mul-dvd-mul, pos_of_dvd_of_pos, pow-suc}, Math.Seq.{take-length}, lemmas.Bool.{cases_lt, eqb-false, eqb-true, leb-true, ltb-true}}
pub use Rattle.std.proofs.lemmas.Nat.Gcd.{IsGcd-swap, dvd-zero, dvd_antisymm, dvd_of_mod-eq-zero, dvd_refl, dvd_trans, le_of_dvd, mod-eq-zero_of_dvd}
pub use Rattle.std.specs.Int.{IsGcd, ◌∣◌}
