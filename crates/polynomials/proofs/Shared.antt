-- The names that the proofs share.
pub use Rattle.calc_terms.proofs.{FractionFacts.{one_is, whole_numerator, zero_is}, SmallFractions.{one_value}, SmallLaws.{passed_on, plus_both}}
pub use Rattle.calc_terms.specs.{Fractions.{Fraction, is_zero_fraction, lowest, one_fraction, plus, plus_assoc, plus_comm, plus_lowest, times, whole_fraction, zero_fraction}, declared.rat.Rat.{Rat}}
pub use Rattle.calc_terms.specs.{Ratio.{Ratio, whole}, Integers.{int_is_zero}, FractionLaws.{one_times, times_assoc, times_comm, times_plus, zero_plus, zero_times}, Rat.{ratio_of, value_of}}
pub use Rattle.polynomials.specs.{Rows.{AreBelow, StartsFrom}, Binomials.{ArePowers, choices, summand_power}, Polynomials.{AreSame, HasExponents, HaveExponents, Monomial, Polynomial, Summand}}
pub use Rattle.polynomials.specs.Polynomials.{coefficient_at, constant, is_same_monomial, monomial_times, one_monomial, product, raised, row, scaled, summand, summand_times, worth}
pub use Rattle.polynomials.specs.{Terms.{AreTermsOf, IsBelowAll, IsNormal, polynomial_of, summand_of}, Unfits.{HasMonomial, IsCaused, OfCoefficient}, declared.term.Term.{Term}}
pub use Rattle.polynomials.specs.{declared.unfit.Unfit.{Unfit}, Packed.{monomial_of, unpacked}}
pub use Rattle.std.proofs.Common.{Bool, List, [], add_assoc, add_comm, ap, append-nil, append_assoc, arith, drop, eq-or-lt_of_le, false, get_or, inl, inr, le_refl, length, length-append, max, min}
pub use Rattle.std.proofs.Common.{mul-div_cancel, mul-le-mul, of_z, pos, refl, subst, suc, sym, take, take-append-drop, to_z, true, zero, ℕ, ℤ, ◌%◌, ◌*◌, ◌++◌, ◌+◌, ◌-◌, ◌/◌, ◌<◌, ◌^◌, ◌∙◌, ◌∷◌, ◌≡◌}
pub use Rattle.std.proofs.{Common.{◌≢◌, ◌≤◌, ◌⊎◌}, lemmas.Result.{IfErr-weaker, on_ok_weaker}, lemmas.List.{get_or_append_left, get_or_push, length-drop, length-take-le, map-append, take_more}}
pub use Rattle.std.proofs.{Math.Nat.{mul-le-mul_left, mul-le-mul_right, mul_comm, pow-le-pow_right, pow-suc, pow-zero}, lemmas.Int.{to_z-of_z}}
pub use Rattle.std.specs.{Prelude.{IfErr, IfOk, IsErr, IsErrAnd, OnOk, Result, if◌then◌else◌, insert, remove, vec_capacity}, Int.{w128}}
