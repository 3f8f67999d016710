-- The names that the proofs share.
pub use Prim.Native.Nat.{◌∣◌}
pub use Rattle.calc_algebra.specs.{BadAndEasy.{GivesZeroNoPower, HasValue, IsBad, IsBadNode, IsEasy, IsHalf, IsNegative, IsShort, IsWhole, IsZero}, Clean.{IsClean, IsTried, empty_product, left_from}}
pub use Rattle.calc_algebra.specs.{Clean.{no_square_divides, one_factor_more, trial_limit, without}, Meanings.{Assignment, Binding, Gives, IsAssignment, IsPower, IsRoot, IsRootOf, IsWholePower}}
pub use Rattle.calc_algebra.specs.{Meanings.{Means, MeansProduct, MeansSum, bound_names}, Numbers.{AreTerms, IsBelowAll, IsNumber, IsRadicand, IsTerm, Rises, are_numbers, are_terms, classes}}
pub use Rattle.calc_algebra.specs.{Numbers.{is_below_all, is_term, natural_of, rises, term_of, terms_of, value}, Reduced.{HasForm, IsPowerForm, IsProductForm, IsReduced, IsSumForm, IsWholePowerForm}}
pub use Rattle.calc_algebra.specs.Reduced.{NoneIs, RisesBy, all_parts, all_parts_of, base_of, has_form, is_opaque_exponent, none_is, num_one, part_of, power_form, product_form, product_tree, rises_by}
pub use Rattle.calc_algebra.specs.{Reduced.{split_product, sum_form, whole_power_form}, Rewritings.{HasNoNewName, KeepsMeanings, Reduces, Rewrites}, SquareClasses.{Inverts, Same, are_alike}}
pub use Rattle.calc_algebra.specs.{SquareClasses.{class_coefficient, radicands, term_share}, SquareRoots.{IsSquareRoot, next_square_root, square_root_in}, Surds.{Surd, Term, surd_of, surd_one}}
pub use Rattle.calc_algebra.specs.{Surds.{surd_power, surd_scale, surd_times, term, term_scale, term_times}, TreeOrder.{tree_cmp, trees_cmp}}
unfoldable pub use Rattle.calc_algebra.specs.{Clean.{is_clean, left_of}, Numbers.{is_number}, Reduced.{is_reduced}, SquareRoots.{square_root}}
pub use Rattle.calc_terms.proofs.{FractionFacts.{cross_products, no_one, no_zero, one_test, whole_denominator, zero_is, zero_test}, SmallFractions.{plus_zero}}
pub use Rattle.calc_terms.specs.{Fits.{fraction_power}, FractionLaws.{negative_lowest, one_times, plus_negative, times_assoc, times_comm, times_plus, zero_plus, zero_times}, Fractions.{Fraction}}
pub use Rattle.calc_terms.specs.Fractions.{Holds, den_pos, fraction_cmp, fraction_path, held, inverse, inverse_of, is_lowest, is_zero_fraction, lowest_cross, lowest_parts, minus_one_fraction, mul_pos}
pub use Rattle.calc_terms.specs.{Fractions.{negative, plus_assoc, plus_comm, plus_lowest, quotient, same_fraction, same_lowest, times_lowest, whole_fraction}, Gcd.{divided, gauss, gcd_in, gcd_is}}
pub use Rattle.calc_terms.specs.{Integers.{cancel_pos, diff_eq, diffs, eq_diff, int_is_even, int_is_negative, int_is_zero, mul_diff, parts}, Trees.{AllParts, AllPartsOf, IsPart, IsPartOf, Tree}}
pub use Rattle.calc_terms.specs.Trees.{Trees, add, append, div, first, has_undef, in_add, in_base, in_dividend, in_divisor, in_exponent, in_left, in_mult, in_neg, in_right, in_root, is_add, is_undef}
pub use Rattle.calc_terms.specs.Trees.{itself, later, more, mult, names, names_of, neg, none, num, power, root, root_code, sub, symbol, undef, whole_num}
unfoldable pub use Rattle.calc_terms.specs.{Fractions.{lowest, one_fraction, plus, times, zero_fraction}, Gcd.{gcd}}
pub use Rattle.std.proofs.Common.{Bool, Contains, List, [], ap, append-nil, append_assoc, arith, false, get_or, if◌then◌else◌, inl, inr, length, map, mul-one, mul_assoc, mul_comm, nat_abs, nat_eq}
pub use Rattle.std.proofs.Common.{nat_le, nat_lt, neg_ℤ, negsuc, not, one-mul, pos, refl, set, subst, suc, sym, true, zero, ℕ, ℤ, ◌%◌, ◌&&◌, ◌*ℤ◌, ◌*◌, ◌++◌, ◌+ℤ◌, ◌+◌, ◌-◌, ◌/◌, ◌<ℤ◌, ◌<◌, ◌==◌, ◌^◌}
pub use Rattle.std.proofs.{Common.{◌||◌, ◌∙◌, ◌∷◌, ◌≡◌, ◌≢◌, ◌≤ℤ◌, ◌≤◌, ◌⊎◌}, lemmas.Bool.{and_from, and_parts, eq-eqb, eqb-true, false_from_ne_true, le-leb, leb-false, leb-true, lt-ltb, ltb-true}}
pub use Rattle.std.proofs.{lemmas.Bool.{not-true, not_from_false, or_left, or_right}, lemmas.Int.{ints}, lemmas.List.{get_or-map, length-map}, lemmas.List.Edits.{swap_is}}
pub use Rattle.std.proofs.{lemmas.List.Elements.{Contains-append_cases, Contains-append_left, Contains-append_right}, lemmas.List.Sorted.{IsPermutation-keeps}, lemmas.Nat.Gcd.{dvd_of_mod-eq-zero}}
pub use Rattle.std.proofs.{lemmas.Nat.Gcd.{dvd_trans, le_of_dvd, mod-eq-zero_of_dvd}, lemmas.Map.Lookups.{exact_bytes, exact_signed}}
pub use Rattle.std.specs.{Cmp.{IsTotalOrder, int_cmp_total, int_ranked, tied_itself}, Cmp.Lexicographic.{nat_list_cmp_total}, Int.{IsGcd}, List.Sorted.{IsPermutation}}
pub use Rattle.std.specs.{Ordering.{MatchOrdering, int_cmp, is_lt, ordering_reverse, ordering_then}, Prelude.{None, Some, ⊤}, declared.cmp.Ordering.{Ordering}}
pub use Rattle.std.specs.declared.cmp.Ordering.TheVariants.{Equal, Less}
pub use borrow.Author.Differences.{down, up}
pub use native.Mathlib.Nat.{dvd-mul_left, dvd-mul_right, dvd-zero, dvd_refl, mul-div_cancel', mul-dvd-mul_left, one-dvd}
