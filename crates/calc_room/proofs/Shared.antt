-- The names of other crates that the proofs share.
pub use Rattle.calc_algebra.proofs.{InverseLaws.{Inverts-not_zero, Inverts-one, inverse_of_term, inverse_of_terms, term_has_inverse, terms_have_inverse}, MeaningLaws.{one_meaning}}
pub use Rattle.calc_algebra.proofs.NumberClasses.{AreProper, alike_common, alike_through, first_coefficient, one_apart_from_clean, term_proper, terms_proper, value_proper, value_rises}
pub use Rattle.calc_algebra.proofs.{NumberLaws.{number_test, number_words, term_words}, NumberShapes.{AsNumber, AsTerm, as_number, as_term}, NumberValues.{number_means}, ReducedLaws.{reduced_words}}
pub use Rattle.calc_algebra.proofs.{SquareClassLaws.{Alike, Same-Agree, alike_from, alike_true}, SquareRootLaws.{square_from_scaled}, SurdLaws.{Agree-Same}, TermLaws.{Same-refl, share_apart}}
unfoldable pub use Rattle.calc_algebra.specs.{Clean.{is_clean, left_of}, Numbers.{is_number}, SquareRoots.{square_root}}
pub use Rattle.calc_algebra.specs.{Meanings.{IsRootOf, Means}, Numbers.{AreTerms, IsBelowAll, IsNumber, IsTerm, Rises, classes, is_radicand, is_term, natural_of, term_of, terms_of, value}}
pub use Rattle.calc_algebra.specs.Reduced.{HasForm, IsFrontForm, IsPowerForm, IsProductForm, IsReduced, IsWholePowerForm, NoneIs, is_transparent_power, is_whole_num, num_one, number_terms}
pub use Rattle.calc_algebra.specs.{Reduced.{other_terms, split, split_product}, Rewritings.{KeepsMeanings}, SquareClasses.{Inverts, Same, are_alike, class_coefficient, radicands}, Surds.{Surd, Term}}
pub use Rattle.calc_algebra.specs.Surds.{surd_of, surd_power, surd_scale, surd_times, term, term_times}
pub use Rattle.calc_room.specs.{Counts.{counted, counted_among, root_terms}, Spans.{IsSpanned, Spans, SpansRoot, SpansTree, SpansTrees, chosen_product}}
pub use Rattle.calc_terms.proofs.Sizes.{num_most}
pub use Rattle.calc_terms.specs.{FractionLaws.{zero_plus}, Fractions.{Fraction, mul_pos, plus}, Trees.{AllParts, AllPartsOf, Tree, Trees, add, count, div, is_mult, is_num, more, mult, neg, none, num}}
pub use Rattle.calc_terms.specs.Trees.{power, root, size, sizes, sub, symbol, undef}
unfoldable pub use Rattle.calc_terms.specs.{Fractions.{lowest, one_fraction, zero_fraction}, Gcd.{gcd}}
pub use Rattle.std.proofs.Common.{Bool, List, [], ap, arith, false, if◌then◌else◌, inl, inr, length, map, max, mul_assoc, nat_le, negsuc, one-mul, pos, refl, subst, suc, sym, true, zero, ℕ, ℤ, ◌*◌}
pub use Rattle.std.proofs.{Common.{◌++◌, ◌+◌, ◌<◌, ◌==◌, ◌^◌, ◌∙◌, ◌∷◌, ◌≡◌, ◌≢◌, ◌≤◌, ◌⊎◌}, Math.Nat.{pow-suc}, lemmas.Bool.{eqb-true}, lemmas.Nat.{mul-le, pow_pos}}
pub use Rattle.std.specs.Prelude.{⊤}
