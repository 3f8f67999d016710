-- The names that the proofs share.
pub use Rattle.calc_algebra.proofs.{MeaningRewrites.{KeepsMeanings}, Rewritings.{Rewrites-refl}, TermLaws.{Same-eq, Same-refl}, MeaningLaws.{Same-sym}, InverseLaws.{Same-times_zero}}
pub use Rattle.calc_algebra.proofs.{SquareClassLaws.{Same-trans}, SmallLaws.{keeps, no_names}, NumberClasses.{number_short, number_zero, one_not_zero}}
pub use Rattle.calc_algebra.proofs.{NumberLaws.{number_test, number_words, term_words}, NumberRewrites.{number_value, root_of_rational}, ReducedLaws.{reduced_test, reduced_words, undef_words}}
pub use Rattle.calc_algebra.proofs.{UndefRewrites.{root_of_negative, undef_part}, PowerLaws.{root_squared, root_zero, surd_of_zero, zero_surd_of}}
pub use Rattle.calc_algebra.specs.{Rewritings.{HasNoNewName}, Clean.{IsClean}, Numbers.{IsNumber, IsRadicand, IsTerm, classes, is_term, natural_of, terms_of, value}, Reduced.{IsReduced, is_reduced}}
pub use Rattle.calc_algebra.specs.{Meanings.{IsRoot, IsRootOf}, SquareClasses.{Same}, Surds.{Surd, Term, surd_of, term}}
pub use Rattle.calc_bits.proofs.Parts.{term_held}
pub use Rattle.calc_bits.specs.{Bounds.{HasFewBits}, Masses.{IsHeld, mass}, Denominators.{Parts, magnitude_over}}
pub use Rattle.calc_measures.proofs.SmallLaws.{number_load}
pub use Rattle.calc_measures.specs.Loads.{load, nest}
pub use Rattle.calc_room.proofs.NumberSpans.{root_spanned, spanned_itself}
pub use Rattle.calc_room.specs.Spans.{SpansTree}
pub use Rattle.calc_terms.proofs.{Sizes.{num_most}, FractionFacts.{one_is, whole_numerator, zero_is, zero_test}, SmallLaws.{passed_on}}
pub use Rattle.calc_terms.specs.{Fractions.{Fraction, den_pos, is_one_fraction, is_zero_fraction, lowest, mul_pos, one_fraction, whole_fraction, zero_fraction}, Ratio.{Ratio}, Trees.{Tree, add}}
pub use Rattle.calc_terms.specs.Trees.{count, in_root, is_num, is_root, is_undef, itself, more, mult, names, none, num, root, root_kind, root_size, size, undef}
pub use Rattle.calc_terms.specs.{Integers.{int_is_negative, int_is_zero}, Rat.{value_of}}
pub use Rattle.node_pool.specs.{declared.full.Full.{Full}, State.{State, free_of}}
pub use Rattle.number_forms.proofs.{Placings.{multiple_term, one_test, rational_term, root_term}, TermTrees.{multiple_tree, rational_tree, root_tree}, Shaped.{term_number, term_value}}
pub use Rattle.number_forms.specs.Shapes.{term_tree}
pub use Rattle.radical_forms.specs.{Refusals.{HasWideRoot, IsOverflow, LacksRoot, NamesProduct}, RootAnswers.{IfRational, IsRootAnswer, argument_of, has_no_root}}
pub use Rattle.rational128.proofs.{LowestTerms.{ratio_parts}, Signed.{told}}
pub use Rattle.rational128.specs.{Refusals.{DoesNotFit}, declared.overflow.Op.TheVariants.{Mul}, declared.overflow.Overflow.{Overflow}}
pub use Rattle.std.proofs.Common.{Bool, List, None, Some, [], ap, arith, false, inl, inr, negsuc, of_z, pos, refl, rules, subst, suc, sym, to_z, true, zero, ℕ, ℤ, ◌*◌, ◌+◌, ◌<ℤ◌, ◌<◌, ◌==◌, ◌^◌, ◌∙◌}
pub use Rattle.std.proofs.{Common.{◌∷◌, ◌≡◌, ◌≢◌, ◌≤◌}, lemmas.Bool.{eq-eqb, eqb-true}, lemmas.Int.{ints}, lemmas.Nat.{mul-le}}
pub use Rattle.std.specs.{Prelude.{Err, IfErr, IfOk}, Result.{IsErrAnd}, Int.{w128}}
pub use Rattle.surd_bits.proofs.{Bounds.{magnitude_positive}, Rooted.{no_root_no_larger, root_no_larger}, RootsFit.{root_fits}}
pub use Rattle.surd_bits.specs.{Rooted.{IsNoLargerThanRoot}, Proper.{parts_of}}
pub use Rattle.surd_terms.proofs.Rationals.{whole_value}
pub use Rattle.surd_terms.specs.{Calculations.{Calculation, calculation, does_fit, first_misfit}, SquareRoots.{IsRootTerm}}
pub use Rattle.tree_handles.proofs.{Fronts.{behind_first, front_after, front_at, front_end, front_same, front_without}, Readings.{expression_children}, Lasts.{expression_root, last_tree, plain_root}}
pub use Rattle.tree_handles.proofs.{Given.{given_told, gives, gives_as, owned, represents_handed}, Room.{least_size, released_free}}
pub use Rattle.tree_handles.specs.{Forest.{Forest, arity}, Handed.{Gives, IsHanded, tree_of}, Faults.{IfOverflow, OfOverflow}, Expressions.{IsExpression, children_of, nth, plain}}
pub use Rattle.tree_handles.specs.{declared.fault.NumberFault.{NumberFault}, Lacking.{OfFull}, Standing.{Stands, forest}, Building.{building}, Inside.{kids_of, tree_at}}
pub use lib.Signed.{lt_z}
