-- The names that the proofs share.
pub use Rattle.calc_algebra.proofs.{SurdLaws.{Agree-refl}, ReducedLaws.{AllParts-map, AllPartsOf-map, reduced_words}, TermLaws.{Same-eq, Same-refl, joined_radicand}}
pub use Rattle.calc_algebra.proofs.{MeaningLaws.{Same-sym, one_rational, whole_is_no_half}, SquareClassLaws.{Same-trans}, NumberRewrites.{fraction_whole}, NumberLaws.{number_words}}
pub use Rattle.calc_algebra.proofs.{MeaningRewrites.{product_two, sum_two}, ExponentLaws.{whole_plus, whole_times}}
pub use Rattle.calc_algebra.specs.{Numbers.{AreTerms, IsNumber, IsTerm, is_number, is_radicand}, Meanings.{Assignment, Binding, IsAssignment, bound_names}, SquareClasses.{are_alike}}
pub use Rattle.calc_algebra.specs.{Reduced.{are_reduced, is_half_num, is_reduced, is_whole_num, none_is, num_one, part_of, product_tree, split, split_product}, Surds.{surd_of}}
pub use Rattle.calc_measures.specs.{Measures.{all_simple, are_all_simple, is_simple_power, room, roots, roots_of, unbounded_room}, Literals.{is_some, is_whole_literal, opposite}}
pub use Rattle.calc_room.proofs.{TreeBytes.{counted_number, counted_other, factor_bytes, none_counted, number_counts, tree_bytes}, SpanLaws.{none_chosen}, NumberBytes.{number_bytes}}
pub use Rattle.calc_room.proofs.NumberSpans.{value_spanned}
pub use Rattle.calc_room.specs.{Powers.{HasPowersOf, IsPowerOf}, Spans.{IsSpanned, SpansRoot, SpansTree, SpansTrees, chosen_product}, Counts.{counted, counted_among}}
pub use Rattle.calc_terms.proofs.{SmallLaws.{behind, in_front, where_in}, Sizes.{root_most}}
pub use Rattle.calc_terms.specs.Trees.{AllParts, AllPartsOf, IsPart, IsPartOf, Tree, Trees, add, append, count, div, first, in_add, in_base, in_dividend, in_divisor, in_exponent, in_left, in_mult}
pub use Rattle.calc_terms.specs.Trees.{in_neg, in_right, in_root, is_mult, is_num, itself, later, more, mult, neg, nodes, nodes_of, none, num, power, root, size, sizes, sub, symbol, undef}
pub use Rattle.calc_terms.specs.Fractions.{Fraction, whole_fraction}
pub use Rattle.std.proofs.Common.{Bool, List, [], ap, arith, false, inl, inr, length, max, negsuc, not, pos, refl, subst, suc, sym, true, ℕ, ◌&&◌, ◌*ℤ◌, ◌*◌, ◌++◌, ◌+ℤ◌, ◌+◌, ◌==◌, ◌^◌, ◌∙◌, ◌∷◌, ◌≡◌}
pub use Rattle.std.proofs.{Common.{◌≤◌, ◌⊎◌}, lemmas.Bool.{and_parts, eqb-true, not-true, true≢false}, lemmas.Slice.Eq.{bytes_eq-Decides}, lemmas.List.{get_or-map, length-map}}
pub use Rattle.std.proofs.{lemmas.Nat.{mul-le, pow_pos}, Math.Nat.{pow-le-pow_right}}
pub use Rattle.std.specs.{Prelude.{Contains, None, Some, if◌then◌else◌}, Str.{bytes_eq}}
pub use Rattle.tree_room.specs.{Exponents.{AreCalm, HasCalmExponent, IsCalm, MeansWhole, zeros}, Children.{CountWithin, answer_bytes, answers_bytes}, Handed.{HasSamePart, HaveSameParts}}
pub use Rattle.tree_room.specs.{Handed.{counted_in_all, exponent_count, numbers_among, product_count, sum_count}, Needs.{simple_room}}
