-- The names that the proofs share.
pub use Rattle.calc_algebra.proofs.{InverseLaws.{Inverts-Same, Inverts-surd_of, Inverts-surd_times, Inverts-sym}, MeaningLaws.{Means-Same, Same-sym}, SquareClassLaws.{Same-Agree, Same-trans}}
pub use Rattle.calc_algebra.proofs.SurdLaws.{Agree, Agree-Same, Agree-append, Agree-eq, Agree-refl, Agree-surd_scale, Agree-surd_times, Agree-surd_times_right, Agree-sym, Agree-trans, append_comm}
pub use Rattle.calc_algebra.proofs.SurdLaws.{surd_times-append, surd_times-nil, surd_times-one, surd_times-surd_of, surd_times-surd_one, surd_times_assoc, surd_times_comm, surd_times_exchange}
pub use Rattle.calc_algebra.proofs.{SurdLaws.{surd_times_left_comm}, TermLaws.{Agree-zero_term, Same-eq, Same-refl}, PowerLaws.{IsWholePower-Same}, NumberRewrites.{fraction_whole}}
pub use Rattle.calc_algebra.proofs.{PowerRewrites.{power_whole}, MeaningRewrites.{product_append, product_more, product_one, product_two}, SmallLaws.{whole_by}, ExponentLaws.{whole_times}}
pub use Rattle.calc_algebra.specs.{Meanings.{Assignment, IsRoot, IsRootOf, IsWholePower, Means, MeansProduct, MeansSum}, SquareClasses.{Inverts, Same}, Surds.{Surd, surd_of, surd_one, surd_power}}
pub use Rattle.calc_algebra.specs.Surds.{surd_scale, surd_times}
pub use Rattle.calc_measures.proofs.SmallLaws.{opposite_by, value_by}
pub use Rattle.calc_measures.specs.Literals.{opposite, whole_literal, whole_value}
pub use Rattle.calc_terms.proofs.SmallLaws.{append_assoc, append_none as append-none, count_append, either_left, either_right, nobody, one_of}
pub use Rattle.calc_terms.specs.{Leaf.{name_of}, declared.kind.Kind.{Kind}, Fractions.{Fraction, lowest, minus_one_fraction, negative, quotient, same_lowest, times, times_lowest, whole_fraction}}
pub use Rattle.calc_terms.specs.{Payload.{bare, is_bare, rational, size_of_payload}, Rat.{ratio_of, value_of}, Trees.{AllParts, AllPartsOf, Tree, Trees, add, append, count, div, more, mult, names}}
pub use Rattle.calc_terms.specs.{Trees.{names_of, neg, nodes, nodes_of, none, num, power, root, root_kind, size, sizes, sub, symbol, undef, whole_num}, declared.rat.Rat.{Rat}, Ratio.{Ratio, whole}}
pub use Rattle.calc_terms.specs.Integers.{int_is_one, int_is_zero}
unfoldable pub use Rattle.calc_terms.specs.Fractions.{one_fraction, zero_fraction}
pub use Rattle.dual_diff.specs.Derivatives.{HasDerivative, IsDerivable, IsDerivableExponent, derivative, derivatives, exponent_limit, is_linear, literal_power_rule, lowered, power_rule, products}
pub use Rattle.dual_diff.specs.{Derivatives.{quotient_rule, root_rule, sum_of_products, two, where_occurs, with_derivative}, Lists.{behind, first}, Occurring.{occurs, occurs_in}, Pairs.{HasPair}}
pub use Rattle.dual_diff.specs.{Pairs.{HasPairProduct, HasPairSum, IsPowerSlope, IsRootPair, IsStill, Pair, SamePair, pair_over}, Placing.{Adds, AddsAll}, Writing.{CanCopy, CanDerive, CanGather}}
pub use Rattle.dual_diff.specs.{Writing.{Holds, IsWriting, Places, one, tree_of}, WritingLaws.{adds_given, places_joined, places_keeps, places_nothing, places_room}}
pub use Rattle.node_pool.specs.{State.{State, free_of}, Nodes.{used}}
pub use Rattle.rational128.proofs.{LowestTerms.{ratio_parts}, Signed.{told}, Reciprocals.{negative_parts}}
pub use Rattle.std.proofs.Common.{Bool, List, [], ap, append-nil, arith, false, inl, inr, length, nat_eq, of_z, refl, rules, subst, suc, sym, to_z, true, zero, ℕ, ℤ, ◌*◌, ◌++◌, ◌+◌, ◌-◌, ◌<◌, ◌^◌}
pub use Rattle.std.proofs.{Common.{◌∙◌, ◌∷◌, ◌≡◌, ◌≤◌}, lemmas.Bool.{eq-eqb, eqb-true, false≢true, or_left, or_right}, lemmas.List.{length-append}, lemmas.Int.{fits_signed_from_abs, ints, to_z-of_z}}
pub use Rattle.std.proofs.{lemmas.List.Elements.{Contains-append_cases, Contains-append_left, Contains-append_right, Contains-push, Contains-push_cases}, lemmas.Slice.Eq.{bytes_eq-Decides}}
pub use Rattle.std.specs.{Int.{w128}, Str.{bytes_eq}, Prelude.{Contains, FitsSigned, IsTrue, None, Option, Some, if◌then◌else◌, nat_abs, neg_ℤ, negsuc, pos, ◌*ℤ◌, ◌==◌, ◌||◌, ◌↔◌, ◌⊎◌}}
pub use Rattle.tree_handles.proofs.{Given.{gives, gives_as, represents_node}, Lasts.{ends_as}, NextChildren.{last_child, next_child}, Plains.{count-plains, size-plain}}
pub use Rattle.tree_handles.proofs.{Forests.{arity-join, join-empty, keeps_after}, Gathering.{before_last-join, last_trees-join}, Readings.{expression_children}, Fronts.{front_end, front_same}}
pub use Rattle.tree_handles.proofs.{SmallLaws.{nodes_nth}, Measures.{one_at}, Places.{used_forest}}
pub use Rattle.tree_handles.specs.{Children.{root_ids}, Expressions.{IsExpression, children_of, compound, nth, plain, plains, takes_kind}, Forest.{Forest, arity, before_last, bytes_in, empty, join}}
pub use Rattle.tree_handles.specs.{Forest.{last_trees, one_tree, rest_trees, tree}, Inside.{kids_of, tree_at}, Standing.{KeepsRefusals, Stands, forest}, Handed.{Ends, KeepsFront}}
