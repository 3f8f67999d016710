-- The names that the proofs share.
pub use Rattle.breakers.proofs.Runs.{calm_checks_raise_no_trips}
pub use Rattle.breakers.specs.{declared.watch.Interrupted.{Interrupted}, Breakers.{TripsRose}, Watch.{states}}
pub use Rattle.calc_algebra.proofs.{InverseLaws.{factor_not_zero, inverse_times_itself, product_not_zero}, Names.{Within, names_of-append, no_new_name, within_beside, within_both, within_eq}}
pub use Rattle.calc_algebra.proofs.{Names.{within_left, within_none, within_of, within_right, within_same, within_trans}, NumberClasses.{one_not_zero}, TreeOrderLaws.{tree_chain}}
pub use Rattle.calc_algebra.specs.{Reduced.{product_tree}, Rewritings.{HasNoNewName}, TreeOrder.{tree_cmp}}
pub use Rattle.calc_bits.proofs.{Quotients.{den_divides, magnitude_lowest}, Fitting.{multiple_fits, sum_fits_over}}
pub use Rattle.calc_bits.specs.Denominators.{magnitude_over}
pub use Rattle.calc_measures.proofs.SmallLaws.{opposite_by, value_by}
pub use Rattle.calc_measures.specs.{Literals.{opposite, whole_literal, whole_value}, Measures.{bits, bits_of, high, low, most_bits}}
pub use Rattle.calc_terms.proofs.{FractionFacts.{no_one, no_zero, one_is, whole_denominator, whole_numerator, zero_is, zero_test}, Sizes.{num_most, root_most}, SmallLaws.{contradiction, count_append}}
pub use Rattle.calc_terms.proofs.{SmallLaws.{first_is, if_ok_map, one_node as some_nodes, others_are, passed_on}, SmallFractions.{zero_value}}
pub use Rattle.calc_terms.specs.{Fits.{fraction_fits, sum_fits}, FractionLaws.{negative_lowest, zero_plus, zero_times}, Fractions.{Fraction, inverse, is_one_fraction, is_zero_fraction, lowest}}
pub use Rattle.calc_terms.specs.{Fractions.{minus_one_fraction, negative, plus, plus_assoc, plus_comm, plus_lowest, times}, Integers.{int_is_one, int_is_zero}, Kind.{code_of}, Leaf.{name_of}}
pub use Rattle.calc_terms.specs.{Payload.{Payload, bare, kind_of_payload, named, rational, size_of_payload}, Rat.{ratio_of, value_of}, Ratio.{IsRat, Ratio, whole}, Trees.{Tree, Trees, add, append}}
pub use Rattle.calc_terms.specs.Trees.{count, div, is_add, is_mult, is_num, is_symbol, more, mult, names, names_of, neg, nodes, nodes_of, none, num, power, root, root_kind, root_size, size, sizes}
pub use Rattle.calc_terms.specs.{Trees.{sub, symbol, undef, whole_num}, declared.kind.Kind.{Kind}, declared.name.Name.{Name}, declared.rat.Rat.{Rat}}
unfoldable pub use Rattle.calc_terms.specs.Fractions.{one_fraction, zero_fraction}
pub use Rattle.child_lists.proofs.{LastSums.{last_with, lists_behind, only_child, only_owned}, ListedChildren.{lists_at, lists_listed, lists_none, lists_with, children_number}, PutBefore.{kept_kids}}
pub use Rattle.child_lists.specs.Lists.{Lists}
pub use Rattle.coefficients.proofs.Steps.{many_factors, one_value}
pub use Rattle.expand_forms.specs.{Listed.{AreAhead, AreRead}, Merging.{AddsTrees, AreFactors, BeginsWith, GoesOn, IsFirst, IsNext}, Parts.{Part, each_once, has_factors, has_parts, multiplied, part}}
pub use Rattle.number_forms.specs.Safety.{IsSafe, IsSafePlacing}
pub use Rattle.expand_forms.specs.{Parts.{part_factor, parts_of, repeated, total}, PowersOfSums.{AreReady, AreReadyFrom, IsLeft, IsOverReady, IsReady, IsReadyFrom, has_power_of_sum, is_power_of_sum}}
pub use Rattle.expand_forms.specs.{Reading.{AreComing, BeginsOtherwise, IsSummandTree, IsTaken}, Rows.{row, with_coefficient}, Sums.{IsPlace, with_term}, Terms.{IsMonomialKey, IsRead}}
pub use Rattle.expand_forms.specs.{Walks.{IsNoOverflow, AreExpandedFrom, IsExpandedFrom, IsOver, IsPolynomial, MayLack, MayOverflow}, declared.merging.Next.{Next}, ByValues.{CanName}}
pub use Rattle.expansions.proofs.{AllMonomials.{AllHave, normal_all}, OrderedTerms.{AreFine, are_fine, named_terms, ordered_monomials, ordered_normal}, TreeBits.{AreHeldFrom, difference_held}}
pub use Rattle.expansions.proofs.{TreeBits.{held_together, power_within, quotient_held, sum_held, tree_held}, Gathered.{IsGathered, gathered_append, gathered_is, gathered_products, gathered_refl}}
pub use Rattle.expansions.proofs.{Gathered.{gathered_trans}, TreeMonomials.{all_monomials, monomial_times_monomial, tree_monomials}, Widths.{clash, few_factors, names_rise}, Held.{answer_held}}
pub use Rattle.expansions.proofs.{Held.{held_more, held_opposite, held_product, one_held}, TermCounts.{answer_most, few_terms, most_of_all, product_length, raised_length, scaled_length, some_terms}}
pub use Rattle.expansions.proofs.{TermCounts.{within_room}, Names.{are_named, expanded_no_new_name, product_named, tree_named}, NameLists.{AllHaveNames, all_have, below_has, below_push}}
pub use Rattle.expansions.proofs.NameLists.{contained_has, dropped, dropped_all, has_at, has_contained, is_less, later_names, name_same, names_length, not_first, taken, taken_all}
pub use Rattle.expansions.proofs.{MonomialProducts.{both_first}, SameCoefficients.{constant_product, normal_same, product_both, product_right, same_cons, same_is, same_normal, same_sym, same_trans}}
pub use Rattle.expansions.proofs.{SameCoefficients.{same_turned, scaled_one}, EachNamed.{each_named}, FewTerms.{answer_few, answer_size, expanded_few, few_append, few_as, few_names, few_none}}
pub use Rattle.expansions.proofs.{FewTerms.{few_normal, sum_most}, TermPolynomials.{expanded_polynomial, expanded_terms, sum_polynomial_is, term_coefficient, term_factors, tree_normal}}
pub use Rattle.expansions.proofs.PackedOrders.{exponents_order, factors_decide, kinds_decide, next_none, next_some, packed_order, packed_term_total, unpacked_length}
pub use Rattle.expansions.proofs.{TermBytes.{factors_most, terms_rise}, Masses.{later_exponents}, ListLaws.{list_as, list_none, list_power, list_product, list_sum}, NamedMonomials.{named_monomial}}
pub use Rattle.expansions.proofs.{NormalForms.{normal_coefficient, normal_is, one_normal}, FactorTrees.{on_factor, on_monomial}, Turned.{product_turned}, FactorOrders.{symbol_is}}
pub use Rattle.expansions.proofs.NamedPolynomials.{named_same}
pub use Rattle.expansions.specs.ExpandedTrees.{IsBeforeAll, IsNormal, expanded, factor_tree, factor_trees, monomial_cmp, monomial_tree, normal, sum_tree, term_tree, term_trees}
pub use Rattle.expansions.specs.{ExpansionBits.{AreHeldTogether, AreWhole, HasExponents, IsHeld, mass}, ExpansionRoom.{AreNamed, HasFewTerms, IsNamed, count_distinct, expansion_room, factor_bytes}}
pub use Rattle.expansions.specs.{ExpansionRoom.{most_terms, most_terms_of, node_bytes, number_bytes, product_of_terms, sum_bytes, sum_of_terms, term_bytes, terms, terms_bytes}, Named.{AreNames}}
pub use Rattle.expansions.specs.Named.{AreNamesBelow, AreOf, AreZero, IsBelowNames, IsListOf, IsOfNames, StartNamesFrom, factors_of, led, named_polynomial, AreAmong, HasName}
pub use Rattle.expansions.specs.{PackedOrder.{exponents_cmp, first_exponent, kind_with, packed_term_cmp}, PolynomialTrees.{are_polynomials, divisor_of, exponent_of, has_polynomial_root, is_divisor}}
pub use Rattle.expansions.specs.{PolynomialTrees.{is_exponent, is_polynomial, is_small, natural_of, polynomial_of, product_of, sum_of}, Polynomials.{AreMonomials, Factor, IsMonomial, Monomial}}
pub use Rattle.expansions.specs.Polynomials.{Polynomial, Summand, coefficient_at, constant, factor, is_same_monomial, monomial_times, product, raised, scaled, summand, summand_times, variable}
pub use Rattle.expansions.specs.{Sums.{AreExpanded, AreSame, IsExpanded, IsSum, IsSumOf}, Terms.{HasMonomial, IsTerm, coefficient_in, factors_in, first_place, led_by, term_cmp, terms_in}}
pub use Rattle.node_order.proofs.{KeyLaws.{behind-plains}, RankLaws.{sorted_by_calls}}
pub use Rattle.node_order.specs.Keys.{trees_behind}
pub use Rattle.node_pool.proofs.{Ids.{eqb_sym as eqb-sym}, Noting.{or_true}}
pub use Rattle.node_pool.specs.{State.{State, free_of}, declared.full.Full.{Full}}
pub use Rattle.number_forms.proofs.{Rooms.{full_as, refusal_as}, TermTrees.{if_given}, Shaped.{two_from}, Planted.{node_free, number_refused}}
pub use Rattle.number_forms.specs.Sums.{removed}
pub use Rattle.polynomials.proofs.Scaled.{one_nonzero}
pub use Rattle.polynomials.specs.{Packed.{unpacked}, Terms.{AreTermsOf, summand_of}, declared.term.Term.{Term}}
unfoldable pub use Rattle.polynomials.specs.Packed.{monomial_of}
pub use Rattle.rational128.proofs.{LowestTerms.{ratio_parts}, Reciprocals.{negative_parts}, Signed.{told}}
pub use Rattle.rational128.specs.declared.overflow.Overflow.{Overflow}
pub use Rattle.reduce_port.specs.{Faults.{CountsRefusals, IfFull, IfInterrupted, fault_of}, declared.fault.ReduceFault.{ReduceFault}, Checks.{CalmUpTo, TripsWithin}}
pub use Rattle.reduce_walk.proofs.{Bits.{child_bits, own_bits}, Walks.{answers_count, nodes_append, nodes_by_children}, Bytes.{root_over}, Port.{unfit_after_checks}}
pub use Rattle.reduce_walk.specs.{Answers.{AreAnswers, EachTree}, Leaves.{is_leaf}}
pub use Rattle.std.proofs.Common.{Bool, Err, List, Ok, Option, Result, Some, [], ap, append-nil, append_assoc, arith, below_more, cond, drop, eqb, false, get_or, inl, inr, length, map, negsuc, of_z}
pub use Rattle.std.proofs.Common.{pos, refl, replicate, rules, subst, suc, sym, take, to_z, true, zero, ℕ, ℤ, ◌%◌, ◌*◌, ◌++◌, ◌+◌, ◌-◌, ◌/◌, ◌<◌, ◌^◌, ◌↔◌, ◌∙◌, ◌∷◌, ◌≡◌, ◌≢◌, ◌≤◌, ◌⊎◌}
pub use Rattle.std.proofs.{Math.Nat.{le-max_left, le-max_right, max-le, mul_assoc, mul_comm, pow-le-pow_left}, lemmas.Bool.{and_parts, eq-eqb, eqb-true, false_from_ne_true, not_from_false}}
pub use Rattle.std.proofs.{lemmas.Int.{ints, to_z-of_z}, lemmas.List.{drop_all, get_or_default, length-append, length-map, length-reverse, length-take-le, reverse-append, take_all, take_more}}
pub use Rattle.std.proofs.{lemmas.Nat.{mul-le, pow-add, pow_below}, lemmas.Result.{on_ok_weaker}}
pub use Rattle.std.specs.{Cmp.Lexicographic.{slice_cmp}, Int.{w128, ◌∣◌}, Ordering.{nat_cmp}, Prelude.{Contains, FitsSigned, IfErr, IfOk, IsTrue, None, OnOk, if◌then◌else◌, is_err, is_ok, nat_abs}}
pub use Rattle.std.specs.{Prelude.{neg_ℤ, not, reverse, ◌&&◌, ◌==◌, ◌||◌}, declared.cmp.Ordering.TheVariants.{Equal, Greater, Less}}
pub use Rattle.tree_handles.proofs.{Beside.{gives_itself, gives_rest, gives_without}, Cuts.{represents_count}, Filling.{changes_after, changes_as, changes_free, changes_front, changes_last}}
pub use Rattle.tree_handles.proofs.{Filling.{changes_last_front, changes_none, children_told, front_again, hole_stays}, Forests.{all-rest_trees, arity-join, bytes_in-join, join-empty, join_assoc}}
pub use Rattle.tree_handles.proofs.{Forests.{keeps_after}, FreeBytes.{refused_below, replaced_free}, Fronts.{behind_first, behind_later, behind_new, front_after, front_after_one, front_after_two}}
pub use Rattle.tree_handles.proofs.{Fronts.{front_at, front_end, front_put, front_same, front_without}, Given.{given_apart, given_handed, given_other, given_rest, given_root, given_same, given_told}}
pub use Rattle.tree_handles.proofs.Given.{gives, gives_as, handed_at, owned, represents_handed, represents_join, represents_node, represents_none}
pub use Rattle.tree_handles.proofs.{Joins.{holds-left, kids_of-join_left, tree_at-join_left}, Lasts.{apart, ends_as, ends_at, kids_of_last, last_rest, last_root, last_tree, other_root}}
pub use Rattle.tree_handles.proofs.{Measures.{one_at}, NextChildren.{last_child, next_child}, Outcomes.{if_map, passed_result}, Parts.{at}, Plains.{alone, children_of-plain, count-plains, size-plain}}
pub use Rattle.tree_handles.proofs.{Plains.{sizes-plains, whole_kids}, Refused.{kept_after, kept_same, refused_as, refuses_after}, Room.{given_free, released_free}, Roots.{root-left, root_held}}
pub use Rattle.tree_handles.proofs.{Seen.{expression, live, product_kind, seen, sum_kind}, Visiting.{found, found-join, found-kids, found-rest_trees, next_is, no_visit, some_next, visit_here}}
pub use Rattle.tree_handles.proofs.{Visiting.{visits_left}, Releases.{arity_le, few_nodes}, Distinct.{holds-tree_at, nth_root}, SmallLaws.{mult_is}}
pub use Rattle.tree_handles.specs.{Children.{root_ids}, Expressions.{AllExpressions, IsExpression, IsWhole, children_of, compound, grown, inserted, nth, plain, plains, takes, takes_kind}}
pub use Rattle.tree_handles.specs.{Faults.{Faults, IfOverflow, OfOverflow}, Forest.{Forest, Label, arity, bytes_in, empty, flatten, join, kids, node_of, one_tree, rest_trees, root_id, tree, tree_nth}}
pub use Rattle.tree_handles.specs.{Forest.{with_nth}, Handed.{Ends, Gives, IsHanded, KeepsFront, tree_of}, Holes.{ChangesTree, set_child, set_tree}, Inside.{holds, kids_of, tree_at}, Lacking.{OfFull}}
pub use Rattle.tree_handles.specs.{Roots.{adopted, behind_root, has_root, put, root_tree, without_root}, Standing.{KeepsRefusals, LacksBytes, Stands, forest}, Visits.{AreFound, visit_of, visits_of}}
pub use Rattle.tree_handles.specs.{declared.fault.NumberFault.{NumberFault}, declared.visits.Visit.{Visit}, Causes.{IsCaused, Overflows}}
