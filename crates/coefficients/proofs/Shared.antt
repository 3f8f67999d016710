-- The names that the proofs share.
pub use Rattle.calc_algebra.proofs.{InverseLaws.{product_not_zero}, MeaningRewrites.{KeepsMeanings, KeepsMeanings-eq, KeepsMeanings-product_more, KeepsMeanings-refl, KeepsMeanings-sum_more}}
pub use Rattle.calc_algebra.proofs.MeaningRewrites.{KeepsMeanings-trans, distributed, flat_product, joined_in_product, multiples, one_factor_of_product, single_product, to_single_product, two}
pub use Rattle.calc_algebra.proofs.{MeaningRewrites.{zero_product}, Names.{names_of-append}, NumberClasses.{one_not_zero}, NumberLaws.{number_test, number_words, term_test, term_words}}
pub use Rattle.calc_algebra.proofs.{NumberRewrites.{one_times_part, product_of_rationals, product_tree_keeps}, ReducedLaws.{reduced_test, reduced_words}, SmallLaws.{keeps, own_form, term_no_sum}}
pub use Rattle.calc_algebra.specs.{Numbers.{AreTerms, IsBelowAll, IsNumber, IsTerm, Rises, is_radicand, is_term, natural_of, term_of, terms_of}, Reduced.{HasForm, IsFrontForm, IsProductForm}}
pub use Rattle.calc_algebra.specs.Reduced.{IsSumForm, NoneIs, RisesBy, Split, base_of, is_one_add, is_reduced, is_undistributed, num_one, number_terms, other_terms, part_of, product_tree, split}
pub use Rattle.calc_algebra.specs.{Reduced.{split_product}, Rewritings.{HasNoNewName, Reduces}, Surds.{Surd, Term, surd_scale, term, term_scale}, TreeOrder.{tree_cmp}}
unfoldable pub use Rattle.calc_algebra.specs.Numbers.{is_number}
pub use Rattle.calc_measures.proofs.Nests.{nest-append}
pub use Rattle.calc_measures.specs.Loads.{has_coefficient, load, load_of_factor, load_of_factors, nest, nest_of}
pub use Rattle.calc_room.proofs.{NumberBytes.{count_terms, few_terms, roots_bytes, term_bytes}, NumberSpans.{terms_spanned}, TreeBytes.{counted_number, counted_other, factor_bytes, tree_bytes}}
pub use Rattle.calc_room.specs.{Counts.{counted, counted_among}, Spans.{SpansTree, SpansTrees}}
pub use Rattle.calc_terms.proofs.{FractionFacts.{no_zero, one_is, one_test, whole_denominator, whole_numerator, zero_is, zero_test}, Sizes.{payload_most}, SmallFractions.{zero_value}}
pub use Rattle.calc_terms.proofs.SmallLaws.{sizes_append, times_one, two_count}
pub use Rattle.calc_terms.specs.{FractionLaws.{one_times, times_comm}, Fractions.{Fraction, is_one_fraction, is_zero_fraction, times}, Payload.{Payload, bare, rational, size_of_payload}}
pub use Rattle.calc_terms.specs.{Rat.{ratio_of, value_of}, Ratio.{whole}, Trees.{AllParts, AllPartsOf, HasTwo, Tree, Trees, add, append, count, is_add, is_mult, is_num, is_undef, more, mult, names}}
pub use Rattle.calc_terms.specs.{Trees.{names_of, none, num, opened_into, root, root_kind, size, sizes, symbol}, declared.kind.Kind.{Kind}, declared.rat.Rat.{Rat}}
unfoldable pub use Rattle.calc_terms.specs.Fractions.{one_fraction, zero_fraction}
pub use Rattle.child_lists.proofs.ListedChildren.{children_number}
pub use Rattle.coefficients.specs.{Bytes.{IsShort, bytes_as_product, bytes_of_coefficient, bytes_of_taking}, Coefficients.{IsMonic, coefficient_length, coefficient_of, factors_of, rational_before}}
pub use Rattle.coefficients.specs.{Coefficients.{spliced, with_coefficient}, Multiples.{leads_sum, mapped, rational_times, rational_times_factors, rational_times_number, rational_times_sum}}
pub use Rattle.coefficients.specs.{Multiples.{rational_times_term}, Overflows.{IsMultiple, Leads, LeadsIn, LeadsTerm, NamesPut}, Pairs.{GivesTwo, LeavesRest}, Rooms.{LacksRoom, put_room}}
pub use Rattle.node_pool.proofs.Ids.{eqb_sym as eqb-sym}
pub use Rattle.node_pool.specs.{State.{State, free_of}, declared.full.Full.{Full}}
pub use Rattle.number_forms.proofs.{Pairs.{first_handed, pair_apart, pair_rest}, RationalCalls.{num_same}, Rooms.{number_size, refusal_as}}
pub use Rattle.number_forms.specs.Sums.{removed}
pub use Rattle.rational128.specs.{declared.overflow.Op.TheVariants.{Mul}, declared.overflow.Overflow.{Overflow}}
pub use Rattle.std.proofs.Common.{Bool, Contains, IfErr, IsErr, IsErrAnd, IsOk, List, OnOk, Result, [], ap, append-nil, arith, eqb, false, if◌then◌else◌, inl, inr, length, max, not, pos, refl, rules}
pub use Rattle.std.proofs.{Common.{subst, suc, sym, true, zero, ℕ, ◌*◌, ◌++◌, ◌+◌, ◌-◌, ◌<◌, ◌==◌, ◌^◌, ◌↔◌, ◌∙◌, ◌∷◌, ◌≡◌, ◌≢◌, ◌≤◌, ◌⊎◌}, lemmas.Bool.{not_from_false, true≢false}}
pub use Rattle.std.proofs.{lemmas.List.Elements.{Contains-append_right}, lemmas.Nat.{mul-le, pow_pos}}
pub use Rattle.tree_handles.proofs.{Beside.{gives_put, gives_without, other_plain}, Counted.{all-kids}, Cuts.{cut, cut_rest, represents_count}, Filling.{bytes_put, changes_after, changes_as}}
pub use Rattle.tree_handles.proofs.{Filling.{changes_free, changes_front, changes_last, changes_last_front, changes_none, children_told, front_again, hole_stays}, Forests.{bytes_in-join, keeps_after}}
pub use Rattle.tree_handles.proofs.{FreeBytes.{refused_below, replaced_free}, Fronts.{behind_first, behind_later, behind_new, front_after, front_after_one, front_after_two, front_at, front_end}}
pub use Rattle.tree_handles.proofs.{Fronts.{front_put, front_same, front_without}, Refused.{kept_same as keeps_none}, Given.{given_apart, given_handed, given_other, given_rest, given_root}}
pub use Rattle.tree_handles.proofs.{Given.{given_same, given_told, given_without, gives, gives_as, handed_at, handed_beside, owned, represents_handed, represents_join, represents_with}, Lasts.{apart}}
pub use Rattle.tree_handles.proofs.{Lasts.{ends_as, ends_at, ends_without, kids_of_root, other_root}, Outcomes.{if_map}, Over.{IsAdded, IsOver, IsTaken, added_as, children_at, children_in, count_is}}
pub use Rattle.tree_handles.proofs.Over.{moved, moved_front, once_count, over_beside, over_end, over_gives, over_handed, over_plain, over_product, over_put, over_same, taken, without_put}
pub use Rattle.tree_handles.proofs.{Places.{used_forest}, Plains.{children_of-plain, size-plain, sizes-plains, whole_kids}, Room.{released_free}}
pub use Rattle.tree_handles.proofs.{Roots.{put-put, put-same, root_held, tree-without, without-swap}, Seen.{expression, kind_of_root, no_product_kind, no_sum_kind, product_kind, seen, sum_kind}}
pub use Rattle.tree_handles.specs.{Expressions.{IsExpression, children_of, inserted, nth, plain}, Faults.{Faults, OfOverflow}, Forest.{Forest, arity, kids, merged_nth, root_count, tree_nth, with_nth}}
pub use Rattle.tree_handles.specs.{Forest.{without_nth}, Handed.{Ends, Gives, IsHanded, IsOnce, KeepsFront, Represents, tree_of}, Holes.{ChangesTree, set_child, set_tree}, Inside.{kids_of, tree_at}}
pub use Rattle.tree_handles.specs.{Lacking.{OfFull}, Roots.{put, root_tree, without_root}, Standing.{IsRefused, KeepsRefusals, Stands, forest}, declared.fault.NumberFault.{NumberFault}}
pub use Rattle.tree_room.proofs.Coefficients.{part_counts}
pub use Rattle.tree_room.specs.Handed.{numbers_among}
