-- The names that the proofs share.
pub use Rattle.calc_edges.specs.Taken.{AppendsPart}
pub use Rattle.calc_language.specs.Texts.{AreWritable, IsWritable, admits, admits_signed, at_place, base, decimal, digits_before, exponent, first_of_product, first_of_sum, in_parentheses}
pub use Rattle.calc_language.specs.{Texts.{later_of_product, later_of_sum, left_of_quotient, level, text, text_of_factors, text_of_product, text_of_sum, text_of_terms}, Tokens.{root_sign, times_sign}}
pub use Rattle.calc_terms.proofs.{Names.{spelled}, ShortForm.{short_magnitude}}
pub use Rattle.calc_terms.specs.{Fractions.{Fraction, Holds, lowest, lowest_parts}, Payload.{IsPayload, Payload, bare, kind_of_payload, named, rational, size_of_payload}, Ratio.{IsRat, Ratio}}
pub use Rattle.calc_terms.specs.{Short.{is_short}, declared.kind.Kind.{Kind}, Trees.{AllParts, AllPartsOf, Tree, Trees, add, count, div, is_div, is_sub, more, mult, neg, none, num, power, root}}
pub use Rattle.calc_terms.specs.{Trees.{root_kind, size, sizes, sub, symbol, undef}, Node.{Node}, Kind.{size_by_form}}
pub use Rattle.line_text.specs.{Content.{Content, extended, spare_of}, Lengths.{HasFittingNumbers, IsFitting}, Places.{admits_kind, deciding_kind, first_place, is_div_kind, is_neg_kind, is_sub_kind}}
pub use Rattle.line_text.specs.{Places.{kind_behind_opposites, level_of, next_place, rule_of, sign_before, skips_opposites}, Writing.{closing_of, deciding, first_kind, front_of, is_admitted}}
pub use Rattle.line_text.specs.{Writing.{kind_closing, leaf_bytes, opening, owed_bytes, owes, parentheses, pending_below, written}, declared.place.Pending.{Pending}, declared.place.Place.{Place}}
pub use Rattle.line_text.specs.declared.place.Place.TheVariants.{FirstOfProduct, FirstOfSum, LaterOfProduct, LaterOfSum, WholeText}
pub use Rattle.node_pool.proofs.Sizes.{AreNodes-left, AreNodes-right, size_from}
pub use Rattle.node_pool.specs.{State.{State}, Nodes.{AreNodes}}
pub use Rattle.std.proofs.Common.{Bool, FitsSigned, List, OnErr, [], ap, append_assoc, arith, codes, cond, false, if◌then◌else◌, length, map, nat_abs, nat_le, refl, subst, suc, sym, true}
pub use Rattle.std.proofs.{Common.{vec_capacity, zero, ℕ, ℤ, ◌%◌, ◌*◌, ◌++◌, ◌+◌, ◌-◌, ◌/◌, ◌<◌, ◌^◌, ◌∙◌, ◌∷◌, ◌≡◌, ◌≤◌}, lemmas.Bool.{cases_lt, eqb-true, ltb-true}}
pub use Rattle.std.proofs.{lemmas.List.{append-nil, length-append, length-take-le}, lemmas.Int.{ints}, lemmas.Bool.Decides.{nat_tests}}
pub use Rattle.std.specs.Int.{cast_signed, cast_unsigned, w128}
pub use Rattle.tree_handles.proofs.{Forests.{join-empty}, Measures.{one_at}, Parts.{at, live_at}, Plains.{alone, count-plains, grown_whole, size-plain}, Readings.{number_seen, symbol_seen}}
pub use Rattle.tree_handles.proofs.Visiting.{IsSeen, found, found-join, next_is, seen, some_next, visit_here, visits_left, visits_length}
pub use Rattle.tree_handles.specs.{Expressions.{AllExpressions, children_of, compound, grown, nth, plain, plains, takes}, Forest.{AllNodes, Forest, Label, arity, bytes_in, empty, flatten, join, kids}}
pub use Rattle.tree_handles.specs.{Forest.{node_of, nodes_in, root_payload, tree}, Inside.{holds, kids_of, tree_at}, declared.visits.Visit.{Visit}, Standing.{Stands, forest}}
pub use Rattle.tree_handles.specs.Visits.{AreFound, visit_at, visit_of, visits_of}
