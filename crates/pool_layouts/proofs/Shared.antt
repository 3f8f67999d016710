-- The names that the proofs share.
pub use Rattle.calc_language.proofs.Spelled.{decimal_is, spelled-append}
pub use Rattle.calc_language.specs.Texts.{AreWritable, IsWritable, admits, at_place, decimal, first_of_product, first_of_sum, in_parentheses, later_of_product, later_of_sum, left_of_difference, text}
pub use Rattle.calc_language.specs.{Texts.{text_of_factors, text_of_product, text_of_sum, text_of_terms}, Tokens.{Token, caret_mark, minus_mark, plus_mark, root_sign, slash_mark, times_mark}}
pub use Rattle.calc_language.specs.Tokens.{times_sign}
pub use Rattle.calc_parser.proofs.UnderWay.{was_short}
pub use Rattle.calc_terms.proofs.Names.{spelled}
pub use Rattle.calc_terms.specs.{Fractions.{lowest}, Node.{Node}, declared.kind.Kind.{Kind}, Name.{begins_with_letter, is_digit, is_name_byte}, Payload.{IsPayload, Payload, bare, is_bare}}
pub use Rattle.calc_terms.specs.{Payload.{kind_of_payload, named, rational, size_of_payload}, Trees.{IsComplete, Tree, Trees, add, count, div, is_div, more, mult, neg, none, num, power, root}}
pub use Rattle.calc_terms.specs.{Trees.{root_kind, sub, symbol, undef}, Ratio.{IsRat, Ratio}, Leaf.{name_of}, Rat.{ratio_of}}
pub use Rattle.line_text.proofs.{Valid.{valid}, Leaves.{numerator_is}, Parts.{admits_is, deciding_is, is_div_is, level_is}, Room.{bytes_nodes}, Walks.{content_is, snoc_same}, Lengths.{number_text}}
pub use Rattle.line_text.specs.{Content.{Content, extended, spare_of}, Places.{admits_kind, deciding_kind, first_place, is_div_kind, level_of, next_place, rule_of}, declared.place.Place.{Place}}
pub use Rattle.line_text.specs.{Writing.{deciding, kind_closing, leaf_bytes, parentheses, written}, declared.place.Place.TheVariants.{Base, FirstOfProduct, FirstOfSum, LaterOfProduct, LaterOfSum}}
pub use Rattle.line_text.specs.declared.place.Place.TheVariants.{LeftOfDifference, RightOfDifference, UnderSign, WholeText}
pub use Rattle.node_pool.proofs.Sizes.{length_le_used, size_from}
pub use Rattle.node_pool.specs.{Nodes.{used}, declared.full.Full.{Full}, State.{State, free_of}}
pub use Rattle.pool_layouts.specs.{Building.{part_sizes, parts_sizes}, Drafts.{Draft, Measures}, Drawings.{AllComposed, GivesLayout, IsComposed, IsLayout, composed, composes, composes_kind, drawing}}
pub use Rattle.pool_layouts.specs.{Drawings.{drawings, drawn, part}, Extents.{AllValid, HasExtents, HasPair, HasSmall, HasSomeFirst, IsOver, IsSmall, IsValid, extent_from, extent_of, extents_of}}
pub use Rattle.pool_layouts.specs.{Extents.{leaf_width}, Faces.{AreDefined, IsDefined}, Frames.{frame_behind, frame_of}, Laying.{Closes, HasLast, IsAround, IsStopped, PlacesMark, StandsIn}}
pub use Rattle.pool_layouts.specs.{Laying.{around_sizes, held_in, is_leaf, root_sizes}, Layouts.{Layout, Layouts, beside, boxed, fraction, join_parts, layout, layout_of_factors, layout_of_product}}
pub use Rattle.pool_layouts.specs.{Layouts.{layout_of_sum, layout_of_terms, minus, name, nothing, number, one_part, paren, plus, radical, raised, row, times, unless}, Painting.{IsBlack, IsFound}}
pub use Rattle.pool_layouts.specs.Painting.{IsInk, IsLine, IsSpanOf, Opens, Shows, ShowsIf, ShowsLevel, ShowsPart, blanks_left, centred_opened, count_if, fraction_opened, ink_characters, inked}
pub use Rattle.pool_layouts.specs.Painting.{leaf_characters, level_if, level_opened, opened, paren_opened, part_of, radical_opened, raised_opened, row_opened, span_of, weight, weight_if}
pub use Rattle.pool_layouts.specs.Pictures.{Block, bar, before_cut, blanks, centred, cut, height, level, level_line, level_lines, line_or_blanks, most_above, most_below, picture, pictures, roof}
pub use Rattle.pool_layouts.specs.{Pictures.{root_character, side_by_side, times_character, widths}, Places.{around_kind, around_of, laid, laid_kind, mark_before, marks, paren_kind_unless}}
pub use Rattle.pool_layouts.specs.{Places.{parts_from, within}, Serial.{serial, serials}, declared.extents.Extent.{Extent}, declared.frames.Frame.{Frame}, declared.ink.Ink.{Ink}}
pub use Rattle.pool_layouts.specs.{declared.steps.Opened.{Opened}, declared.steps.Step.{Step}, declared.ink.Ink.TheVariants.{Bar, Close, Leaf, Nothing, Roof, Root}, declared.steps.Span.{Span}}
pub use Rattle.pool_layouts.specs.Columns.{TakeOneColumnEach}
pub use Rattle.std.proofs.Common.{Bool, Err, List, None, Ok, Option, Result, Some, [], add-one, ap, append-nil, append_assoc, arith, codes, drop, drop-cons, encode_utf8_all, eqb, false, get_or}
pub use Rattle.std.proofs.Common.{if◌then◌else◌, leb, length, map, max, nat_abs, nat_eq, nat_le, nat_lt, refl, replicate, rules, set, subst, suc, sum_by, sym, true, unwrap_or, vec_capacity, vec_len}
pub use Rattle.std.proofs.{Common.{zero, ℕ, ℤ, ◌*◌, ◌++◌, ◌+◌, ◌-◌, ◌/◌, ◌<◌, ◌==◌, ◌^◌, ◌||◌, ◌∙◌, ◌∷◌, ◌≡◌, ◌≢◌, ◌≤◌}, lemmas.Bool.Decides.{nat_tests}, lemmas.Bool.{and_from, and_parts, eqb-true}}
pub use Rattle.std.proofs.{lemmas.Bool.{le-leb, le-ltb, leb-false, leb-true, lt-ltb}, lemmas.List.{drop-drop, drop-map, drop-set, drop_at, length-append, length-drop, length-replicate, length-set}}
pub use Rattle.std.proofs.{lemmas.List.{map-append, replicate-append-replicate}, lemmas.Str.{encode_ascii, encodes-append}, lemmas.List.Sums.{sum_by-cons}}
pub use Rattle.std.specs.{List.{list_all}, Prelude.{IfErr, IfOk, IsOk, OnOk, option_to_list, ⊤, ◌↔◌}}
pub use Rattle.tree_handles.proofs.{Forests.{all-join, arity-join, bytes_in-join, flatten-join, join-empty, join_assoc, keeps_after, nodes-flatten, refuses_after}, Given.{given_handed}}
pub use Rattle.tree_handles.proofs.{Refused.{kept_same as keeps_none}, Gathering.{before-last, before_last-join, before_none, last_none, last_trees-join}, Lasts.{ends_as, expression_root, last_held}}
pub use Rattle.tree_handles.proofs.{Lasts.{last_root, last_tree, tree_of_root}, Measures.{few_in, one_at}, Places.{free_forest, used_forest}, Plains.{count-plains, root_kind-plain}}
pub use Rattle.tree_handles.proofs.{Visiting.{found, visits_length}, Releases.{arity_le}, Parts.{at}, Outcomes.{by_test}, Counting.{few_trees}, Joins.{holds-left, tree_at-join_left}}
pub use Rattle.tree_handles.specs.{Building.{taking}, declared.visits.Visit.{Visit}, Expressions.{AllExpressions, IsExpression, compound, grown, plain, plains, takes, takes_kind}, Forest.{AllNodes}}
pub use Rattle.tree_handles.specs.Forest.{Forest, Label, arity, before_last, bytes_in, empty, flatten, join, kids, last_trees, node_of, nodes_in, one_tree, root_payload, tree}
pub use Rattle.tree_handles.specs.{Handed.{AllOnce, Ends, IsOnce, KeepsFront, Starts}, Inside.{holds, kids_of, payload_in, tree_at}, Standing.{IsRefused, KeepsRefusals, LacksBytes, Refuses, Stands}}
pub use Rattle.tree_handles.specs.{Standing.{forest}, Visits.{AreFound, visit_at, visit_of, visits_of}}
pub use Rattle.unicode_width.proofs.Rules.{is_simple, str_width-simple, width_or_zero}
pub use Rattle.unicode_width.specs.Width.{str_width}
