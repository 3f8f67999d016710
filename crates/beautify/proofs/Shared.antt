-- The names that the proofs share.
pub use Rattle.beautify.specs.{Drafts.{AreFound, AreNew, IsDraft, Written, alone_in, notes_of, spelled, with_written}, Lists.{behind, first}, Owed.{AreReady, IsNode, IsReady, IsReadyPart, IsWritten}}
pub use Rattle.beautify.specs.Owed.{Owes, TakesForm, children_taken, denominator_of, divisor_of, form_room, in_form, next_room, numerator_of, owed_before, rooms, with_next}
pub use Rattle.beautify.specs.{OwnFaces.{has_natural_numbers, holds_natural, is_natural}, Shares.{AreSharing, part_above, part_below, part_of, part_room, share_room, shared}}
pub use Rattle.beautify.specs.{declared.draft.Noted.{Noted}, declared.pending.Form.{Form}, declared.pending.Pending.{Pending}, declared.shares.Share.{Share}, Showing.{AreFactors, IsFactor}}
pub use Rattle.beautify.specs.{Showing.{IsShowable, stands_below, unsigned_faces}, declared.pending.Form.TheVariants.{Divisor, Face, Unsigned}, declared.pending.Pending.TheVariants.{Denominator}}
pub use Rattle.beautify.specs.{declared.pending.Pending.TheVariants.{Numerator, One, Over, Part}, declared.shares.Share.TheVariants.{Above, Below, Terms}}
pub use Rattle.calc_algebra.proofs.{ReducedLaws.{AllParts-map, AllParts-zip, reduced_words}, SurdLaws.{Agree, Agree-Same, Agree-append, Agree-eq, Agree-refl, Agree-surd_times, Agree-surd_times_right}}
pub use Rattle.calc_algebra.proofs.SurdLaws.{Agree-sym, Agree-trans, inverse_power, inverse_times, surd_times-one, surd_times-surd_of, surd_times-surd_one, surd_times_assoc, surd_times_left_comm}
pub use Rattle.calc_algebra.proofs.{MeaningLaws.{Means-Same}, SquareClassLaws.{Same-Agree}, TermLaws.{Same-refl}, Names.{Within, within_both, within_left, within_none, within_right, within_trans}}
pub use Rattle.calc_algebra.proofs.{PowerRewrites.{exponent_is}, NumberRewrites.{fraction_whole}}
pub use Rattle.calc_algebra.specs.{Meanings.{Assignment, IsPower, IsWholePower, Means, MeansProduct, MeansSum}, Numbers.{IsTerm, classes}, Rewritings.{HasNoNewName, KeepsMeanings}, Reduced.{HasForm}}
pub use Rattle.calc_algebra.specs.{Reduced.{IsFrontForm, IsReduced, IsWholePowerForm, NoneIs, all_parts, all_parts_of, none_is, split_product}, Surds.{Surd, surd_of, surd_one, surd_power, surd_scale}}
pub use Rattle.calc_algebra.specs.Surds.{surd_times}
unfoldable pub use Rattle.calc_algebra.specs.{Numbers.{is_number}, Reduced.{is_reduced}}
pub use Rattle.calc_language.proofs.ReadLaws.{text_reads}
pub use Rattle.calc_language.specs.Faces.{below_zero, exponent_below, face, face_of_sum, factor_above, factor_below, factors_above, factors_below, fraction_of, has_minus, next_term, next_terms}
pub use Rattle.calc_language.specs.{Faces.{power_below, product_of, unless_one, unsigned_face, with_minus}, Grammar.{SoFar, as_tree, minus_term, plus_term, single, summed}}
pub use Rattle.calc_language.specs.{Texts.{AreWritable, HasNames, IsNamed, IsWritable, text}, Reads.{Reads}}
pub use Rattle.calc_terms.proofs.{Sizes.{num_least, whole_size}, SmallLaws.{and_true, append_none as append-none, passed_on}, ShortForm.{short_whole}}
pub use Rattle.calc_terms.specs.{Fractions.{Fraction, den_pos, lowest, lowest_parts, minus_one_fraction, mul_pos, same_lowest, times, times_lowest, whole_fraction}, Node.{Node}, Rat.{value_of}}
pub use Rattle.calc_terms.specs.{declared.kind.Kind.{Kind}, Integers.{diffs, eq_diff, int_is_negative, parts}, Payload.{Payload, kind_of_payload, rational, size_of_payload}, Ratio.{Ratio, whole}}
pub use Rattle.calc_terms.specs.Trees.{AllParts, AllPartsOf, AreComplete, HasTwo, IsComplete, Tree, Trees, add, append, count, div, is_mult, is_num, is_symbol, is_undef, more, mult, names, names_of}
pub use Rattle.calc_terms.specs.{Trees.{neg, none, num, power, root, root_kind, size, sizes, sub, symbol, undef, whole_num}, Name.{is_name}, Short.{is_short}, Kind.{size_by_form}}
unfoldable pub use Rattle.calc_terms.specs.Fractions.{one_fraction}
pub use Rattle.node_pool.specs.{Nodes.{used}, declared.full.Full.{Full}, State.{State, free_of}}
pub use Rattle.rational128.proofs.LowestTerms.{ratio_parts}
pub use Rattle.std.proofs.Common.{Bool, Err, List, None, Ok, Option, Result, Some, [], ap, append-nil, append_assoc, arith, cond, drop, eqb, false, if◌then◌else◌, inl, inr, length, nat_abs, negsuc}
pub use Rattle.std.proofs.Common.{not, pos, refl, rules, subst, suc, sym, take, true, vec_capacity, zero, ℕ, ℤ, ◌&&◌, ◌*ℤ◌, ◌*◌, ◌++◌, ◌+◌, ◌-◌, ◌<◌, ◌==◌, ◌∙◌, ◌∷◌, ◌≡◌, ◌≤◌}
pub use Rattle.std.proofs.lemmas.List.{drop_all, drop_at, length-append, length-drop, length-reverse, length-take-le, reverse-append, take_all, take_at, take_rest}
pub use Rattle.std.proofs.{lemmas.Bool.{and_parts, eq-eqb, eqb-true}, lemmas.Int.{ints, to_z-of_z}}
pub use Rattle.std.specs.{Int.{w128}, Prelude.{Contains, FitsSigned, IfErr, IfOk, IfSome, ⊤, ◌≢◌, ◌⊎◌}}
pub use Rattle.tree_handles.proofs.{Forests.{all-first_trees, all-rest_trees, arity-first_trees, bytes_in-join, flatten-join, join-empty, join_assoc, keeps_after, refuses_after}, Given.{given_other}}
pub use Rattle.tree_handles.proofs.{Given.{given_told, gives, gives_as, owned, represents_handed}, Lasts.{ends_without, expression_root, last_tree, plain_root}, Places.{used_forest}}
pub use Rattle.tree_handles.proofs.{Room.{least_size}, Measures.{few_in, one_at}, NextChildren.{last_child, next_child}, Outcomes.{by_test}, Plains.{alone, count-plains, size-plain}}
pub use Rattle.tree_handles.proofs.{Readings.{expression_children}, Visiting.{found, found-join, no_visit, seen, visit_here, visits_left}, Adopting.{adopted_there, behind_there}}
pub use Rattle.tree_handles.proofs.{Fronts.{behind_first, front_end, front_same, front_without}, Joins.{holds-left, tree_at-join_left}, Roots.{root-left, root-right}}
pub use Rattle.tree_handles.specs.{Children.{root_ids}, declared.visits.Visit.{Visit}, Expressions.{AllExpressions, IsExpression, IsWhole, children_of, compound, grown, nth, plain, plains, takes}}
pub use Rattle.tree_handles.specs.{Expressions.{takes_kind}, Forest.{Forest, Label, arity, bytes_in, empty, first_trees, flatten, join, kids, nodes_in, one_tree, rest_trees, root_id, root_payload}}
pub use Rattle.tree_handles.specs.{Forest.{tree}, Handed.{Ends, Gives, IsHanded, IsOnce, KeepsFront, Represents, Starts, tree_of}, Inside.{holds, kids_of, payload_in, tree_at}}
pub use Rattle.tree_handles.specs.{Roots.{adopted, behind_root, has_root, without_root}, Standing.{IsRefused, KeepsRefusals, Stands, forest}, Visits.{visit_at, visits_of}}
pub use lib.Signed.{lt_z}
pub use mathlib.Core.List.{reverse}
