-- The names that the proofs share.
pub use Rattle.calc_terms.proofs.Sizes.{num_least}
pub use Rattle.calc_terms.specs.{Fractions.{lowest}, Leaf.{name_of, payload_of}, Node.{IsNode, Node, fresh, header_of, size_of}, Ratio.{Ratio}, declared.kind.Kind.{Kind}}
pub use Rattle.calc_terms.specs.{declared.leaf.Header.{Header}, Payload.{IsPayload, Payload, bare, has_short_form, kind_of_payload, named, rational}, Rat.{ratio_of}, Trees.{IsPartOf, Tree, Trees}}
pub use Rattle.calc_terms.specs.Trees.{append, count, depth, depths, first, has_short_root, has_undef, is_add, is_mult, is_num, is_symbol, is_undef, itself, later, more, mult, nodes, nodes_of, none}
pub use Rattle.calc_terms.specs.Trees.{num, root_kind, root_size, size, sizes, symbol, undef}
pub use Rattle.node_pool.proofs.{Exchanges.{exchanged-append}, Unheld.{unheld_more}, Cuts.{AreNodes-since, IsStep, between_next, between_none, boundary_le, cut, since-append, step, until-append}}
pub use Rattle.node_pool.proofs.{Cuts.{until-since}, Ids.{AreApart, AreApart-parts, AreApart-sym, AreDistinct-append, AreDistinct-parts, has-append, or_is_false}}
pub use Rattle.node_pool.proofs.{Sizes.{AreNodes-right, length_le_used, size_from, used-append}, Splits.{between-append, boundary-append, moved_left, moved_right, place_of-append}}
pub use Rattle.node_pool.proofs.{Splits.{with_children-append, with_count-append, without-append}, Walk.{since-zero, since_end, starts}, Noting.{or_true}}
pub use Rattle.node_pool.specs.{Nodes.{AreDistinct, AreNodes, first_of, has, parent, payload_of_id, place_of, used, with_children, with_count}, Places.{IsBoundary, between, exchanged, moved}}
pub use Rattle.node_pool.specs.{Places.{put_before, since, until, without}, State.{IsPool, IsPoolSize, State, free_of, refused}, declared.full.Full.{Full}, Unheld.{owed_behind, unheld}}
pub use Rattle.rational128.specs.declared.overflow.Overflow.{Overflow}
pub use Rattle.std.proofs.Common.{Bool, Err, List, Option, Result, Some, [], ap, append_assoc, arith, cond, drop, eqb, false, get_or, inl, inr, leb, length, map, max, min, refl, rules, subst, suc}
pub use Rattle.std.proofs.{Common.{sym, true, zero, ℕ, ◌*◌, ◌++◌, ◌+◌, ◌-◌, ◌<◌, ◌^◌, ◌||◌, ◌∙◌, ◌∷◌, ◌≡◌, ◌≢◌, ◌≤◌, ◌⊎◌}, Math.ListN.{set}, lemmas.Grind.{common_steps}, lemmas.Bool.{cases_Bool}}
pub use Rattle.std.proofs.{lemmas.Bool.{eq-eqb, eqb-false, eqb-true, le-ltb, leb-true, lt-ltb, ne_eqb}, lemmas.List.{append-nil, append_cancel_right, get_or-set_other, get_or-set_same, length-append}}
pub use Rattle.std.proofs.{lemmas.List.{length-map, length-set, map-append}, lemmas.Iterator.Consumers.{YieldsList-from_first}, lemmas.Iterator.{items_from_drains}}
pub use Rattle.std.specs.{Prelude.{IfErr, IfOk, IsErr, IsErrAnd, IsSome}, Iterator.{Drains, YieldsFirst}}
pub use Rattle.tree_handles.specs.{Children.{AreSiblings, IsChildAt, root_ids}, Copies.{AreCopies, IsCopy, copy_of}, Expressions.{AllExpressions, IsExpression, IsWhole, children_of, compound, grown}}
pub use Rattle.tree_handles.specs.{Expressions.{inserted, nth, plain, plains, takes, takes_kind}, Forest.{AllNodes, Forest, Label, arity, before_last, bytes_in, depth_in, empty, first_trees, flatten}}
pub use Rattle.tree_handles.specs.Forest.{join, kids, last_trees, merged_nth, node_of, nodes_in, one_tree, rest_trees, root_count, root_id, root_payload, set_nth, swapped_nth, tree, tree_nth}
pub use Rattle.tree_handles.specs.{Forest.{with_nth, with_root_kids, without_nth}, Holes.{ChangesTree, IsHole, Place, set_child, set_tree}, Handed.{AllOnce, AreNoRoots, Ends, Gives, IsHanded}}
pub use Rattle.tree_handles.specs.{Handed.{IsOwned, KeepsFront, Represents, Starts, tree_of}, Inside.{count_of, holds, kids_of, payload_in, released, released_in, tree_at, with_count_in, with_kids}}
pub use Rattle.tree_handles.specs.{Roots.{IsReleasable, adopted, behind_root, has_root, put, root_tree, without_root}, Standing.{IsCounted, IsRefused, KeepsRefusals, Refuses, Stands, forest}}
pub use Rattle.tree_handles.specs.{Visits.{AreFound, visit_at, visit_of, visits_of}, Walks.{BeginsTrees, IsChildPlace, IsNearer, IsOwed, owed_nodes, release_first, released_at, skip}}
pub use Rattle.tree_handles.specs.{declared.visits.Visit.{Visit}, declared.fault.NumberFault.{NumberFault}, Faults.{OfOverflow}}
unfoldable pub use Rattle.tree_handles.specs.Forest.{forest_of}
