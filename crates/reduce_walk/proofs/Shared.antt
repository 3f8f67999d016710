-- The names that the proofs share.
pub use Rattle.breakers.proofs.{Runs.{CalmChecks-append, calm_checks_raise_no_trips}, Stops.{calm_more, calm_up_to, calm_up_to_after, one_calm, trips_at_once, trips_more, trips_within_after}}
pub use Rattle.breakers.proofs.Stops.{tripped_rose}
pub use Rattle.breakers.specs.{Breakers.{CalmChecks, CalmUpTo, Check, TripsRose, TripsWithin}, Watch.{states}, declared.watch.Interrupted.{Interrupted}}
pub use Rattle.calc_measures.specs.Measures.{bits_of, most_bits, most_bits_of}
pub use Rattle.calc_terms.proofs.SmallLaws.{append_assoc, append_none as append-none, count_append, passed_on}
pub use Rattle.calc_terms.specs.{Payload.{IsPayload, Payload, kind_of_payload, size_of_payload}, Trees.{Tree, Trees, append, count, more, nodes, nodes_of, none, num, root_kind, root_size, size}}
pub use Rattle.calc_terms.specs.{Trees.{sizes}, Fractions.{Fraction}, Fits.{fraction_fits}}
pub use Rattle.node_pool.proofs.Sizes.{AreNodes-right}
pub use Rattle.node_pool.specs.{State.{State, free_of}, Nodes.{AreNodes}, declared.full.Full.{Full}}
pub use Rattle.rational128.proofs.{Products.{parts_fit}, LowestTerms.{parts_themselves}}
pub use Rattle.rational128.specs.declared.overflow.Overflow.{Overflow}
pub use Rattle.reduce_port.specs.{Faults.{CountsRefusals, IfFull, IfInterrupted, IfOverflow, fault_of}, declared.fault.ReduceFault.{ReduceFault}}
pub use Rattle.reduce_walk.specs.{Answers.{AreAnswers, EachTree, IsNext, IsOver}, Leaves.{BeginWithLeaves, is_leaf, is_leaf_kind}, Stops.{IsUnfitAt, Stops}}
pub use Rattle.std.proofs.{lemmas.Bool.{eqb-true}, lemmas.List.{length-append}, Common.{Err, List, None, Ok, Result, Some, [], ap, arith, cond, eqb, false, length, map, refl, rules, subst, suc, sym}}
pub use Rattle.std.proofs.Common.{true, zero, ℕ, ◌++◌, ◌+◌, ◌-◌, ◌<◌, ◌↔◌, ◌∙◌, ◌∷◌, ◌≡◌, ◌≤◌}
pub use Rattle.std.specs.Prelude.{IfErr, OnOk}
pub use Rattle.tree_handles.proofs.{Cuts.{cut, cut_at, cut_rest, represents_count}, Forests.{arity-join, arity-rest_trees, bytes_in-join, first-rest, first_trees-join, join-empty, join_assoc}}
pub use Rattle.tree_handles.proofs.{Forests.{keeps_after, rest_trees-join}, Refused.{kept_after, kept_same as keeps_none, refuses_after}, Fronts.{behind_first, behind_new, front_after_one, front_end}}
pub use Rattle.tree_handles.proofs.{Fronts.{front_same, starts_join, starts_same, starts_without}, Given.{given_handed, given_rest, given_told, gives, gives_as, represents_as, represents_handed}}
pub use Rattle.tree_handles.proofs.{Given.{represents_join}, Lasts.{ends_as, kids_of_root, last_rest, last_root, last_tree, other_root, other_tree}, Plains.{alone, children_of-plain, size-plain}}
pub use Rattle.tree_handles.proofs.{Plains.{sizes-plains, whole_kids}, Roots.{kids-put, put-right, root-put, root-right, root_arity, top, tree-right}, Seen.{expression, live, seen}}
pub use Rattle.tree_handles.proofs.{Adopting.{adopted_all, behind_there}, Counted.{all-kids}, Releases.{arity_le, few_nodes}, Outcomes.{by_test, if_map}, FreeBytes.{bytes_without, replaced_free}}
pub use Rattle.tree_handles.proofs.{Over.{count_with, once_count, payload_with, tree_put}, Readings.{expression_child, expression_children, whole_child}, ForestLists.{no_trees}}
pub use Rattle.tree_handles.proofs.{SmallLaws.{starts_behind}, Places.{used_forest}}
pub use Rattle.tree_handles.specs.{Expressions.{AllExpressions, IsExpression, children_of, grown, nth, plain, plains, takes}, Forest.{Forest, Label, arity, bytes_in, empty, first_trees, flatten}}
pub use Rattle.tree_handles.specs.{Forest.{join, kids, node_of, rest_trees, root_count, root_payload, tree, tree_nth, with_root_kids, without_nth}, Handed.{AllOnce, Ends, Gives, IsHanded, IsOwned}}
pub use Rattle.tree_handles.specs.{Handed.{KeepsFront, Represents, tree_of}, Inside.{holds, kids_of, tree_at}, Roots.{adopted, behind_root, has_root, put, root_tree, without_root}}
pub use Rattle.tree_handles.specs.{Standing.{KeepsRefusals, Stands, forest}, Faults.{Faults}, Causes.{IsCaused}, declared.fault.NumberFault.{NumberFault}, Lacking.{OfFull}}
pub use Rattle.tree_handles.specs.{declared.visits.Visit.{Visit}, Visits.{visit_of, visits_of}}
