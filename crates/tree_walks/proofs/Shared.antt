-- The names that the proofs share.
pub use Rattle.calc_terms.proofs.SmallLaws.{passed_on, same_tests}
pub use Rattle.calc_terms.specs.{Leaf.{name_of}, Payload.{Payload, kind_of_payload, size_of_payload}, Trees.{Tree, Trees, add, append, depth, depths, div, more, mult, names, names_of, neg, nodes}}
pub use Rattle.calc_terms.specs.{Trees.{nodes_of, none, power, root, root_size, size, sizes, sub, symbol}, declared.kind.Kind.{Kind}, declared.name.Name.{Name}, Name.{before_zero, padded}}
pub use Rattle.node_pool.proofs.{Ids.{AreDistinct-parts}, Sizes.{length_le_used, used-append}, Cuts.{until-since}}
pub use Rattle.node_pool.specs.{State.{State, free_of}, Nodes.{AreDistinct, place_of, used}, declared.full.Full.{Full}, Places.{IsBoundary, since, until}}
pub use Rattle.std.proofs.Common.{Bool, List, [], ap, append_assoc, arith, cond, drop, eqb, false, get_or, inl, inr, leb, length, max, refl, rules, subst, suc, sym, take, true, zero, ℕ, ◌*◌, ◌++◌}
pub use Rattle.std.proofs.{Common.{◌+◌, ◌-◌, ◌<◌, ◌∙◌, ◌∷◌, ◌≡◌, ◌≤◌}, Math.ListN.{drop_of_length-le, set}, lemmas.Bool.{eq-eqb, eqb-true, le-leb, lt-leb, ne_eqb}, lemmas.List.{append-nil, drop_more}}
pub use Rattle.std.proofs.{lemmas.List.{get_or-take, length-append, length-set, length-take-le}, lemmas.List.Elements.{Contains-append_cases, Contains-append_left, Contains-append_right}}
pub use Rattle.std.proofs.{lemmas.List.Elements.{Contains-push, Contains-push_cases}, lemmas.Slice.Eq.{bytes_eq-Decides}, lemmas.List.Sums.{get_or-le-sum_by, sum_by-append, sum_by-cons}}
pub use Rattle.std.proofs.{Math.Seq.{drop-append_seam}, lemmas.Grind.{take-set_at}}
pub use Rattle.std.specs.{List.{count_by}, Str.{bytes_eq}, Prelude.{Contains, Err, Ok, ◌≢◌, ◌⊎◌}}
pub use Rattle.tree_handles.proofs.{Depths.{AreOpen, IsWalked, open_count, reach, walked_close, walked_deeper, walked_done, walked_some, walked_start}, Distinct.{Distinct, clear_front, distinct}}
pub use Rattle.tree_handles.proofs.{Distinct.{distinct_parts, other_id}, Forests.{all-join, arity-join, arity-tree_nth, bytes_in-join, flatten-join, keeps_after, nodes-flatten, refuses_after}}
pub use Rattle.tree_handles.proofs.{Refused.{kept_same as keeps_none}, Given.{given_handed, given_other, given_root, given_told, owned}, Lasts.{ends_at, ends_without, last_held, last_rest, last_root}}
pub use Rattle.tree_handles.proofs.{Lasts.{last_tree, other_tree, tree_of_root}, Measures.{before, few_in, one_at}, Outcomes.{by_test}}
pub use Rattle.tree_handles.proofs.{Plains.{alone, depth-plain, grown_whole, nodes-plain, size-plain}, Visiting.{found, found-join, next_is, no_visit, seen, some_next, visit_here, visits_left}}
pub use Rattle.tree_handles.proofs.{Room.{given_free, released_free}, Joins.{holds-left, holds-right, kids_of-join_right, tree_at-join_left, with_kids-join_right}, Parts.{live_node}}
pub use Rattle.tree_handles.proofs.{ForestLists.{no_trees}, Fronts.{starts_join, starts_same, starts_without}, Readings.{symbol_seen}, Places.{used_forest}}
pub use Rattle.tree_handles.specs.{Expressions.{AllExpressions, IsExpression, IsWhole, children_of, compound, grown, nth, plain, plains, takes}, Forest.{Forest, Label, arity, bytes_in, depth_in}}
pub use Rattle.tree_handles.specs.{Forest.{empty, flatten, join, kids, nodes_in, root_count, root_id, root_payload, set_nth, tree, tree_nth}, Roots.{without_root}, declared.visits.Visit.{Visit}}
pub use Rattle.tree_handles.specs.{Handed.{AllOnce, Ends, Gives, IsHanded, IsOnce, IsOwned, KeepsFront, tree_of}, Inside.{holds, kids_of, payload_in, tree_at, with_kids}}
pub use Rattle.tree_handles.specs.{Standing.{IsRefused, KeepsRefusals, Refuses, Stands, forest}, Visits.{AreFound, visits_of}}
pub use Rattle.tree_walks.specs.{Replacing.{occurrences, replaced, replaced_in, replacing}, Walks.{AreFirst, IsLeafAt, PutsCopy, has_name, leaves_of}, Laws.{BytesOfReplaced, NamesOfReplaced}}
pub use Rattle.tree_walks.specs.Laws.{OccursWhereNamed, StaysWhereAbsent}
