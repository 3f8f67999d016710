-- The names that the proofs share.
pub use Rattle.calc_algebra.proofs.TreeOrderLaws.{tree_cmp_equal, tree_cmp_refl, tree_cmp_same, tree_cmp_total}
pub use Rattle.calc_algebra.specs.{Reduced.{product_tree}, TreeOrder.{tree_cmp, trees_cmp}}
pub use Rattle.calc_terms.proofs.SmallLaws.{then-equal}
pub use Rattle.calc_terms.specs.{Fractions.{fraction_cmp}, Leaf.{name_of}, Name.{before_zero}, Payload.{Payload, bare, kind_of_payload}, Rat.{ratio_of, value_of}, Ratio.{IsRat}, Trees.{Tree, Trees}}
pub use Rattle.calc_terms.specs.{Trees.{add, append, count, div, is_mult, more, mult, neg, none, num, power, root, root_code, sub, symbol, undef}, declared.rat.Rat.{Rat}}
pub use Rattle.node_order.specs.{Fronts.{IsFront, Shows}, Keys.{IsKey, key_tree, trees_behind}, Picking.{picked, picked_behind}, Ranking.{place_cmp, ranked_tree}, Roots.{payload_cmp, value_cmp}}
pub use Rattle.node_order.specs.{Sorting.{IsSorting, KeepsTies, SortsChildren, list_of}, declared.comparing.Pairs.{Pairs}, declared.fronts.Front.{Front}, declared.keys.Key.{Key}}
pub use Rattle.node_pool.specs.State.{State}
pub use Rattle.rational128.proofs.{LowestTerms.{ratio_parts}, Signed.{told}}
pub use Rattle.std.proofs.Common.{All, Bool, Bor, IsPermutation, List, None, Option, Some, [], add-one, ap, append-nil, append_assoc, arith, cond, drop, drop-cons, eq-eqb, eqb, eqb-true, false}
pub use Rattle.std.proofs.Common.{get_or, inl, length, map, min, not, of_z, pos, refl, replicate, rules, slice_index_or, subst, suc, sum_by, sym, take, to_z, true, true≢false, zero, zero-add, ℕ, ℤ}
pub use Rattle.std.proofs.{Common.{⊎_elim, ◌&&◌, ◌*ℤ◌, ◌++◌, ◌+◌, ◌-◌, ◌<◌, ◌==◌, ◌^◌, ◌∙◌, ◌∷◌, ◌≡◌, ◌≢◌, ◌≤◌}, Math.ListN.{set}, Math.Seq.{drop-append_seam, set-append_seam, take-append_seam}}
pub use Rattle.std.proofs.{lemmas.Bool.{cases_eq, cases_lt, ne_eqb}, lemmas.Fn.{always_returns_same}, lemmas.Int.{ints}, lemmas.Iterator.{YieldsList}, lemmas.Iterator.Consumers.{YieldsList-end}}
pub use Rattle.std.proofs.{lemmas.Iterator.Consumers.{YieldsList-from_enumerate, YieldsList-from_first, YieldsList-turn}, lemmas.List.{ext_get_or, get_or-map, get_or-set_other, get_or-set_same}}
pub use Rattle.std.proofs.lemmas.List.{get_or-take, length-append, length-map, length-replicate, length-set, length-take-le, map-append, map-id, set-get_or, set-set, take-append-drop, take-set-le}
pub use Rattle.std.proofs.{lemmas.List.{take_all, take_more, take_more_set}, lemmas.List.Edits.{length-swap, swap_is, swapped_from_swap}}
pub use Rattle.std.proofs.{lemmas.List.Elements.{All-cons, All-get_or, All-head, All-nil, All-tail}, lemmas.List.FromFn.{fill_by_all, get_or-enumerate_from, get_or-range_with_len}}
pub use Rattle.std.proofs.{lemmas.List.FromFn.{length-enumerate_from, length-range_with_len}, lemmas.List.Sorted.{All-permutation, IsPermutation-keeps, IsPermutation-map, IsPermutation-sym}}
pub use Rattle.std.proofs.{lemmas.List.Sorted.{IsPermutation-trans, length_permutation, ranks_by, sorted_far, sum_by-IsPermutation}, lemmas.List.Sums.{sum_by-cons}, lemmas.Slice.Eq.{bytes_eq-Decides}}
pub use Rattle.std.specs.{Cmp.{IsStrictWeakOrder, IsTotalOrder, nat_cmp_total, on_total, then_total}, Cmp.Lexicographic.{slice_cmp}, Fn.{Called, ComparesAs}, Int.{w128}}
pub use Rattle.std.specs.{Iterator.{Yields, YieldsFirst}, Iterator.Adapters.{enumerate_count, enumerate_source, enumerate_steps}, List.{enumerate_from, filter, range_with_len, swap}}
pub use Rattle.std.specs.{List.Sorted.{IsSorted, IsSortedBy, IsSortedByKey, IsStableByKey}, Ordering.{int_cmp, is_lt, nat_cmp, ordering_index, ordering_reverse, ordering_then}}
pub use Rattle.std.specs.{declared.cmp.Ordering.{Ordering}, declared.cmp.Ordering.TheVariants.{Equal, Greater, Less}, declared.iter.Enumerate.{Enumerate}}
pub use Rattle.tree_handles.proofs.{ChildPlaces.{IsSeenChild, seen_child}, Counted.{all-kids, all-tree_nth}, ForestLists.{length-root_ids, rest-once_more, rest-rest, root_ids-nth}}
pub use Rattle.tree_handles.proofs.Forests.{all-first_trees, all-join, all-rest_trees, arity-first_trees, arity-join, arity-rest_trees, arity-tree_nth, first-rest, join_assoc, keeps_after}
pub use Rattle.tree_handles.proofs.{Forests.{nodes-flatten}, Refused.{kept_same as keeps_none}, Lasts.{expression_root, kids_of_root}, Measures.{few_in, one_at}, Nths.{first_trees-behind}}
pub use Rattle.tree_handles.proofs.{Nths.{set_nth-behind, swapped_nth-same, tree_nth-behind}, Plains.{IsGrown, alone, children_of-plain, count-plains, grown_whole, plain-tree_nth, plains-join}}
pub use Rattle.tree_handles.proofs.{Plains.{whole_kids}, Readings.{expression_children}, Releases.{arity_le, rest_trees-add}, Roots.{kids-put, put-put, put-same, root-put}, Visiting.{found}}
pub use Rattle.tree_handles.proofs.Visiting.{found-first_trees, found-join, found-kids, found-rest_trees, seen, visits-first_rest, visits-join, visits_length}
pub use Rattle.tree_handles.specs.{Children.{AreSiblings, IsChildAt, root_ids}, Expressions.{AllExpressions, IsExpression, IsWhole, children_of, grown, nth, plain, plains, takes}, Forest.{AllNodes}}
pub use Rattle.tree_handles.specs.Forest.{Forest, Label, arity, empty, first_trees, join, kids, node_of, nodes_in, rest_trees, root_id, set_nth, swapped_nth, tree, tree_nth}
pub use Rattle.tree_handles.specs.{Handed.{AllOnce, IsOnce}, Inside.{holds, kids_of, payload_in, tree_at}, Roots.{has_root, put, root_tree}, Standing.{KeepsRefusals, Stands, forest}}
pub use Rattle.tree_handles.specs.{Visits.{AreFound, visits_of}, declared.visits.Visit.{Visit}}
pub use denote.Param.Members.{Mut}
