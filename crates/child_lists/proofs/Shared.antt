-- The names of other crates that the proofs share.
pub use Rattle.calc_terms.specs.{Payload.{Payload, bare}, Trees.{Tree, Trees, add, count, is_add, more, none, size, sizes}}
pub use Rattle.child_lists.specs.{Changes.{removed}, Lists.{IsNextAt, Lists, listed, told, with_child, with_other, without_child}}
pub use Rattle.node_pool.proofs.Ids.{eqb_sym as eqb-sym}
pub use Rattle.node_pool.specs.State.{State, free_of}
pub use Rattle.std.proofs.Common.{Bool, List, None, Option, Some, [], ap, append_assoc, arith, false, get_or, if◌then◌else◌, inl, leb, length, length-append, ltb, refl, rules, slice_set, subst, suc}
pub use Rattle.std.proofs.{Common.{sym, true, zero, ℕ, ◌++◌, ◌<◌, ◌∙◌, ◌∷◌, ◌≡◌, ◌≤◌}, lemmas.Bool.{eqb-false, eqb-true, le-leb, lt-leb}}
pub use Rattle.std.specs.List.{insert, remove}
pub use Rattle.tree_handles.proofs.{Adopting.{next_adopted}, ChildPlaces.{seen_child}, ForestLists.{root_ids-nth}, Forests.{all-first_trees, all-join, all-rest_trees, arity-tree_nth}}
pub use Rattle.tree_handles.proofs.{FreeBytes.{replaced_free}, Fronts.{behind_first, behind_later, front_at, front_put, front_same, front_without}, Given.{given_handed, given_other, given_rest}}
pub use Rattle.tree_handles.proofs.{Given.{given_root, given_same, given_told, gives, gives_as, represents_as, represents_handed, represents_with}, Joins.{kids_of-join_left}, Lasts.{apart, ends_as}}
pub use Rattle.tree_handles.proofs.Lasts.{ends_at, ends_without, expression_root, kids_of_root, last_put, last_rest, last_root, last_tree, other_apart, other_handed, other_root, other_tree}
pub use Rattle.tree_handles.proofs.{Lasts.{plain_root}, Nths.{with_nth-without_nth}, Outcomes.{by_test}, Plains.{alone, children_of-plain, count-plains, plain-tree_nth, whole_kids}}
pub use Rattle.tree_handles.proofs.{Refused.{kept_after}, Roots.{kids-put, root-put, root_held}, Seen.{expression, seen}}
pub use Rattle.tree_handles.specs.{Children.{IsChildAt, root_ids}, Expressions.{AllExpressions, IsExpression, IsWhole, children_of, grown, inserted, nth, plain, plains, takes}, Forest.{Forest, Label}}
pub use Rattle.tree_handles.specs.{Forest.{arity, empty, kids, rest_trees, root_id, set_nth, tree, tree_nth, with_nth, with_root_kids, without_nth}, Handed.{AllOnce, Ends, Gives, IsHanded, IsOnce}}
pub use Rattle.tree_handles.specs.{Handed.{IsOwned, Represents, tree_of}, Inside.{kids_of, tree_at}, Roots.{adopted, has_root, put, root_tree, without_root}, Standing.{KeepsRefusals, Stands, forest}}
