-- The names that the proofs share.
pub use Rattle.calc_language.specs.Texts.{AreWritable}
pub use Rattle.calc_terms.proofs.{SmallLaws.{behind, in_front, where_in}, Sizes.{root_most}}
pub use Rattle.calc_terms.specs.{Leaf.{name_of}, Trees.{Tree, Trees, add, append, depth, depths, div, more, mult, neg, nodes, nodes_of, none, num, power, root, root_size, size, sizes, sub, symbol}}
pub use Rattle.name_table.specs.Filling.{FaultsFilling, Filling, LacksNames, NamedTree, depth_limit, filled, filling, filling_one, fills, lacks, refused_filling, too_deep, value_in, values}
pub use Rattle.name_table.specs.Held.{AreCountedBy, AreDistinctNames, AreRoots, HasEntries, HoldLaterNames, IsHeld, counted_by, held_by, holders_in}
pub use Rattle.name_table.specs.{Slots.{AreUsed, entry_of, released_under, root_in}, Storing.{IsKeepable, IsStorable, name_in, names_with}, Tables.{Entry, Table, entries, first_table, has_entry}}
pub use Rattle.name_table.specs.{Tables.{has_room_for, holders, name_limit, table_names, tree_under, with_answer, without_entry, without_name}, declared.table.Slot.{Slot}}
pub use Rattle.name_table.specs.declared.fault.FillFault.{FillFault}
pub use Rattle.node_pool.specs.{declared.full.Full.{Full}, State.{State, free_of}}
pub use Rattle.std.proofs.Common.{All, Bool, Err, IsSome, List, None, Ok, Option, Result, Some, [], ap, arith, codes, cond, drop, drop-cons, eqb, false, get_or, inl, inr, leb, length, ltb, map}
pub use Rattle.std.proofs.{Common.{nat_lt, refl, rules, slice_get, subst, suc, sym, true, zero, ℕ, ◌*◌, ◌++◌, ◌+◌, ◌-◌, ◌<◌, ◌∙◌, ◌∷◌, ◌≡◌, ◌≢◌, ◌≤◌, ◌⊎◌}, lemmas.Bool.{eq-eqb, eqb-false, eqb-true}}
pub use Rattle.std.proofs.{lemmas.Bool.{le-leb, leb-false, leb-true, ltb-false, ltb-true, ne_eqb}, lemmas.List.{drop_all, length-append, length-map, map-append}, lemmas.Result.{err_from_is_err_and}}
pub use Rattle.std.proofs.{lemmas.Slice.Eq.{bytes_eq-Decides}, lemmas.List.Elements.{All-head, All-tail, Contains-append_cases}, lemmas.Nat.{mul-le}, lemmas.List.Quantifiers.{position-Some}}
pub use Rattle.std.proofs.lemmas.Iterator.Adapters.{position_from-zero}
pub use Rattle.std.specs.{Str.{bytes_eq}, Prelude.{Contains, IfErr, IfOk, IfSome, is_some, not, position, remove, ⊤, ◌||◌}, List.{position_from}}
pub use Rattle.tree_handles.proofs.{Distinct.{Distinct, distinct, distinct_parts, tree_at-root}, Forests.{all-join, keeps_after}, Given.{given_handed, given_rest, given_root, given_told, gives_as}}
pub use Rattle.tree_handles.proofs.{Refused.{kept_same as keeps_none}, Outcomes.{by_test}, Lasts.{expression_root, last_held, last_root, last_tree, other_root, other_tree, plain_root, tree_of_root}}
pub use Rattle.tree_handles.proofs.{Roots.{no_root, root-left, root_held, tree-left}, Fronts.{IsBehind, front_after_one, front_same, not_first, starts_without}, Counted.{all-root_tree}}
pub use Rattle.tree_handles.proofs.{Plains.{alone, plains-join}, Seen.{expression}, Held.{released-once}}
pub use Rattle.tree_handles.specs.{Expressions.{AllExpressions, IsExpression, IsWhole, plain, plains}, Forest.{Forest, Label, arity, empty, join, root_count, root_id, tree}}
pub use Rattle.tree_handles.specs.{Handed.{AllOnce, Gives, KeepsFront, tree_of}, Inside.{count_of, holds, released, released_in, tree_at, with_count_in}, Roots.{has_root, root_tree, without_root}}
pub use Rattle.tree_handles.specs.Standing.{KeepsRefusals, Stands, forest}
pub use Rattle.tree_walks.proofs.{Filling.{IsDone}, Absent.{absent}, Composing.{bytes_of_replaced, names_of_replaced}, Shallow.{depth_within}}
pub use Rattle.tree_walks.specs.Replacing.{occurrences, replaced, replaced_in, replacing}
