-- The names that the proofs share.
pub use Rattle.calc_algebra.proofs.EasyLaws.{bad_part}
pub use Rattle.calc_algebra.specs.{BadAndEasy.{IsEasy}, Reduced.{is_reduced}}
pub use Rattle.calc_measures.specs.{PlainTrees.{IsPlainAnswer}, PlainValues.{plain_value}}
pub use Rattle.calc_terms.proofs.Sizes.{payload_least}
pub use Rattle.calc_terms.specs.{Fractions.{Fraction}, Payload.{Payload, size_of_payload}, Trees.{Tree, itself, nodes, num, symbol, undef}}
pub use Rattle.node_pool.specs.State.{State, free_of}
pub use Rattle.reduce_port.specs.EasyTrees.{Evaluates, HasEasyBadPart}
pub use Rattle.std.proofs.Common.{Bool, List, [], ap, arith, false, if◌then◌else◌, suc, true, zero, ℕ, ◌+◌, ◌<◌, ◌≡◌, ◌≤◌}
pub use Rattle.std.specs.Prelude.{◌==◌}
pub use Rattle.tree_handles.proofs.{Forests.{bytes_in-join, first-rest}, Places.{used_forest}}
pub use Rattle.tree_handles.specs.{Handed.{Ends, KeepsFront}, Forest.{Forest, arity, bytes_in, empty, first_trees, join, kids, merged_nth, rest_trees, tree, tree_nth, without_nth}}
pub use Rattle.tree_handles.specs.{Standing.{KeepsRefusals, Stands, forest}, Roots.{has_root, put, root_tree}, Expressions.{plain}}
