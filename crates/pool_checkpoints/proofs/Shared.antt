-- The names that the proofs share.
pub use Rattle.calc_terms.specs.Node.{Node}
pub use Rattle.node_pool.proofs.Sizes.{size_from}
pub use Rattle.node_pool.specs.{State.{State}, Nodes.{encodings, place_of, used}}
pub use Rattle.pool_checkpoints.specs.{Marks.{IsBelow}, Laws.{MarksNest, PoolsAreRestored}}
pub use Rattle.std.proofs.Common.{List, ap, arith, refl, replicate, sym, ℕ, ◌++◌, ◌-◌, ◌∙◌, ◌≡◌, ◌≤◌}
pub use Rattle.tree_handles.proofs.{Forests.{join-empty}, Places.{used_forest}}
pub use Rattle.tree_handles.specs.{Handed.{AreNoRoots, KeepsFront, Starts}, Forest.{Forest, bytes_in, empty, first_trees, flatten, join, node_of, rest_trees, tree}, Standing.{Stands, forest}}
