-- The names that the proofs share.
pub use Rattle.calc_algebra.specs.{Reduced.{are_reduced, is_reduced}, Numbers.{is_number}}
pub use Rattle.calc_room.proofs.TreeBytes.{term_is_number}
pub use Rattle.calc_terms.specs.{Trees.{count}, Node.{size_of_header}}
pub use Rattle.like_children.proofs.Places.{count_inserted, reduced_inserted}
pub use Rattle.node_pool.proofs.{Walk.{starts}, Cuts.{step}}
pub use Rattle.node_pool.specs.Places.{IsBoundary}
pub use Rattle.number_forms.proofs.Pairs.{first_handed, first_told, pair_apart, pair_rest, rational_test}
pub use Rattle.std.proofs.Common.{ap, arith, inl, refl, subst, sym, true, ℕ, ◌+◌, ◌∙◌, ◌≡◌, ◌≤◌}
pub use Rattle.sum_reduce.proofs.{Tested.{empty_sum, empty_terms, placed, symbol_monic}, Sums.{put_in, roots_apart}}
pub use Rattle.sum_reduce.specs.Sums.{IsSum, terms_in}
pub use Rattle.tree_handles.proofs.{Lasts.{expression_root}, Given.{given_handed, given_rest, given_root, given_told, gives_as, handed_at, owned}, Roots.{root-put, root_held}}
pub use Rattle.tree_handles.specs.{Handed.{Gives, tree_of}, Standing.{Stands, forest}, Roots.{has_root}}
