-- The names that the proofs share.
pub use Rattle.calc_terms.specs.Trees.{Tree, is_undef, root_kind, undef}
pub use Rattle.line_text.specs.Content.{spare_of}
pub use Rattle.std.proofs.Common.{ap, arith, false, refl, rules, ◌∙◌, ◌≡◌, ◌≢◌}
pub use Rattle.tree_handles.proofs.{Lasts.{expression_root, plain_root}, Given.{given_handed, given_told}, Roots.{root_held}}
