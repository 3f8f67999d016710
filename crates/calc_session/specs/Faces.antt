-- What is displayed of a reduced tree.
use Rattle.std.specs.Prelude.{ℕ, ◌≡◌, ◌<◌, ◌*◌, true, false}
use Rattle.calc_language.specs.Faces.{face}
use Rattle.calc_terms.specs.Trees.{is_undef, size}
use Rattle.node_pool.specs.State.{State, free_of}
use Rattle.tree_handles.specs.{Standing.{LacksBytes, forest}, Handed.{tree_of, Gives}, Roots.{without_root}}
use Rattle.calc_session.specs.declared.answers.Refusal.TheVariants as refusal
use Rattle.calc_session.specs.{declared.evaluating.Evaluation.{Evaluation}, declared.evaluating.Evaluation.TheVariants.{Face, Found, Undefined, Refused}}

-- The face of a tree stands in its place; or the tree is Undef; or bytes are lacking, and four times its own were not free.
abbrev pub Shows : ℕ → State → State → Evaluation → Type 0
Shows i old new (Face h) = (is_undef (tree_of i old) ≡ false) × Gives (without_root i (forest old)) (forest new) h (λ t. t ≡ face (tree_of i old))
Shows i old new Undefined = is_undef (tree_of i old) ≡ true
Shows i old new (Found _) = ⊥
Shows i old new (Refused (refusal.Full needed free)) = LacksBytes new (record { needed = needed; free = free }) × (free_of old < 4 * size (tree_of i old))
Shows i old new (Refused _) = ⊥
