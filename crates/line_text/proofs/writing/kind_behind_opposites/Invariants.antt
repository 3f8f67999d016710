use Rattle.line_text.proofs.Shared.{◌≡◌, tree_at, forest, visits_of, first_kind}
use Rattle.line_text.proofs.writing.kind_behind_opposites.Given as goal

abbrev pub invariant-loop-node : goal.invariant-loop-node
invariant-loop-node l = first_kind (visits_of (tree_at l.fn.id (forest l.fn.pool))) ≡ first_kind l.node-iterator
