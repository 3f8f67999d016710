-- Steps over nodes.
use Rattle.tree_handles.proofs.Shared.{arith, ◌≡◌, ℕ, ◌≤◌, List, [], sym, ap, ◌∙◌, Node, used, since, since_end, skip}

skip_nil : (k : ℕ) → skip k [] ≡ []
skip_nil k = grind arith

pub owed_end : (ns : List Node) (at owed : ℕ) → used ns ≤ at → skip owed (since at ns) ≡ since at ns
owed_end ns at owed h = ap (skip owed) (since_end at ns h) ∙ skip_nil owed ∙ sym (since_end at ns h)
