-- The expanded children of a node.
use Rattle.expand_forms.proofs.Shared.{◌<◌, ℕ, zero, suc, arith, Trees, none, more, count, AreExpanded, IsExpanded, nth}

pub expanded_nth : (n : ℕ) (ts : Trees) → AreExpanded ts → n < count ts → IsExpanded (nth n ts)
expanded_nth n none h l = absurd (omega (arith, l))
expanded_nth zero (more t ts) h l = h.0
expanded_nth (suc n) (more t ts) h l = expanded_nth n ts h.1 (omega (arith, l))
