-- Whether the pool counts a refusal that is answered.
use Rattle.std.specs.Prelude.{ℕ, ◌≡◌, ◌⊎◌, List, Option, Some, None, IfSome}
use Rattle.calc_commands.specs.Commands.{Asked, IsCommandLine, diff}
use Rattle.calc_terms.specs.Trees.{Tree}
use Rattle.node_pool.specs.declared.full.Full.{Full}
use Rattle.calc_session.specs.{Calculating.{ExpressionBecomes}, Deriving.{LacksDerivative}, States.{State}}

-- of what an expression becomes, with so many bytes left, a refusal is known before the pool is asked
pub record IsKnownOf (Known : ℕ → Tree → Full → Type 0) (old : State) (text : List ℕ) (refusal : Full) : Type 0 where
  pub tree : Tree
  pub becomes : ExpressionBecomes old text tree
  pub is_known : Known becomes.left tree refusal

-- what is asked for is a derivative that has more bytes than are left
abbrev pub LacksBytesFor : State → Asked → Full → Type 0
LacksBytesFor old (diff x text) refusal = IsKnownOf (LacksDerivative x) old text refusal
LacksBytesFor old a refusal = ⊥

-- the line asks for a derivative that has more bytes than are left
pub record AsksForTooMuch (old : State) (line : List ℕ) (refusal : Full) : Type 0 where
  pub asked : Asked
  pub asks : IsCommandLine line asked
  pub lacks : LacksBytesFor old asked refusal

-- A refusal is counted, where there is one; but one that is known before the pool is asked is not.
abbrev pub IsCountedBut : (Full → Type 0) → (Option Full → Type 0) → Option Full → Type 0
IsCountedBut IsKnown Counts refusal = (IfSome refusal (λ lack. ¬ (IsKnown lack)) × Counts refusal) ⊎ ((lack : Full) × (refusal ≡ Some lack) × IsKnown lack × Counts None)
