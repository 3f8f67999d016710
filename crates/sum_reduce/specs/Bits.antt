-- Sums of addends by what holds them.
use Rattle.std.specs.Prelude.{ℕ, List, ◌++◌}
use Rattle.tree_bits.specs.{Children.{IsSumHeld}, HeldTrees.{Addend}, Rows.{AreFewBits}}

-- beside any others, what holds the first addends holds the second ones
pub record KeepsHeld (xs ys : List Addend) : Type 0 where
  pub keeps : (zs : List Addend) (h l : ℕ) → IsSumHeld (xs ++ zs) h l → IsSumHeld (ys ++ zs) h l

-- the addends are held within few bits
pub record HaveFewBits (xs : List Addend) : Type 0 where
  pub high : ℕ
  pub low : ℕ
  pub held : IsSumHeld xs high low
  pub few : AreFewBits high low
