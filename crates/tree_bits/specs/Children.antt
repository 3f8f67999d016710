-- Sums of several addends, and trees that are held by bits of their own.
use Rattle.std.specs.Prelude.{ℕ, ◌+◌, ◌^◌, ◌≤◌, ◌≡◌, max, ⊤, List, [], ◌∷◌, ◌++◌, false}
use Rattle.calc_measures.specs.Measures.{HighLow}
use Rattle.calc_terms.specs.Trees.{Trees, none, more, is_undef}
use Rattle.tree_bits.specs.{HeldTrees.{Addend, addends, IsTreeHeld, AreWeighted}, Weighted.{Weighted, AreHeld}}

-- the addends are held together, each with the bits of its part
pub record IsSumHeld (xs : List Addend) (h l : ℕ) : Type 0 where
  pub terms : List Weighted
  pub weighted : AreWeighted xs terms
  pub held : AreHeld terms h l

-- those of each tree
abbrev pub addends_of_each : Trees → List Addend
addends_of_each none = []
addends_of_each (more t ts) = addends t ++ addends_of_each ts

-- each tree is held by bits of its own, and none is Undef
abbrev pub AreTreesHeld : Trees → List HighLow → Type 0
AreTreesHeld none [] = ⊤
AreTreesHeld (more t ts) (b ∷ bs) = (is_undef t ≡ false) × IsTreeHeld t b.high b.low × AreTreesHeld ts bs
AreTreesHeld _ _ = ⊥

-- ---- bits of several trees

-- the sum of 2 to the power of each high
abbrev pub power_sum : List HighLow → ℕ
power_sum [] = 0
power_sum (b ∷ bs) = 2 ^ b.high + power_sum bs

abbrev pub largest_high : List HighLow → ℕ
largest_high [] = 0
largest_high (b ∷ bs) = max b.high (largest_high bs)

abbrev pub high_sum : List HighLow → ℕ
high_sum [] = 0
high_sum (b ∷ bs) = b.high + high_sum bs

abbrev pub low_sum : List HighLow → ℕ
low_sum [] = 0
low_sum (b ∷ bs) = b.low + low_sum bs

-- each high is at least 1
abbrev pub ArePositive : List HighLow → Type 0
ArePositive [] = ⊤
ArePositive (b ∷ bs) = (1 ≤ b.high) × ArePositive bs
