-- What stands in the place of a product or a power once some of its parts are reduced, and what it keeps of the bounds.
use Rattle.std.specs.Prelude.{ℕ, List, ◌≡◌, ◌≤◌}
use Rattle.calc_room.specs.Counts.{counted}
use Rattle.calc_terms.specs.Trees.{Tree, mult, power, Trees, none, more}
use Rattle.node_bounds.specs.{Answers.{IsReducedProduct, IsReducedPower}, Rooms.{IsCalmAtZero, KeepsRoom}}
use Rattle.power_reduce.specs.PowerAnswers.{base_in, exponent_in}
use Rattle.product_reduce.specs.Bits.{AreFactorsHeld}
use Rattle.sum_reduce.specs.{Bounds.{KeepsSumBounds}, SumAnswers.{IsSumAnswer}}
use Rattle.tree_room.specs.Handed.{product_count}

-- a power whose exponent was a sum of these, and is reduced
pub record IsSummed (b : Tree) (ts : Trees) (t : Tree) : Type 0 where
  pub exponent : Tree
  pub sum : IsSumAnswer ts exponent
  pub bounds : KeepsSumBounds ts exponent
  pub is : t ≡ power b exponent

-- a power whose exponent is a product of these, and is reduced
pub record IsMultiplied (b : Tree) (ts : Trees) (t : Tree) : Type 0 where
  pub exponent : Tree
  pub product : IsReducedProduct ts exponent
  pub is : t ≡ power b exponent

-- a tree whose exponent is reduced, if it is a product
abbrev pub IsLifted : Tree → Tree → Type 0
IsLifted (power b (mult ts)) u = IsMultiplied b ts u
IsLifted t u = u ≡ t

-- each power of one list is reduced in the other
abbrev pub AreReducedPowers : Trees → Trees → Type 0
AreReducedPowers none none = Unit {0}
AreReducedPowers (more t ts) (more u us) = IsReducedPower (base_in t) (exponent_in t) u × AreReducedPowers ts us
AreReducedPowers _ _ = ⊥

-- a product whose powers are reduced
pub record IsProductOfPowers (ts : Trees) (t : Tree) : Type 0 where
  pub factors : Trees
  pub are : AreReducedPowers ts factors
  pub is : t ≡ mult factors

-- Where the first product is calm, no more is handed on of it, and nothing that is not calm or not spanned; and what is handed on is
-- held by the same bits.
pub record HandsOn (ts us : Trees) : Type 0 where
  pub counts : (ns : List (List ℕ)) → IsCalmAtZero ns (mult ts) → product_count us ≤ product_count ts
  pub room : KeepsRoom (counted (mult ts)) (mult ts) (mult us)
  pub held : (h l : ℕ) → AreFactorsHeld ts h l → AreFactorsHeld us h l
