-- The first Number among the factors, which the others are multiplied into.
use Rattle.std.specs.Prelude.{ℕ, List, ◌≡◌, ◌≤◌, true}
use Rattle.calc_terms.specs.{Fits.{mul_op}, Trees.{Tree, mult, Trees, append, count, are_rationals, sizes}}
use Rattle.calc_algebra.specs.{Numbers.{is_number, value}, Reduced.{are_reduced}, SquareClasses.{Same}}
use Rattle.calc_bits.specs.Masses.{IsHeld}
use Rattle.calc_measures.specs.PlainValues.{plain_value}
use Rattle.calc_room.specs.Spans.{SpansTree, SpansTrees}
use Rattle.like_children.specs.{Children.{LeavesChildren}, Folds.{AreFolded}}
use Rattle.tree_handles.specs.{Expressions.{plain}, Forest.{Forest}, Roots.{root_tree}}
use Rattle.product_reduce.specs.{Bits.{AreFactorsHeld}, Factors.{numbers_in, others_in, product_of_values}}

-- a Number that is worth these multiplied, and is held by what holds them one by one
pub record IsProductOf (ns : Trees) (d : Tree) : Type 0 where
  pub worth : Same (value d) (product_of_values ns)
  pub held : (h l : ℕ) → AreFactorsHeld ns h l → IsHeld (value d) h l

-- the first Number of ts, and 1 where there is none; us are the factors that are left
pub record IsBegun (ts us : Trees) (d : Tree) : Type 0 where
  pub number : is_number d ≡ true
  pub first : Trees
  pub is : numbers_in ts ≡ append first (numbers_in us)
  pub some : 1 ≤ count (numbers_in us) → 1 ≤ count first
  pub product : IsProductOf first d
  pub others : others_in us ≡ others_in ts
  pub reduced : are_reduced us ≡ true
  pub fewer : sizes us ≤ sizes ts
  pub spanned : (gs : List ℕ) → SpansTrees gs ts → SpansTree gs d × SpansTrees gs us
  pub folded : are_rationals ts ≡ true → 1 ≤ count ts → AreFolded mul_op (plain_value (mult ts)) d us

-- it stands beside what is left of a product
pub record IsUnderway (i : ℕ) (ts : Trees) (old new : Forest) (h : ℕ) : Type 0 where
  pub us : Trees
  pub left : LeavesChildren i us old new h
  pub begun : IsBegun ts us (plain (root_tree h new))
