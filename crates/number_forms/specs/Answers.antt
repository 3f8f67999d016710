-- What calls on Numbers answer.
use Rattle.std.specs.Prelude.{ℕ, ◌≡◌, true, Result, Ok, Err}
use Rattle.calc_algebra.specs.{Numbers.{is_number, value}, SquareClasses.{Same}, Surds.{Surd, surd_power}}
use Rattle.calc_measures.specs.{PlainValues.{PlainValue}, PlainTrees.{IsPlainAnswer, IsPlainOverflow}}
use Rattle.calc_bits.specs.{Bounds.{SharesPowers}, Denominators.{SharesDenominators}}
use Rattle.calc_terms.specs.Trees.{Tree}
use Rattle.node_pool.specs.State.{State}
use Rattle.tree_handles.specs.{Causes.{LacksLongForm}, Handed.{tree_of}, declared.fault.NumberFault.{NumberFault}}
use Rattle.tree_handles.specs.declared.fault.NumberFault.TheVariants as fault

-- a Number that is worth v
pub record IsNumberOf (v : Surd) (t : Tree) : Type 0 where
  pub number : is_number t ≡ true
  pub worth : Same (value t) v

-- such a Number over the common denominators of v
pub record IsNumberOver (v : Surd) (t : Tree) : Type 0 where
  pub number : is_number t ≡ true
  pub worth : Same (value t) v
  pub parts : SharesDenominators v (value t)

-- a Number that is worth the n-th power of v, over the n-th powers of the common denominators of v
pub record IsPowerOver (v : Surd) (n : ℕ) (t : Tree) : Type 0 where
  pub number : is_number t ≡ true
  pub worth : Same (value t) (surd_power v n)
  pub parts : SharesPowers v n (value t)

-- the answer of a call on rationals: the rational where the operation fits, its overflow with these operands where it doesn't, and bytes are lacking only for a number in the long form
abbrev pub AnswersRationals : PlainValue → State → Result ℕ NumberFault → Type 0
AnswersRationals v new (Ok h) = IsPlainAnswer v (tree_of h new)
AnswersRationals v new (Err (fault.Full full)) = LacksLongForm full
AnswersRationals v new (Err (fault.Overflow o)) = IsPlainOverflow v o
