-- Rationals calculated from left to right by one operation.
use Rattle.std.specs.Prelude.{ℕ, ◌≡◌, true, List, [], ◌∷◌, Result, Ok, Err}
use Rattle.calc_measures.specs.{PlainTrees.{IsPlainOverflow}, PlainValues.{PlainValue, exactly, fold_values}}
use Rattle.calc_terms.specs.{Fits.{Operation}, Fractions.{Fraction, zero_fraction}, Trees.{Tree, num, Trees, none, more, is_num, are_rationals}}
use Rattle.node_pool.specs.State.{State}
use Rattle.tree_handles.specs.{Causes.{LacksLongForm}, Handed.{tree_of}, declared.fault.NumberFault.{NumberFault}}
use Rattle.tree_handles.specs.declared.fault.NumberFault.TheVariants as fault

-- the rational of a Num, and 0 for any other tree
abbrev pub rational_of : Tree → Fraction
rational_of (num q) = q
rational_of _ = zero_fraction

abbrev pub rationals_of : Trees → List Fraction
rationals_of none = []
rationals_of (more t ts) = rational_of t ∷ rationals_of ts

-- that plain value is the rational of d with those of us, from left to right, up to an overflow
pub record AreFolded (op : Operation) (v : PlainValue) (d : Tree) (us : Trees) : Type 0 where
  pub rational : is_num d ≡ true
  pub rationals : are_rationals us ≡ true
  pub plain : v ≡ fold_values op (rational_of d) (rationals_of us)

-- a rational that is that plain value
pub record IsTotal (v : PlainValue) (t : Tree) : Type 0 where
  pub q : Fraction
  pub plain : v ≡ exactly q
  pub is : t ≡ num q

-- a total is answered where rationals have one, else the first overflow, or bytes are lacking for a number in the long form
abbrev pub AnswersTotal : PlainValue → State → Result ℕ NumberFault → Type 0
AnswersTotal v new (Ok h) = IsTotal v (tree_of h new)
AnswersTotal v new (Err (fault.Full full)) = LacksLongForm full
AnswersTotal v new (Err (fault.Overflow o)) = IsPlainOverflow v o
