-- What one step on a node makes of it.
use Rattle.std.specs.Prelude.{ℕ, Result, Ok, Err, ⊤}
use Rattle.calc_measures.specs.{PlainValues.{PlainValue}, PlainTrees.{IsPlainAnswer, IsPlainOverflow}}
use Rattle.node_pool.specs.State.{State}
use Rattle.tree_handles.specs.{Causes.{LacksLongForm}, Handed.{tree_of}}
use Rattle.reduce_port.specs.declared.step.Step.{Step}
use Rattle.reduce_port.specs.declared.step.Step.TheVariants as step
use Rattle.tree_handles.specs.declared.fault.NumberFault.{NumberFault}
use Rattle.tree_handles.specs.declared.fault.NumberFault.TheVariants as fault

-- a fact of the reduced tree
abbrev pub IfDone : Step → (ℕ → Type 0) → Type 0
IfDone (step.Done h) P = P h
IfDone (step.Again h) P = ⊤

-- a fact of the tree that is to be reduced on
abbrev pub IfAgain : Step → (ℕ → Type 0) → Type 0
IfAgain (step.Done h) P = ⊤
IfAgain (step.Again h) P = P h

-- a step on rationals: the plain value where it is a rational or Undef, its overflow where it is one, and bytes are lacking only for a number in the long form
abbrev pub AnswersRationalStep : PlainValue → State → Result Step NumberFault → Type 0
AnswersRationalStep v new (Ok (step.Done h)) = IsPlainAnswer v (tree_of h new)
AnswersRationalStep v new (Ok (step.Again h)) = ⊥
AnswersRationalStep v new (Err (fault.Full full)) = LacksLongForm full
AnswersRationalStep v new (Err (fault.Overflow o)) = IsPlainOverflow v o
