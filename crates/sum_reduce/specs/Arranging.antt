-- Terms in order.
use Rattle.std.specs.Prelude.{◌≡◌, ⊤, true, IsSortedByKey, Result, Ok, Err}
use Rattle.calc_terms.specs.{Fractions.{Fraction}, Trees.{num, Trees, none, more, append, count}}
use Rattle.calc_algebra.specs.{Numbers.{is_number}, Reduced.{part_of, NoneIs}, TreeOrder.{tree_cmp}}
use Rattle.calc_measures.specs.{PlainValues.{PlainValue, exactly}, PlainTrees.{IsPlainOverflow}}
pub use Rattle.like_children.specs.Folds.{IsTotal}
use Rattle.like_children.specs.Neighbours.{NoPairBetween}
use Rattle.node_order.specs.Sorting.{list_of}
use Rattle.tree_handles.specs.{Causes.{LacksLongForm}, declared.fault.NumberFault.{NumberFault}}
use Rattle.tree_handles.specs.declared.fault.NumberFault.TheVariants as fault
use Rattle.sum_reduce.specs.{Stages.{IsStage}, Terms.{is_loose, is_partner}}

-- no tree, or one Number
abbrev pub IsLead : Trees → Type 0
IsLead none = ⊤
IsLead (more t none) = is_number t ≡ true
IsLead _ = ⊥

-- a Number or none, and then terms that are no Numbers
pub record IsLed (ts : Trees) : Type 0 where
  pub lead : Trees
  pub others : Trees
  pub split : ts ≡ append lead others
  pub one : IsLead lead
  pub no_number : NoneIs is_number others

-- the Numbers became one
pub record IsNumbered (ts us : Trees) : Type 0 where
  pub stage : IsStage ts us
  pub led : IsLed us
  pub no_sum : NoneIs is_loose ts → NoneIs is_loose us

-- a Number or none, and then terms that are no Numbers and no sums, whose parts do not fall
pub record IsArranged (ts : Trees) : Type 0 where
  pub lead : Trees
  pub others : Trees
  pub split : ts ≡ append lead others
  pub one : IsLead lead
  pub no_number : NoneIs is_number others
  pub no_sum : NoneIs is_loose others
  pub rising : IsSortedByKey part_of tree_cmp (list_of others)

-- terms in order, no two with identical parts
pub record IsSettled (ts : Trees) : Type 0 where
  pub arranged : IsArranged ts
  pub apart : NoPairBetween is_partner 0 (count ts) ts

-- one rational, which is that plain value
pub record IsFolded (v : PlainValue) (ts : Trees) : Type 0 where
  pub q : Fraction
  pub plain : v ≡ exactly q
  pub is : ts ≡ more (num q) none

-- terms are answered where rationals fold to one, else the first overflow, or bytes are lacking for a number in the long form
abbrev pub AnswersFold : PlainValue → Trees → Result Unit NumberFault → Type 0
AnswersFold v ts (Ok u) = IsFolded v ts
AnswersFold v ts (Err (fault.Full full)) = LacksLongForm full
AnswersFold v ts (Err (fault.Overflow o)) = IsPlainOverflow v o
