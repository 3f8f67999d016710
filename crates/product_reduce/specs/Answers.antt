-- What one step on a product makes of it.
use Rattle.std.specs.Prelude.{ℕ, ◌≡◌, ◌≤◌, ⊤, true, false, Result, Ok, Err}
use Rattle.calc_measures.specs.{Loads.{nest, nest_of, load, load_of_factors}, PlainValues.{PlainValue}}
use Rattle.calc_algebra.specs.{Numbers.{is_number, are_numbers}, Reduced.{NoneIs, base_of, are_reduced}}
use Rattle.calc_terms.specs.Trees.{Tree, mult, Trees, none, more, is_mult, is_undef, has_undef}
use Rattle.node_order.specs.Sorting.{IsSorting}
use Rattle.node_pool.specs.State.{State}
use Rattle.number_forms.specs.Readers.{is_zero}
use Rattle.product_reduce.specs.{Factors.{opened, others_in, IsCoefficient, coefficient_before, coefficient_times}, Joining.{have_partners, joined}, declared.gathering.Joining.{Joining}}
use Rattle.product_reduce.specs.declared.gathering.Joining.TheVariants as joining
use Rattle.calc_measures.specs.PlainTrees.{IsPlainAnswer, IsPlainOverflow}
use Rattle.calc_algebra.specs.Rewritings.{Rewrites, Reduces}
use Rattle.tree_handles.specs.{Causes.{LacksLongForm}, Handed.{tree_of}, declared.fault.NumberFault.{NumberFault}}
use Rattle.tree_handles.specs.declared.fault.NumberFault.TheVariants as fault

-- factors to be joined: none is Undef, the coefficient is not 0, and two of the others have identical bases
pub record AreJoinable (c : Tree) (ts : Trees) : Type 0 where
  pub defined : has_undef ts ≡ false
  pub coefficient : IsCoefficient c (opened ts)
  pub not_zero : is_zero c ≡ false
  pub partners : have_partners (others_in (opened ts)) ≡ true

-- the product of these factors after one joining: the coefficient, and the others with two of one base as one power
pub record IsJoined (ts : Trees) (new : Tree) : Type 0 where
  pub coefficient : Tree
  pub joinable : AreJoinable coefficient ts
  pub is : new ≡ mult (coefficient_before coefficient (joined (others_in (opened ts))))
  pub rewrites : Rewrites (mult ts) new

-- a coefficient times factors in the order of their bases, as it is written
pub record IsWritten (c : Tree) (ts : Trees) (new : Tree) : Type 0 where
  pub us : Trees
  pub sorted : IsSorting 0 base_of ts us
  pub is : new ≡ coefficient_times c us

-- the coefficient of these factors where that is 0, and else the coefficient times the others
pub record IsWrittenProduct (ts : Trees) (new : Tree) : Type 0 where
  pub coefficient : Tree
  pub is_coefficient : IsCoefficient coefficient (opened ts)
  pub zero : is_zero coefficient ≡ true → new ≡ coefficient
  pub written : is_zero coefficient ≡ false → IsWritten coefficient (others_in (opened ts)) new

-- the reduced product of these factors
pub record IsFinished (ts : Trees) (new : Tree) : Type 0 where
  pub reduces : Reduces (mult ts) new
  pub undefined : is_undef new ≡ has_undef ts
  pub written : has_undef ts ≡ false → IsWrittenProduct ts new
  pub nest : nest new ≤ nest (mult ts)
  pub load : load new ≤ load (mult ts)
  pub number : are_numbers ts ≡ true → is_number new ≡ true
  pub final : (c : Tree) → ¬ (AreJoinable c ts)

-- a fact of the reduced tree
abbrev pub IfFinished : Joining → (ℕ → Type 0) → Type 0
IfFinished (joining.Done h) P = P h
IfFinished (joining.Joined product at) P = ⊤

-- a fact of the gathered product, and of the place where a pair of its factors stands
abbrev pub IfJoined : Joining → (ℕ → ℕ → Type 0) → Type 0
IfJoined (joining.Done h) P = ⊤
IfJoined (joining.Joined product at) P = P product at

-- rationals: their product where it fits, its overflow where it does not, and bytes are lacking only for a number in the long form
abbrev pub AnswersRationalFactors : PlainValue → State → Result Joining NumberFault → Type 0
AnswersRationalFactors v new (Ok (joining.Done h)) = IsPlainAnswer v (tree_of h new)
AnswersRationalFactors v new (Ok (joining.Joined product at)) = ⊥
AnswersRationalFactors v new (Err (fault.Full full)) = LacksLongForm full
AnswersRationalFactors v new (Err (fault.Overflow o)) = IsPlainOverflow v o

-- ---- behind the coefficient

-- factors that are reduced, none of them Undef, a Number or a product
pub record AreOthers (ts : Trees) : Type 0 where
  pub reduced : are_reduced ts ≡ true
  pub defined : has_undef ts ≡ false
  pub no_number : NoneIs is_number ts
  pub no_product : NoneIs is_mult ts

-- a coefficient and factors whose bases differ, as a reduced tree
pub record IsEnding (c : Tree) (ts : Trees) (new : Tree) : Type 0 where
  pub reduces : Reduces (mult (more c ts)) new
  pub written : IsWritten c ts new
  pub defined : is_undef new ≡ false
  pub nest : nest new ≤ nest_of ts
  pub load : load new ≤ load_of_factors ts
  pub number : ts ≡ none → is_number new ≡ true

-- what is answered for a coefficient and the other factors: the coefficient where it is 0, and else a reduced ending
pub data IsStop (c : Tree) (ts : Trees) (t : Tree) : Type 0 where
  at_zero : is_zero c ≡ true → t ≡ c → IsStop c ts t
  at_end : is_zero c ≡ false → have_partners ts ≡ false → IsEnding c ts t → IsStop c ts t
