-- Why a tree has no Number.
use Rattle.std.specs.Prelude.{ℕ, ◌≡◌, ◌⊎◌, List, Option, None, true, false}
use Rattle.breakers.specs.State.{State as Breaker}
use Rattle.calc_algebra.specs.Numbers.{is_number}
use Rattle.calc_terms.specs.Trees.{Tree, is_undef}
use Rattle.calc_session.specs.{declared.evaluating.Evaluation.{Evaluation}, Answers.{reason_of, reply_of}, Estimating.{IsReducedTo}, Evaluations.{IsReduction}, Replies.{no_decimal}}
use Rattle.calc_session.specs.declared.evaluating.Evaluation.TheVariants as evaluation

-- it is reduced to what is no Number
pub record IsReducedToNone (free : ℕ) (t : Tree) (before after : List Breaker) : Type 0 where
  pub answer : Tree
  pub reduced : IsReducedTo free t answer before after
  pub defined : is_undef answer ≡ false
  pub no_number : is_number answer ≡ false

-- it is reduced to Undef, or to another tree that is no Number, or the reduction is refused
abbrev pub LacksNumber : (room bits : Option (Tree → ℕ)) → ℕ → Tree → (before after : List Breaker) → Evaluation → Type 0
LacksNumber room bits free t before after evaluation.Undefined = (answer : Tree) × IsReducedTo free t answer before after × (is_undef answer ≡ true)
LacksNumber room bits free t before after (evaluation.Refused refusal) = IsReduction room bits free t before after None (reply_of refusal) ⊎ ((reason_of refusal ≡ no_decimal) × IsReducedToNone free t before after)
LacksNumber room bits free t before after e = ⊥
