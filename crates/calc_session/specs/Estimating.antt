-- What the decimal of a tree comes to, and its sign.
use Rattle.std.specs.Prelude.{ℕ, ◌≡◌, ◌^◌, List, Option, None, true, false, codes}
use Rattle.breakers.specs.{Breakers.{CalmChecks}, State.{State as Breaker}}
use Rattle.calc_algebra.specs.Numbers.{is_number, value}
use Rattle.calc_terms.specs.{Fractions.{zero_fraction}, Trees.{Tree, nodes, is_num, is_undef}}
use Rattle.decimals.specs.{Decimals.{DecimalValue, IsDecimalOf}, DecimalTexts.{decimal_value_text}, Signs.{IsSignOf}, declared.sign.Sign.{Sign}}
use Rattle.enclosures.specs.Rounding.{IsClose, IsNear}
use Rattle.calc_session.specs.{Evaluations.{IsAnswerTo, IsReduction}, Findings.{sign_text}, Replies.{Reason, Reply, report, refused, no_decimal, undecided}}

-- a tree is reduced to an answer, where so many bytes are free, and no breaker trips
pub record IsReducedTo (free : ℕ) (t answer : Tree) (before after : List Breaker) : Type 0 where
  pub calm : CalmChecks (nodes t) before after
  pub answers : IsAnswerTo free t answer

-- The replies to a tree of which something is asked that Numbers have, where so many bytes are free without it: it is reduced, and then what is told of the Number is its text, or the greatest precision leaves it open.
pub data IsReplyOnNumber (Told : Tree → List ℕ → Type 0) (Open : Tree → Type 0) (room bits : Option (Tree → ℕ)) (free : ℕ) (before after : List Breaker) (t : Tree) : Reply → Type 0 where
  is_not_reduced : {reason : Reason} → IsReduction room bits free t before after None (refused reason) → IsReplyOnNumber Told Open room bits free before after t (refused reason)
  has_no_value : {answer : Tree} → IsReducedTo free t answer before after → is_undef answer ≡ true → IsReplyOnNumber Told Open room bits free before after t (report (codes "undef"))
  is_no_number : {answer : Tree} → IsReducedTo free t answer before after → is_undef answer ≡ false → is_number answer ≡ false → IsReplyOnNumber Told Open room bits free before after t (refused no_decimal)
  is_told : {answer : Tree} {text : List ℕ} → IsReducedTo free t answer before after → is_number answer ≡ true → Told answer text → IsReplyOnNumber Told Open room bits free before after t (report text)
  is_open : {answer : Tree} → IsReducedTo free t answer before after → is_number answer ≡ true → Open answer → IsReplyOnNumber Told Open room bits free before after t (refused undecided)

-- the text of its decimal, with so many places at most
pub record TellsDecimal (places : ℕ) (answer : Tree) (text : List ℕ) : Type 0 where
  pub decimal : DecimalValue
  pub decimal_is : IsDecimalOf answer places decimal
  pub text_is : text ≡ decimal_value_text decimal

-- no rational, and too close to the middle of two decimals
pub record LeavesDecimalOpen (places : ℕ) (answer : Tree) : Type 0 where
  pub irrational : is_num answer ≡ false
  pub close : IsClose (value answer) (10 ^ places)

-- the name of its sign
pub record TellsSign (answer : Tree) (text : List ℕ) : Type 0 where
  pub side : Sign
  pub side_is : IsSignOf side (value answer)
  pub text_is : text ≡ sign_text side

-- no rational, and too close to 0
pub record LeavesSignOpen (answer : Tree) : Type 0 where
  pub irrational : is_num answer ≡ false
  pub near : IsNear (value answer) zero_fraction

-- the replies to a tree whose decimal is asked for, and to one whose sign is
abbrev pub IsReplyToDecimal : (room bits : Option (Tree → ℕ)) → (places free : ℕ) → (before after : List Breaker) → (left : ℕ) → Tree → Reply → Type 0
IsReplyToDecimal room bits places free before after left t reply = IsReplyOnNumber (TellsDecimal places) (LeavesDecimalOpen places) room bits free before after t reply

abbrev pub IsReplyToSign : (room bits : Option (Tree → ℕ)) → (free : ℕ) → (before after : List Breaker) → (left : ℕ) → Tree → Reply → Type 0
IsReplyToSign room bits free before after left t reply = IsReplyOnNumber TellsSign LeavesSignOpen room bits free before after t reply
