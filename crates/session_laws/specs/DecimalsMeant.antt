-- What the answers to lines that ask for a decimal or a sign mean.
use Rattle.std.specs.Prelude.{ℕ, ◌≡◌, List, true, codes}
use Rattle.calc_algebra.specs.{Meanings.{Assignment, IsAssignment, Means}, Numbers.{is_number, value}, SquareClasses.{Same}, Surds.{Surd}}
use Rattle.calc_terms.specs.Trees.{Tree}
use Rattle.decimals.specs.{Decimals.{DecimalValue, IsDecimalOf}, DecimalTexts.{decimal_value_text}, Signs.{IsSignOf}, declared.sign.Sign.{Sign}}
use Rattle.calc_session.specs.{Calculating.{ExpressionBecomes}, Findings.{sign_text}, States.{State}}
use Rattle.session_laws.specs.Meant.{MeansNothing}

-- in a state the text becomes a tree whose meanings all are the value of this Number, under every assignment
pub record HasNumber (old : State) (text : List ℕ) (number : Tree) : Type 0 where
  pub tree : Tree
  pub becomes : ExpressionBecomes old text tree
  pub is_number : is_number number ≡ true
  pub means : (f : Assignment) → IsAssignment f → (v : Surd) → Means tree f v → Same v (value number)

-- in a state the text becomes a tree that means nothing
pub record HasNoValue (old : State) (text : List ℕ) : Type 0 where
  pub tree : Tree
  pub becomes : ExpressionBecomes old text tree
  pub none : MeansNothing tree

-- the decimal of such a Number is told, or `undef` where there is no meaning
pub data TellsDecimalOf (old : State) (text : List ℕ) (places : ℕ) (told : List ℕ) : Type 0 where
  tells_decimal : {number : Tree} (decimal : DecimalValue) → HasNumber old text number → IsDecimalOf number places decimal → told ≡ decimal_value_text decimal → TellsDecimalOf old text places told
  tells_none : HasNoValue old text → told ≡ codes "undef" → TellsDecimalOf old text places told

-- the same of its sign
pub data TellsSignOf (old : State) (text told : List ℕ) : Type 0 where
  tells_sign : {number : Tree} (side : Sign) → HasNumber old text number → IsSignOf side (value number) → told ≡ sign_text side → TellsSignOf old text told
  tells_no_sign : HasNoValue old text → told ≡ codes "undef" → TellsSignOf old text told
