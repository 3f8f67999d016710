-- What is found of a Number, and its text.
use Rattle.std.specs.Prelude.{ℕ, List, codes}
use Rattle.decimals.specs.{Decimals.{decimal_value}, DecimalTexts.{decimal_value_text}, declared.sign.Sign.{Sign}, declared.sign.Sign.TheVariants.{Positive, Negative, Zero}}
use Rattle.calc_session.specs.{declared.estimating.Finding.{Finding}}
use Rattle.calc_session.specs.declared.estimating.Finding.TheVariants as finding

abbrev pub sign_text : Sign → List ℕ
sign_text Positive = codes "positive"
sign_text Negative = codes "negative"
sign_text Zero = codes "zero"

abbrev pub finding_text : Finding → List ℕ
finding_text (finding.Decimal d) = decimal_value_text (decimal_value d)
finding_text (finding.Sign s) = sign_text s
