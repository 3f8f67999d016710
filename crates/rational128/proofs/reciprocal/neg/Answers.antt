use Rattle.rational128.proofs.{Shared.{sym, ◌∙◌, subst, nat_abs, IsGcd, value_of}, LowestTerms.{same_parts}, Reciprocals.{negative_told, negative_lowest, negative_parts}}
use Rattle.rational128.proofs.reciprocal.neg.Goals as goal

pub rational-requires-clause-in_lowest_terms : goal.rational-requires-clause-in_lowest_terms
rational-requires-clause-in_lowest_terms c =
    subst (λ z. IsGcd (nat_abs z) (c.parts-num.result.1) 1) (sym (negative_told (c.parts-num.result.0) c.parts-num.ensures.num_fits))
    (negative_lowest (value_of c.args.a) (c.parts-num.result.0) (c.parts-num.result.1) c.parts-num.ensures.num c.parts-num.ensures.den)

pub returns : goal.returns
returns c =
    same_parts _ _ _ _
    (record { num = c.rational.ensures.num ∙ negative_told (c.parts-num.result.0) c.parts-num.ensures.num_fits; den = c.rational.ensures.den })
    (negative_parts (value_of c.args.a) (c.parts-num.result.0) (c.parts-num.result.1) c.parts-num.ensures.num c.parts-num.ensures.den)
