use Rattle.rational128.proofs.{Shared.{◌≡◌, ℤ, pos, ◌<ℤ◌, ◌≤ℤ◌, true, false, ap, sym, ◌∙◌, arith, to_z, of_z, nat_abs, w128, lt_z, ints, to_z_pos, value_of}, LowestTerms.{same_parts, ratio_parts}}
use Rattle.rational128.proofs.{Signed.{told}, Reciprocals.{IsInverse, inverts}}
use Rattle.calc_terms.specs.Fractions.{times, inverse as inverse_of_fraction}
use Rattle.rational128.proofs.reciprocal.invert.Goals as goal
use Rattle.rational128.proofs.reciprocal.invert.Goals.{After-unsigned_abs, After-rational, then-num-lt0, else-num-lt0}

inverse : (c : After-unsigned_abs) → IsInverse (value_of c.args.a) (to_z w128 c.if-num-lt0.rational-bits) c.unsigned_abs.result
inverse c =
    let p-told : to_z w128 (of_z w128 (c.parts-num.result.0)) ≡ c.parts-num.result.0 = told (c.parts-num.result.0) c.parts-num.ensures.num_fits in
    let d-told : to_z w128 (c.parts-num.result.1) ≡ pos (c.parts-num.result.1) = to_z_pos w128 (c.parts-num.result.1) c.parts-num.ensures.den_fits in
    inverts (value_of c.args.a) (c.parts-num.result.0) _ (c.parts-num.result.1) _ (λ e. c.requires (sym (ratio_parts c.args.a).num ∙ e)) c.parts-num.ensures.num c.parts-num.ensures.den (c.unsigned_abs.ensures.value ∙ ap nat_abs p-told)
    (λ h. elim c.if-num-lt0.branch [ then-num-lt0 w ↦ omega (arith, ints, w.rational-is) | else-num-lt0 w ↦ absurd (not_below w.if-num-lt0.false p-told h) ])
    (λ h. elim c.if-num-lt0.branch [ then-num-lt0 w ↦ absurd (not_at_least w.if-num-lt0.true p-told h) | else-num-lt0 w ↦ w.rational-is ∙ d-told ])
  where
    not_below : {p q : ℤ} → lt_z p (pos 0) ≡ false → p ≡ q → q <ℤ pos 0 → ⊥
    not_below {p} {q} t e h = grind (arith, ints)

    not_at_least : {p q : ℤ} → lt_z p (pos 0) ≡ true → p ≡ q → pos 0 ≤ℤ q → ⊥
    not_at_least {p} {q} t e h = grind (arith, ints)

pub rational-requires-clause-in_lowest_terms : goal.rational-requires-clause-in_lowest_terms
rational-requires-clause-in_lowest_terms c = (inverse (goal.at.rational-requires-clause-in_lowest_terms c).After-unsigned_abs).lowest

pub rational-requires-clause-positive : goal.rational-requires-clause-positive
rational-requires-clause-positive c = (inverse (goal.at.rational-requires-clause-positive c).After-unsigned_abs).positive

is_inverse : (c : After-rational) → IsInverse (value_of c.args.a) (to_z w128 c.if-num-lt0.rational-bits) c.unsigned_abs.result → value_of c.rational.result ≡ inverse_of_fraction (value_of c.args.a)
is_inverse c i = same_parts _ _ _ _ (record { num = c.rational.ensures.num; den = c.rational.ensures.den }) i.parts

pub returns-clause-inverse : goal.returns-clause-inverse
returns-clause-inverse c = is_inverse c (inverse (goal.at.returns-clause-inverse c).After-unsigned_abs)

pub returns-clause-product : goal.returns-clause-product
returns-clause-product c = let i = inverse (goal.at.returns-clause-product c).After-unsigned_abs in ap (times (value_of c.args.a)) (is_inverse c i) ∙ i.product
