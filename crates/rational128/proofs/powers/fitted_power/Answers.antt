use Rattle.rational128.proofs.{Shared.{◌≡◌, ◌<◌, ◌^◌, refl, ap, sym, ◌∙◌, subst, to_z, of_z, nat_abs, w128, int_pow, value_of}, LowestTerms.{same_parts}, Signed.{told}}
use Rattle.rational128.proofs.{Products.{unfit_num, unfit_den, parts_fit}, FractionPowers.{IsPower, power_parts, int_pow-abs}, powers.fitted_power.Goals.{In_ok-num, In_ok-den}}
use Rattle.rational128.proofs.powers.fitted_power.Goals as goal

-- the numerator of the power, as it is handed on
num_told : (c : In_ok-num) → (to_z w128 (of_z w128 c.in_ok-num.num) ≡ int_pow (c.parts-a_num.result.0) c.args.exponent) × (nat_abs (int_pow (c.parts-a_num.result.0) c.args.exponent) < 2 ^ 127)
num_told c =
    let p-told : to_z w128 (of_z w128 (c.parts-a_num.result.0)) ≡ c.parts-a_num.result.0 = told (c.parts-a_num.result.0) c.parts-a_num.ensures.num_fits in
    let is : c.in_ok-num.num ≡ int_pow (c.parts-a_num.result.0) c.args.exponent = c.in_ok-num.ensures.1 ∙ ap (λ z. int_pow z c.args.exponent) p-told in
    let small : nat_abs (int_pow (c.parts-a_num.result.0) c.args.exponent) < 2 ^ 127 = rw (int_pow-abs (c.parts-a_num.result.0) c.args.exponent) (subst (λ z. nat_abs z ^ c.args.exponent < 2 ^ 127) p-told c.in_ok-num.ensures.0) in
    (told c.in_ok-num.num (subst (λ z. nat_abs z < 2 ^ 127) (sym is) small) ∙ is, small)

power : (c : In_ok-den) → to_z w128 (of_z w128 c.in_ok-num.num) ≡ int_pow (c.parts-a_num.result.0) c.args.exponent → IsPower (value_of c.args.a) c.args.exponent (to_z w128 (of_z w128 c.in_ok-num.num)) c.in_ok-den.den
power c e = power_parts (value_of c.args.a) c.args.exponent (c.parts-a_num.result.0) _ (c.parts-a_num.result.1) _ c.parts-a_num.ensures.num c.parts-a_num.ensures.den e c.in_ok-den.ensures.1

pub returns-in_err-num : goal.returns-in_err-num
returns-in_err-num c =
    let p = power_parts (value_of c.args.a) c.args.exponent _ _ _ _ c.parts-a_num.ensures.num c.parts-a_num.ensures.den refl refl in
    rw c.from_residual.ensures (unfit_num _ _ _ _ p.parts (int_pow-abs (c.parts-a_num.result.0) c.args.exponent) (rw (told (c.parts-a_num.result.0) c.parts-a_num.ensures.num_fits) at c.in_err-num.ensures))

pub returns-in_err-den : goal.returns-in_err-den
returns-in_err-den c =
    let p = power_parts (value_of c.args.a) c.args.exponent _ _ _ _ c.parts-a_num.ensures.num c.parts-a_num.ensures.den refl refl in
    rw c.from_residual-in_err-den.ensures (unfit_den _ _ _ p.parts c.in_err-den.ensures)

pub rational-requires-clause-in_lowest_terms : goal.rational-requires-clause-in_lowest_terms
rational-requires-clause-in_lowest_terms c = (power c (num_told (goal.at.rational-requires-clause-in_lowest_terms c).In_ok-num).0).lowest

pub rational-requires-clause-positive : goal.rational-requires-clause-positive
rational-requires-clause-positive c = (power c (num_told (goal.at.rational-requires-clause-positive c).In_ok-num).0).positive

pub returns : goal.returns
returns c =
    let (is, small) = num_told (goal.at.returns c).In_ok-num in
    let p = power (goal.at.returns c).In_ok-den is in (
      parts_fit _ _ _ p.parts (subst (λ z. nat_abs z < 2 ^ 127) (sym is) small) (subst (λ d. d < 2 ^ 127) (sym c.in_ok-den.ensures.1) c.in_ok-den.ensures.0),
      same_parts _ _ _ _ (record { num = c.rational.ensures.num; den = c.rational.ensures.den }) p.parts,
    )
