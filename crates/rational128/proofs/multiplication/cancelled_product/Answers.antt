use Rattle.rational128.proofs.{Shared.{◌≡◌, ◌<◌, ◌^◌, ◌*◌, ◌/◌, ◌*ℤ◌, subst, sym, ap, ◌∙◌, to_z, of_z, nat_abs, w128, IsGcd, unsigned_abs-mul, over, value_of}, LowestTerms.{HasParts, same_parts}}
use Rattle.rational128.proofs.{Signed.{told, quotient_told, product_told}, Products.{Factors, first_positive, second_positive, product_lowest, product_den_positive, product_parts, unfit_num}}
use Rattle.rational128.proofs.{Products.{unfit_den, parts_fit}, multiplication.cancelled_product.Goals.{After-gcd-second, After-quotient-2, In_ok-num, In_ok-den}}
use Rattle.rational128.proofs.multiplication.cancelled_product.Goals as goal

factors : (c : After-gcd-second) → Factors (value_of c.args.a) (value_of c.args.b) (c.parts-a_num.result.0) (c.parts-a_num.result.1) (c.parts-b_num.result.0) (c.parts-b_num.result.1) c.gcd-first.result c.gcd-second.result
factors c = record {
  p_is = c.parts-a_num.ensures.num;
  q_is = c.parts-a_num.ensures.den;
  r_is = c.parts-b_num.ensures.num;
  s_is = c.parts-b_num.ensures.den;
  first = subst (λ n. IsGcd n (c.parts-b_num.result.1) c.gcd-first.result) (c.unsigned_abs.ensures.value ∙ ap nat_abs (told (c.parts-a_num.result.0) c.parts-a_num.ensures.num_fits)) c.gcd-first.ensures;
  second = subst (λ n. IsGcd n (c.parts-a_num.result.1) c.gcd-second.result) (c.unsigned_abs-2.ensures.value ∙ ap nat_abs (told (c.parts-b_num.result.0) c.parts-b_num.ensures.num_fits)) c.gcd-second.ensures;
}

-- the quotients are handed on as they are
first_told : (c : After-quotient-2) → (to_z w128 (of_z w128 c.quotient.result) ≡ over (c.parts-a_num.result.0) c.gcd-first.result) × (nat_abs (over (c.parts-a_num.result.0) c.gcd-first.result) < 2 ^ 127)
first_told c = quotient_told c.quotient.result (c.parts-a_num.result.0) c.gcd-first.result c.parts-a_num.ensures.num_fits c.quotient.ensures

second_told : (c : After-quotient-2) → (to_z w128 (of_z w128 c.quotient-2.result) ≡ over (c.parts-b_num.result.0) c.gcd-second.result) × (nat_abs (over (c.parts-b_num.result.0) c.gcd-second.result) < 2 ^ 127)
second_told c = quotient_told c.quotient-2.result (c.parts-b_num.result.0) c.gcd-second.result c.parts-b_num.ensures.num_fits c.quotient-2.ensures

-- so is their product
num_told : (c : In_ok-num) → (to_z w128 (of_z w128 c.in_ok-num.num) ≡ over (c.parts-a_num.result.0) c.gcd-first.result *ℤ over (c.parts-b_num.result.0) c.gcd-second.result)
    × (nat_abs (over (c.parts-a_num.result.0) c.gcd-first.result *ℤ over (c.parts-b_num.result.0) c.gcd-second.result) < 2 ^ 127)
num_told c =
    let (first, _) = quotient_told c.quotient.result (c.parts-a_num.result.0) c.gcd-first.result c.parts-a_num.ensures.num_fits c.quotient.ensures in
    let (second, _) = quotient_told c.quotient-2.result (c.parts-b_num.result.0) c.gcd-second.result c.parts-b_num.ensures.num_fits c.quotient-2.ensures in
    product_told c.in_ok-num.num _ _ _ _ first second c.in_ok-num.ensures

den_is : (c : In_ok-den) → c.in_ok-den.den ≡ (c.parts-a_num.result.1 / c.gcd-second.result) * (c.parts-b_num.result.1 / c.gcd-first.result)
den_is c = rw (c.divided.ensures, c.divided-2.ensures) at c.in_ok-den.ensures.1

pub quotient-requires-clause-positive : goal.quotient-requires-clause-positive
quotient-requires-clause-positive c = first_positive _ _ _ _ _ _ _ _ (factors (goal.at.quotient-requires-clause-positive c).After-gcd-second)

pub quotient-requires-2-clause-positive : goal.quotient-requires-2-clause-positive
quotient-requires-2-clause-positive c = second_positive _ _ _ _ _ _ _ _ (factors (goal.at.quotient-requires-2-clause-positive c).After-gcd-second)

pub returns-in_err-num : goal.returns-in_err-num
returns-in_err-num c =
    let f = factors (goal.at.returns-in_err-num c).After-gcd-second in
    let (first, _) = first_told (goal.at.returns-in_err-num c).After-quotient-2 in
    let (second, _) = second_told (goal.at.returns-in_err-num c).After-quotient-2 in
    let refused : ¬ (nat_abs (over (c.parts-a_num.result.0) c.gcd-first.result) * nat_abs (over (c.parts-b_num.result.0) c.gcd-second.result) < 2 ^ 127) = rw (first, second) at c.in_err-num.ensures in
    rw c.from_residual.ensures (unfit_num _ _ _ _ (product_parts _ _ _ _ _ _ _ _ f) (unsigned_abs-mul (over (c.parts-a_num.result.0) c.gcd-first.result) (over (c.parts-b_num.result.0) c.gcd-second.result)) refused)

pub divided-requires : goal.divided-requires
divided-requires c = second_positive _ _ _ _ _ _ _ _ (factors (goal.at.divided-requires c).After-gcd-second)

pub divided-requires-2 : goal.divided-requires-2
divided-requires-2 c = first_positive _ _ _ _ _ _ _ _ (factors (goal.at.divided-requires-2 c).After-gcd-second)

pub returns-in_err-den : goal.returns-in_err-den
returns-in_err-den c =
    let f = factors (goal.at.returns-in_err-den c).After-gcd-second in
    rw c.from_residual-in_err-den.ensures (unfit_den _ _ _ (product_parts _ _ _ _ _ _ _ _ f) (rw (c.divided.ensures, c.divided-2.ensures) at c.in_err-den.ensures))

pub rational-requires-clause-in_lowest_terms : goal.rational-requires-clause-in_lowest_terms
rational-requires-clause-in_lowest_terms c =
    let f = factors (goal.at.rational-requires-clause-in_lowest_terms c).After-gcd-second in
    let (is, _) = num_told (goal.at.rational-requires-clause-in_lowest_terms c).In_ok-num in
    subst (λ z. IsGcd (nat_abs z) c.in_ok-den.den 1) (sym is)
    (subst (λ d. IsGcd (nat_abs (over (c.parts-a_num.result.0) c.gcd-first.result *ℤ over (c.parts-b_num.result.0) c.gcd-second.result)) d 1) (sym (den_is (goal.at.rational-requires-clause-in_lowest_terms c).In_ok-den)) (product_lowest _ _ _ _ _ _ _ _ f))

pub rational-requires-clause-positive : goal.rational-requires-clause-positive
rational-requires-clause-positive c = subst (λ n. 0 < n) (sym (den_is (goal.at.rational-requires-clause-positive c).In_ok-den)) (product_den_positive _ _ _ _ _ _ _ _ (factors (goal.at.rational-requires-clause-positive c).After-gcd-second))

pub returns : goal.returns
returns c =
    let f = factors (goal.at.returns c).After-gcd-second in
    let (is, small) = num_told (goal.at.returns c).In_ok-num in
    let parts : HasParts (value_of c.rational.result) (over (c.parts-a_num.result.0) c.gcd-first.result *ℤ over (c.parts-b_num.result.0) c.gcd-second.result) ((c.parts-a_num.result.1 / c.gcd-second.result) * (c.parts-b_num.result.1 / c.gcd-first.result)) = record {
      num = c.rational.ensures.num ∙ is;
      den = c.rational.ensures.den ∙ den_is (goal.at.returns c).In_ok-den;
    } in
    (parts_fit _ _ _ (product_parts _ _ _ _ _ _ _ _ f) small (rw (c.divided.ensures, c.divided-2.ensures) at c.in_ok-den.ensures.0), same_parts _ _ _ _ parts (product_parts _ _ _ _ _ _ _ _ f))

pub rational-requires-clause-num_fits : goal.rational-requires-clause-num_fits
rational-requires-clause-num_fits c =
    let (is, small) = num_told (goal.at.rational-requires-clause-num_fits c).In_ok-num in
    subst (λ z. nat_abs z < 2 ^ 127) (sym is) small
