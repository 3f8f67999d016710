use Rattle.rational128.proofs.{Shared.{◌≡◌, ◌<◌, ◌^◌, ◌*◌, ◌/◌, ◌+ℤ◌, ◌*ℤ◌, pos, subst, sym, ap, ◌∙◌, nat_abs, IsGcd, over, value_of}, LowestTerms.{HasParts, same_parts}}
use Rattle.rational128.proofs.{Signed.{told, IsFittingProduct, fitting_product, quotient_told}, Sums.{Operands, Reduces, reduces, shared_positive, unfit_first, unfit_second, unfit_sum}}
use Rattle.rational128.proofs.addition.common_sum.Goals as goal
use Rattle.rational128.proofs.addition.common_sum.Goals.{After-gcd-shared, After-gcd-divisor, In_ok-den}

operands : (c : After-gcd-shared) → Operands (value_of c.args.a) (value_of c.args.b) (c.parts-a_num.result.0) (c.parts-a_num.result.1) (c.parts-b_num.result.0) (c.parts-b_num.result.1) c.gcd-shared.result
operands c = record {
  p_is = c.parts-a_num.ensures.num;
  q_is = c.parts-a_num.ensures.den;
  r_is = c.parts-b_num.ensures.num;
  s_is = c.parts-b_num.ensures.den;
  shared = c.gcd-shared.ensures;
}

first : (c : After-gcd-divisor) → IsFittingProduct c.in_ok-first.first (c.parts-a_num.result.0) (c.parts-b_num.result.1 / c.gcd-shared.result)
first c = fitting_product _ _ _ c.parts-a_num.ensures.num_fits (rw c.divided-b_rest.ensures at c.in_ok-first.ensures)

second : (c : After-gcd-divisor) → IsFittingProduct c.in_ok-second.second (c.parts-b_num.result.0) (c.parts-a_num.result.1 / c.gcd-shared.result)
second c = fitting_product _ _ _ c.parts-b_num.ensures.num_fits (rw c.divided.ensures at c.in_ok-second.ensures)

num_small : (c : After-gcd-divisor) → nat_abs c.in_ok-num.num < 2 ^ 127
num_small c = subst (λ z. nat_abs z < 2 ^ 127) (sym c.in_ok-num.ensures.1) c.in_ok-num.ensures.0

reduced : (c : After-gcd-divisor) → Operands (value_of c.args.a) (value_of c.args.b) (c.parts-a_num.result.0) (c.parts-a_num.result.1) (c.parts-b_num.result.0) (c.parts-b_num.result.1) c.gcd-shared.result
    → Reduces (value_of c.args.a) (value_of c.args.b) (c.parts-a_num.result.1) (c.parts-b_num.result.1) c.gcd-shared.result c.gcd-divisor.result c.in_ok-num.num
reduced c o =
    let x = first c in
    let y = second c in
    let z-is : c.in_ok-num.num ≡ c.parts-a_num.result.0 *ℤ pos (c.parts-b_num.result.1 / c.gcd-shared.result) +ℤ c.parts-b_num.result.0 *ℤ pos (c.parts-a_num.result.1 / c.gcd-shared.result) =
    c.in_ok-num.ensures.1 ∙ (λ i. (told c.in_ok-first.first x.small ∙ x.is) i +ℤ (told c.in_ok-second.second y.small ∙ y.is) i) in
    let divisor : IsGcd (nat_abs c.in_ok-num.num) c.gcd-shared.result c.gcd-divisor.result = subst (λ n. IsGcd n c.gcd-shared.result c.gcd-divisor.result) (c.unsigned_abs.ensures.value ∙ ap nat_abs (told c.in_ok-num.num (num_small c))) c.gcd-divisor.ensures in
    reduces _ _ _ _ _ _ _ _ _ o z-is x.fits y.fits (num_small c) divisor

den_is : (c : In_ok-den) → c.in_ok-den.den ≡ (c.parts-a_num.result.1 / c.gcd-divisor.result) * (c.parts-b_num.result.1 / c.gcd-shared.result)
den_is c = rw (c.divided-2.ensures, c.divided-b_rest.ensures) at c.in_ok-den.ensures.1

pub returns-in_err-first : goal.returns-in_err-first
returns-in_err-first c =
    let o = operands (goal.at.returns-in_err-first c).After-gcd-shared in
    rw c.from_residual.ensures (unfit_first _ _ _ _ _ _ _ o (rw (told c.parts-a_num.result.0 c.parts-a_num.ensures.num_fits, c.divided-b_rest.ensures) at c.in_err-first.ensures))

pub divided-requires : goal.divided-requires
divided-requires c = shared_positive (operands (goal.at.divided-requires c).After-gcd-shared)

pub returns-in_err-second : goal.returns-in_err-second
returns-in_err-second c =
    let o = operands (goal.at.returns-in_err-second c).After-gcd-shared in
    rw c.from_residual-in_err-second.ensures (unfit_second _ _ _ _ _ _ _ o (rw (told c.parts-b_num.result.0 c.parts-b_num.ensures.num_fits, c.divided.ensures) at c.in_err-second.ensures))

pub returns-in_err-num : goal.returns-in_err-num
returns-in_err-num c =
    let o = operands (goal.at.returns-in_err-num c).After-gcd-shared in
    let x = fitting_product c.in_ok-first.first (c.parts-a_num.result.0) (c.parts-b_num.result.1 / c.gcd-shared.result) c.parts-a_num.ensures.num_fits (rw c.divided-b_rest.ensures at c.in_ok-first.ensures) in
    let y = fitting_product c.in_ok-second.second (c.parts-b_num.result.0) (c.parts-a_num.result.1 / c.gcd-shared.result) c.parts-b_num.ensures.num_fits (rw c.divided.ensures at c.in_ok-second.ensures) in
    rw c.from_residual-in_err-num.ensures (unfit_sum _ _ _ _ _ _ _ o (rw (told c.in_ok-first.first x.small, told c.in_ok-second.second y.small, x.is, y.is) at c.in_err-num.ensures))

pub divided-requires-2 : goal.divided-requires-2
divided-requires-2 c = (reduced (goal.at.divided-requires-2 c).After-gcd-divisor (operands (goal.at.divided-requires-2 c).After-gcd-shared)).divisor_positive

pub divided-b_rest-requires : goal.divided-b_rest-requires
divided-b_rest-requires c = shared_positive (operands (goal.at.divided-b_rest-requires c).After-gcd-shared)

pub returns-in_err-den : goal.returns-in_err-den
returns-in_err-den c = rw c.from_residual-in_err-den.ensures ((reduced (goal.at.returns-in_err-den c).After-gcd-divisor (operands (goal.at.returns-in_err-den c).After-gcd-shared)).refused (rw (c.divided-2.ensures, c.divided-b_rest.ensures) at c.in_err-den.ensures))

pub quotient-requires-clause-positive : goal.quotient-requires-clause-positive
quotient-requires-clause-positive c = (reduced (goal.at.quotient-requires-clause-positive c).After-gcd-divisor (operands (goal.at.quotient-requires-clause-positive c).After-gcd-shared)).divisor_positive

pub rational-requires-clause-in_lowest_terms : goal.rational-requires-clause-in_lowest_terms
rational-requires-clause-in_lowest_terms c =
    let at = (goal.at.rational-requires-clause-in_lowest_terms c).After-gcd-divisor in
    let r = reduced at (operands (goal.at.rational-requires-clause-in_lowest_terms c).After-gcd-shared) in
    subst (λ z. IsGcd (nat_abs z) c.in_ok-den.den 1) (sym ((quotient_told c.quotient.result c.in_ok-num.num _ (num_small at) c.quotient.ensures).0))
    (subst (λ d. IsGcd (nat_abs (over c.in_ok-num.num c.gcd-divisor.result)) d 1) (sym (den_is (goal.at.rational-requires-clause-in_lowest_terms c).In_ok-den)) r.lowest)

pub rational-requires-clause-num_fits : goal.rational-requires-clause-num_fits
rational-requires-clause-num_fits c =
    let small = num_small (goal.at.rational-requires-clause-num_fits c).After-gcd-divisor in
    let (told, fits) = quotient_told c.quotient.result c.in_ok-num.num _ small c.quotient.ensures in
    subst (λ z. nat_abs z < 2 ^ 127) (sym told) fits

pub rational-requires-clause-positive : goal.rational-requires-clause-positive
rational-requires-clause-positive c =
    let r = reduced (goal.at.rational-requires-clause-positive c).After-gcd-divisor (operands (goal.at.rational-requires-clause-positive c).After-gcd-shared) in
    subst (λ n. 0 < n) (sym (den_is (goal.at.rational-requires-clause-positive c).In_ok-den)) r.den_positive

pub returns : goal.returns
returns c =
    let at = (goal.at.returns c).After-gcd-divisor in
    let r = reduced at (operands (goal.at.returns c).After-gcd-shared) in
    let parts : HasParts (value_of c.rational.result) (over c.in_ok-num.num c.gcd-divisor.result) ((c.parts-a_num.result.1 / c.gcd-divisor.result) * (c.parts-b_num.result.1 / c.gcd-shared.result)) = record {
      num = c.rational.ensures.num ∙ (quotient_told c.quotient.result c.in_ok-num.num _ (num_small at) c.quotient.ensures).0;
      den = c.rational.ensures.den ∙ den_is (goal.at.returns c).In_ok-den;
    } in
    (r.accepted (rw (c.divided-2.ensures, c.divided-b_rest.ensures) at c.in_ok-den.ensures.0), same_parts _ _ _ _ parts r.parts)
