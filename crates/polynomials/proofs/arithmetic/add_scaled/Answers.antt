use Rattle.polynomials.proofs.Shared.{◌≡◌, ◌++◌, ap, sym, ◌∙◌, subst, arith, value_of, OnOk, HasExponents, HaveExponents, Polynomial, Summand, row, scaled, AreTermsOf, polynomial_of, summand_of}
use Rattle.polynomials.proofs.{Exponents.{one_exponents}, Scaled.{have_packed, have_scaled, row_constant}, arithmetic.add_scaled.Goals.{After-constant}}
use Rattle.polynomials.proofs.arithmetic.add_scaled.Goals as goal

times_constant : (c : After-constant) → row (summand_of c.constant.result) (polynomial_of c.args.terms.now) ≡ scaled (value_of c.args.factor) (polynomial_of c.args.terms.now)
times_constant c = ap (λ (s : Summand). row s (polynomial_of c.args.terms.now)) c.constant.ensures ∙ row_constant (value_of c.args.factor) c.args.terms.now

pub add_multiple-requires-clause-exponents : goal.add_multiple-requires-clause-exponents
add_multiple-requires-clause-exponents c =
    (0, 255, omega arith, subst (λ (s : Summand). HasExponents 0 s.monomial) (sym c.constant.ensures) one_exponents, have_packed c.args.terms.now)

pub returns-clause-terms : goal.returns-clause-terms
returns-clause-terms c =
    let at = (goal.at.returns-clause-terms c).After-constant in
    subst (λ (v : Polynomial). OnOk c.add_multiple.result (AreTermsOf (polynomial_of c.args.sum.now ++ v) c.add_multiple.new.list.items)) (times_constant at) c.add_multiple.ensures.terms

pub returns-clause-exponents : goal.returns-clause-exponents
returns-clause-exponents c = λ d h k.
    let at = (goal.at.returns-clause-exponents c).After-constant in
    c.add_multiple.ensures.exponents d h (subst (HaveExponents d) (sym (times_constant at)) (have_scaled d (value_of c.args.factor) c.args.terms.now k))
