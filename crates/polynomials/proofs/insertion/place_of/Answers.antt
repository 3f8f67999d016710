use Rattle.polynomials.proofs.{Shared.{◌≡◌, ◌-◌, ap, get_or, arith, Term}, Normal.{below_first}}
use Rattle.polynomials.proofs.insertion.place_of.Goals as goal

pub returns-then-terms-at-clause-below : goal.returns-then-terms-at-clause-below
returns-then-terms-at-clause-below c =
    let x = c.index-terms-at.result in
    let m : x.monomial ≡ (get_or c.args.terms.now (c.loop-at.at - 1) x).monomial = ap (λ (y : Term). y.monomial) c.index-terms-at.is in
    below_first c.args.monomial c.args.terms.now c.loop-at.at x c.requires.normal c.loop-at-test.true (c.loop-at.invariant.0) c.index-terms-at.is (omega arith)
