use Rattle.number_forms.proofs.{Shared.{refl, arith}, ListedTerms.{place_here, place_end}}
use Rattle.number_forms.proofs.values.place_in.Goals as goal

pub returns-then-radicand : goal.returns-then-radicand
returns-then-radicand c =
    place_here c.args.terms.now c.loop-at.at c.args.radicand c.index-terms-at.result c.loop-at-test.true c.loop-at.invariant c.index-terms-at.is (omega (arith, c.if-radicand.true, c.radicand.ensures.value))

pub returns : goal.returns
returns c = place_end c.args.terms.now _ c.args.radicand refl (λ k x l. c.loop-at.invariant k x (omega (arith, c.loop-at-test.false, l)))
