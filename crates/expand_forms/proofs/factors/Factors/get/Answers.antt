use Rattle.expand_forms.proofs.{Shared.{arith, drop, suc}, TermReadings.{drop_all, factor_read, has_count}}
use Rattle.expand_forms.proofs.factors.Factors.get.Goals as goal

pub returns-then-at-self : goal.returns-then-at-self
returns-then-at-self c = λ m h. drop_all c.args.at m (omega (arith, has_count h, c.requires.factors.count, c.if-at-self.true))

pub id-requires-clause-within : goal.id-requires-clause-within
id-requires-clause-within c = omega (arith, c.requires.factors.count, c.if-at-self.false)

pub factor_at-requires-clause-factor : goal.factor_at-requires-clause-factor
factor_at-requires-clause-factor c =
    let (m, h) = c.requires.monomial in
    let x = factor_read c.args.at h (omega (arith, has_count h, c.requires.factors.count, c.if-at-self.false)) c.id.ensures.tree in
    (x.factor, x.at.positive, x.tree)

pub returns : goal.returns
returns c = λ m h.
    let x = factor_read c.args.at h (omega (arith, has_count h, c.requires.factors.count, c.if-at-self.false)) c.id.ensures.tree in
    (x.factor, drop (suc c.args.at) m, x.at.rest, c.factor_at.ensures x.factor x.at.positive x.tree)
