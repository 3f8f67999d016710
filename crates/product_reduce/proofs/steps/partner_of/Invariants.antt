use Rattle.product_reduce.proofs.Shared.{forest, HasNoPartner, factors_in}
use Rattle.product_reduce.proofs.steps.partner_of.Given as goal

abbrev pub invariant-loop-second : goal.invariant-loop-second
invariant-loop-second l = HasNoPartner l.first l.second (factors_in l.product (forest l.pool))
