use Rattle.product_reduce.proofs.Shared.{ℕ, ◌<◌, count, forest, HasNoPartner, factors_in}
use Rattle.product_reduce.proofs.steps.first_pair.Given as goal

abbrev pub invariant-loop-first : goal.invariant-loop-first
invariant-loop-first l = let ts = factors_in l.product (forest l.pool) in (k : ℕ) → k < l.first → HasNoPartner k (count ts) ts
