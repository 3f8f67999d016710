use Rattle.tree_handles.proofs.{Shared.{◌∙◌, ap, sym, arith, boundary_le, since, skip}, Walks.owed_end}
use Rattle.tree_handles.proofs.walk.behind.Goals as goal

pub loop-owed-init : goal.loop-owed-init
loop-owed-init c = record {
  boundary = c.requires.boundary;
  within = boundary_le c.args.at c.args.pool.now.nodes c.requires.boundary;
  order = omega arith;
  rest = ap (λ n. skip n (since c.args.at c.args.pool.now.nodes)) c.from-owed.ensures;
  few = omega arith;
}

pub returns-else-place-end-clause-rest : goal.returns-else-place-end-clause-rest
returns-else-place-end-clause-rest c = sym (owed_end c.args.pool.now.nodes c.loop-owed.place c.loop-owed.owed (omega arith)) ∙ c.loop-owed.invariant.rest
