use Rattle.pool_layouts.proofs.{Shared.{sym, subst, IsSmall}, Measures.{first_read, first_small}}
use Rattle.pool_layouts.proofs.extents.extent_at.Goals as goal

pub returns-clause-small : goal.returns-clause-small
returns-clause-small c = let (l, k, r, h) = c.requires.some in subst IsSmall (sym (first_read l k r c.args.at c.args.extents.now _ h)) (first_small l k r c.args.at c.args.extents.now h)
