use Rattle.raw_region.proofs.Turns.{cleared_ends}
use Rattle.raw_region.proofs.moves.clear_ends.Goals as goal

pub returns : goal.returns
returns g c = cleared_ends c.args.bytes.now c.write.new.bytes c.write-2.new.bytes c.args.from c.args.to g.row.N c.requires.first c.requires.last c.requires.inside c.write.ensures c.write-2.ensures
