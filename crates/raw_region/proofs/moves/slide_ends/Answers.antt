use Rattle.raw_region.proofs.Slides.{slid_ends}
use Rattle.raw_region.proofs.moves.slide_ends.Goals as goal

pub returns : goal.returns
returns g c =
    slid_ends c.args.bytes.now c.store.new.bytes c.store-2.new.bytes c.load-first.result c.load-last.result c.args.from c.args.to c.args.len g.row.N c.requires.first c.requires.last c.requires.source c.requires.target
    c.load-first.ensures c.load-last.ensures c.store.ensures c.store-2.ensures
