use Rattle.raw_region.proofs.Turns.{rotated_by}
use Rattle.raw_region.proofs.moves.rotate_down.Goals as goal

pub returns : goal.returns
returns g c = rotated_by c.args.bytes.now c.slide.new.bytes c.write.new.bytes c.copy_from_slice.new.self _ c.args.start c.args.mid c.args.end c.requires.low c.requires.high c.requires.inside c.slide.ensures c.copy_from_slice.ensures.after c.write.ensures
