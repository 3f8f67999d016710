use Rattle.line_text.proofs.Parts.{deciding_root}
use Rattle.line_text.proofs.writing.deciding_kind.Goals as goal

pub returns-in_default : goal.returns-in_default
returns-in_default c = deciding_root c.args.place c.args.node.now c.args.pool.now c.requires.live c.requires.node c.in_default.not-Neg
