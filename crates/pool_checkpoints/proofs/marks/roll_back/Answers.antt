use Rattle.std.proofs.Common.{◌∙◌}
use Rattle.pool_checkpoints.proofs.marks.roll_back.Goals as goal

pub drop_behind-requires-clause-front : goal.drop_behind-requires-clause-front
drop_behind-requires-clause-front c =
    let (first, b) = c.requires.below in
    (first, b.starts, c.mark.view_is ∙ b.bytes)

pub returns-clause-forest : goal.returns-clause-forest
returns-clause-forest c = λ first b. c.drop_behind.ensures.forest first b.starts (c.mark.view_is ∙ b.bytes)
