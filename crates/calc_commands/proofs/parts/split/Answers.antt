use Rattle.calc_commands.proofs.Shared.{◌∙◌, is_in, prefix_len-le-length, run_front, run_back}
use Rattle.calc_commands.proofs.parts.split.Goals as goal

pub split_at-requires : goal.split_at-requires
split_at-requires c = rw c.run_len.ensures (prefix_len-le-length (is_in c.args.class) c.args.bytes.now)

pub returns-clause-front : goal.returns-clause-front
returns-clause-front c = c.split_at.ensures.front ∙ rw c.run_len.ensures (run_front (is_in c.args.class) c.args.bytes.now)

pub returns-clause-behind : goal.returns-clause-behind
returns-clause-behind c = c.split_at.ensures.back ∙ rw c.run_len.ensures (run_back (is_in c.args.class) c.args.bytes.now)
