use Rattle.calc_tokens.proofs.Shared.{◌∙◌, prefix_len-le-length, is_digit, run_front, run_back}
use Rattle.calc_tokens.proofs.literals.digits.Goals as goal

pub split_at-requires : goal.split_at-requires
split_at-requires c = rw c.digits_len.ensures (prefix_len-le-length is_digit c.args.bytes.now)

pub returns-clause-front : goal.returns-clause-front
returns-clause-front c = c.split_at.ensures.front ∙ rw c.digits_len.ensures (run_front is_digit c.args.bytes.now)

pub returns-clause-behind : goal.returns-clause-behind
returns-clause-behind c = c.split_at.ensures.back ∙ rw c.digits_len.ensures (run_back is_digit c.args.bytes.now)
