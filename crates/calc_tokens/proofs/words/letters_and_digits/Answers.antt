use Rattle.calc_tokens.proofs.Shared.{◌∙◌, prefix_len-le-length, is_name_byte, run_front, run_back}
use Rattle.calc_tokens.proofs.words.letters_and_digits.Goals as goal

pub split_at-requires : goal.split_at-requires
split_at-requires c = rw c.letters_and_digits_len.ensures (prefix_len-le-length is_name_byte c.args.bytes.now)

pub returns-clause-front : goal.returns-clause-front
returns-clause-front c = c.split_at.ensures.front ∙ rw c.letters_and_digits_len.ensures (run_front is_name_byte c.args.bytes.now)

pub returns-clause-behind : goal.returns-clause-behind
returns-clause-behind c = c.split_at.ensures.back ∙ rw c.letters_and_digits_len.ensures (run_back is_name_byte c.args.bytes.now)
