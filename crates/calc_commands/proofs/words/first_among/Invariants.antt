use Rattle.calc_commands.proofs.Shared.{◌≡◌, drop, word_among}
use Rattle.calc_commands.proofs.words.first_among.Given as goal

abbrev pub invariant-loop-word : goal.invariant-loop-word
invariant-loop-word l = word_among (drop l.word-index l.words) l.bytes ≡ word_among l.words l.bytes
