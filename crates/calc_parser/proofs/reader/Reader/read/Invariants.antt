use Rattle.std.proofs.Common.{◌≡◌, ◌≤◌, ◌*◌, ◌++◌, drop, List}
use Rattle.calc_parser.proofs.Shared.{Token, run, start, state_in, room_in, tokens_in}
use Rattle.calc_parser.proofs.reader.Reader.read.Given as goal

abbrev pub invariant-loop-at : goal.invariant-loop-at
invariant-loop-at l =
    ((behind : List Token) → run (state_in (tokens_in l.tokens ++ behind) l.self) (drop l.at (tokens_in l.tokens)) ≡ run start (tokens_in l.tokens))
    × (room_in l.self ≤ 2 * l.at)
