use Rattle.std.proofs.Common.{◌≡◌, ◌≤◌, drop, map, List, []}
use Rattle.calc_parser.proofs.Shared.{array_vec_len, Token, deepest, with_nodes, node_of}
use Rattle.calc_parser.proofs.depth.depth.Given as goal

abbrev pub invariant-loop-step : goal.invariant-loop-step
invariant-loop-step l =
    ((ts : List Token) → with_nodes l.depths.items (map (node_of ts) (drop l.step-index l.steps)) ≡ with_nodes [] (map (node_of ts) l.steps))
    × (array_vec_len l.depths ≤ l.step-index) × (deepest l.depths.items ≤ l.step-index)
