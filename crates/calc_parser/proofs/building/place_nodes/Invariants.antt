use Rattle.calc_parser.proofs.{Shared.{◌≡◌, ◌≤◌, drop, map, MatchOption, array_vec_len, forest, node_of, tokens_in}, UnderWay.{IsUnderWay, IsLast}}
use Rattle.calc_parser.proofs.building.place_nodes.Given as goal

abbrev pub invariant-loop-step : goal.invariant-loop-step
invariant-loop-step l =
    IsUnderWay l.fn.pool l.pool l.places.items (map (node_of (tokens_in l.tokens)) l.steps) (map (node_of (tokens_in l.tokens)) (drop l.step-index l.steps))
    × (array_vec_len l.places ≤ l.step-index) × MatchOption l.root (l.step-index ≡ 0) (λ root. IsLast root (forest l.pool))
