-- How much room the nodes and what is open take.
use Rattle.calc_parser.proofs.Shared.{◌≤◌, List, [], ◌∷◌, length, arith, Open, weight_of, weight}

pub weight_of_pos : (x : Open) → 1 ≤ weight_of x
weight_of_pos x = grind arith

pub length_weight : (s : List Open) → length s ≤ weight s
length_weight [] = omega arith
length_weight (x ∷ s) = omega (arith, length_weight s, weight_of_pos x)
