-- Bytes of trees.
use Rattle.beautify.proofs.Shared.{◌≡◌, ◌+◌, ◌*◌, ◌≤◌, arith, Trees, none, more, append, count, sizes, least_size}

pub eight_each : (ts : Trees) → 8 * count ts ≤ sizes ts
eight_each none = omega arith
eight_each (more t ts) = omega (arith, least_size t, eight_each ts)
