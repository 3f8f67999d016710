-- What the checker cites where a number is made beside a handed tree, and both are put under a new node.
use Rattle.deep_reduce.proofs.Shared.{num_bytes, number_refused, refused_below, behind_first, behind_new, front_after, front_after_two, front_end, front_same, given_apart, given_handed, given_told}
use Rattle.deep_reduce.proofs.{Shared.{given_free, passed_on}, Sides.{apart_second}}

pub ruleset number_beside = (
  front_after,
  front_same,
  front_after_two,
  front_end,
  behind_first,
  behind_new,
  given_handed,
  given_told,
  given_apart,
  apart_second,
  given_free,
  num_bytes,
  number_refused,
  refused_below,
  passed_on,
)
