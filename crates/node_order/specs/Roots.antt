-- The order of trees, split into that of their roots and that of what stands below.
use Rattle.std.specs.{declared.cmp.Ordering.{Ordering}, declared.cmp.Ordering.TheVariants.{Equal}, Ordering.{nat_cmp, ordering_then}, Cmp.Lexicographic.{slice_cmp}}
use Rattle.calc_terms.specs.{Fractions.{lowest, fraction_cmp}, Kind.{code_of}, Payload.{Payload, rational, named, kind_of_payload}}

-- leaves of one kind: rationals by value, names by their bytes
abbrev pub value_cmp : Payload → Payload → Ordering
value_cmp (rational r) (rational q) = fraction_cmp (lowest r.num r.den) (lowest q.num q.den)
value_cmp (named x) (named y) = slice_cmp nat_cmp x y
value_cmp _ _ = Equal

-- what two nodes hold: by kind, then by value
abbrev pub payload_cmp : Payload → Payload → Ordering
payload_cmp x y = ordering_then (nat_cmp (code_of (kind_of_payload x)) (code_of (kind_of_payload y))) (value_cmp x y)
