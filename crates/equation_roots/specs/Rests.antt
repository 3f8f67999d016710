-- What is left of a factoring, as the code has it.
use Rattle.std.specs.Prelude.{ℕ, pos}
use Rattle.calc_terms.specs.{Fractions.{Fraction, plus, times, negative, whole_fraction}, Rat.{value_of}}
use Rattle.equation_roots.specs.{Factorings.{Rest, nothing, rootless, pair}, Pairs.{beside_of, middle_of, radicand_of}}
use Rattle.equation_roots.specs.{declared.rest.Rest.{Rest as RestOfCode}, declared.rest.Rest.TheVariants.{Nothing, Rootless, Pair}}

-- the quadratic whose roots are m - s√t and m + s√t
abbrev pub pair_of : Fraction → Fraction → ℕ → Rest
pair_of m s t = pair (negative (plus m m)) (plus (times m m) (negative (times (times s s) (whole_fraction (pos t))))) m s t

abbrev pub rest_of : RestOfCode → Rest
rest_of Nothing = nothing
rest_of (Rootless q) = rootless (value_of q.half) (value_of q.constant)
rest_of (Pair p) = pair_of (middle_of p) (beside_of p) (radicand_of p)
