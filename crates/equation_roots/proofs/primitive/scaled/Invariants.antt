use Rattle.std.proofs.Common.{◌≡◌, pos, map, take, length}
use Rattle.calc_terms.specs.Fractions.{times, whole_fraction}
use Rattle.equation_roots.specs.{Told.{dense_in, wholes_of}, Wholes.{fractions}}
use Rattle.equation_roots.proofs.primitive.scaled.Given as goal

abbrev pub invariant-loop-q : goal.invariant-loop-q
invariant-loop-q l = record {
  made : fractions (wholes_of l.wholes) ≡ map (times (whole_fraction (pos l.fn.common))) (take l.q-index (dense_in l.coefficients));
  long : length (wholes_of l.wholes) ≡ l.q-index;
}
