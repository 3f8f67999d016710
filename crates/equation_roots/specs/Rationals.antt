-- Rationals in rising order.
use Rattle.std.specs.Prelude.{◌≡◌, List, ◌∷◌, ◌++◌, map}
use Rattle.calc_terms.specs.{Fractions.{Fraction}, Rat.{value_of}}
use Rattle.equation_roots.specs.declared.rationals.Rationals.{Rationals}

abbrev pub rationals_of : Rationals → List Fraction
rationals_of r = map (λ e. value_of e.value) r.entries.items

-- one more stands somewhere among them
pub record IsInserted (q : Fraction) (xs ys : List Fraction) : Type 0 where
  pub front : List Fraction
  pub back : List Fraction
  pub before : xs ≡ front ++ back
  pub after : ys ≡ front ++ q ∷ back
