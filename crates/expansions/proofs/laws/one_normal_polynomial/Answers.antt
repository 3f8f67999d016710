use Rattle.expansions.proofs.NormalForms.{normal_coefficient, normal_is, one_normal}
use Rattle.expansions.proofs.laws.one_normal_polynomial.Goals as goal

pub returns : goal.returns
returns c =
    record {
      normal = normal_is;
      coefficients = normal_coefficient;
      only = one_normal;
    }
