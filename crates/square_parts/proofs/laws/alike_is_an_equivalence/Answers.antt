use Rattle.square_parts.proofs.{Shared.{refl, alike_from, alike_true, alike_trans}, SquareFactors.{alike_turned}}
use Rattle.square_parts.proofs.laws.alike_is_an_equivalence.Goals as goal

pub returns : goal.returns
returns c = record {
  square = λ r s. (λ h. let a = alike_from r s h in (_, a.positive, a.square), λ (t, positive, square). alike_true r s t (record { square = square; positive = positive }));
  reflexive = λ r positive. alike_true r r r (record { square = refl; positive = positive });
  symmetric = alike_turned;
  transitive = λ r s t h k. alike_true r t _ ((alike_trans r s t _ _ (alike_from r s h) (alike_from s t k)).1);
}
