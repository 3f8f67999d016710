use Rattle.expand_forms.proofs.{Shared.{arith, child_bits, children_of}, OverAnswers.{each_polynomial, leaf_expanded}, PowersOfSums.{child_lacks, leaf_ready}, ChildRooms.{all_polynomials}}
use Rattle.expand_forms.proofs.expansion.TermListsNodeStep.laws.Goals as goal

pub returns : goal.returns
returns c = record {
  leaf = λ t p l. leaf_ready t t (leaf_expanded t l);
  children = λ t p. each_polynomial (children_of t) (all_polynomials t p);
  child_lacks = λ t u before done behind bytes p n l. child_lacks t u before done behind bytes p n l;
  child_overflows = λ t u before done behind place o p n l. omega (arith, l, child_bits t before u behind n.split);
}
