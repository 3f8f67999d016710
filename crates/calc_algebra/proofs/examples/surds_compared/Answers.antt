use Rattle.calc_algebra.proofs.{Shared.{◌≡◌, refl, pos, ap, arith, gcd, lowest, plus, times, zero_fraction, one_fraction, square_root}, Compared.{compared_same}}
use Rattle.calc_algebra.proofs.examples.surds_compared.Goals as goal

pub returns : goal.returns
unfolding square_root gcd lowest plus times zero_fraction one_fraction
returns c = record {
  one_class = compared_same _ _ refl;
  another_order = compared_same _ _ refl;
  zero = compared_same _ _ refl;
  two_classes = λ h. (let e = h.of_first 2 (0, omega arith, refl) in let f : pos 1 ≡ pos 0 = ap (λ q. q.num) e in cc);
}
