use Rattle.calc_algebra.proofs.Shared.{refl, inr, [], ◌∷◌, ◌++◌, pos, negsuc, gcd, lowest, quotient, plus, times, zero_fraction, one_fraction, minus_one_fraction, square_root, term, surd_of}
use Rattle.calc_algebra.proofs.{Shared.{whole_num}, SquareClassLaws.{Same-trans}, InverseLaws.{Inverts-not_zero}, PowerLaws.{root_zero, zero_surd_of}, BadLaws.{no_root}, NumberRewrites.{root_parts}}
use Rattle.calc_algebra.proofs.{PowerRewrites.{half_exponent_is, power_parts}, Compared.{compared_same}}
use Rattle.calc_algebra.proofs.examples.meanings_found.Goals as goal

pub returns : goal.returns
unfolding square_root gcd lowest plus times zero_fraction one_fraction
returns c = record {
  an_inverse = λ f.
      let one = surd_of (lowest (pos 1) 1) in
      let two = surd_of (lowest (pos 2) 1) in
      let three = surd_of (lowest (pos 3) 1) in
      let a = term (lowest (pos 1) 1) 2 ∷ [] in
      let b = term (lowest (pos 1) 1) 3 ∷ [] in
      let y = term minus_one_fraction 2 ∷ term one_fraction 3 ∷ [] in (
        one,
        a ++ (b ++ []),
        y,
        compared_same _ _ refl,
        (
          a ++ (b ++ []),
          (
            a,
            b ++ [],
            (two, compared_same _ _ refl, (lowest (pos 2) 1, compared_same _ _ refl, compared_same _ _ refl)),
            (b, [], (three, compared_same _ _ refl, (lowest (pos 3) 1, compared_same _ _ refl, compared_same _ _ refl)), refl, refl),
            refl,
          ),
          compared_same _ _ refl,
        ),
        compared_same _ _ refl,
        compared_same _ _ refl,
      );
  a_root_of_a_ratio = λ f. (surd_of (quotient 1 2), compared_same _ _ refl, (quotient 1 2, compared_same _ _ refl, compared_same _ _ refl));
  a_power_of_a_root = λ f.
      let four = surd_of (lowest (pos 4) 1) in
      let u = term (lowest (pos 1) 1) 4 ∷ [] in (
        four,
        surd_of (lowest (pos 3) 2),
        compared_same _ _ refl,
        compared_same _ _ refl,
        inr (lowest (pos 3) 2, refl, compared_same _ _ refl, u, (lowest (pos 4) 1, compared_same _ _ refl, compared_same _ _ refl), compared_same _ _ refl),
      );
  zero_to_the_zero = λ f v m. let p = power_parts f (whole_num 0) (pos 0) v m in p.is.0 (Same-trans p.base_means (zero_surd_of _ refl));
  a_root_of_a_negative = λ f v m. no_root (negsuc 0) 1 v refl (root_parts f (lowest (negsuc 0) 1) v m);
  a_negative_to_a_half = λ f v (w, x, m, n, i). let (u, r, p) = half_exponent_is (lowest (pos 1) 2) w x v refl n i in no_root (negsuc 3) 1 u refl (root_parts f (lowest (negsuc 3) 1) u (w, m, r));
  zero_to_a_negative_half = λ f v (w, x, m, n, i).
      let (u, r, p) = half_exponent_is (lowest (negsuc 0) 2) w x v refl n i in
      Inverts-not_zero p.0 u p.1 (root_zero w u r (Same-trans m (zero_surd_of _ refl)));
  undefined = λ f v m. m;
}
