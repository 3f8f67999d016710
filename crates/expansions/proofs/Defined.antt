-- Expanded trees are not Undef.
use Rattle.expansions.proofs.Shared.{arith, ◌≡◌, false, [], ◌∷◌, refl, product_tree, num, more, is_undef, expanded, factor_tree, factor_trees, monomial_tree, normal, sum_tree, term_tree, term_trees}
use Rattle.expansions.proofs.Shared.{Factor, Monomial, Polynomial, Summand}

factor_defined : (f : Factor) → is_undef (factor_tree f) ≡ false
factor_defined f = grind arith

monomial_defined : (m : Monomial) → is_undef (monomial_tree m) ≡ false
monomial_defined [] = refl
monomial_defined (f ∷ []) = factor_defined f
monomial_defined (f ∷ g ∷ m) = refl

scaled_defined : (s : Summand) (m : Monomial) → is_undef (product_tree (more (num s.coefficient) (factor_trees m))) ≡ false
scaled_defined s m = grind arith

term_defined : (s : Summand) → is_undef (term_tree s) ≡ false
term_defined s = grind (arith, monomial_defined, scaled_defined)

pub expanded_defined : (v : Polynomial) → is_undef (expanded v) ≡ false
expanded_defined v = by (normal v)
  where
    by : (w : Polynomial) → is_undef (sum_tree (term_trees w)) ≡ false
    by [] = refl
    by (s ∷ []) = term_defined s
    by (s ∷ t ∷ w) = refl
