-- The order of factors and of monomials, by the kinds of their trees first.
use Rattle.expansions.proofs.Shared.{then-equal, ◌≡◌, ℕ, ℤ, pos, ◌*ℤ◌, List, [], ◌∷◌, Bool, true, false, refl, sym, ap, ◌∙◌, arith, not, int_cmp, fraction_cmp, name_of, before_zero, padded, Ordering}
use Rattle.expansions.proofs.Shared.{Name, trees_cmp, root_code, ordering_then, ints, bytes_eq, bytes_eq-Decides, tree_cmp_same, Less, Equal, Greater, nat_cmp, slice_cmp, tree_cmp, tree_cmp_refl}
use Rattle.expansions.proofs.Shared.{whole_numerator, whole_denominator, lowest, one_fraction, num, symbol, mult, factor_tree, factor_trees, monomial_cmp, monomial_tree, Factor, Monomial}
use Rattle.expansions.proofs.FactorTrees.{on_factor, on_monomial}
use Rattle.calc_measures.proofs.LiteralValues.{one_times as times_one}

-- ---- whole exponents

cross_is : (a b : ℕ) → (lowest (pos a) 1).num *ℤ pos (lowest (pos b) 1).den ≡ pos a
cross_is a b = (λ i. whole_numerator (pos a) i *ℤ pos (whole_denominator (pos b) i)) ∙ times_one (pos a)

pub natural_cmp : (a b : ℕ) → int_cmp (pos a) (pos b) ≡ nat_cmp a b
natural_cmp a b = grind arith

whole_cmp : (a b : ℕ) → fraction_cmp (lowest (pos a) 1) (lowest (pos b) 1) ≡ nat_cmp a b
whole_cmp a b = (λ i. int_cmp (cross_is a b i) (cross_is b a i)) ∙ natural_cmp a b

-- ---- names

pub one_name : (x y : Name) → name_of x ≡ name_of y → x.text ≡ y.text
one_name x y e = x.holds_name.whole ∙ ap padded e ∙ sym y.holds_name.whole

pub symbol_is : {x y : List ℕ} → symbol x ≡ symbol y → x ≡ y
symbol_is e = cc

pub names_equal : (x y : Name) (b : Bool) → b ≡ not (bytes_eq x.text y.text) → b ≡ false → slice_cmp nat_cmp (name_of x) (name_of y) ≡ Equal
names_equal x y b e h = tree_cmp_same (symbol (name_of x)) (symbol (name_of y)) (ap (λ t. symbol (before_zero t)) ((bytes_eq-Decides x.text y.text).0 (no_not _ (sym e ∙ h))))
  where
    no_not : (a : Bool) → not a ≡ false → a ≡ true
    no_not a k = grind arith

-- ---- factors

-- kinds decide, and then names, and then exponents
pub factors_cmp : (f g : Factor) → tree_cmp (factor_tree f) (factor_tree g) ≡ ordering_then (nat_cmp (root_code (factor_tree f)) (root_code (factor_tree g))) (ordering_then (slice_cmp nat_cmp f.name g.name) (nat_cmp f.exponent g.exponent))
factors_cmp f g = grind (arith, whole_cmp, then-equal)

-- ---- monomials

-- the same kind twice
kinds_first : (f g : Factor) → tree_cmp (factor_tree f) (factor_tree g) ≡ ordering_then (nat_cmp (root_code (factor_tree f)) (root_code (factor_tree g))) (ordering_then (tree_cmp (factor_tree f) (factor_tree g)) Equal)
kinds_first f g = grind (arith, then-equal)

-- kinds decide, and then the factors
pub monomials_cmp : (m n : Monomial) → monomial_cmp m n ≡ ordering_then (nat_cmp (root_code (monomial_tree m)) (root_code (monomial_tree n))) (trees_cmp (factor_trees m) (factor_trees n))
monomials_cmp [] [] = tree_cmp_refl (num one_fraction)
monomials_cmp [] (g ∷ n) =
    on_monomial (λ v. tree_cmp (num one_fraction) v ≡ ordering_then (nat_cmp 1 (root_code v)) Less) g n
    (on_factor (λ v. tree_cmp (num one_fraction) v ≡ ordering_then (nat_cmp 1 (root_code v)) Less) g refl refl) (λ h k. refl)
monomials_cmp (f ∷ m) [] =
    on_monomial (λ v. tree_cmp v (num one_fraction) ≡ ordering_then (nat_cmp (root_code v) 1) Greater) f m
    (on_factor (λ v. tree_cmp v (num one_fraction) ≡ ordering_then (nat_cmp (root_code v) 1) Greater) f refl refl) (λ h k. refl)
monomials_cmp (f ∷ []) (g ∷ []) = kinds_first f g
monomials_cmp (f ∷ []) (g ∷ h ∷ n) =
    on_factor (λ v. tree_cmp v (mult (factor_trees (g ∷ h ∷ n))) ≡ ordering_then (nat_cmp (root_code v) 5) (trees_cmp (factor_trees (f ∷ [])) (factor_trees (g ∷ h ∷ n)))) f refl refl
monomials_cmp (f ∷ k ∷ m) (g ∷ []) =
    on_factor (λ v. tree_cmp (mult (factor_trees (f ∷ k ∷ m))) v ≡ ordering_then (nat_cmp 5 (root_code v)) (trees_cmp (factor_trees (f ∷ k ∷ m)) (factor_trees (g ∷ [])))) g refl refl
monomials_cmp (f ∷ k ∷ m) (g ∷ h ∷ n) = refl
