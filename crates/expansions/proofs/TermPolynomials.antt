-- The polynomials of terms and of expanded trees, and how these are read.
use Rattle.expansions.proofs.Shared.{zero_is_zero, ◌≡◌, ◌≢◌, ◌≤◌, ℕ, zero, suc, List, [], ◌∷◌, ◌++◌, Bool, true, false, refl, sym, ap, ◌∙◌, arith, not, if◌then◌else◌, false_from_ne_true, product_tree}
use Rattle.expansions.proofs.Shared.{no_zero, IsSum, IsTerm, ◌⊎◌, inl, inr, one_is, whole_denominator, whole_numerator, zero_is, one_times, zero_plus, Fraction, is_one_fraction, is_zero_fraction}
use Rattle.expansions.proofs.Shared.{one_fraction, times, zero_fraction, Tree, num, mult, none, more, whole_num, IsNormal, expanded, factor_tree, factor_trees, monomial_tree, normal, sum_tree}
use Rattle.expansions.proofs.Shared.{term_tree, term_trees, AreMonomials, Factor, IsMonomial, Monomial, Polynomial, Summand, constant, factor, product, raised, summand, variable, exponent_of}
use Rattle.expansions.proofs.{Shared.{polynomial_of, product_of, sum_of, AreSame, IsExpanded, coefficient_in, factors_in, terms_in, times_one}, AllMonomials.{normal_all}, FactorTrees.{on_factor}}
use Rattle.expansions.proofs.{MonomialProducts.{name_again, put_first}, NormalForms.{normal_is}, SameCoefficients.{same_is, same_normal, same_trans}, TreeMonomials.{all_monomials, tree_monomials}}

-- ---- factors

exponent_is : (n : ℕ) → exponent_of (whole_num n) ≡ n
exponent_is n = grind (arith, whole_denominator, whole_numerator)

one_by_one : times one_fraction one_fraction ≡ one_fraction
one_by_one = one_times one_fraction

raised_name : (x : List ℕ) (n : ℕ) → raised (variable x) (suc n) ≡ summand one_fraction (factor x (suc n) ∷ []) ∷ []
raised_name x zero = λ i. summand (one_by_one i) (factor x 1 ∷ []) ∷ []
raised_name x (suc n) =
    ap (product (variable x)) (raised_name x n) ∙ (λ i. summand (one_by_one i) (name_again x (suc n) i) ∷ [])

raised_some : (x : List ℕ) (n : ℕ) → 1 ≤ n → raised (variable x) n ≡ summand one_fraction (factor x n ∷ []) ∷ []
raised_some x n l = grind (arith, raised_name)

factor_polynomial : (f : Factor) → 1 ≤ f.exponent → polynomial_of (factor_tree f) ≡ summand one_fraction (f ∷ []) ∷ []
factor_polynomial f l = grind (arith, exponent_is, raised_some)

factors_polynomial : (m : Monomial) → IsMonomial m → product_of (factor_trees m) ≡ summand one_fraction m ∷ []
factors_polynomial [] h = refl
factors_polynomial (f ∷ m) h =
    (λ i. product (factor_polynomial f h.0 i) (factors_polynomial m h.2 i)) ∙ (λ i. summand (one_by_one i) (put_first f m h.1 i) ∷ [])

monomial_polynomial : (m : Monomial) → IsMonomial m → polynomial_of (monomial_tree m) ≡ summand one_fraction m ∷ []
monomial_polynomial [] h = refl
monomial_polynomial (f ∷ []) h = factor_polynomial f h.0
monomial_polynomial (f ∷ g ∷ m) h = factors_polynomial (f ∷ g ∷ m) h

-- ---- terms

pub term_polynomial : (s : Summand) → IsMonomial s.monomial → polynomial_of (term_tree s) ≡ s ∷ []
term_polynomial s h = grind (arith, monomial_polynomial, one_is, factors_polynomial, times_one)

pub terms_polynomial : (v : Polynomial) → AreMonomials v → sum_of (term_trees v) ≡ v
terms_polynomial [] h = refl
terms_polynomial (s ∷ v) h = λ i. term_polynomial s h.0 i ++ terms_polynomial v h.1 i

-- ---- expanded trees

zero_constant : AreSame (constant zero_fraction) []
zero_constant = record { at = λ m. grind (arith, zero_plus) }

sum_polynomial : (v : Polynomial) → AreMonomials v → AreSame (polynomial_of (sum_tree (term_trees v))) v
sum_polynomial [] h = zero_constant
sum_polynomial (s ∷ []) h = same_is (term_polynomial s h.0)
sum_polynomial (s ∷ t ∷ v) h = same_is (terms_polynomial (s ∷ t ∷ v) h)

pub tree_normal : (t : Tree) → AreMonomials (normal (polynomial_of t))
tree_normal t = all_monomials (normal (polynomial_of t)) (normal_all IsMonomial (polynomial_of t) (tree_monomials t))

-- the polynomial of the expanded tree has the same coefficients
pub expanded_polynomial : (v : Polynomial) → AreMonomials (normal v) → AreSame (polynomial_of (expanded v)) v
expanded_polynomial v h = same_trans (sum_polynomial (normal v) h) (same_normal v)

-- ---- as they are read

factor_coefficient : (f : Factor) → coefficient_in (factor_tree f) ≡ one_fraction
factor_coefficient f = on_factor (λ t. coefficient_in t ≡ one_fraction) f refl refl

factor_factors : (f : Factor) → factors_in (factor_tree f) ≡ more (factor_tree f) none
factor_factors f = on_factor (λ t. factors_in t ≡ more t none) f refl refl

pub term_coefficient : (s : Summand) → coefficient_in (term_tree s) ≡ s.coefficient
term_coefficient s = by (is_one_fraction s.coefficient) refl s.monomial
  where
    by : (b : Bool) → is_one_fraction s.coefficient ≡ b → (m : Monomial) → coefficient_in (if b then monomial_tree m else product_tree (more (num s.coefficient) (factor_trees m))) ≡ s.coefficient
    by true e [] = sym (one_is s.coefficient e)
    by true e (f ∷ []) = factor_coefficient f ∙ sym (one_is s.coefficient e)
    by true e (f ∷ g ∷ m) = on_factor (λ t. coefficient_in (mult (more t (factor_trees (g ∷ m)))) ≡ one_fraction) f refl refl ∙ sym (one_is s.coefficient e)
    by false e [] = refl
    by false e (f ∷ m) = refl

pub term_factors : (s : Summand) → factors_in (term_tree s) ≡ factor_trees s.monomial
term_factors s = by (is_one_fraction s.coefficient) s.monomial
  where
    by : (b : Bool) (m : Monomial) → factors_in (if b then monomial_tree m else product_tree (more (num s.coefficient) (factor_trees m))) ≡ factor_trees m
    by true [] = refl
    by true (f ∷ []) = factor_factors f
    by true (f ∷ g ∷ m) = on_factor (λ t. factors_in (mult (more t (factor_trees (g ∷ m)))) ≡ more t (factor_trees (g ∷ m))) f refl refl
    by false [] = refl
    by false (f ∷ m) = refl

-- a term other than 0 is its only term
term_alone : (s : Summand) → s.coefficient ≢ zero_fraction → terms_in (term_tree s) ≡ more (term_tree s) none
term_alone s z = by (is_one_fraction s.coefficient) refl s.monomial
  where
    some : is_zero_fraction s.coefficient ≡ false
    some = false_from_ne_true (is_zero_fraction s.coefficient) (λ e. z (zero_is s.coefficient e))

    by : (b : Bool) → is_one_fraction s.coefficient ≡ b → (m : Monomial)
        → terms_in (if b then monomial_tree m else product_tree (more (num s.coefficient) (factor_trees m))) ≡ more (if b then monomial_tree m else product_tree (more (num s.coefficient) (factor_trees m))) none
    by true e [] = ap (λ (q : Fraction). if is_zero_fraction q then none else more (num one_fraction) none) (sym (one_is s.coefficient e))
        ∙ ap (λ (b : Bool). if b then none else more (num one_fraction) none) some
    by true e (f ∷ []) = on_factor (λ t. terms_in t ≡ more t none) f refl refl
    by true e (f ∷ g ∷ m) = refl
    by false e [] = ap (λ (b : Bool). if b then none else more (num s.coefficient) none) some
    by false e (f ∷ m) = refl

sum_terms : (v : Polynomial) → IsNormal v → terms_in (sum_tree (term_trees v)) ≡ term_trees v
sum_terms [] h = ap (λ (b : Bool). if b then none else more (num zero_fraction) none) zero_is_zero
sum_terms (s ∷ []) h = term_alone s h.0
sum_terms (s ∷ t ∷ v) h = refl

pub expanded_terms : (t : Tree) → IsExpanded t → terms_in t ≡ term_trees (normal (polynomial_of t))
expanded_terms t e = ap terms_in e ∙ sum_terms (normal (polynomial_of t)) (normal_is (polynomial_of t))

-- ---- of a sum and of a term

pub sum_polynomial_is : {t : Tree} (s : IsSum t) → polynomial_of t ≡ s.summands
sum_polynomial_is s = ap polynomial_of s.tree ∙ terms_polynomial s.summands s.monomials

pub term_polynomial_is : {t : Tree} (x : IsTerm t) → polynomial_of t ≡ x.summand ∷ []
term_polynomial_is x = ap polynomial_of x.tree ∙ term_polynomial x.summand x.monomial

-- ---- an expanded tree has a normal polynomial, or is 0

pub normal_or_none : (t : Tree) → IsExpanded t → (normal (polynomial_of t) ≡ polynomial_of t) ⊎ (normal (polynomial_of t) ≡ [])
normal_or_none t e = by (normal (polynomial_of t)) refl (tree_normal t)
  where
    by : (w : Polynomial) → normal (polynomial_of t) ≡ w → AreMonomials w → (w ≡ polynomial_of t) ⊎ (w ≡ [])
    by [] q m = inr refl
    by (s ∷ []) q m = inl (sym (ap polynomial_of e ∙ ap (λ (u : Polynomial). polynomial_of (sum_tree (term_trees u))) q ∙ term_polynomial s m.0))
    by (s ∷ u ∷ w) q m = inl (sym (ap polynomial_of e ∙ ap (λ (x : Polynomial). polynomial_of (sum_tree (term_trees x))) q ∙ terms_polynomial (s ∷ u ∷ w) m))
