-- Expanded trees as answers.
use Rattle.expand_forms.proofs.Shared.{one_nonzero, ◌≡◌, ◌≤◌, ℕ, List, [], ◌∷◌, ◌++◌, Bool, true, false, refl, sym, ap, ◌∙◌, arith, append-nil, not, if◌then◌else◌, no_one, one_is, zero_is}
use Rattle.expand_forms.proofs.Shared.{product_tree, Fraction, is_one_fraction, one_fraction, zero_fraction, Tree, num}
use Rattle.expand_forms.proofs.Shared.{symbol, add, none, more, count, IsNormal, expanded, normal, sum_tree, term_trees, AreMonomials, IsMonomial, Polynomial, coefficient_at, constant, factor}
use Rattle.expand_forms.proofs.Shared.{summand, variable, polynomial_of, AreSame, IsExpanded, IsSum, IsSumOf, children_of, nth, AllHave, normal_all, sum_polynomial_is}
use Rattle.expand_forms.proofs.{Shared.{expanded_polynomial, normal_coefficient, normal_is, one_normal, normal_same, same_sym, same_trans, all_monomials}, Sums.{sum_is}, TermReadings.{sum_children}}

pub expanded_same : {v w : Polynomial} → AreSame v w → expanded v ≡ expanded w
expanded_same h = ap (λ (u : Polynomial). sum_tree (term_trees u)) (normal_same h)

-- a normal polynomial is its own normal form
pub normal_itself : (v : Polynomial) → IsNormal v → normal v ≡ v
normal_itself v h = one_normal (normal v) v (normal_is v) h (λ m. normal_coefficient m v)

-- the tree of a sum's terms
pub sum_expanded : {t : Tree} (s : IsSum t) → expanded (polynomial_of t) ≡ sum_tree (children_of t)
sum_expanded s =
    ap expanded (sum_polynomial_is s) ∙ ap (λ (u : Polynomial). sum_tree (term_trees u)) (normal_itself s.summands s.normal) ∙ ap sum_tree (sym (sum_children s))

pub with_monomials : (v : Polynomial) → AllHave IsMonomial v → AreMonomials (normal v)
with_monomials v h = all_monomials (normal v) (normal_all IsMonomial v h)

-- the polynomial of an expanded tree
pub same_polynomial : {t : Tree} {v : Polynomial} → AllHave IsMonomial v → t ≡ expanded v → AreSame (polynomial_of t) v
same_polynomial {v = v} h e = same_trans (record { at = λ m. ap (λ (u : Tree). coefficient_at m (polynomial_of u)) e }) (expanded_polynomial v (with_monomials v h))

pub is_expanded : {t : Tree} (v : Polynomial) → AllHave IsMonomial v → t ≡ expanded v → IsExpanded t
is_expanded v h e = e ∙ expanded_same (same_sym (same_polynomial h e))

-- ---- rationals

pub constant_expanded : (q : Fraction) → expanded (constant q) ≡ num q
constant_expanded q = grind (arith, one_is, zero_is)

pub constant_is_expanded : (q : Fraction) → IsExpanded (num q)
constant_is_expanded q = sym (constant_expanded q)

-- ---- sums that are finished

pub none_sum : {t : Tree} (s : IsSum t) → count (children_of t) ≡ 0 → expanded (polynomial_of t) ≡ num zero_fraction
none_sum s e = grind (arith, sum_expanded)

pub one_sum : {t : Tree} (s : IsSum t) → count (children_of t) ≡ 1 → nth 0 (children_of t) ≡ expanded (polynomial_of t)
one_sum s e = grind (arith, sum_expanded)

pub more_sum : {t : Tree} (s : IsSum t) → 2 ≤ count (children_of t) → t ≡ expanded (polynomial_of t)
more_sum s l = grind (arith, sum_is, sum_expanded)

-- a sum of these coefficients
pub sum_same : {t : Tree} {v : Polynomial} → IsSumOf v t → expanded (polynomial_of t) ≡ expanded v
sum_same h = ap expanded (sum_polynomial_is h.sum) ∙ expanded_same h.same

-- ---- powers

-- a new sum has no term
pub empty_sum : {t : Tree} → t ≡ add none → IsSum t
empty_sum e = record { summands = []; normal = tt; monomials = tt; tree = e }

pub nothing_added : (v : Polynomial) {t : Tree} → t ≡ add none → v ++ polynomial_of t ≡ v
nothing_added v e = ap (λ (u : Tree). v ++ polynomial_of u) e ∙ append-nil v

pub name_expanded : (x : List ℕ) → expanded (variable x) ≡ symbol x
name_expanded x =
    ap (λ (b : Bool). sum_tree (term_trees (if b then [] else summand one_fraction (factor x 1 ∷ []) ∷ []))) one_nonzero
    ∙ ap (λ (b : Bool). if b then symbol x else product_tree (more (num one_fraction) (more (symbol x) none))) one_itself
  where
    one_itself : is_one_fraction one_fraction ≡ true
    one_itself = by (is_one_fraction one_fraction) refl
      where
        by : (b : Bool) → is_one_fraction one_fraction ≡ b → b ≡ true
        by true e = refl
        by false e = absurd (no_one one_fraction (ap not e) refl)
