-- The expanded tree of a polynomial is reduced.
use Rattle.expansions.proofs.Shared.{arith, ◌≡◌, ◌≢◌, inl, inr, [], ◌∷◌, true, refl, sym, ap, ◌∙◌, subst, if◌then◌else◌, not_from_false, Less, is_number, HasForm, IsSumForm, NoneIs, RisesBy}
use Rattle.expansions.proofs.Shared.{is_reduced, number_terms, other_terms, part_of, tree_cmp, one_is, zero_test, Fraction, zero_fraction, AllParts, AllPartsOf, HasTwo, Tree, num, Trees, none, more}
use Rattle.expansions.proofs.Shared.{is_add, IsBeforeAll, IsNormal, expanded, monomial_cmp, monomial_tree, normal, sum_tree, term_tree, term_trees, Factor, IsMonomial, Monomial, Polynomial, Summand}
use Rattle.expansions.proofs.{Shared.{polynomial_of, reduced_test}, AllMonomials.{AllHave, normal_all}, FactorTrees.{not_before_one, term_no_add, term_no_number, term_no_term, term_part, term_parts}}
use Rattle.expansions.proofs.{NormalForms.{normal_is}, TreeMonomials.{tree_monomials}}

-- ---- terms with names

-- a monomial that is not 1
pub record HasNames (m : Monomial) : Type 0 where
  pub first : Factor
  pub rest : Monomial
  pub is : m ≡ first ∷ rest

-- one behind another is not 1
later_has_names : (k m : Monomial) → monomial_cmp k m ≡ Less → HasNames m
later_has_names k [] l = absurd (not_before_one k l)
later_has_names k (f ∷ m) l = record { first = f; rest = m; is = refl }

named_behind : (k : Monomial) (v : Polynomial) → IsBeforeAll k v → AllHave HasNames v
named_behind k [] h = tt
named_behind k (s ∷ v) h = (later_has_names k s.monomial h.0, named_behind k v h.1)

named_part : (s : Summand) → HasNames s.monomial → part_of (term_tree s) ≡ monomial_tree s.monomial
named_part s h = term_part s h.first h.rest h.is ∙ ap monomial_tree (sym h.is)

terms_rise : (v : Polynomial) → IsNormal v → AllHave HasNames v → RisesBy part_of (term_trees v)
terms_rise [] n h = tt
terms_rise (s ∷ []) n h = tt
terms_rise (s ∷ t ∷ v) n h = ((λ i. tree_cmp (named_part s h.0 i) (named_part t h.1.0 i)) ∙ n.1.0, terms_rise (t ∷ v) n.2 h.1)

terms_no_number : (v : Polynomial) → AllHave HasNames v → NoneIs is_number (term_trees v)
terms_no_number [] h = tt
terms_no_number (s ∷ v) h = (term_no_number s h.0.first h.0.rest h.0.is, terms_no_number v h.1)

terms_no_add : (v : Polynomial) → AllHave HasNames v → NoneIs is_add (term_trees v)
terms_no_add [] h = tt
terms_no_add (s ∷ v) h = (term_no_add s h.0.first h.0.rest h.0.is, terms_no_add v h.1)

no_number_terms : (v : Polynomial) → AllHave HasNames v → number_terms (term_trees v) ≡ none
no_number_terms [] h = refl
no_number_terms (s ∷ v) h = ap (λ b. if b then more (term_tree s) (number_terms (term_trees v)) else none) (term_no_term s h.0.first h.0.rest h.0.is)

all_other_terms : (v : Polynomial) → AllHave HasNames v → other_terms (term_trees v) ≡ term_trees v
all_other_terms [] h = refl
all_other_terms (s ∷ v) h = ap (λ b. if b then other_terms (term_trees v) else more (term_tree s) (term_trees v)) (term_no_term s h.0.first h.0.rest h.0.is)

-- ---- the term without names

constant_term : (s : Summand) → s.monomial ≡ [] → term_tree s ≡ num s.coefficient
constant_term s e = grind (arith, one_is)

any_parts : (s : Summand) (m : Monomial) → s.monomial ≡ m → s.coefficient ≢ zero_fraction → IsMonomial s.monomial → AllParts HasForm (term_tree s)
any_parts s [] e z h = subst (AllParts HasForm) (sym (constant_term s e)) (inl tt)
any_parts s (f ∷ m) e z h = term_parts s f m e z (subst IsMonomial e h)

all_term_parts : (v : Polynomial) → IsNormal v → AllHave IsMonomial v → AllPartsOf HasForm (term_trees v)
all_term_parts [] n h = tt
all_term_parts (s ∷ v) n h = (any_parts s s.monomial refl n.0 h.0, all_term_parts v n.2 h.1)

-- ---- sums

named_sum : (ts : Trees) (v : Polynomial) → ts ≡ term_trees v → HasTwo ts → IsNormal v → AllHave HasNames v → IsSumForm ts
named_sum ts v e h n k = grind (arith, terms_no_add, no_number_terms, all_other_terms, terms_no_number, terms_rise)

-- a rational before terms with names
rational_sum : (q : Fraction) (v : Polynomial) → q ≢ zero_fraction → HasTwo (more (num q) (term_trees v)) → IsNormal v → AllHave HasNames v → IsSumForm (more (num q) (term_trees v))
rational_sum q v z h n k = grind (arith, terms_no_add, terms_no_number, terms_rise, not_from_false, zero_test, no_number_terms, all_other_terms)

sum_is : (s t : Summand) (v : Polynomial) (m : Monomial) → s.monomial ≡ m → IsNormal (s ∷ t ∷ v) → IsSumForm (term_trees (s ∷ t ∷ v))
sum_is s t v [] e n =
    subst (λ u. IsSumForm (more u (term_trees (t ∷ v)))) (sym (constant_term s e))
    (rational_sum s.coefficient (t ∷ v) n.0 tt n.2 (named_behind s.monomial (t ∷ v) n.1))
sum_is s t v (f ∷ m) e n = named_sum (term_trees (s ∷ t ∷ v)) (s ∷ t ∷ v) refl tt n (record { first = f; rest = m; is = e }, named_behind s.monomial (t ∷ v) n.1)

sum_parts : (v : Polynomial) → IsNormal v → AllHave IsMonomial v → AllParts HasForm (sum_tree (term_trees v))
sum_parts [] n h = inl tt
sum_parts (s ∷ []) n h = any_parts s s.monomial refl n.0 h.0
sum_parts (s ∷ t ∷ v) n h = (inr (sum_is s t v s.monomial refl n), all_term_parts (s ∷ t ∷ v) n h)

pub expanded_reduced : (v : Polynomial) → AllHave IsMonomial v → is_reduced (expanded v) ≡ true
expanded_reduced v h = reduced_test (expanded v) (inr (sum_parts (normal v) (normal_is v) (normal_all IsMonomial v h)))

pub tree_expanded_reduced : (t : Tree) → is_reduced (expanded (polynomial_of t)) ≡ true
tree_expanded_reduced t = expanded_reduced (polynomial_of t) (tree_monomials t)
