-- Terms of an expanded tree that are listed one after another.
use Rattle.expand_forms.proofs.Shared.{◌≡◌, ◌≤◌, ◌<◌, ℕ, zero, suc, List, [], ◌∷◌, ◌++◌, length, take, refl, sym, ap, ◌∙◌, subst, arith, HasMonomial, IsNamed, AreMonomials, IsExpanded, list_as, Name}
use Rattle.expand_forms.proofs.Shared.{names_length, Polynomial, Summand, Tree, Trees, count, coefficient_in, factors_in, root_kind, more, names, none, normal, nth, polynomial_of, summand, term_trees}
use Rattle.expand_forms.proofs.Shared.{terms_in, value_of, AreNames, IsListOf, IsOfNames, named_polynomial, AreAmong, IsSummandTree, monomial_of, AreTermsOf, summand_of, Term, AllHave, normal_all}
use Rattle.expand_forms.proofs.Shared.{tree_named, named_same, same_cons, same_is, same_normal, same_trans, same_turned, taken_all, expanded_terms, term_coefficient, term_factors, tree_normal}
use Rattle.expand_forms.proofs.{Shared.{list_none}, PlacedTerms.{count_terms}}
use Rattle.expansions.specs.Named.{named, names_of}
use Rattle.polynomials.proofs.Worth.{same_cons as values_cons, same_trans as values_trans}
use Rattle.polynomials.specs.Terms.{polynomial_of as terms_of}
use Rattle.calc_terms.specs.declared.kind.Kind.TheVariants as kind

-- ---- one term more

pub has_monomial : {ns : List (List ℕ)} {s : Summand} {t : Tree} → IsSummandTree ns s t → HasMonomial s.monomial t
has_monomial {ns} {s} x = record { monomial = x.monomial; factors = ap factors_in x.tree ∙ term_factors s }

pub add_listed : {ns : List (List ℕ)} {v : Polynomial} {s : Summand} {t : Tree} {old new : List Term} (x : Term) → IsSummandTree ns s t → IsListOf ns old v → named ns (monomial_of x.monomial) ≡ s.monomial
    → IsOfNames ns (monomial_of x.monomial) → value_of x.coefficient ≡ coefficient_in t → AreTermsOf (summand_of x ∷ terms_of old) new → IsListOf ns new (v ++ s ∷ [])
add_listed {ns} {v} {s} {t} {old} {new} x is l mono names coef terms =
    let q : value_of x.coefficient ≡ s.coefficient = coef ∙ ap coefficient_in is.tree ∙ term_coefficient s in
    record {
      names = l.names;
      few = l.few;
      normal = terms.normal;
      within = record { alike = summand_of x ∷ (l.within).alike; named = (names, (l.within).named); same = values_trans terms.same (values_cons (summand_of x) (l.within).same) };
      same = same_trans (named_same ns terms.same)
          (same_trans (same_is (λ i. summand (q i) (mono i) ∷ named_polynomial ns (terms_of old))) (same_trans (same_cons s l.same) (same_turned (s ∷ []) v)));
    }

-- ---- the terms of a tree

pub record IsNextSummand (ns : List (List ℕ)) (v : Polynomial) (i : ℕ) (t : Tree) : Type 0 where
  pub summand-is : Summand
  pub more : take (suc i) v ≡ take i v ++ summand-is ∷ []
  pub is : IsSummandTree ns summand-is t

next_summand : (ns : List (List ℕ)) (v : Polynomial) (i : ℕ) (t : Tree) → AreMonomials v → AllHave (IsNamed ns) v → i < count (term_trees v) → t ≡ nth i (term_trees v) → IsNextSummand ns v i t
next_summand ns [] i t m n l e = absurd (omega arith)
next_summand ns (s ∷ v) zero t m n l e = record { summand-is = s; more = refl; is = record { monomial = m.0; named = n.0; tree = e } }
next_summand ns (s ∷ v) (suc i) t m n l e =
    let go = next_summand ns v i t m.1 n.1 (omega arith) e in
    record { summand-is = go.summand-is; more = ap (λ (x : Polynomial). s ∷ x) go.more; is = go.is }

-- an expanded tree with these names
module _ (ns : List (List ℕ)) (t : Tree) (e : IsExpanded t) (n : AreAmong ns (names t)) where
  abbrev v : Polynomial
  v = normal (polynomial_of t)

  pub summand_at : (i : ℕ) (u : Tree) → i < count (terms_in t) → u ≡ nth i (terms_in t) → IsNextSummand ns v i u
  summand_at i u l q =
      let terms : terms_in t ≡ term_trees v = expanded_terms t e in
      next_summand ns v i u (tree_normal t) (normal_all (IsNamed ns) (polynomial_of t) (tree_named ns t (record { name = n })))
      (subst (λ (ts : Trees). i < count ts) terms l) (q ∙ ap (nth i) terms)

  pub count_is : count (terms_in t) ≡ length v
  count_is = ap count (expanded_terms t e) ∙ count_terms v

-- a list of none of them, and one of all
pub listed_none : (xs : List Name) {list : List Term} → AreNames (names_of xs) → length xs ≤ 8 → list ≡ [] → IsListOf (names_of xs) list []
listed_none xs h few e = subst (λ (ts : List Term). IsListOf (names_of xs) ts []) (sym e) (list_none (names_of xs) h (omega (arith, names_length xs, few)))

pub listed_all : {ns : List (List ℕ)} {i : ℕ} {list : List Term} (t : Tree) → length (normal (polynomial_of t)) ≤ i → IsListOf ns list (take i (normal (polynomial_of t))) → IsListOf ns list (polynomial_of t)
listed_all {i = i} t l x = list_as (same_trans (same_is (taken_all (normal (polynomial_of t)) i l)) (same_normal (polynomial_of t))) x

-- ---- a tree that is a term, or 0

pub alone_is : (t : Tree) → (kind.Add ≡ root_kind t → ⊥) → (count (terms_in t) ≡ 0 → ⊥) → terms_in t ≡ more t none
alone_is t h k = grind arith
