-- A node over the expanded trees of its children, from the tree as it was.
pub use Rattle.expand_forms.proofs.ChildRooms.{all_polynomials}
use Rattle.expand_forms.proofs.Shared.{◌≡◌, ℕ, ◌≤◌, ◌<◌, length, true, Result, sym, ap, ◌∙◌, subst, arith, IfErr, and_parts, AreSame, HasNoNewName, IsExpanded, Tree, Trees, none, more, names}
use Rattle.expand_forms.proofs.Shared.{expanded, most_terms, node_bytes, are_polynomials, has_polynomial_root, is_polynomial, polynomial_of, AreExpanded, IsExpandedFrom, IsOver, IsPolynomial, OfFull}
use Rattle.expand_forms.proofs.{Shared.{children_of, grown, NumberFault, EachTree, same_is, same_trans, most_of_all, is_leaf}, ChildExpansions.{IsOver as IsOverSame, child_expanded, child_same}}
use Rattle.expand_forms.proofs.{ChildExpansions.{divisor_same, exponent_same, over_payload}, Expansions.{constant_expanded, expanded_same, name_expanded}, NodeTerms.{over_names, over_terms}}

-- ---- children

pub each_polynomial : (ts : Trees) → are_polynomials ts ≡ true → EachTree IsPolynomial ts
each_polynomial none h = tt
each_polynomial (more t ts) h = let (a, b) = and_parts (is_polynomial t) (are_polynomials ts) h in (a, each_polynomial ts b)

pub leaf_expanded : (t : Tree) → is_leaf t ≡ true → IsExpandedFrom t t
leaf_expanded t h = grind (arith, constant_expanded, name_expanded)

each_expanded : (ts : Trees) → EachTree IsExpanded ts → AreExpanded ts
each_expanded none h = tt
each_expanded (more t ts) h = (h.0, each_expanded ts h.1)

-- ---- the node

module _ (t now : Tree) (o : IsOver t now) (p : is_polynomial t ≡ true) where
  poly : is_polynomial (grown o.holds (children_of t)) ≡ true
  poly = sym (ap is_polynomial o.whole) ∙ p

  over : IsOverSame IsExpanded (grown o.holds (children_of t)) (grown o.holds (children_of now)) (children_of now)
  over = over_payload IsExpandedFrom IsExpanded child_same child_expanded exponent_same divisor_same o.holds (children_of t) (children_of now) o.takes o.children poly

  pub polynomial_root : has_polynomial_root now ≡ true
  polynomial_root = ap has_polynomial_root o.node ∙ over.root

  pub children_expanded : AreExpanded (children_of now)
  children_expanded = each_expanded (children_of now) over.children

  pub expanded_from : (u : Tree) → u ≡ expanded (polynomial_of now) → IsExpandedFrom t u
  expanded_from u e = λ q. e ∙ ap (λ (x : Tree). expanded (polynomial_of x)) o.node ∙ expanded_same over.same ∙ ap (λ (x : Tree). expanded (polynomial_of x)) (sym o.whole)

  pub same : AreSame (polynomial_of now) (polynomial_of t)
  same = same_trans (same_is (ap polynomial_of o.node)) (same_trans over.same (same_is (sym (ap polynomial_of o.whole))))

  names_over : HasNoNewName (grown o.holds (children_of t)) (grown o.holds (children_of now))
  names_over = over_names o.holds (children_of t) (children_of now) (ap children_of (sym o.whole)) (ap children_of (sym o.node)) (all_polynomials t p) o.children

  same_names : HasNoNewName t now
  same_names = subst (λ (x : Tree). HasNoNewName x now) (sym o.whole) (subst (HasNoNewName (grown o.holds (children_of t))) (sym o.node) names_over)

  fewer : length (polynomial_of now) ≤ most_terms t
  fewer = omega (
    arith,
    over_terms o.holds (children_of t) (children_of now) o.takes o.children poly,
    ap (λ (x : Tree). length (polynomial_of x)) o.node,
    ap most_terms o.whole,
    most_of_all
        (grown o.holds (children_of t)),
  )

  -- a call that lacks bytes for the node lacks them for the tree
  pub few_bytes : {A : Type 0} (r : Result A NumberFault) (free : ℕ)
      → ((whole : Tree) (n : ℕ) → HasNoNewName whole now → length (polynomial_of now) ≤ n → IfErr r (OfFull (λ full. free < node_bytes (names whole) n)))
      → IfErr r (OfFull (λ full. free < node_bytes (names t) (most_terms t)))
  few_bytes r free k = k t (most_terms t) same_names fewer
