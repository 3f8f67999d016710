-- Rows of products, one after another.
use Rattle.calc_terms.proofs.FractionFacts.{zero_test as is_nonzero}
use Rattle.expand_forms.proofs.Shared.{◌≡◌, ◌≢◌, ◌≤◌, ℕ, ◌+◌, [], ◌∷◌, ◌++◌, drop, map, false, sym, ap, ◌∙◌, append-nil, product_not_zero, Fraction, is_zero_fraction, times}
use Rattle.expand_forms.proofs.Shared.{zero_fraction, Tree, count, normal, term_trees, Polynomial, Summand, monomial_times, product, summand, summand_times, polynomial_of, row, with_coefficient}
use Rattle.expand_forms.proofs.{Shared.{IsTerm, coefficient_in, plain, Forest, tree_at}, JoinLoops.{IsNextPart, IsNextTerm, next_part}, Joins.{IsNextSummand, no_summands}}
use Rattle.expansions.proofs.{TermPolynomials.{term_polynomial_is, term_coefficient}, SameCoefficients.{product_nil}}

-- ---- coefficients

pub next_coefficient : {n j : ℕ} {t : Tree} {others f : Forest} (x : IsNextTerm n j t others f) {c : Fraction} → c ≡ coefficient_in (plain (tree_at j f)) → c ≡ x.term.summand.coefficient
next_coefficient x e = e ∙ ap coefficient_in (x.same ∙ x.term.tree) ∙ term_coefficient x.term.summand

pub product_nonzero : {a b c q : Fraction} → q ≡ times a b → a ≢ zero_fraction → b ≡ c → c ≢ zero_fraction → is_zero_fraction q ≡ false
product_nonzero {a} {b} {c} {q} e h k l = is_nonzero q (λ z. product_not_zero a c h l (sym (e ∙ ap (times a) k) ∙ z))

-- ---- the next product

pub row_next : {t : Tree} (x : IsTerm t) (c q : Fraction) (n : ℕ) (s : Summand) (u : Tree) → IsNextSummand n s (normal (polynomial_of u)) → q ≡ times c s.coefficient
    → IsNextPart (row c t n u) (summand q (monomial_times x.summand.monomial s.monomial) ∷ []) (row c t (n + 1) u)
row_next {t} x c q n s u next e =
    let m = x.summand.monomial in
    let rest = drop (n + 1) (normal (polynomial_of u)) in
    let is : with_coefficient c (polynomial_of t) ≡ summand c m ∷ [] = ap (with_coefficient c) (term_polynomial_is x) in
    next_part ((λ i. product (is i) (next.rest i)) ∙ (λ i. summand (sym e i) (monomial_times m s.monomial) ∷ product (sym is i) rest))

pub row_end : (c : Fraction) (t : Tree) (n : ℕ) (u : Tree) → count (term_trees (normal (polynomial_of u))) ≤ n → row c t n u ≡ []
row_end c t n u l = let v = with_coefficient c (polynomial_of t) in ap (product v) (no_summands n (normal (polynomial_of u)) l) ∙ product_nil v

-- ---- the next row

module _ {n : ℕ} {t : Tree} (u : Tree) (x : IsTerm t) (next : IsNextSummand n x.summand (normal (polynomial_of u))) {c : Fraction} (e : c ≡ x.summand.coefficient) where
  pub rows_next : (w : Tree) → product (drop n (normal (polynomial_of u))) (normal (polynomial_of w)) ≡ row c t 0 w ++ product (drop (n + 1) (normal (polynomial_of u))) (normal (polynomial_of w))
  rows_next w =
      let terms = normal (polynomial_of w) in
      let is : row c t 0 w ≡ map (summand_times x.summand) terms = (λ i. product (with_coefficient (e i) (term_polynomial_is x i)) terms) ∙ append-nil (map (summand_times x.summand) terms) in
      ap (λ (v : Polynomial). product v terms) next.rest ∙ ap (λ (v : Polynomial). v ++ product (drop (n + 1) (normal (polynomial_of u))) terms) (sym is)
