-- Polynomials with few terms: their sums and products, and the trees of them.
use Rattle.expansions.proofs.Shared.{◌≡◌, ℕ, ◌+◌, ◌*◌, ◌≤◌, List, [], ◌∷◌, ◌++◌, length, sym, ap, subst, arith, length-append, mul-le, within_of, HasNoNewName, Tree, add, names, none, size, expanded}
use Rattle.expansions.proofs.Shared.{normal, sum_tree, term_trees, AreNamed, HasFewTerms, IsNamed, sum_bytes, AreMonomials, IsMonomial, Polynomial, product, polynomial_of, IsExpanded, IsSum}
use Rattle.expansions.proofs.{AllMonomials.{AllHave, append_all, normal_all, product_all}, Gathered.{gathered_few, gathered_normal}, TermPolynomials.{sum_polynomial_is, terms_polynomial}}
use Rattle.expansions.proofs.{TermPolynomials.{term_polynomial, tree_normal}, Names.{all_named, are_named, named_closed, tree_named}}
use Rattle.expansions.proofs.{TermBytes.{IsNamedMonomial, expanded_most, terms_most, terms_rise}, TermCounts.{product_length}, TreeMonomials.{all_monomials}}

-- ---- arithmetic

pub few_as : {ns : List (List ℕ)} {m n : ℕ} {v : Polynomial} → HasFewTerms ns m v → m ≤ n → HasFewTerms ns n v
few_as h l = record { named = h.named; few = omega (arith, h.few, l) }

pub few_append : {ns : List (List ℕ)} {m n : ℕ} {v w : Polynomial} → HasFewTerms ns m v → HasFewTerms ns n w → HasFewTerms ns (m + n) (v ++ w)
few_append {ns} {m} {n} {v} {w} h k = record {
  named = are_named ns (v ++ w) (append_all (IsNamed ns) v w (all_named ns v h.named) (all_named ns w k.named));
  few = omega (arith, length-append v w, h.few, k.few);
}

pub few_product : {ns : List (List ℕ)} {m n : ℕ} {v w : Polynomial} → HasFewTerms ns m v → HasFewTerms ns n w → HasFewTerms ns (m * n) (product v w)
few_product {ns} {m} {n} {v} {w} h k = record {
  named = are_named ns (product v w) (product_all (IsNamed ns) (named_closed ns) v w (all_named ns v h.named) (all_named ns w k.named));
  few = omega (arith, product_length v w, mul-le (length v) (length w) m n h.few k.few);
}

-- ---- normal polynomials

pub few_normal : {ns : List (List ℕ)} {n : ℕ} {v : Polynomial} → HasFewTerms ns n v → HasFewTerms ns n (normal v)
few_normal {v = v} h = gathered_few (gathered_normal v) h

-- ---- trees

pub named_monomials : (ns : List (List ℕ)) (v : Polynomial) → AreMonomials v → AreNamed ns v → AllHave (IsNamedMonomial ns) v
named_monomials ns [] h k = tt
named_monomials ns (s ∷ v) h k = (record { monomial = h.0; named = k.0 }, named_monomials ns v h.1 k.1)

pub sum_most : {ns : List (List ℕ)} {n : ℕ} {t : Tree} → IsSum t → HasFewTerms ns n (polynomial_of t) → size t ≤ sum_bytes ns n
sum_most {ns} {n} s h =
    let k = subst (HasFewTerms ns n) (sum_polynomial_is s) h in
    let all = terms_most ns s.summands (named_monomials ns s.summands s.monomials k.named) in
    omega (arith, ap size s.tree, all, terms_rise ns (length s.summands) n k.few)

pub expanded_few : {ns : List (List ℕ)} {n : ℕ} (v : Polynomial) → AreMonomials (normal v) → HasFewTerms ns n v → 1 ≤ n → HasFewTerms ns n (polynomial_of (expanded v))
expanded_few {ns} {n} v m h l = by (normal v) m (few_normal h)
  where
    by : (w : Polynomial) → AreMonomials w → HasFewTerms ns n w → HasFewTerms ns n (polynomial_of (sum_tree (term_trees w)))
    by [] m k = record { named = (tt, tt); few = omega (arith, l) }
    by (s ∷ []) m k = subst (HasFewTerms ns n) (sym (term_polynomial s m.0)) k
    by (s ∷ t ∷ w) m k = subst (HasFewTerms ns n) (sym (terms_polynomial (s ∷ t ∷ w) m)) k

-- an expanded tree has some term, which may be 0
pub some_expanded : (t : Tree) → AreMonomials (normal (polynomial_of t)) → IsExpanded t → 1 ≤ length (polynomial_of t)
some_expanded t m e = omega (arith, ap (λ (u : Tree). length (polynomial_of u)) e, by (normal (polynomial_of t)) m)
  where
    by : (w : Polynomial) → AreMonomials w → 1 ≤ length (polynomial_of (sum_tree (term_trees w)))
    by [] m = omega arith
    by (s ∷ []) m = omega (arith, ap (λ (v : Polynomial). length v) (term_polynomial s m.0))
    by (s ∷ t ∷ w) m = omega (arith, ap (λ (v : Polynomial). length v) (terms_polynomial (s ∷ t ∷ w) m))

-- a tree whose names are those of another one
pub few_names : (whole t : Tree) (n : ℕ) → HasNoNewName whole t → length (polynomial_of t) ≤ n → HasFewTerms (names whole) n (polynomial_of t)
few_names whole t n h l = record { named = are_named (names whole) (polynomial_of t) (tree_named (names whole) t (within_of h)); few = l }

pub some_few : {ns : List (List ℕ)} {n : ℕ} {t : Tree} → IsExpanded t → HasFewTerms ns n (polynomial_of t) → 1 ≤ n
some_few {t = t} e h = omega (arith, some_expanded t (tree_normal t) e, h.few)

pub few_none : (ns : List (List ℕ)) {t : Tree} → t ≡ add none → HasFewTerms ns 0 (polynomial_of t)
few_none ns e = subst (λ (u : Tree). HasFewTerms ns 0 (polynomial_of u)) (sym e) (record { named = tt; few = omega arith })

-- the answer of a call
pub answer_few : {ns : List (List ℕ)} {n : ℕ} {t : Tree} {v : Polynomial} → AllHave IsMonomial v → t ≡ expanded v → HasFewTerms ns n v → 1 ≤ n → HasFewTerms ns n (polynomial_of t)
answer_few {ns} {n} {t} {v} m e h l =
    subst (λ (u : Tree). HasFewTerms ns n (polynomial_of u)) (sym e) (expanded_few v (all_monomials (normal v) (normal_all IsMonomial v m)) h l)

pub answer_size : {ns : List (List ℕ)} {n : ℕ} {t : Tree} {v : Polynomial} → AllHave IsMonomial v → t ≡ expanded v → HasFewTerms ns n v → 1 ≤ n → size t ≤ sum_bytes ns n
answer_size {ns} {n} {t} {v} m e h l = omega (arith, ap size e, expanded_most ns v n (named_monomials ns v (all_monomials v m) h.named) h.few l)
