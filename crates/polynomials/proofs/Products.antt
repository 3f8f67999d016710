-- Products of lists of terms, row by row, and powers, factor by factor.
use Rattle.polynomials.proofs.Shared.{map-append, ◌≡◌, ℕ, suc, ◌+◌, ◌*◌, ◌<◌, List, [], ◌∷◌, ◌++◌, length, get_or, take, refl, sym, ap, ◌∙◌, subst, arith, append-nil, pos, ◌≤◌, mul-le-mul_right}
use Rattle.polynomials.proofs.Shared.{ratio_of, value_of, whole, Rat, Term, Polynomial, Summand, HasExponents, HaveExponents, one_monomial, product, raised, row, summand, AreTermsOf, polynomial_of}
use Rattle.polynomials.proofs.{Shared.{summand_of}, Exponents.{have_row, one_exponents}, MergeLoops.{have_at, take_one_more}, Merges.{terms_same}, Scaled.{one_terms}, Worth.{product_append}}
use Rattle.polynomials.proofs.Worth.{product_right, same_append, same_is, same_trans}

-- ---- products

-- the rows of the first i terms
pub record IsProductTo (a b : List Term) (i : ℕ) (list : List Term) : Type 0 where
  pub terms-are : AreTermsOf (product (polynomial_of (take i a)) (polynomial_of b)) list
  pub exponents : (d e : ℕ) → HaveExponents d (polynomial_of a) → HaveExponents e (polynomial_of b) → HaveExponents (d + e) (polynomial_of list)

pub product_none : (a b list : List Term) → list ≡ [] → IsProductTo a b 0 list
product_none a b list e = rw e (record { terms-are = record { normal = tt; same = same_is refl }; exponents = λ d e h k. tt })

pub product_more : (a b : List Term) (i : ℕ) (list next : List Term) (t : Term) → i < length a → t ≡ get_or a i t → IsProductTo a b i list
    → AreTermsOf (polynomial_of list ++ row (summand_of t) (polynomial_of b)) next
    → ((d : ℕ) → HaveExponents d (polynomial_of list) → HaveExponents d (row (summand_of t) (polynomial_of b)) → HaveExponents d (polynomial_of next))
    → IsProductTo a b (i + 1) next
product_more a b i list next t h e so terms have =
    let w : Polynomial = polynomial_of b in
    let v : Polynomial = polynomial_of (take i a) in
    let rows : product (polynomial_of (take (i + 1) a)) w ≡ product v w ++ row (summand_of t) w =
    ap (λ (l : List Term). product (polynomial_of l) w) (take_one_more a i t h e)
    ∙ ap (λ (x : Polynomial). product x w) (map-append summand_of (take i a) (t ∷ []))
    ∙ product_append v (summand_of t ∷ []) w
    ∙ ap (λ (x : Polynomial). product v w ++ x) (append-nil (row (summand_of t) w)) in
    record {
      terms-are = terms_same next (same_trans (same_append (so.terms-are).same (same_is refl)) (same_is (sym rows))) terms;
      exponents = λ d f p q. have (d + f) (so.exponents d f p q) (have_row d f (summand_of t) w (have_at d a i t h e p) q);
    }

-- ---- powers

-- i factors
pub record IsPowerTo (base : List Term) (i : ℕ) (list : List Term) : Type 0 where
  pub terms-are : AreTermsOf (raised (polynomial_of base) i) list
  pub exponents : (d : ℕ) → HaveExponents d (polynomial_of base) → HaveExponents (i * d) (polynomial_of list)

one_more : (i d : ℕ) → d + i * d ≡ (i + 1) * d
one_more i d = omega arith

pub power_more : (base : List Term) (i : ℕ) (list next : List Term) → IsPowerTo base i list → AreTermsOf (product (polynomial_of base) (polynomial_of list)) next
    → ((d e : ℕ) → HaveExponents d (polynomial_of base) → HaveExponents e (polynomial_of list) → HaveExponents (d + e) (polynomial_of next))
    → IsPowerTo base (i + 1) next
power_more base i list next so terms have =
    let v : Polynomial = polynomial_of base in
    let more : raised v (i + 1) ≡ product v (raised v i) = ap (raised v) (let e : i + 1 ≡ suc i = omega arith in e) in
    record {
      terms-are = terms_same next (same_trans (product_right v (so.terms-are).same) (same_is (sym more))) terms;
      exponents = λ d h. subst (λ (n : ℕ). HaveExponents n (polynomial_of next)) (one_more i d) (have d (i * d) h (so.exponents d h));
    }

-- no factor
pub power_none : (base list : List Term) (t : Term) (r : Rat) → list ≡ t ∷ [] → ratio_of r ≡ whole (pos 1) → summand_of t ≡ summand (value_of r) one_monomial → IsPowerTo base 0 list
power_none base list t r e f g = rw e (record {
  terms-are = one_terms r t f g;
  exponents = λ d h.
      let no_factors : 0 ≡ 0 * d = omega arith in
      (subst (λ (n : ℕ). HasExponents n (summand_of t).monomial) no_factors (subst (λ (s : Summand). HasExponents 0 s.monomial) (sym g) one_exponents), tt);
})

-- one factor more than i of n keeps within bounds
pub within : (d i n : ℕ) → i < n → n * d < 256 → d + i * d < 256
within d i n h k = omega (arith, mul-le-mul_right d (let e : i + 1 ≤ n = omega arith in e))
