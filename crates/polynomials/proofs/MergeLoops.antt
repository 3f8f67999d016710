-- Two lists of terms on the way to one.
use Rattle.std.proofs.Common.{take_all}
use Rattle.polynomials.proofs.Shared.{◌≡◌, ℕ, zero, suc, ◌+◌, ◌-◌, ◌<◌, ◌≤◌, List, [], ◌∷◌, ◌++◌, StartsFrom, drop, le_refl, length, length-drop, take-append-drop, get_or, take, refl, sym, ap, ◌∙◌, subst, arith, append_assoc, map-append, take_more, Term}
use Rattle.polynomials.proofs.{Shared.{Polynomial, Summand, AreSame, HasExponents, HaveExponents, row, summand_times, AreBelow, AreTermsOf, IsNormal, polynomial_of, summand_of}, Merges.{terms_same}}
use Rattle.polynomials.proofs.{Normal.{rises}, Worth.{same_cons, same_is, same_trans, same_turned}}

-- the sum and the products with the first j terms are merged: the list is done, and below the products to come
pub record IsMerged (sum terms : List Term) (f : Term) (j : ℕ) (list rest : List Term) : Type 0 where
  pub terms-are : AreTermsOf (polynomial_of sum ++ row (summand_of f) (polynomial_of (take j terms))) (list ++ rest)
  pub exponents : (d : ℕ) → HaveExponents d (polynomial_of sum) → HaveExponents d (row (summand_of f) (polynomial_of terms)) → HaveExponents d (polynomial_of (list ++ rest))
  pub below : (k : ℕ) (d : Term) → j ≤ k → k < length terms → AreBelow (f.monomial + (get_or terms k d).monomial) list

pub take_one_more : (xs : List Term) (j : ℕ) (x : Term) → j < length xs → x ≡ get_or xs j x → take (j + 1) xs ≡ take j xs ++ x ∷ []
take_one_more xs j x h e = take_more xs j x h ∙ (λ i. take j xs ++ sym e i ∷ [])

-- the row of one term more
row_more : (f : Term) (terms : List Term) (j : ℕ) (t p : Term) → j < length terms → t ≡ get_or terms j t → summand_of p ≡ summand_times (summand_of f) (summand_of t)
    → row (summand_of f) (polynomial_of (take (j + 1) terms)) ≡ row (summand_of f) (polynomial_of (take j terms)) ++ summand_of p ∷ []
row_more f terms j t p h e q =
    ap (λ (l : List Term). row (summand_of f) (polynomial_of l)) (take_one_more terms j t h e)
    ∙ ap (row (summand_of f)) (map-append summand_of (take j terms) (t ∷ []))
    ∙ map-append (summand_times (summand_of f)) (polynomial_of (take j terms)) (summand_of t ∷ [])
    ∙ (λ i. row (summand_of f) (polynomial_of (take j terms)) ++ sym q i ∷ [])

pub have_at : (d : ℕ) (ts : List Term) (j : ℕ) (t : Term) → j < length ts → t ≡ get_or ts j t → HaveExponents d (polynomial_of ts) → HasExponents d (summand_of t).monomial
have_at d [] j t h e k = absurd (omega arith)
have_at d (x ∷ ts) zero t h e k = subst (λ (y : Term). HasExponents d (summand_of y).monomial) (sym e) (k.0)
have_at d (x ∷ ts) (suc j) t h e k = have_at d ts j t (omega arith) e (k.1)

have_row_at : (d : ℕ) (s : Summand) (ts : List Term) (j : ℕ) (t : Term) → j < length ts → t ≡ get_or ts j t → HaveExponents d (row s (polynomial_of ts)) → HasExponents d (summand_times s (summand_of t)).monomial
have_row_at d s [] j t h e k = absurd (omega arith)
have_row_at d s (x ∷ ts) zero t h e k = subst (λ (y : Term). HasExponents d (summand_times s (summand_of y)).monomial) (sym e) (k.0)
have_row_at d s (x ∷ ts) (suc j) t h e k = have_row_at d s ts j t (omega arith) e (k.1)

module _ (sum terms : List Term) (f : Term) (j : ℕ) (list rest : List Term) (m : IsMerged sum terms f j list rest) (sorted : IsNormal terms)
    (t p : Term) (h : j < length terms) (e : t ≡ get_or terms j t) (q : summand_of p ≡ summand_times (summand_of f) (summand_of t)) (k : p.monomial ≡ f.monomial + t.monomial) where
  -- what is done is below the product
  pub done_below : AreBelow p.monomial list
  done_below = subst (λ (n : ℕ). AreBelow n list) (ap (λ (y : Term). f.monomial + y.monomial) (sym e) ∙ sym k) (m.below j t (omega arith) h)

  module _ (list1 rest1 list2 rest2 : List Term) (copied : list1 ++ rest1 ≡ list ++ rest)
      (put : AreTermsOf (summand_of p ∷ polynomial_of (list1 ++ rest1)) (list2 ++ rest2))
      (have : (d : ℕ) → HaveExponents d (summand_of p ∷ polynomial_of (list1 ++ rest1)) → HaveExponents d (polynomial_of (list2 ++ rest2)))
      (below : (n : ℕ) → p.monomial < n → AreBelow n list2) where
    same : AreSame (summand_of p ∷ polynomial_of (list1 ++ rest1)) (polynomial_of sum ++ row (summand_of f) (polynomial_of (take (j + 1) terms)))
    same =
        let v : Polynomial = polynomial_of sum in
        let r : Polynomial = row (summand_of f) (polynomial_of (take j terms)) in
        same_trans (same_is (ap (λ (l : List Term). summand_of p ∷ polynomial_of l) copied))
        (same_trans (same_cons (summand_of p) (m.terms-are).same)
        (same_trans (same_turned (summand_of p) (v ++ r))
        (same_is (append_assoc v r (summand_of p ∷ []) ∙ ap (λ (x : Polynomial). v ++ x) (sym (row_more f terms j t p h e q))))))

    next : (n : ℕ) (d : Term) → j + 1 ≤ n → n < length terms → p.monomial < f.monomial + (get_or terms n d).monomial
    next n d a b =
        let r : (get_or terms j d).monomial < (get_or terms n d).monomial = rises terms j n d sorted (omega arith) b in
        let s : t.monomial ≡ (get_or terms j d).monomial = ap (λ (y : Term). y.monomial) (e ∙ same_at terms j t d h) in
        omega arith
      where
        same_at : (xs : List Term) (i : ℕ) (x y : Term) → i < length xs → get_or xs i x ≡ get_or xs i y
        same_at [] i x y l = absurd (omega arith)
        same_at (z ∷ xs) zero x y l = refl
        same_at (z ∷ xs) (suc i) x y l = same_at xs i x y (omega arith)

    pub merged_more : IsMerged sum terms f (j + 1) list2 rest2
    merged_more = record {
      terms-are = terms_same (list2 ++ rest2) same put;
      exponents = λ d a b. have d (
        subst (λ (s : Summand). HasExponents d s.monomial) (sym q) (have_row_at d (summand_of f) terms j t h e b),
        subst (λ (l : List Term). HaveExponents d (polynomial_of l)) (sym copied) (m.exponents d a b),
      );
      below = λ n d a b. below (f.monomial + (get_or terms n d).monomial) (next n d a b);
    }

-- all products are merged
pub merged_all : (sum terms : List Term) (f : Term) (j : ℕ) (list rest new : List Term) → IsMerged sum terms f j list rest → length terms ≤ j → new ≡ list ++ rest → AreTermsOf (polynomial_of sum ++ row (summand_of f) (polynomial_of terms)) new
merged_all sum terms f j list rest new m h e =
    subst (λ (l : List Term). AreTermsOf (polynomial_of sum ++ row (summand_of f) (polynomial_of l)) new) (take_all j terms h)
    (subst (AreTermsOf (polynomial_of sum ++ row (summand_of f) (polynomial_of (take j terms)))) (sym e) m.terms-are)

-- ---- terms that are copied

rest_is : (xs : List Term) (j : ℕ) → take (length xs - j) (drop j xs) ≡ drop j xs
rest_is xs j = take_all (length xs - j) (drop j xs) (omega (arith, length-drop j xs))

-- what was copied and what is left
pub copied_and_rest : (list old xs : List Term) (j : ℕ) → list ≡ old ++ take j xs → list ++ take (length xs - j) (drop j xs) ≡ old ++ xs
copied_and_rest list old xs j e = rw (rest_is xs j) (ap (λ (l : List Term). l ++ drop j xs) e ∙ append_assoc old (take j xs) (drop j xs) ∙ ap (λ (l : List Term). old ++ l) (take-append-drop j xs))

pub all_copied : (list old xs : List Term) (j : ℕ) → length xs ≤ j → list ≡ old ++ take j xs → list ++ take (length xs - length xs) (drop (length xs) xs) ≡ old ++ xs
all_copied list old xs j h e = copied_and_rest list old xs (length xs) (e ∙ ap (λ (l : List Term). old ++ l) (take_all j xs h ∙ sym (take_all (length xs) xs (le_refl (length xs)))))

starts_at : (k : ℕ) (xs : List Term) (j : ℕ) (x : Term) → j < length xs → x ≡ get_or xs j x → k ≤ x.monomial → StartsFrom k (drop j xs)
starts_at k [] j x h e l = absurd (omega arith)
starts_at k (y ∷ xs) zero x h e l = subst (λ (t : Term). k ≤ t.monomial) e l
starts_at k (y ∷ xs) (suc j) x h e l = starts_at k xs j x (omega arith) e l

pub rest_starts : (k : ℕ) (xs : List Term) (j : ℕ) (x : Term) → j < length xs → x ≡ get_or xs j x → k ≤ x.monomial → StartsFrom k (take (length xs - j) (drop j xs))
rest_starts k xs j x h e l = subst (StartsFrom k) (sym (rest_is xs j)) (starts_at k xs j x h e l)

pub none_starts : (k : ℕ) (xs : List Term) → StartsFrom k (take (length xs - length xs) (drop (length xs) xs))
none_starts k xs = subst (StartsFrom k) (sym (rest_is xs (length xs) ∙ none xs)) tt
  where
    none : (ys : List Term) → drop (length ys) ys ≡ []
    none [] = refl
    none (y ∷ ys) = none ys
