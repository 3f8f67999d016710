-- A term inserted at its place.
use Rattle.polynomials.proofs.Shared.{◌≡◌, ◌⊎◌, ℕ, zero, suc, ◌<◌, ◌≤◌, Bool, true, false, List, [], ◌∷◌, ◌++◌, length, get_or, take, drop, inl, inr, refl, sym, ap, ◌∙◌, subst, arith, append_assoc}
use Rattle.polynomials.proofs.Shared.{append-nil, take-append-drop, length-take-le, if◌then◌else◌, insert, remove, is_zero_fraction, plus, value_of, Term, HaveExponents, AreBelow, AreTermsOf}
use Rattle.polynomials.proofs.{Shared.{IsBelowAll, IsNormal, polynomial_of, summand_of, HasMonomial}, Merges.{exchanged_exponents, exchanged_terms, put_exponents, put_terms, pushed}}

-- the list with the term at a place, where its coefficient is not 0
abbrev pub inserted : List Term → ℕ → Term → List Term
inserted xs n t = if is_zero_fraction (value_of t.coefficient) then xs else insert xs n t

inserted_as : (xs ys : List Term) (n : ℕ) (t : Term) → n ≡ length xs → inserted (xs ++ ys) n t ≡ pushed xs t ++ ys
inserted_as xs ys n t e = by (is_zero_fraction (value_of t.coefficient))
  where
    parts : (zs : List Term) → insert (zs ++ ys) (length zs) t ≡ zs ++ t ∷ ys
    parts [] = refl
    parts (z ∷ zs) = ap (λ (l : List Term). z ∷ l) (parts zs)

    by : (z : Bool) → (if z then xs ++ ys else insert (xs ++ ys) n t) ≡ (if z then xs else xs ++ t ∷ []) ++ ys
    by true = refl
    by false = ap (λ m. insert (xs ++ ys) m t) e ∙ parts xs ∙ sym (append_assoc xs (t ∷ []) ys)

-- ---- whose monomials stand there

-- one more
has_parts : (k : ℕ) (xs ys : List Term) (t : Term) → HasMonomial k (xs ++ t ∷ ys) → (t.monomial ≡ k) ⊎ HasMonomial k (xs ++ ys)
has_parts k [] ys t h = h
has_parts k (x ∷ xs) ys t (inl e) = inr (inl e)
has_parts k (x ∷ xs) ys t (inr h) = elim (has_parts k xs ys t h) [ inl e ↦ inl e | inr g ↦ inr (inr g) ]

has_pushed : (k : ℕ) (xs ys : List Term) (t : Term) → HasMonomial k (pushed xs t ++ ys) → (t.monomial ≡ k) ⊎ HasMonomial k (xs ++ ys)
has_pushed k xs ys t h = by (is_zero_fraction (value_of t.coefficient)) h
  where
    by : (z : Bool) → HasMonomial k ((if z then xs else xs ++ t ∷ []) ++ ys) → (t.monomial ≡ k) ⊎ HasMonomial k (xs ++ ys)
    by true h = inr h
    by false h = has_parts k xs ys t (subst (HasMonomial k) (append_assoc xs (t ∷ []) ys) h)

has_more : (k : ℕ) (xs ys : List Term) (s : Term) → HasMonomial k (xs ++ ys) → HasMonomial k (xs ++ s ∷ ys)
has_more k [] ys s h = inr h
has_more k (x ∷ xs) ys s (inl e) = inl e
has_more k (x ∷ xs) ys s (inr h) = inr (has_more k xs ys s h)

-- behind all
pub appended : (xs zs : List Term) (n : ℕ) (t : Term) → n ≡ length xs → zs ≡ pushed xs t → zs ≡ inserted xs n t
appended xs zs n t l e = e ∙ sym (append-nil (pushed xs t)) ∙ sym (inserted_as xs [] n t l) ∙ ap (λ (ys : List Term). inserted ys n t) (append-nil xs)

-- ---- a monomial that does not stand there

module _ (xs : List Term) (n : ℕ) (t : Term) (zs : List Term) (l : n ≤ length xs) (e : zs ≡ inserted xs n t) where
  whole : take n xs ++ drop n xs ≡ xs
  whole = take-append-drop n xs

  is : zs ≡ pushed (take n xs) t ++ drop n xs
  is = e ∙ ap (λ (ys : List Term). inserted ys n t) (sym whole) ∙ inserted_as (take n xs) (drop n xs) n t (sym (length-take-le n xs l))

  pub insert_terms : IsNormal xs → AreBelow t.monomial (take n xs) → IsBelowAll t.monomial (drop n xs) → AreTermsOf (summand_of t ∷ polynomial_of xs) zs
  insert_terms h b a =
      subst (λ (ys : List Term). AreTermsOf (summand_of t ∷ polynomial_of ys) zs) whole
      (subst (λ (ys : List Term). AreTermsOf (summand_of t ∷ polynomial_of (take n xs ++ drop n xs)) ys) (sym is)
      (put_terms (take n xs) (drop n xs) (pushed (take n xs) t) t refl (subst IsNormal (sym whole) h) b a))

  pub insert_exponents : (d : ℕ) → HaveExponents d (summand_of t ∷ polynomial_of xs) → HaveExponents d (polynomial_of zs)
  insert_exponents d h =
      subst (λ (ys : List Term). HaveExponents d (polynomial_of ys)) (sym is)
      (put_exponents (take n xs) (drop n xs) (pushed (take n xs) t) t refl d (subst (λ (ys : List Term). HaveExponents d (summand_of t ∷ polynomial_of ys)) (sym whole) h))

  pub insert_others : (k : ℕ) → HasMonomial k zs → (t.monomial ≡ k) ⊎ HasMonomial k xs
  insert_others k h =
      elim (has_pushed k (take n xs) (drop n xs) t (subst (HasMonomial k) is h)) [ inl q ↦ inl q | inr g ↦ inr (subst (HasMonomial k) whole g) ]

-- ---- one that does

module _ (xs : List Term) (n : ℕ) (s t u : Term) (zs : List Term) (l : n < length xs) (r : s ≡ get_or xs n s) (e : zs ≡ inserted (remove xs n) n u)
    (m : s.monomial ≡ t.monomial) (k : u.monomial ≡ t.monomial) where
  parted : (ys : List Term) (j : ℕ) (y : Term) → j < length ys → y ≡ get_or ys j y → take j ys ++ y ∷ drop (suc j) ys ≡ ys
  parted [] j y h p = absurd (omega arith)
  parted (z ∷ ys) zero y h p = λ i. p i ∷ ys
  parted (z ∷ ys) (suc j) y h p = ap (λ (w : List Term). z ∷ w) (parted ys j y (omega arith) p)

  whole_as : take n xs ++ s ∷ drop (suc n) xs ≡ xs
  whole_as = parted xs n s l r

  is_as : zs ≡ pushed (take n xs) u ++ drop (suc n) xs
  is_as = e ∙ inserted_as (take n xs) (drop (suc n) xs) n u (sym (length-take-le n xs (omega arith)))

  pub exchange_terms : value_of u.coefficient ≡ plus (value_of s.coefficient) (value_of t.coefficient) → IsNormal xs → AreBelow t.monomial (take n xs) → AreTermsOf (summand_of t ∷ polynomial_of xs) zs
  exchange_terms p h b =
      subst (λ (ys : List Term). AreTermsOf (summand_of t ∷ polynomial_of ys) zs) whole_as
      (subst (λ (ys : List Term). AreTermsOf (summand_of t ∷ polynomial_of (take n xs ++ s ∷ drop (suc n) xs)) ys) (sym is_as)
      (exchanged_terms (take n xs) (drop (suc n) xs) s t u (pushed (take n xs) u) refl m k p (subst IsNormal (sym whole_as) h) b))

  pub exchange_exponents : (d : ℕ) → HaveExponents d (summand_of t ∷ polynomial_of xs) → HaveExponents d (polynomial_of zs)
  exchange_exponents d h =
      subst (λ (ys : List Term). HaveExponents d (polynomial_of ys)) (sym is_as)
      (exchanged_exponents (take n xs) (drop (suc n) xs) s t u (pushed (take n xs) u) refl m k d (subst (λ (ys : List Term). HaveExponents d (summand_of t ∷ polynomial_of ys)) (sym whole_as) h))

  pub exchange_others : (j : ℕ) → HasMonomial j zs → (t.monomial ≡ j) ⊎ HasMonomial j xs
  exchange_others j h =
      elim (has_pushed j (take n xs) (drop (suc n) xs) u (subst (HasMonomial j) is_as h)) [
        | inl q ↦ inl (sym k ∙ q)
        | inr g ↦ inr (subst (HasMonomial j) whole_as (has_more j (take n xs) (drop (suc n) xs) s g))
      ]

-- the first behind a place
pub first_dropped : (xs : List Term) (n : ℕ) (y : Term) → n < length xs → y ≡ get_or xs n y → y ≡ get_or (drop n xs) 0 y
first_dropped [] n y h e = absurd (omega arith)
first_dropped (x ∷ xs) zero y h e = e
first_dropped (x ∷ xs) (suc n) y h e = first_dropped xs n y (omega arith) e
