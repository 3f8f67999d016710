-- A term put between a list and the terms behind it.
use Rattle.polynomials.proofs.Shared.{map-append, ◌≡◌, ℕ, ◌<◌, Bool, true, false, List, [], ◌∷◌, ◌++◌, refl, sym, arith, append_assoc, if◌then◌else◌, zero_is, plus, is_zero_fraction, value_of, Term}
use Rattle.polynomials.proofs.{Shared.{Polynomial, AreSame, HaveExponents, summand, AreBelow, monomial_of, AreTermsOf, IsBelowAll, IsNormal, polynomial_of, summand_of}, Normal.{below_less}}
use Rattle.polynomials.proofs.{Normal.{below_push, normal_end, normal_insert, normal_remove}, Worth.{same_cons, same_is, same_joined, same_moved, same_sym, same_trans, same_without}}

pub same_put : (xs ys : List Term) (t : Term) → AreSame (polynomial_of (xs ++ t ∷ ys)) (summand_of t ∷ polynomial_of (xs ++ ys))
same_put xs ys t = same_trans (same_is (map-append summand_of xs (t ∷ ys))) (same_trans (same_moved (polynomial_of xs) (summand_of t) (polynomial_of ys))
    (same_cons (summand_of t) (same_is (sym (map-append summand_of xs ys)))))

exponents_put : (d : ℕ) (xs ys : List Term) (t : Term) → HaveExponents d (summand_of t ∷ polynomial_of (xs ++ ys)) → HaveExponents d (polynomial_of (xs ++ t ∷ ys))
exponents_put d [] ys t h = h
exponents_put d (x ∷ xs) ys t h = ((h.1).0, exponents_put d xs ys t (h.0, (h.1).1))

exponents_left : (d : ℕ) (xs ys : List Term) (t : Term) → HaveExponents d (polynomial_of (xs ++ t ∷ ys)) → HaveExponents d (polynomial_of (xs ++ ys))
exponents_left d [] ys t h = h.1
exponents_left d (x ∷ xs) ys t h = (h.0, exponents_left d xs ys t (h.1))

-- the list with the term, where its coefficient is not 0
abbrev pub pushed : List Term → Term → List Term
pushed xs t = if is_zero_fraction (value_of t.coefficient) then xs else xs ++ t ∷ []

module _ (xs ys : List Term) (t : Term) (h : IsNormal (xs ++ ys)) (b : AreBelow t.monomial xs) (a : IsBelowAll t.monomial ys) where
  by : (z : Bool) → is_zero_fraction (value_of t.coefficient) ≡ z → AreTermsOf (summand_of t ∷ polynomial_of (xs ++ ys)) ((if z then xs else xs ++ t ∷ []) ++ ys)
  by true e = record { normal = h; same = same_without (value_of t.coefficient) (monomial_of t.monomial) (polynomial_of (xs ++ ys)) (zero_is (value_of t.coefficient) e) }
  by false e = rw append_assoc (record { normal = normal_insert xs ys t h e b a; same = same_put xs ys t })

  -- behind a list and before other terms
  pub terms_put : AreTermsOf (summand_of t ∷ polynomial_of (xs ++ ys)) (pushed xs t ++ ys)
  terms_put = by (is_zero_fraction (value_of t.coefficient)) refl

pub have_put : (d : ℕ) (xs ys : List Term) (t : Term) → HaveExponents d (summand_of t ∷ polynomial_of (xs ++ ys)) → HaveExponents d (polynomial_of (pushed xs t ++ ys))
have_put d xs ys t h = by (is_zero_fraction (value_of t.coefficient))
  where
    by : (z : Bool) → HaveExponents d (polynomial_of ((if z then xs else xs ++ t ∷ []) ++ ys))
    by true = h.1
    by false = rw append_assoc (exponents_put d xs ys t h)

-- in the place of a term with its monomial
pub same_exchanged : (xs ys : List Term) (s t u : Term) → s.monomial ≡ t.monomial → u.monomial ≡ t.monomial → value_of u.coefficient ≡ plus (value_of s.coefficient) (value_of t.coefficient)
    → AreSame (summand_of u ∷ polynomial_of (xs ++ ys)) (summand_of t ∷ polynomial_of (xs ++ s ∷ ys))
same_exchanged xs ys s t u e f p =
    let m = monomial_of t.monomial in
    let q = value_of s.coefficient in
    let r = value_of t.coefficient in
    same_trans (same_is (λ i. summand (p i) (monomial_of (f i)) ∷ polynomial_of (xs ++ ys)))
    (same_trans (same_joined q r m (polynomial_of (xs ++ ys)))
    (same_cons (summand_of t) (same_trans (same_is (λ i. summand q (monomial_of (sym e i)) ∷ polynomial_of (xs ++ ys))) (same_sym (same_put xs ys s)))))

pub have_exchanged : (d : ℕ) (xs ys : List Term) (s t u : Term) → u.monomial ≡ t.monomial → HaveExponents d (summand_of t ∷ polynomial_of (xs ++ s ∷ ys)) → HaveExponents d (summand_of u ∷ polynomial_of (xs ++ ys))
have_exchanged d xs ys s t u e h = (rw e (h.0), exponents_left d xs ys s (h.1))

pub terms_same : {v w : Polynomial} (ts : List Term) → AreSame v w → AreTermsOf v ts → AreTermsOf w ts
terms_same ts e h = record { normal = h.normal; same = same_trans h.same e }

pub below_pushed : (k : ℕ) (xs : List Term) (t : Term) → AreBelow t.monomial xs → t.monomial < k → AreBelow k (pushed xs t)
below_pushed k xs t b h = grind (arith, below_less, below_push)

-- what a term becomes that is put before others which are behind it
module _ (xs ys zs : List Term) (t : Term) (e : zs ≡ pushed xs t) where
  pub put_terms : IsNormal (xs ++ ys) → AreBelow t.monomial xs → IsBelowAll t.monomial ys → AreTermsOf (summand_of t ∷ polynomial_of (xs ++ ys)) (zs ++ ys)
  put_terms h b a = rw e (terms_put xs ys t h b a)

  pub put_exponents : (d : ℕ) → HaveExponents d (summand_of t ∷ polynomial_of (xs ++ ys)) → HaveExponents d (polynomial_of (zs ++ ys))
  put_exponents d h = rw e (have_put d xs ys t h)

  pub put_below : (k : ℕ) → AreBelow t.monomial xs → t.monomial < k → AreBelow k zs
  put_below k b h = rw e (below_pushed k xs t b h)

-- the same where it takes the place of a term with its monomial
module _ (xs ys : List Term) (s t u : Term) (zs : List Term) (e : zs ≡ pushed xs u) (m : s.monomial ≡ t.monomial) (n : u.monomial ≡ t.monomial) where
  done : AreBelow t.monomial xs → AreBelow u.monomial xs
  done b = rw n b

  pub exchanged_terms : value_of u.coefficient ≡ plus (value_of s.coefficient) (value_of t.coefficient) → IsNormal (xs ++ s ∷ ys) → AreBelow t.monomial xs
      → AreTermsOf (summand_of t ∷ polynomial_of (xs ++ s ∷ ys)) (zs ++ ys)
  exchanged_terms p h b =
      let behind : IsBelowAll u.monomial ys = rw n (rw (sym m) ((normal_end xs (s ∷ ys) h).1)) in
      terms_same (zs ++ ys) (same_exchanged xs ys s t u m n p) (put_terms xs ys zs u e (normal_remove xs ys s h) (done b) behind)

  pub exchanged_exponents : (d : ℕ) → HaveExponents d (summand_of t ∷ polynomial_of (xs ++ s ∷ ys)) → HaveExponents d (polynomial_of (zs ++ ys))
  exchanged_exponents d h = put_exponents xs ys zs u e d (have_exchanged d xs ys s t u n h)

  pub exchanged_below : (k : ℕ) → AreBelow t.monomial xs → t.monomial < k → AreBelow k zs
  exchanged_below k b h = put_below xs ys zs u e k (done b) (rw n h)
