-- The shapes of a Number, and that it is told by its value.
use Rattle.calc_algebra.proofs.Shared.{◌≡◌, ◌≢◌, ℕ, ◌≤◌, ◌⊎◌, inl, inr, pos, ◌∷◌, Bool, true, false, if◌then◌else◌, length, refl, ap, ◌∙◌, arith, []}
use Rattle.calc_algebra.proofs.Shared.{not_from_false, IsClean, Fraction, lowest, zero_fraction, one_fraction, is_zero_fraction, lowest_parts, whole_fraction, IsNumber, IsTerm, AreTerms, value}
use Rattle.calc_algebra.proofs.Shared.{term_of, terms_of, natural_of, term, surd_of, Tree, num, add, mult, root, Trees, none, more, zero_is, no_zero}

-- ---- terms as trees

pub record AsRational (t : Tree) : Type 0 where
  pub q : Fraction
  pub is : t ≡ num q
  pub term_is : term_of t ≡ term q 1
  pub not_zero : q ≢ zero_fraction

pub record AsRoot (t : Tree) : Type 0 where
  pub n : ℕ
  pub is : t ≡ root (num (whole_fraction (pos n)))
  pub term_is : term_of t ≡ term one_fraction n
  pub two : 2 ≤ n
  pub clean : IsClean n

pub record AsMultiple (t : Tree) : Type 0 where
  pub q : Fraction
  pub n : ℕ
  pub is : t ≡ mult (more (num q) (more (root (num (whole_fraction (pos n)))) none))
  pub term_is : term_of t ≡ term q n
  pub not_zero : q ≢ zero_fraction
  pub not_one : q ≢ one_fraction
  pub two : 2 ≤ n
  pub clean : IsClean n

-- a rational, a root, or a multiple of a root
abbrev pub AsTerm : Tree → Type 0
AsTerm t = AsRational t ⊎ (AsRoot t ⊎ AsMultiple t)

whole_is : (r : Fraction) (n : ℕ) → r.den ≡ 1 → r.num ≡ pos n → r ≡ whole_fraction (pos n)
whole_is r n d e = lowest_parts r ∙ (λ i. lowest (e i) (d i))

pub as_term : (t : Tree) → IsTerm t → AsTerm t
as_term (num q) h = inl (record { q = q; is = refl; term_is = refl; not_zero = h })
as_term (root (num r)) (d, n, e, l, c) = inr (inl (record { n = n; is = ap (λ x. root (num x)) (whole_is r n d e); term_is = ap (λ z. term one_fraction (natural_of z)) e; two = l; clean = c }))
as_term (mult (more (num q) (more (root (num r)) none))) (y, z, (d, n, e, l, c)) = inr (inr (record {
  q = q;
  n = n;
  is = ap (λ x. mult (more (num q) (more (root (num x)) none))) (whole_is r n d e);
  term_is = ap (λ z. term q (natural_of z)) e;
  not_zero = y;
  not_one = z;
  two = l;
  clean = c;
}))
as_term t h = absurd h

-- a term is told by its coefficient and its radicand
pub one_term : (t u : Tree) → IsTerm t → IsTerm u → term_of t ≡ term_of u → t ≡ u
one_term t u h k e = grind (arith, as_term)

pub one_list_of_terms : (ts us : Trees) → AreTerms ts → AreTerms us → terms_of ts ≡ terms_of us → ts ≡ us
one_list_of_terms none none h k e = refl
one_list_of_terms none (more u us) h k e = cc
one_list_of_terms (more t ts) none h k e = cc
one_list_of_terms (more t ts) (more u us) (h, hs) (k, ks) e =
    let first : term_of t ≡ term_of u = cc in
    let rest : terms_of ts ≡ terms_of us = cc in
    λ i. more (one_term t u h k first i) (one_list_of_terms ts us hs ks rest i)

-- ---- Numbers

pub record AsZero (t : Tree) : Type 0 where
  pub is : t ≡ num zero_fraction
  pub value_is : value t ≡ []

pub record AsSingle (t : Tree) : Type 0 where
  pub one : IsTerm t
  pub value_is : value t ≡ term_of t ∷ []

pub record AsSum (t : Tree) : Type 0 where
  pub ts : Trees
  pub is : t ≡ add ts
  pub are : AreTerms ts
  pub two : 2 ≤ length (terms_of ts)
  pub value_is : value t ≡ terms_of ts

-- zero, a term, or a sum of terms
abbrev pub AsNumber : Tree → Type 0
AsNumber t = AsZero t ⊎ (AsSingle t ⊎ AsSum t)

pub as_number : (t : Tree) → IsNumber t → AsNumber t
as_number (num q) h = by (is_zero_fraction q) refl
  where
    by : (b : Bool) → is_zero_fraction q ≡ b → AsZero (num q) ⊎ (AsSingle (num q) ⊎ AsSum (num q))
    by true e = inl (record { is = ap num (zero_is q e); value_is = ap (λ b. if b then [] else surd_of q) e })
    by false e = inr (inl (record { one = no_zero q (not_from_false _ e); value_is = ap (λ b. if b then [] else surd_of q) e }))
as_number (add ts) (l, h, r) = inr (inr (record { ts = ts; is = refl; are = h; two = l; value_is = refl }))
as_number (root a) h = inr (inl (record { one = h; value_is = refl }))
as_number (mult ts) h = inr (inl (record { one = h; value_is = refl }))
as_number t h = absurd h

-- a Number is told by its value
pub one_number_of_value : (t u : Tree) → IsNumber t → IsNumber u → value t ≡ value u → t ≡ u
one_number_of_value t u h k e = grind (arith, as_number, one_term, one_list_of_terms)
