-- A rational times the terms of a Number.
use Rattle.coefficients.proofs.Shared.{times_one, arith, ◌≡◌, ◌≢◌, ℕ, suc, ◌≤◌, [], ◌∷◌, length, Bool, true, false, if◌then◌else◌, refl, sym, ap, ◌∙◌, subst, Fraction, times, zero_fraction}
use Rattle.coefficients.proofs.Shared.{one_fraction, is_one_fraction, IsNumber, IsTerm, AreTerms, IsBelowAll, Rises, term_of, terms_of, natural_of, product_tree, Term, Surd, term, term_scale}
use Rattle.coefficients.proofs.Shared.{surd_scale, Tree, num, add, mult, root, Trees, none, more, one_is, product_not_zero, mapped, rational_times, rational_times_number, times_comm, one_times}
use Rattle.number_forms.proofs.Placings.{one_test as one_is_one}

-- a rational other than 0 and 1
pub record IsFactor (q : Fraction) : Type 0 where
  pub not_zero : q ≢ zero_fraction
  pub not_one : q ≢ one_fraction

pub not_one_is : (q : Fraction) → is_one_fraction q ≡ false → q ≢ one_fraction
not_one_is q h e = grind (arith, one_is_one)

-- a term is a term again, with the coefficient times the rational
pub record IsScaled (q : Fraction) (t u : Tree) : Type 0 where
  pub one : IsTerm u
  pub term_is : term_of u ≡ term_scale q (term_of t)

pub scaled : (q : Fraction) (t : Tree) → IsFactor q → IsTerm t → IsScaled q t (rational_times q t)
scaled q (num c) f h = record { one = product_not_zero q c f.not_zero h; term_is = refl }
scaled q (root (num r)) f h = record { one = (f.not_zero, f.not_one, h); term_is = ap (λ (c : Fraction). term c (natural_of r.num)) (sym (times_one q)) }
scaled q (mult (more (num c) (more (root (num r)) none))) f h = by (is_one_fraction (times q c)) refl
  where
    by : (b : Bool) → is_one_fraction (times q c) ≡ b
        → IsScaled q (mult (more (num c) (more (root (num r)) none))) (if b then product_tree (more (root (num r)) none) else mult (more (num (times q c)) (more (root (num r)) none)))
    by true e = record { one = h.2; term_is = ap (λ (x : Fraction). term x (natural_of r.num)) (sym (one_is (times q c) e)) }
    by false e = record { one = (product_not_zero q c f.not_zero h.0, not_one_is (times q c) e, h.2); term_is = refl }
scaled q t f h = absurd h

-- ---- a list of terms

pub terms-scaled : (q : Fraction) (ts : Trees) → IsFactor q → AreTerms ts → terms_of (mapped (rational_times q) ts) ≡ surd_scale q (terms_of ts)
terms-scaled q none f h = refl
terms-scaled q (more t ts) f h = (λ i. (scaled q t f h.0).term_is i ∷ terms-scaled q ts f h.1 i)

pub are_terms : (q : Fraction) (ts : Trees) → IsFactor q → AreTerms ts → AreTerms (mapped (rational_times q) ts)
are_terms q none f h = tt
are_terms q (more t ts) f h = ((scaled q t f h.0).one, are_terms q ts f h.1)

below_all : (q : Fraction) (t : Term) (v : Surd) → IsBelowAll t v → IsBelowAll (term_scale q t) (surd_scale q v)
below_all q t [] h = tt
below_all q t (u ∷ v) h = (h.0, h.1, below_all q t v h.2)

-- the radicands rise as before
pub rises-scaled : (q : Fraction) (v : Surd) → Rises v → Rises (surd_scale q v)
rises-scaled q [] h = tt
rises-scaled q (t ∷ v) h = (below_all q t v h.0, rises-scaled q v h.1)

length-scaled : (q : Fraction) (v : Surd) → length (surd_scale q v) ≡ length v
length-scaled q [] = refl
length-scaled q (t ∷ v) = ap suc (length-scaled q v)

-- a Number of two classes or more is one again
pub number_scaled : (q : Fraction) (ts : Trees) → IsFactor q → IsNumber (add ts) → IsNumber (rational_times_number q ts)
number_scaled q ts f h =
    let e = terms-scaled q ts f h.1 in (
      subst (λ (v : Surd). 2 ≤ length v) (sym e) (subst (λ (n : ℕ). 2 ≤ n) (sym (length-scaled q (terms_of ts))) h.0),
      are_terms q ts f h.1,
      subst Rises (sym e) (rises-scaled q (terms_of ts) h.2),
    )
