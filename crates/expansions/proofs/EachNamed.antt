-- The exponents of each term of a list are those of its names.
use Rattle.expansions.proofs.Shared.{◌≡◌, ℕ, zero, suc, ◌<◌, ◌^◌, List, [], ◌∷◌, length, get_or, Bool, true, false, refl, sym, ap, ◌∙◌, subst, arith, ◌==◌, if◌then◌else◌, and_from, and_parts, inl}
use Rattle.expansions.proofs.Shared.{inr, eq-eqb, eqb-true, false_from_ne_true, no_zero, not_from_false, plus, value_of, zero_fraction, HaveNames, IsListOf, IsOfNames, one_unpacked, same_coefficient}
use Rattle.expansions.proofs.Shared.{monomial_of, Term, cases_Bool, plus_zero}
use Rattle.expansions.specs.Polynomials.{Polynomial as Named}
use Rattle.polynomials.specs.{Polynomials.{Monomial, Polynomial, coefficient_at, is_same_monomial}, Terms.{IsBelowAll, IsNormal, polynomial_of}}

-- each monomial has 64 bits
abbrev pub ArePacked : List Term → Type 0
ArePacked ts = (k : ℕ) (d : Term) → k < length ts → (get_or ts k d).monomial < 2 ^ 64

packed_rest : (t : Term) (ts : List Term) → ArePacked (t ∷ ts) → ArePacked ts
packed_rest t ts h = λ k d l. h (suc k) d (omega (arith, l))

-- ---- monomials

same_self : (m : Monomial) → is_same_monomial m m ≡ true
same_self [] = refl
same_self (x ∷ m) = and_from _ _ (eq-eqb x x refl) (same_self m)

same_is : (m n : Monomial) → is_same_monomial m n ≡ true → m ≡ n
same_is [] [] h = refl
same_is [] (y ∷ n) h = cc
same_is (x ∷ m) [] h = cc
same_is (x ∷ m) (y ∷ n) h = let (a, b) = and_parts (x == y) _ h in λ i. eqb-true x y a i ∷ same_is m n b i

not_same : (k l : ℕ) → k < 2 ^ 64 → l < 2 ^ 64 → (k ≡ l → ⊥) → is_same_monomial (monomial_of k) (monomial_of l) ≡ false
unfolding monomial_of
not_same k l h j n = false_from_ne_true (is_same_monomial (monomial_of k) (monomial_of l)) (λ e. n (one_unpacked 8 k l h j (same_is (monomial_of k) (monomial_of l) e)))

-- ---- coefficients

other : (k : ℕ) (t : Term) (ts : List Term) → k < 2 ^ 64 → t.monomial < 2 ^ 64 → (t.monomial ≡ k → ⊥)
    → coefficient_at (monomial_of k) (polynomial_of (t ∷ ts)) ≡ coefficient_at (monomial_of k) (polynomial_of ts)
other k t ts h j n =
    let c = coefficient_at (monomial_of k) (polynomial_of ts) in
    ap (λ (b : Bool). if b then plus (value_of t.coefficient) c else c) (not_same t.monomial k j h n)

absent : (k : ℕ) (ts : List Term) → k < 2 ^ 64 → ArePacked ts → IsBelowAll k ts → coefficient_at (monomial_of k) (polynomial_of ts) ≡ zero_fraction
absent k [] h p b = refl
absent k (t ∷ ts) h p b = other k t ts h (p 0 t (omega arith)) (λ e. omega (arith, e, b.0)) ∙ absent k ts h (packed_rest t ts p) b.1

below_at : (k i : ℕ) (d : Term) (ts : List Term) → IsBelowAll k ts → i < length ts → k < (get_or ts i d).monomial
below_at k i d [] b l = absurd (omega (arith, l))
below_at k zero d (t ∷ ts) b l = b.0
below_at k (suc i) d (t ∷ ts) b l = below_at k i d ts b.1 (omega (arith, l))

at : (i : ℕ) (d : Term) (ts : List Term) → IsNormal ts → ArePacked ts → i < length ts → coefficient_at (monomial_of (get_or ts i d).monomial) (polynomial_of ts) ≡ value_of (get_or ts i d).coefficient
at i d [] h p l = absurd (omega (arith, l))
at zero d (t ∷ ts) h p l =
    let c = coefficient_at (monomial_of t.monomial) (polynomial_of ts) in
    ap (λ (b : Bool). if b then plus (value_of t.coefficient) c else c) (same_self (monomial_of t.monomial))
    ∙ ap (plus (value_of t.coefficient)) (absent t.monomial ts (p 0 t (omega arith)) (packed_rest t ts p) h.1) ∙ plus_zero (value_of t.coefficient)
at (suc i) d (t ∷ ts) h p l =
    let k = (get_or ts i d).monomial in
    let less = below_at t.monomial i d ts h.1 (omega (arith, l)) in
    other k t ts (p (suc i) d l) (p 0 t (omega arith)) (λ e. omega (arith, e, less)) ∙ at i d ts h.2 (packed_rest t ts p) (omega (arith, l))

nonzero_at : (i : ℕ) (d : Term) (ts : List Term) → IsNormal ts → i < length ts → value_of (get_or ts i d).coefficient ≡ zero_fraction → ⊥
nonzero_at i d [] h l = absurd (omega (arith, l))
nonzero_at zero d (t ∷ ts) h l = no_zero (value_of t.coefficient) (not_from_false _ h.0)
nonzero_at (suc i) d (t ∷ ts) h l = nonzero_at i d ts h.2 (omega (arith, l))

-- a monomial with a coefficient has no exponents but those of the names
occurs : (ns : List (List ℕ)) (m : Monomial) (w : Polynomial) → HaveNames ns w → (coefficient_at m w ≡ zero_fraction → ⊥) → IsOfNames ns m
occurs ns m [] h z = absurd (z refl)
occurs ns m (s ∷ w) h z =
    let c = coefficient_at m w in
    elim (cases_Bool (is_same_monomial s.monomial m)) [
      | inl e ↦ subst (IsOfNames ns) (same_is s.monomial m e) h.0
      | inr e ↦ occurs ns m w h.1 (λ q. z (ap (λ (b : Bool). if b then plus s.coefficient c else c) e ∙ q))
    ]

have_names : (ns : List (List ℕ)) (ts : List Term) → ((i : ℕ) (d : Term) → i < length ts → IsOfNames ns (monomial_of (get_or ts i d).monomial)) → HaveNames ns (polynomial_of ts)
have_names ns [] h = tt
have_names ns (t ∷ ts) h = (h 0 t (omega arith), have_names ns ts (λ i d l. h (suc i) d (omega (arith, l))))

pub each_named : {ns : List (List ℕ)} {ts : List Term} {v : Named} → IsListOf ns ts v → ArePacked ts → HaveNames ns (polynomial_of ts)
each_named {ns} {ts} l p = have_names ns ts (λ i d k.
    let m = monomial_of (get_or ts i d).monomial in
    occurs ns m l.within.alike l.within.named (λ e. nonzero_at i d ts l.normal k (sym (at i d ts l.normal p k) ∙ same_coefficient (polynomial_of ts) l.within.alike m l.within.same ∙ e)))
