-- Lists of terms in the order of their trees.
use Rattle.expansions.proofs.Shared.{◌≡◌, ℕ, suc, ◌+◌, ◌<◌, ◌≤◌, ◌^◌, List, [], ◌∷◌, length, get_or, Bool, true, false, inl, inr, refl, sym, ap, ◌∙◌, subst, arith, sum_by, IsPermutation, ◌==◌, cond}
use Rattle.expansions.proofs.Shared.{IsSorted, reverse, if◌then◌else◌, AllByRecursion, reverse-reverse, All-from_recursion, recursion_from_All, is_lt, All-permutation, sum_by-IsPermutation, eq-eqb}
use Rattle.expansions.proofs.Shared.{ne_eqb, not_from_false, ordering_reverse, Ordering, Less, Equal, Greater, Fraction, is_zero_fraction, no_zero, plus, zero_fraction, zero_plus, value_of, IsNormal}
use Rattle.expansions.proofs.Shared.{monomial_cmp, normal, Monomial, Polynomial, Summand, AreMonomials, coefficient_at, is_same_monomial, summand, one_unpacked, AreNames, AreOf, HaveNames, IsListOf}
use Rattle.expansions.proofs.{Shared.{named_polynomial, packed_cmp, packed_term_cmp, monomial_of, Term, sum_by-cons, cases_eq, named}, NamedMonomials.{named_monomial}}
use Rattle.expansions.proofs.{NormalForms.{before_more, normal_coefficient, normal_is, one_normal}, Totals.{total, total_moved}, PackedOrders.{order_equal, packed_length, packed_named, packed_order}}
use Rattle.expansions.proofs.PackedOrders.{packed_total}
use Rattle.polynomials.specs.Terms.{IsBelowAll as IsBelowTerms, IsNormal as AreSorted, polynomial_of}

-- ---- terms

abbrev pub named_term : List (List ℕ) → Term → Summand
named_term ns t = summand (value_of t.coefficient) (named ns (monomial_of t.monomial))

abbrev pub named_terms : List (List ℕ) → List Term → Polynomial
named_terms ns ts = named_polynomial ns (polynomial_of ts)

-- ---- coefficients in another order

weight : List (List ℕ) → Monomial → Term → Fraction
weight ns m t = if is_same_monomial (named ns (monomial_of t.monomial)) m then value_of t.coefficient else zero_fraction

weighed : (b : Bool) (q c : Fraction) → (if b then plus q c else c) ≡ plus (if b then q else zero_fraction) c
weighed true q c = refl
weighed false q c = sym (zero_plus c)

total_is : (ns : List (List ℕ)) (m : Monomial) (ts : List Term) → coefficient_at m (named_terms ns ts) ≡ total (weight ns m) ts
unfolding weight
total_is ns m [] = refl
total_is ns m (t ∷ ts) =
    weighed (is_same_monomial (named ns (monomial_of t.monomial)) m) (value_of t.coefficient) (coefficient_at m (named_terms ns ts))
    ∙ ap (plus (if is_same_monomial (named ns (monomial_of t.monomial)) m then value_of t.coefficient else zero_fraction)) (total_is ns m ts)

pub moved_coefficient : (ns : List (List ℕ)) (ts us : List Term) → IsPermutation ts us → (m : Monomial) → coefficient_at m (named_terms ns us) ≡ coefficient_at m (named_terms ns ts)
moved_coefficient ns ts us p m = total_is ns m us ∙ total_moved (weight ns m) ts us p ∙ sym (total_is ns m ts)

-- ---- no monomial stands twice

-- how often a packed monomial stands in a list
abbrev is_at : ℕ → Term → ℕ
is_at k t = cond (t.monomial == k) 1 0

abbrev often : ℕ → List Term → ℕ
often k ts = sum_by (is_at k) ts

at_other : (k : ℕ) (t : Term) → (t.monomial ≡ k → ⊥) → is_at k t ≡ 0
at_other k t h = ap (λ (b : Bool). cond b 1 0) (ne_eqb t.monomial k h)

at_same : (k : ℕ) (t : Term) → t.monomial ≡ k → is_at k t ≡ 1
at_same k t h = ap (λ (b : Bool). cond b 1 0) (eq-eqb t.monomial k h)

at_most : (k : ℕ) (t : Term) → is_at k t ≤ 1
at_most k t = grind arith

above_none : (k : ℕ) (ts : List Term) → IsBelowTerms k ts → (j : ℕ) → j ≤ k → often j ts ≡ 0
above_none k [] h j l = refl
above_none k (t ∷ ts) h j l = omega (arith, sum_by-cons (is_at j) t ts, at_other j t (λ e. omega (arith, e, l, h.0)), above_none k ts h.1 j l)

once : (k : ℕ) (ts : List Term) → AreSorted ts → often k ts ≤ 1
once k [] h = omega arith
once k (t ∷ ts) h = elim (cases_eq t.monomial k) [
  | inl e ↦ omega (arith, sum_by-cons (is_at k) t ts, at_most k t, above_none t.monomial ts h.1 k (omega (arith, e)))
  | inr n ↦ omega (arith, sum_by-cons (is_at k) t ts, at_other k t n, once k ts h.2)
]

no_pair : (t u : Term) (us : List Term) → ((k : ℕ) → often k (t ∷ u ∷ us) ≤ 1) → t.monomial ≡ u.monomial → ⊥
no_pair t u us h e =
    let k = u.monomial in
    omega (arith, h k, sum_by-cons (is_at k) t (u ∷ us), sum_by-cons (is_at k) u us, at_same k t e, at_same k u refl)

-- ---- rising terms

-- a term as it may stand in a list
pub record IsFine (ns : List (List ℕ)) (t : Term) : Type 0 where
  pub nonzero : is_zero_fraction (value_of t.coefficient) ≡ false
  pub named : AreOf ns (reverse (monomial_of t.monomial))
  pub packed : t.monomial < 2 ^ 64

abbrev pub AreFine : List (List ℕ) → List Term → Type 0
AreFine ns ts = AllByRecursion (IsFine ns) ts

reversed_same : (k l : ℕ) → reverse (monomial_of k) ≡ reverse (monomial_of l) → monomial_of k ≡ monomial_of l
reversed_same k l e = sym (reverse-reverse (monomial_of k)) ∙ ap reverse e ∙ reverse-reverse (monomial_of l)

same_packed : (ns : List (List ℕ)) (t u : Term) → AreNames ns → IsFine ns t → IsFine ns u → packed_cmp t.monomial u.monomial ≡ Equal → t.monomial ≡ u.monomial
unfolding monomial_of
same_packed ns t u h a b e =
    one_unpacked 8 t.monomial u.monomial a.packed b.packed (reversed_same t.monomial u.monomial
    (order_equal (reverse (monomial_of t.monomial)) (reverse (monomial_of u.monomial)) (packed_length t.monomial ∙ sym (packed_length u.monomial)) (sym (packed_order t.monomial u.monomial) ∙ e)))

decided : (o p : Ordering) → p ≡ ordering_reverse o → is_lt p ≡ false → (o ≡ Equal → ⊥) → o ≡ Less
decided Less p e l n = refl
decided Equal p e l n = absurd (n refl)
decided Greater p e l n = absurd (cc (sym (ap is_lt e) ∙ l))

next_less : (ns : List (List ℕ)) (t u : Term) → AreNames ns → IsFine ns t → IsFine ns u → (t.monomial ≡ u.monomial → ⊥) → is_lt (packed_cmp u.monomial t.monomial) ≡ false
    → monomial_cmp (named ns (monomial_of t.monomial)) (named ns (monomial_of u.monomial)) ≡ Less
next_less ns t u h a b n l =
    sym (packed_named ns t.monomial u.monomial h a.named b.named)
    ∙ decided (packed_cmp t.monomial u.monomial) (packed_cmp u.monomial t.monomial) (packed_total.antisymm u.monomial t.monomial) l (λ e. n (same_packed ns t u h a b e))

sorted_tail : (t : Term) (us : List Term) → IsSorted packed_term_cmp (t ∷ us) → IsSorted packed_term_cmp us
sorted_tail t us h = λ k d z l.
    let e : suc k + 1 ≡ suc (k + 1) = omega arith in
    subst (λ (n : ℕ). is_lt (packed_term_cmp (get_or (t ∷ us) n d) (get_or us k d)) ≡ false) e (h (suc k) d (omega arith) (omega (arith, l)))

often_tail : (t : Term) (us : List Term) → ((k : ℕ) → often k (t ∷ us) ≤ 1) → (k : ℕ) → often k us ≤ 1
often_tail t us h k = omega (arith, h k, sum_by-cons (is_at k) t us)

rising : (ns : List (List ℕ)) (us : List Term) → AreNames ns → AreFine ns us → ((k : ℕ) → often k us ≤ 1) → IsSorted packed_term_cmp us → IsNormal (named_terms ns us)
rising ns [] h a o s = tt
rising ns (t ∷ []) h a o s = (no_zero _ (not_from_false _ a.0.nonzero), tt, tt)
rising ns (t ∷ u ∷ us) h a o s =
    let go = rising ns (u ∷ us) h a.1 (often_tail t (u ∷ us) o) (sorted_tail t (u ∷ us) s) in
    let less = next_less ns t u h a.0 a.1.0 (no_pair t u us o) (s 0 t (omega arith) (omega arith)) in
    (no_zero _ (not_from_false _ a.0.nonzero), (less, before_more (named ns (monomial_of t.monomial)) (named ns (monomial_of u.monomial)) (named_terms ns us) less go.1), go)

-- terms of a list of which each monomial has 64 bits
pub are_fine : (ns : List (List ℕ)) (ts : List Term) → AreSorted ts → HaveNames ns (polynomial_of ts) → ((k : ℕ) (d : Term) → k < length ts → (get_or ts k d).monomial < 2 ^ 64) → AreFine ns ts
are_fine ns [] h k l = tt
are_fine ns (t ∷ ts) h k l = (record { nonzero = h.0; named = k.0.1; packed = l 0 t (omega arith) }, are_fine ns ts h.2 k.1 (λ j d m. l (suc j) d (omega (arith, m))))

-- ---- the normal polynomial

-- sorted terms that are moved into the order of trees are those of the normal polynomial
pub ordered_normal : {ns : List (List ℕ)} {ts us : List Term} {v : Polynomial} → IsListOf ns ts v → AreFine ns ts → IsPermutation ts us → IsSorted packed_term_cmp us → named_terms ns us ≡ normal v
ordered_normal {ns} {ts} {us} {v} l a p s =
    let up = rising ns us l.names (recursion_from_All (IsFine ns) us (All-permutation (IsFine ns) ts us p (All-from_recursion (IsFine ns) ts a)))
    (λ k. omega (arith, sum_by-IsPermutation (is_at k) ts us p, once k ts l.normal)) s in
    one_normal (named_terms ns us) (normal v) up (normal_is v) (λ m. moved_coefficient ns ts us p m ∙ l.same.at m ∙ sym (normal_coefficient m v))

pub ordered_monomials : (ns : List (List ℕ)) (us : List Term) → AreNames ns → AreMonomials (named_terms ns us)
ordered_monomials ns [] h = tt
ordered_monomials ns (t ∷ us) h = (named_monomial ns (monomial_of t.monomial) h, ordered_monomials ns us h)
