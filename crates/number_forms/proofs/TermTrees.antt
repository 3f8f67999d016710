-- Terms as trees, and trees as terms.
use Rattle.number_forms.proofs.Shared.{◌≡◌, ◌≢◌, ℕ, ◌≤◌, ◌<◌, inl, inr, true, false, Result, sym, ap, ◌∙◌, arith, ℤ, pos, nat_abs, IfOk, IsClean, Fraction, zero_fraction, one_fraction}
use Rattle.number_forms.proofs.Shared.{whole_fraction, IsTerm, IsRadicand, is_term, is_number, natural_of, classes, Term, term, Tree, num, mult, root, none, more, root_kind}
use Rattle.number_forms.proofs.Shared.{is_add, whole_numerator, whole_denominator, number_words, term_test, int_is_zero, is_zero, Forest, Gives, AsNumber, as_number}
use Rattle.calc_algebra.specs.Numbers.{term_of}
use Rattle.calc_terms.specs.declared.kind.Kind.TheVariants as kind

-- ---- from a term

whole_radicand : (n : ℕ) → 2 ≤ n → IsClean n → IsRadicand (whole_fraction (pos n))
whole_radicand n l c = (whole_denominator (pos n), n, whole_numerator (pos n), l, c)

pub rational_tree : (q : Fraction) (s : Term) (t : Tree) → q ≡ s.coefficient → s.coefficient ≢ zero_fraction → s.radicand ≡ 1 → t ≡ num q → (is_term t ≡ true) × (term_of t ≡ s)
rational_tree q s t c z r e = (ap is_term e ∙ term_test (num q) (λ k. z (sym c ∙ k)), ap term_of e ∙ (λ i. term (c i) (sym r i)))

pub root_tree : (n : ℕ) (s : Term) (t : Tree) → one_fraction ≡ s.coefficient → n ≡ s.radicand → 2 ≤ n → IsClean n → t ≡ root (num (whole_fraction (pos n)))
    → (is_term t ≡ true) × (term_of t ≡ s)
root_tree n s t c r l h e = (ap is_term e ∙ term_test (root (num (whole_fraction (pos n)))) (whole_radicand n l h), ap term_of e ∙ (λ i. term (c i) ((ap natural_of (whole_numerator (pos n)) ∙ r) i)))

pub multiple_tree : (q : Fraction) (n : ℕ) (s : Term) (t : Tree) → q ≡ s.coefficient → s.coefficient ≢ zero_fraction → q ≢ one_fraction → n ≡ s.radicand → 2 ≤ n → IsClean n
    → t ≡ mult (more (num q) (more (root (num (whole_fraction (pos n)))) none)) → (is_term t ≡ true) × (term_of t ≡ s)
multiple_tree q n s t c z o r l h e = grind (arith, term_test, whole_radicand, whole_numerator)

pub if_gives : {E : Type 0} (r : Result ℕ E) (f g : Forest) (P Q : Tree → Type 0) → IfOk r (λ h. Gives f g h P) → ((t : Tree) → P t → Q t) → IfOk r (λ h. Gives f g h Q)
if_gives r f g P Q e k = grind arith

-- ---- rationals of the code

pub natural_abs : (z : ℤ) (n : ℕ) → z ≡ pos n → nat_abs z ≡ natural_of z
natural_abs z n e = ap nat_abs e ∙ sym (ap natural_of e)

-- ---- a Number that is no sum

pub single_term : (t : Tree) (n : ℕ) → is_number t ≡ true → root_kind t ≢ kind.Add → n < classes t → IsTerm t
single_term t n h k l = grind (arith, as_number, number_words)

pub if_given : {E : Type 0} (f g h : Forest) (P Q : Tree → Type 0) (r : Result ℕ E) → IfOk r (λ i. Gives f g i P) → f ≡ h → ((t : Tree) → P t → Q t) → IfOk r (λ i. Gives h g i Q)
if_given f g h P Q r e q k = grind arith

pub nonzero_term : (t : Tree) → is_number t ≡ true → is_add t ≡ false → is_zero t ≡ false → IsTerm t
unfolding zero_fraction
nonzero_term t h k z = by (as_number t (number_words t h))
  where
    by : AsNumber t → IsTerm t
    by (inl a) = absurd (let x : is_zero t ≡ true = ap is_zero a.is ∙ ap int_is_zero (whole_numerator (pos 0)) in cc (x, z))
    by (inr (inl s)) = s.one
    by (inr (inr s)) = absurd (let x : is_add t ≡ true = ap is_add s.is in cc (x, k))
