-- What is a Number and what is none, by kind and by parts.
use Rattle.number_forms.proofs.Shared.{◌≡◌, ◌≢◌, ℕ, ◌*◌, ◌<◌, ◌≤◌, Bool, true, false, not, ◌&&◌, sym, ap, ◌∙◌, arith, ℤ, pos, nat_abs, ◌==◌, is_clean, IsClean, Fraction, whole_fraction}
use Rattle.number_forms.proofs.Shared.{is_number, is_term, is_radicand, natural_of, are_terms, rises, terms_of, Tree, count, root_kind, is_add, whole_numerator, whole_denominator, clean_test}
use Rattle.number_forms.proofs.Shared.{clean_words, children_of, lt_z, count_terms}
use Rattle.calc_terms.specs.declared.kind.Kind.TheVariants as kind

-- ---- by kind

pub rational_by_kind : (t : Tree) → root_kind t ≡ kind.Num → is_number t ≡ true
unfolding is_number
rational_by_kind t e = grind arith

pub other_by_kind : (t : Tree) → root_kind t ≢ kind.Num → root_kind t ≢ kind.Add → is_term t ≡ is_number t
unfolding is_number
other_by_kind t a b = grind arith

-- ---- sums

pub short_sum : (t : Tree) → is_add t ≡ true → count (children_of t) < 2 → false ≡ is_number t
unfolding is_number
short_sum t h l = grind (arith, count_terms)

no_second : (a b c : Bool) → b ≡ false → false ≡ (a && b && c)
no_second a b c e = grind arith

pub other_sum : (t : Tree) → is_add t ≡ true → are_terms (children_of t) ≡ false → false ≡ is_number t
unfolding is_number
other_sum t h e = grind arith

pub sum_rises : (t : Tree) → is_add t ≡ true → 2 ≤ count (children_of t) → are_terms (children_of t) ≡ true → rises (terms_of (children_of t)) ≡ is_number t
unfolding is_number
sum_rises t h l e = grind (arith, count_terms)

-- ---- multiples of roots

pub zero_multiple : (z o r : Bool) → z ≡ true → false ≡ (not z && not o && r)
zero_multiple z o r e = sym (ap (λ (x : Bool). not x && not o && r) e)

pub one_multiple : (z o r : Bool) → z ≡ false → o ≡ true → false ≡ (not z && not o && r)
one_multiple z o r e f = sym (λ i. not (e i) && not (f i) && r)

pub other_multiple : (z o r x : Bool) → z ≡ false → o ≡ false → x ≡ r → x ≡ (not z && not o && r)
other_multiple z o r x e f g = g ∙ sym (λ i. not (e i) && not (f i) && r)

-- ---- radicands

-- a number is clean where no square is taken out of it
pub one_root : (r s t : ℕ) → r ≡ s * s * t → IsClean t → (IsClean r → s ≡ 1) → (s == 1) ≡ is_clean r
one_root r s t e h k = grind (arith, clean_test, clean_words)

small_natural : (n m : ℤ) → lt_z m (pos 2) ≡ true → m ≡ n → natural_of n < 2
small_natural n m h e = grind arith

pub small_whole : (q : Fraction) (n m : ℤ) → q ≡ whole_fraction n → lt_z m (pos 2) ≡ true → m ≡ n → false ≡ is_radicand q
small_whole q n m e h f = grind (arith, whole_numerator, small_natural, no_second)

great_natural : (n m : ℤ) → lt_z m (pos 2) ≡ false → m ≡ n → (2 ≤ natural_of n) × (natural_of n ≡ nat_abs n)
great_natural n m h e = grind arith

pub clean_whole : (q : Fraction) (n m : ℤ) (k : ℕ) (b : Bool) → q ≡ whole_fraction n → lt_z m (pos 2) ≡ false → m ≡ n → k ≡ nat_abs n → b ≡ is_clean k → b ≡ is_radicand q
clean_whole q n m k b e h f g c = grind (arith, whole_numerator, whole_denominator, great_natural)
