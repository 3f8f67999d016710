-- Numbers from sums of terms, and sums of terms from Numbers.
use Rattle.number_forms.proofs.Shared.{◌≡◌, ◌≢◌, ℕ, zero, suc, ◌≤◌, ◌<◌, [], ◌∷◌, Some, Bool, true, if◌then◌else◌, refl, sym, ap, ◌∙◌, subst, arith, slice_get, pos, Fraction, lowest, int_is_zero}
use Rattle.number_forms.proofs.Shared.{IsNumber, IsTerm, AreTerms, Rises, is_number, terms_of, value, Surd, surd_of, Tree, num, add, Trees, none, more, count, zero_test, whole_numerator, number_test}
use Rattle.number_forms.proofs.{Shared.{number_words, Same-refl, Same-eq, IsNumberOver, IsSum, IsSumOf, nth, children_of, count_terms}, Denominators.{shares_eq}}
use Rattle.calc_algebra.specs.Numbers.{term_of}

-- ---- from a sum

none_value : value (num (lowest (pos 0) 1)) ≡ []
none_value = ap (λ (b : Bool). if b then [] else surd_of (lowest (pos 0) 1)) (ap int_is_zero (whole_numerator (pos 0)))

pub term_number : (t : Tree) → IsTerm t → IsNumber t
term_number t h = grind arith

pub term_value : (t : Tree) → IsTerm t → value t ≡ term_of t ∷ []
term_value t h = grind (arith, zero_test)

pub single_number : (t : Tree) → IsTerm t → IsNumberOver (term_of t ∷ []) t
single_number t h = record { number = number_test t (term_number t h); worth = Same-eq (term_value t h); parts = shares_eq (sym (term_value t h)) }

pub sum_number : (ts : Trees) → 2 ≤ count ts → AreTerms ts → Rises (terms_of ts) → IsNumberOver (terms_of ts) (add ts)
sum_number ts l a r = grind (arith, number_test, count_terms, Same-refl)

-- ---- from a Number

pub added_number : (ts : Trees) → is_number (add ts) ≡ true → IsSum (add ts)
added_number ts h = let w = number_words (add ts) h in (w.1, w.2)

-- ---- by place

pub nth_of_terms : (ts : Trees) (n : ℕ) → n < count ts → slice_get (terms_of ts) n ≡ Some (term_of (nth n ts))
nth_of_terms none n l = absurd (omega arith)
nth_of_terms (more t ts) zero l = refl
nth_of_terms (more t ts) (suc n) l = nth_of_terms ts n (omega arith)

pub nth_is_term : (ts : Trees) (n : ℕ) → n < count ts → AreTerms ts → IsTerm (nth n ts)
nth_is_term none n l a = absurd (omega arith)
nth_is_term (more t ts) zero l (h, a) = h
nth_is_term (more t ts) (suc n) l (h, a) = nth_is_term ts n (omega arith) a

-- ---- the sum that is a Number

pub zero_sum : (t : Tree) → IsSum t → count (children_of t) ≡ 0 → value t ≡ []
zero_sum (add none) h e = refl
zero_sum (add (more t ts)) h e = absurd (omega arith)
zero_sum _ h e = absurd h

one_of_sum : (ts : Trees) → AreTerms ts → count ts ≡ 1 → IsNumberOver (terms_of ts) (nth 0 ts)
one_of_sum (more t none) (h, a) e = single_number t h
one_of_sum none a e = absurd (omega arith)
one_of_sum (more t (more u us)) a e = absurd (omega arith)

pub one_sum : (t : Tree) (ts : Trees) → IsSum t → t ≡ add ts → count ts ≡ 1 → IsNumberOver (value t) (nth 0 ts)
one_sum t ts h e l = let parts : IsSum (add ts) = subst IsSum e h in subst (λ (v : Surd). IsNumberOver v (nth 0 ts)) (sym (ap value e)) (one_of_sum ts parts.0 l)

pub more_sum : (t : Tree) (ts : Trees) → IsSum t → t ≡ add ts → 2 ≤ count ts → IsNumberOver (value t) t
more_sum t ts h e l = grind (arith, sum_number)

pub zero_number_of : (v : Surd) (t : Tree) (q : Fraction) → v ≡ [] → t ≡ num q → q ≡ lowest (pos 0) 1 → IsNumberOver v t
zero_number_of v t q e f g =
    subst (λ (w : Surd). IsNumberOver w t) (sym e) (subst (IsNumberOver []) (sym (f ∙ ap num g))
    (record { number = number_test (num (lowest (pos 0) 1)) tt; worth = Same-eq none_value; parts = shares_eq (sym none_value) }))

pub no_term_sum_of : (v : Surd) (t : Tree) → v ≡ [] → t ≡ add none → IsSumOf v t
no_term_sum_of v t e f = subst (λ (w : Surd). IsSumOf w t) (sym e) (subst (IsSumOf []) (sym f) (record { sum = (tt, tt); worth = Same-refl []; parts = λ d p. p }))

pub one_term_sum_of : (a t : Tree) → IsTerm a → t ≡ add (more a none) → IsSumOf (value a) t
one_term_sum_of a t h f = subst (IsSumOf (value a)) (sym f) (record { sum = ((h, tt), (tt, tt)); worth = Same-eq (sym (term_value a h)); parts = shares_eq (term_value a h) })

pub two_from : (n : ℕ) → n ≢ 0 → n ≢ 1 → 2 ≤ n
two_from n a b = grind arith
