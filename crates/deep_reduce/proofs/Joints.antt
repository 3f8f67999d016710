-- The joint of two factors: how it nests, and that it is never opaque.
use Rattle.deep_reduce.proofs.Shared.{◌≡◌, suc, ◌≤◌, inl, inr, Bool, true, false, if◌then◌else◌, refl, ap, ◌∙◌, subst, arith, max, and_parts, nest, nest_of, weight, load_of_factor, is_number}
use Rattle.deep_reduce.proofs.Shared.{IsNumber, IsTerm, AreTerms, is_term, term_of, are_numbers, is_reduced, is_opaque_exponent, num_one, base_of, IsSumForm, NoneIs, number_terms, other_terms, Tree}
use Rattle.deep_reduce.proofs.Shared.{add, power, Trees, none, more, is_add, number_test, number_words, term_words, reduced_parts, number_of_term, nest_over, nest_of_joint, exponent_of, joint}
use Rattle.deep_reduce.proofs.{Shared.{cases_Bool, one_whole, contrary, exponent_reduced, power_no_number, to_number, to_other, base_nest}, Heavy.{over_base, over_exponents}}
use Rattle.coefficients.proofs.SumMultiples.{two_terms}

-- ---- exponents

one_number : is_number num_one ≡ true
one_number = number_test num_one tt

one_transparent : is_opaque_exponent num_one ≡ false
one_transparent = rw (one_whole, one_number) refl

-- the exponent of a factor makes no opaque power
pub transparent_exponent : (t : Tree) → is_opaque_exponent (exponent_of t) ≡ false
transparent_exponent t = grind (arith, one_transparent)

-- a term that makes no opaque power is a rational
rational_term : (e : Tree) → IsTerm e → is_opaque_exponent e ≡ false → (term_of e).radicand ≡ 1
rational_term e h k = grind (arith, number_test, number_of_term)

two_rationals : (e f : Tree) → is_opaque_exponent e ≡ false → is_opaque_exponent f ≡ false → IsNumber (add (more e (more f none))) → ⊥
two_rationals e f o p h = absurd (omega (arith, h.2.0.0, rational_term e h.1.0 o, rational_term f h.1.1.0 p))

-- the sum of two such exponents is no Number as it stands
pub no_number_sum : (e f : Tree) → is_opaque_exponent e ≡ false → is_opaque_exponent f ≡ false → is_number (add (more e (more f none))) ≡ false
no_number_sum e f o p = elim (cases_Bool (is_number (add (more e (more f none))))) [ inl h ↦ absurd (two_rationals e f o p (number_words (add (more e (more f none))) h)) | inr h ↦ h ]

-- the load of a joint is the weight of its base
pub joint_load : (b e f : Tree) → is_opaque_exponent e ≡ false → is_opaque_exponent f ≡ false → load_of_factor (power b (add (more e (more f none)))) ≡ weight b
joint_load b e f o p = rw (power_no_number b (add (more e (more f none))), no_number_sum e f o p) refl

-- ---- nests

pub own_power : (t : Tree) → nest (power (base_of t) (exponent_of t)) ≡ nest t
own_power (power b e) = grind (arith, to_number, one_number)
own_power t = to_number t num_one one_number

pub joint_nest : (t u : Tree) → base_of t ≡ base_of u → nest_of_joint (joint t u) ≤ max (nest t) (nest u)
joint_nest t u h = grind (arith, own_power, base_nest)

each_over : (b : Tree) (ts : Trees) → nest_over b ts ≤ max (nest b) (suc (nest_of ts))
each_over b none = omega arith
each_over b (more t ts) = by (is_number t) refl (each_over b ts)
  where
    by : (x : Bool) → is_number t ≡ x → nest_over b ts ≤ max (nest b) (suc (nest_of ts)) → max (nest (power b t)) (nest_over b ts) ≤ max (nest b) (suc (max (nest t) (nest_of ts)))
    by true h rest = omega (arith, to_number b t h)
    by false h rest = omega (arith, to_other b t h)

numbers_over : (b : Tree) (ts : Trees) → are_numbers ts ≡ true → nest_over b ts ≡ nest b
numbers_over b none h = refl
numbers_over b (more t ts) h = let k = and_parts _ _ h in omega (arith, to_number b t k.0, numbers_over b ts k.1, over_base b ts)

terms_numbers : (ts : Trees) → AreTerms ts → are_numbers ts ≡ true
terms_numbers none h = refl
terms_numbers (more t ts) h = rw (number_test t (number_of_term t h.0), terms_numbers ts h.1) refl

over_sum : (b : Tree) (ts : Trees) → nest_over b ts ≤ nest (power b (add ts))
over_sum b ts = elim (cases_Bool (is_number (add ts))) [
  | inl h ↦ omega (arith, to_number b (add ts) h, numbers_over b ts (terms_numbers ts (number_words (add ts) h).1))
  | inr h ↦ omega (arith, to_other b (add ts) h, each_over b ts)
]

-- a tree whose exponent is a sum nests no less with that sum
pub joint_below : (t : Tree) → nest_of_joint t ≤ nest t
joint_below t = grind (arith, over_sum)

-- ---- sums of Numbers that are reduced

number_terms_all : (ts : Trees) → are_numbers ts ≡ true → NoneIs is_add ts → NoneIs is_number (other_terms ts) → (number_terms ts ≡ ts) × AreTerms ts
number_terms_all none n a o = (refl, tt)
number_terms_all (more t ts) n a o = let k = and_parts _ _ n in by k.0 (is_term t) refl (λ p. number_terms_all ts k.1 a.1 p)
  where
    by : is_number t ≡ true → (x : Bool) → is_term t ≡ x → (NoneIs is_number (other_terms ts) → (number_terms ts ≡ ts) × AreTerms ts) → (number_terms (more t ts) ≡ more t ts) × AreTerms (more t ts)
    by p true h next =
        let rest = next (subst (λ (x : Bool). NoneIs is_number (if x then other_terms ts else more t ts)) h o) in
        (ap (λ (x : Bool). if x then more t (number_terms ts) else none) h ∙ ap (more t) rest.0, (term_words t h, rest.1))
    by p false h next = contrary p (subst (λ (x : Bool). NoneIs is_number (if x then other_terms ts else more t ts)) h o).0

-- a reduced sum of Numbers is a Number
form_number : (ts : Trees) → IsSumForm ts → are_numbers ts ≡ true → is_number (add ts) ≡ true
form_number ts h k = grind (arith, number_terms_all, number_test, two_terms)

sum_numbers : (ts : Trees) → is_reduced (add ts) ≡ true → are_numbers ts ≡ true → is_number (add ts) ≡ true
sum_numbers ts r n = elim (reduced_parts (add ts) r refl).0 [ inl h ↦ number_test (add ts) h | inr f ↦ form_number ts f n ]

-- and where it is reduced it nests no more
pub reduced_joint : (t : Tree) → is_reduced t ≡ true → nest t ≤ nest_of_joint t
reduced_joint t h = grind (arith, to_number, over_base, sum_numbers, to_other, over_exponents, exponent_reduced)
