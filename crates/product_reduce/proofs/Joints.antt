-- The joint of two factors: its exponents, its nest and its load.
use Rattle.product_reduce.proofs.Shared.{ℕ, zero, suc, ◌+◌, ◌≤◌, ◌<◌, max, ◌≡◌, Bool, true, false, ◌&&◌, not, if◌then◌else◌, refl, ap, arith, true≢false, ⊤, Fraction, one_fraction, nest, nest_of}
use Rattle.product_reduce.proofs.Shared.{weight, weight_of_factors, load_of_factor, load_of_factors, is_number, IsNumber, is_whole_num, is_reduced, HasForm, IsSumForm, base_of, Tree, num, add, mult}
use Rattle.product_reduce.proofs.Shared.{power, root, Trees, none, more, count, is_mult, number_words, number_test, reduced_parts, removed, nth, exponent_of, joint, AllParts, some_weight}
use Rattle.product_reduce.proofs.Shared.{power_no_number, own_form}

-- ---- the exponents of a joint

-- a whole number, or no Number
pub data IsExponent (e : Tree) : Type 0 where
  is_rational : (q : Fraction) → e ≡ num q → IsExponent e
  is_other : is_number e ≡ false → IsExponent e

whole_words : (e : Tree) → is_whole_num e ≡ true → IsExponent e
whole_words (num q) h = is_rational q refl
whole_words _ h = cc

pub exponent_words : (t : Tree) → IsExponent (exponent_of t)
exponent_words (power b e) = by (is_number e) (is_whole_num e) refl refl
  where
    by : (k w : Bool) → is_number e ≡ k → is_whole_num e ≡ w → IsExponent (if k && not w then num one_fraction else e)
    by true true n h = whole_words e h
    by true false n h = is_rational one_fraction refl
    by false w n h = is_other n
exponent_words t = is_rational one_fraction refl

-- one that is no Number is nested less than its power
pub exponent_nest : (t : Tree) → is_number (exponent_of t) ≡ false → suc (nest (exponent_of t)) ≤ nest t
unfolding is_number
exponent_nest (power b e) h = grind (arith, true≢false)
exponent_nest t h = absurd (true≢false h)

under_power : (k : Bool) (b e : ℕ) → b ≤ (if k then b else max b (suc e))
under_power k b e = grind arith

pub base_nest : (t : Tree) → nest (base_of t) ≤ nest t
base_nest (power b e) = grind (arith, under_power)
base_nest t = omega arith

-- ---- a sum of two exponents is no Number

no_number : (e : Tree) → is_number e ≡ false → IsNumber e → ⊥
no_number e n h = absurd (let k = number_test e h in cc)

no_number_words : (e f : Tree) → IsExponent e → IsExponent f → IsNumber (add (more e (more f none))) → ⊥
no_number_words e f x y h = grind (arith, no_number)

pub sum_is_no_number : (e f : Tree) → IsExponent e → IsExponent f → is_number (add (more e (more f none))) ≡ false
sum_is_no_number e f x y = grind (arith, no_number_words e f x y, number_words (add (more e (more f none))))

-- and one of two rationals is not reduced
no_sum_form : (p q : Fraction) → IsSumForm (more (num p) (more (num q) none)) → ⊥
unfolding is_number
no_sum_form p q s = grind arith

no_sum : (p q : Fraction) → HasForm (add (more (num p) (more (num q) none))) → ⊥
no_sum p q h = grind (arith, no_number_words, no_sum_form)

pub joint_of_numbers_is_not_reduced : (b : Tree) (p q : Fraction) → is_reduced (power b (add (more (num p) (more (num q) none)))) ≡ true → ⊥
joint_of_numbers_is_not_reduced b p q h = no_sum p q (reduced_parts (power b (add (more (num p) (more (num q) none)))) h refl).2.0

-- ---- nests of factors and of a joint among them

-- nested at most so, or a joint whose exponents are rationals over such a base
pub data IsSmall (n : ℕ) (u : Tree) : Type 0 where
  is_within : nest u ≤ n → IsSmall n u
  is_over : (b : Tree) (p q : Fraction) → u ≡ power b (add (more (num p) (more (num q) none))) → nest b ≤ n → IsSmall n u

abbrev pub AllSmall : ℕ → Trees → Type 0
AllSmall n none = ⊤
AllSmall n (more t ts) = IsSmall n t × AllSmall n ts

pub all_within : (n : ℕ) (ts : Trees) → nest_of ts ≤ n → AllSmall n ts
all_within n none h = tt
all_within n (more t ts) h = (is_within (omega arith), all_within n ts (omega arith))

pub joint_small : (n : ℕ) (t u : Tree) → nest t ≤ n → nest u ≤ n → IsSmall n (joint t u)
joint_small n t u h k = by (exponent_words t) (exponent_words u)
  where
    other : (j : Bool) → nest (exponent_of t) < n → nest (exponent_of u) < n
        → (if j then nest (base_of t) else max (nest (base_of t)) (suc (max (nest (exponent_of t)) (max (nest (exponent_of u)) 0)))) ≤ n
    other true l m = omega (arith, base_nest t, h)
    other false l m = omega (arith, base_nest t, h, l, m)

    by : IsExponent (exponent_of t) → IsExponent (exponent_of u) → IsSmall n (joint t u)
    by (is_rational p a) (is_rational q b) = is_over (base_of t) p q (λ i. power (base_of t) (add (more (a i) (more (b i) none)))) (omega (arith, base_nest t, h))
    by (is_other l) (is_other m) = is_within (other (is_number (add (more (exponent_of t) (more (exponent_of u) none)))) (omega (arith, exponent_nest t l, h)) (omega (arith, exponent_nest u m, k)))
    by (is_other l) (is_rational q b) =
        is_within (other (is_number (add (more (exponent_of t) (more (exponent_of u) none)))) (omega (arith, exponent_nest t l, h)) (let z : nest (exponent_of u) ≡ 0 =
        ap nest b in omega (arith, z, exponent_nest t l, h)))
    by (is_rational p a) (is_other m) =
        is_within (other (is_number (add (more (exponent_of t) (more (exponent_of u) none)))) (let z : nest (exponent_of t) ≡ 0 =
        ap nest a in omega (arith, z, exponent_nest u m, k)) (omega (arith, exponent_nest u m, k)))

pub small_at : (n at : ℕ) (ts : Trees) → at < count ts → AllSmall n ts → IsSmall n (nth at ts)
small_at n at none l h = absurd (omega arith)
small_at n zero (more t ts) l h = h.0
small_at n (suc at) (more t ts) l h = small_at n at ts (omega arith) h.1

pub small_removed : (n at : ℕ) (ts : Trees) → AllSmall n ts → AllSmall n (removed at ts)
small_removed n at none h = tt
small_removed n zero (more t ts) h = h.1
small_removed n (suc at) (more t ts) h = (h.0, small_removed n at ts h.1)

-- ---- loads

pub flat_load : (t : Tree) → is_mult t ≡ false → is_number t ≡ false → load_of_factor t ≡ weight (base_of t)
flat_load t m h = grind arith

pub joint_load : (t u : Tree) → load_of_factor (joint t u) ≡ weight (base_of t)
joint_load t u =
    let x = add (more (exponent_of t) (more (exponent_of u) none)) in
    grind (arith, flat_load (joint t u) refl (power_no_number (base_of t) x), sum_is_no_number (exponent_of t) (exponent_of u) (exponent_words t) (exponent_words u))

pub load_split : (at : ℕ) (ts : Trees) → at < count ts → load_of_factors ts ≡ load_of_factor (nth at ts) + load_of_factors (removed at ts)
load_split at none l = absurd (omega arith)
load_split zero (more t ts) l = refl
load_split (suc at) (more t ts) l = omega (arith, load_split at ts (omega arith))

-- ---- weights

formed_weight : (t : Tree) → HasForm t → 2 ≤ weight t
formed_weight (root a) h = grind (arith, some_weight)
formed_weight (power b e) h = omega (arith, some_weight b)
formed_weight (mult none) h = grind arith
formed_weight (mult (more t ts)) h = by (is_number (mult (more t ts))) (is_number t) (some_weight t)
  where
    by : (k l : Bool) → 1 ≤ weight t → 2 ≤ (if k then 2 else 1 + (if l then 2 else 0) + ((if l then 0 else weight t) + weight_of_factors ts))
    by k l m = grind arith
formed_weight t h = omega arith

base_formed : (t : Tree) → AllParts HasForm t → AllParts HasForm (base_of t)
base_formed (power b e) h = grind arith
base_formed t h = h

pub base_weight : (t : Tree) → AllParts HasForm t → 2 ≤ weight (base_of t)
base_weight t h = formed_weight (base_of t) (own_form (base_of t) (base_formed t h))
