-- Whole powers are held by the bits of their bases, times the exponent.
use Rattle.power_reduce.proofs.Shared.{◌≡◌, ℕ, zero, suc, ◌*◌, ◌≤◌, ◌≤ℤ◌, ◌<ℤ◌, inr, ℤ, pos, negsuc, neg_ℤ, List, [], ◌∷◌, length, Bool, true, false, ◌&&◌, ◌||◌, not, None, Some, Result, refl, sym}
use Rattle.power_reduce.proofs.Shared.{ap, ◌∙◌, subst, arith, not-true, or_parts, nat_abs, IfOk, and_parts, is_number, value, classes, IsNumber, is_opaque_exponent, is_whole_num, num_one, Surd}
use Rattle.power_reduce.proofs.Shared.{surd_one, number_test, number_words, IsHeld, mass_from, calculated, exactly, powered, undefined, pow_op, fraction_power, Fraction, inverse, one_fraction}
use Rattle.power_reduce.proofs.Shared.{whole_fraction, is_zero_fraction, is_one_fraction, Tree, num, symbol, undef, add, mult, power, root, neg, sub, div, none, more, is_undef, one_is}
use Rattle.power_reduce.proofs.Shared.{whole_numerator, zero_is, State, IsFactorHeld, IsHeldAsPowerOf, IsNumberPower, base_in, exponent_in, has_no_power, has_number_power, IsWrittenPower}
use Rattle.power_reduce.proofs.Shared.{IsPowerAnswer, IsStep, goes_inside, is_zero_or_one, parts_of, raised, rewritten, rewritten_whole, IsNoLargerThanInverse, IfDone, Step, tree_as_base, alone}
use Rattle.power_reduce.proofs.Shared.{held_wider, nothing_held, number_held, Forest, tree_of, NumberFault, given_told, held_power, IsNoLargerThanPower, IsSumHeld, Counts, counts, counts_of}
use Rattle.power_reduce.proofs.Shared.{is_counted, multiple, as_factor, Addend, addend, addend_of, IsPartHeld, factor_held, more_weighted, none_weighted, AreWeighted, no_factor_held, power_high}
use Rattle.power_reduce.proofs.Shared.{power_low, raised_high, raised_low, IsHeldAsPower, Weighted, weighted, tree_as_sum, addend_raised, held_as_power, held_as_inverse, inverse_raised, one_counts}
use Rattle.power_reduce.proofs.{Shared.{one_weighted, as_number, power_no_number, AreTerms, IsTerm, Rises, term_of, terms_of, Trees, false≢true, are_counted}, Exponents.{as_whole, whole_no_half}}
use Rattle.power_reduce.proofs.{RationalPowers.{calculated_exactly}, Whole.{whole_is}, Written.{number_power, one_exponent}, ByRule.{no_number_power as no_number_base}}
use Rattle.power_reduce.proofs.WithinBits.{rational_raised, rational_inverted, number_is_held}
use Rattle.std.specs.Prelude.{if◌then◌else◌, ◌==◌, Ok, Err}
use Rattle.tree_bits.specs.HeldTrees.{base_in as factor_base, exponent_in as factor_exponent}
use Rattle.reduce_port.specs.declared.step.Step.TheVariants as step

-- ---- Numbers as factors

as_other : (t : Tree) → is_number t ≡ false → as_factor t ≡ addend_of t
as_other t n = ap (λ (b : Bool). if b then addend (value t) none else addend_of t) n

pub number_defined : (t : Tree) → is_number t ≡ true → is_undef t ≡ false
number_defined undef n = absurd (number_words undef n)
number_defined t n = refl

number_as_factor : (t : Tree) (h l : ℕ) → is_number t ≡ true → IsHeld (value t) h l → IsFactorHeld t h l
number_as_factor t h l n k = subst (λ xs. IsSumHeld xs h l) (alone t n ∙ ap (λ (x : Addend). x ∷ []) (sym (as_number t n))) (tree_as_sum (number_defined t n) (number_held t h l n k))

pub no_undef : {A : Type 0} (t : Tree) → t ≡ undef → is_undef t ≡ false → A
no_undef t e u = absurd (cc (ap is_undef e, u))

pub no_number_undef : {A : Type 0} (t : Tree) → t ≡ undef → is_number t ≡ true → A
no_number_undef t e n = no_undef t e (number_defined t n)

pub number_power_held : (n : ℤ) (b t : Tree) → is_number b ≡ true → is_number t ≡ true → IsHeldAsPower n (value b) (value t) → (h l : ℕ) → IsFactorHeld b h l → IsFactorHeld t (raised_high n h l) (raised_low n h l)
number_power_held n b t m k p h l a = number_as_factor t (raised_high n h l) (raised_low n h l) k (p h l (number_is_held b h l m a))

-- ---- the powers 0 and 1

one_held : (h l : ℕ) → IsHeld surd_one h l
one_held h l = held_wider surd_one (0 * 0) h (0 * 0) l (omega arith) (omega arith) (held_power [] 0 0 0 (nothing_held 0 0))

num_one_held : (h l : ℕ) → IsHeld (value num_one) h l
num_one_held h l = grind (arith, nothing_held, one_held)

pub zero_power : (z : ℤ) (b t : Tree) → t ≡ num_one → IsHeldAsPower z (value b) (value t)
zero_power z b t e h l k = subst (λ (x : Tree). IsHeld (value x) (raised_high z h l) (raised_low z h l)) (sym e) (num_one_held (raised_high z h l) (raised_low z h l))

once : (n : ℕ) → n ≡ 1 * n
once n = omega arith

pub one_power : (z : ℤ) (b t : Tree) → z ≡ pos 1 → t ≡ b → IsHeldAsPower z (value b) (value t)
one_power z b t i e h l k = grind arith

-- ---- powers of Numbers, as they are calculated

pub positive_power : (z y : ℤ) (b a t : Tree) → pos 1 ≤ℤ z → y ≡ z → a ≡ b → IsNoLargerThanPower (value a) (nat_abs y) (value t) → IsHeldAsPower z (value b) (value t)
positive_power (negsuc n) y b a t l i e m = absurd (omega (arith, l))
positive_power (pos n) y b a t l i e m =
    subst (λ (x : Tree). IsHeldAsPower (pos n) (value x) (value t)) e (held_as_power (value a) (value t) n (subst (λ (x : ℤ). IsNoLargerThanPower (value a) (nat_abs x) (value t)) i m))

pub negative_power : (z y : ℤ) (b a i t : Tree) → z <ℤ pos 0 → y ≡ neg_ℤ z → a ≡ b → IsNoLargerThanInverse (value a) (value i) → IsNoLargerThanPower (value i) (nat_abs y) (value t) → IsHeldAsPower z (value b) (value t)
negative_power (pos n) y b a i t l j e v m = grind (arith, l)
negative_power (negsuc n) y b a i t l j e v m =
    subst (λ (x : Tree). IsHeldAsPower (negsuc n) (value x) (value t)) e
    (inverse_raised (value a) (value i) (value t) n (held_as_inverse (value a) (value i) v.held) (held_as_power (value i) (value t) (suc n) (subst (λ (x : ℤ). IsNoLargerThanPower (value i) (nat_abs x) (value t)) j m)))

fraction_raised : (q r : Fraction) (n : ℕ) → calculated pow_op q (whole_fraction (pos (suc n))) ≡ exactly r → r ≡ fraction_power q (suc n)
fraction_raised q r n e = calculated_exactly pow_op q (whole_fraction (pos (suc n))) r e ∙ ap (λ y. fraction_power q (nat_abs y)) (whole_numerator (pos (suc n)))

same_value : {q r : Fraction} → exactly q ≡ exactly r → r ≡ q
same_value e = cc

pub rational_power_held : (z : ℤ) (q r : Fraction) (b t : Tree) → b ≡ num q → t ≡ num r → powered q z 1 ≡ exactly r → IsHeldAsPower z (value b) (value t)
rational_power_held z q r b t i j e =
    subst (λ (x : Tree). IsHeldAsPower z (value x) (value t)) (sym i) (subst (λ (x : Tree). IsHeldAsPower z (value (num q)) (value x)) (sym j) (by z e))
  where
    at_zero : (c : Bool) → (if c then undefined else exactly one_fraction) ≡ exactly r → IsHeldAsPower (pos 0) (value (num q)) (value (num r))
    at_zero true e = cc
    at_zero false e = zero_power (pos 0) (num q) (num r) (ap num (same_value e))

    below : (n : ℕ) (c : Bool) → is_zero_fraction q ≡ c → (if c then undefined else calculated pow_op (inverse q) (whole_fraction (pos (suc n)))) ≡ exactly r → IsHeldAsPower (negsuc n) (value (num q)) (value (num r))
    below n true g e = cc
    below n false g e = inverse_raised (value (num q)) (value (num (inverse q))) (value (num r)) n (held_as_inverse (value (num q)) (value (num (inverse q))) (λ h l k. rational_inverted q h l g k))
        (λ h l k. rational_raised (inverse q) r (suc n) h l (omega arith) (fraction_raised (inverse q) r n e) k)

    by : (z : ℤ) → powered q z 1 ≡ exactly r → IsHeldAsPower z (value (num q)) (value (num r))
    by (pos zero) e = at_zero (is_zero_fraction q) e
    by (pos (suc n)) e = λ h l k. rational_raised q r (suc n) h l (omega arith) (fraction_raised q r n e) k
    by (negsuc n) e = below n (is_zero_fraction q) refl e

-- ---- powers that are kept

pub no_number_power : {A : Type 0} (b e t : Tree) → t ≡ power b e → is_number t ≡ true → A
no_number_power b e t i n = absurd (cc (ap is_number i ∙ power_no_number b e, n))

power_factor : (b e : Tree) (h l : ℕ) → IsPartHeld (more (power b e) none) h l → IsFactorHeld (power b e) h l
power_factor b e h l p = subst (λ (x : Addend). IsSumHeld (x ∷ []) h l) (sym (as_other (power b e) (power_no_number b e))) (record {
  terms = weighted surd_one h l ∷ [];
  weighted = more_weighted h l p none_weighted;
  held = one_weighted h l;
})

exponent_counts : (z : ℤ) → counts_of (num (whole_fraction z)) ≡ multiple z (counts 1 0)
exponent_counts z = ap (λ y. multiple y (counts 1 0)) (whole_numerator z)

-- a Number of three classes or more, with an exponent below 0
mass_least : (m e : ℕ) (v : Surd) → m * length v ≤ mass_from m e v
mass_least m e [] = omega arith
mass_least m e (t ∷ v) = let r = mass_least m e v in omega arith

some_high : (v : Surd) (h l : ℕ) → 3 ≤ length v → IsHeld v h l → 1 ≤ h
some_high v h l n k = grind (arith, mass_least)

wide_held : (b : Tree) (n : ℕ) (h l : ℕ) → is_number b ≡ true → 3 ≤ classes b → IsFactorHeld b h l → IsFactorHeld (power b (num (whole_fraction (negsuc n)))) (raised_high (negsuc n) h l) (raised_low (negsuc n) h l)
wide_held b n h l m c a =
    let k = number_is_held b h l m a in
    let e : Tree = num (whole_fraction (negsuc n)) in
    let i : counts_of e ≡ counts (suc n * 0) (suc n * 1) = exponent_counts (negsuc n) in
    power_factor b e (raised_high (negsuc n) h l) (raised_low (negsuc n) h l)
    (factor_held h l 0 0 (whole_is (negsuc n)) (tree_as_base b h l (some_high (value b) h l c k) (number_held b h l m k)) no_factor_held
    (omega (arith, ap (λ (x : Counts). power_high x h l) i)) (omega (arith, ap (λ (x : Counts). power_low x h l) i)))

-- a tree that is no Number, power or product
pub plain_held : (b : Tree) (z : ℤ) (h l : ℕ) → factor_base b ≡ b → factor_exponent b ≡ num_one → addend_of b ≡ addend surd_one (more b none) → is_number b ≡ false → IsFactorHeld b h l
    → IsFactorHeld (power b (num (whole_fraction z))) (raised_high z h l) (raised_low z h l)
plain_held b z h l i j w n a =
    let e : Tree = num (whole_fraction z) in
    let same : counts_of e ≡ multiple z (counts_of (factor_exponent b)) = exponent_counts z ∙ ap (multiple z) (sym (ap counts_of j ∙ one_counts)) in
    subst (λ (x : Addend). IsSumHeld (x ∷ []) (raised_high z h l) (raised_low z h l)) (sym (as_other (power b e) (power_no_number b e)))
    (addend_raised z (addend surd_one (more b none)) (addend surd_one (more (power b e) none)) h l
    (record { coefficient = λ p q k. one_held (raised_high z p q) (raised_low z p q); factors = (record { base = sym i; counted = whole_is z; within = record { up = omega (arith, ap (λ (c : Counts). c.up) same); down = omega (arith, ap (λ (c : Counts). c.down) same) } }, inr refl) })
    (λ k. absurd (no_terms k)) (subst (λ (x : Addend). IsSumHeld (x ∷ []) h l) (as_other b n ∙ w) a))
  where
    no_terms : surd_one ≡ [] → ⊥
    no_terms k = cc

-- ---- an opaque exponent does not count

-- of the terms of a Number a rational alone counts, and there is one at most
counted_term : (t : Tree) → IsTerm t → is_counted t ≡ true → (term_of t).radicand ≡ 1
counted_term (num q) h k = refl
counted_term (mult (more (num q) (more (root (num r)) none))) h k = absurd (false≢true (and_parts (q.den == 1) false k).1)
counted_term (root (num r)) h k = absurd (false≢true k)
counted_term t h k = absurd h

no_counted_sum : (ts : Trees) → 2 ≤ length (terms_of ts) → AreTerms ts → Rises (terms_of ts) → are_counted ts ≡ true → ⊥
no_counted_sum none l h r k = absurd (omega (arith, l))
no_counted_sum (more t none) l h r k = absurd (omega (arith, l))
no_counted_sum (more t (more u ts)) l h r k =
    let (x, y) = and_parts (is_counted t) (are_counted (more u ts)) k in
    let z = (and_parts (is_counted u) (are_counted ts) y).0 in
    omega (arith, counted_term t h.0 x, counted_term u h.1.0 z, r.0.0)

not_counted : (f : Tree) → IsNumber f → is_whole_num f ≡ false → is_counted f ≡ true → ⊥
not_counted (num q) n w c = false≢true (sym w ∙ c)
not_counted (add ts) n w c = no_counted_sum ts n.0 n.1 n.2 c
not_counted (mult (more (num q) (more (root (num r)) none))) n w c = false≢true (and_parts (q.den == 1) false c).1
not_counted (root (num r)) n w c = false≢true c
not_counted t n w c = n

opaque_held : {A : Type 0} (c f : Tree) (h l : ℕ) → is_opaque_exponent f ≡ true → IsFactorHeld (power c f) h l → A
opaque_held c f h l o a =
    let (n, w) = and_parts (is_number f) (not (is_whole_num f)) o in
    let s = subst (λ (x : Addend). IsSumHeld (x ∷ []) h l) (as_other (power c f) (power_no_number c f)) a in
    absurd (not_counted f (number_words f n) (not-true (is_whole_num f) w) (counted_of s.weighted))
  where
    counted_of : {ws : List Weighted} → AreWeighted (addend surd_one (more (power c f) none) ∷ []) ws → is_counted f ≡ true
    counted_of (more_weighted p q (factor_held i j k n x y z u v) none_weighted) = x

-- ---- what is kept

inside : (z : ℤ) → is_zero_or_one (num (whole_fraction z)) ≡ false → goes_inside (num (whole_fraction z)) ≡ true
inside z o = grind (arith, whole_is)

rewritten_is : (b : Tree) (z : ℤ) → rewritten b (num (whole_fraction z)) ≡ None → rewritten_whole b (num (whole_fraction z)) ≡ None
rewritten_is b z r = sym (as_whole b (num (whole_fraction z)) (whole_no_half (num (whole_fraction z)) (whole_is z))) ∙ r

if_inside : (x y : Bool) (t : Tree) → x ≡ true → y ≡ false → (if x && not y then Some t else None) ≡ Some t
if_inside x y t h k = grind arith

none_is_some : {t : Tree} {A : Type 0} → Some t ≡ None → A
none_is_some e = absurd cc

kept_held : (b : Tree) (z : ℤ) (h l : ℕ) → is_number b ≡ false → is_undef b ≡ false → is_zero_or_one (num (whole_fraction z)) ≡ false → rewritten b (num (whole_fraction z)) ≡ None → IsFactorHeld b h l
    → IsFactorHeld (power b (num (whole_fraction z))) (raised_high z h l) (raised_low z h l)
kept_held (power c f) z h l n u o r a = by (is_opaque_exponent f) refl
  where
    by : (x : Bool) → is_opaque_exponent f ≡ x → IsFactorHeld (power (power c f) (num (whole_fraction z))) (raised_high z h l) (raised_low z h l)
    by true x = opaque_held c f h l x a
    by false x =
        let e : Tree = num (whole_fraction z) in
        none_is_some (sym (if_inside (goes_inside e) (is_opaque_exponent f) (power c (mult (more f (more e none)))) (inside z o) x) ∙ rewritten_is (power c f) z r)
kept_held (mult ts) z h l n u o r a = let e : Tree = num (whole_fraction z) in none_is_some (sym (if_inside (goes_inside e) (is_number (mult ts)) (mult (raised (parts_of ts) e)) (inside z o) n) ∙ rewritten_is (mult ts) z r)
kept_held (num q) z h l n u o r a = absurd (cc (number_test (num q) tt, n))
kept_held (symbol x) z h l n u o r a = plain_held (symbol x) z h l refl refl refl n a
kept_held undef z h l n u o r a = absurd cc
kept_held (add ts) z h l n u o r a = plain_held (add ts) z h l refl refl refl n a
kept_held (root b) z h l n u o r a = plain_held (root b) z h l refl refl refl n a
kept_held (neg b) z h l n u o r a = plain_held (neg b) z h l refl refl refl n a
kept_held (sub b c) z h l n u o r a = plain_held (sub b c) z h l refl refl refl n a
kept_held (div b c) z h l n u o r a = plain_held (div b c) z h l refl refl refl n a

-- ---- any answer

trivial_held : (b t : Tree) (z : ℤ) (h l : ℕ) → is_zero_or_one (num (whole_fraction z)) ≡ true → IsWrittenPower b (num (whole_fraction z)) t → IsFactorHeld b h l → IsFactorHeld t (raised_high z h l) (raised_low z h l)
trivial_held b t z h l o w a = by (is_zero_fraction q) refl o
  where
    q : Fraction
    q = whole_fraction z

    by : (x : Bool) → is_zero_fraction q ≡ x → (x || is_one_fraction q) ≡ true → IsFactorHeld t (raised_high z h l) (raised_low z h l)
    by true x o = subst (λ (u : Tree). IsFactorHeld u (raised_high z h l) (raised_low z h l)) (sym (w.zero (ap num (zero_is q x)))) (number_as_factor num_one (raised_high z h l) (raised_low z h l) (number_test num_one tt) (num_one_held (raised_high z h l) (raised_low z h l)))
    by false x o =
        let e = ap num (one_is q o) in
        subst (λ (u : Tree). IsFactorHeld u (raised_high z h l) (raised_low z h l)) (sym (w.one e))
        (subst (λ y. IsFactorHeld b (raised_high y h l) (raised_low y h l)) (sym (one_exponent e)) (subst (λ m. IsFactorHeld b m (1 * l)) (once h) (subst (λ m. IsFactorHeld b h m) (once l) a)))

-- a Number's power that is none
wide_exponent : (b : Tree) (z : ℤ) → is_number b ≡ true → has_number_power b (num (whole_fraction z)) ≡ false → (n : ℕ) × (z ≡ negsuc n) × (3 ≤ classes b)
wide_exponent b z m k = grind (arith, number_power)

whole_answer_held : (b t : Tree) (z : ℤ) → rewritten b (num (whole_fraction z)) ≡ None → IsPowerAnswer b (num (whole_fraction z)) t → (is_number b ≡ true → IsNumberPower z b t) → IsHeldAsPowerOf z b t
whole_answer_held b t z r a p u h l k = by (is_zero_or_one e) (is_number b) (has_number_power b e) refl refl refl
  where
    e : Tree
    e = num (whole_fraction z)

    d : has_no_power b e ≡ false
    d = sym a.undefined ∙ u

    base_defined : is_undef b ≡ false
    base_defined = (or_parts (is_undef b) _ (or_parts (is_undef b || is_undef e) _ d).0).0

    kept : is_zero_or_one e ≡ false → has_number_power b e ≡ false → t ≡ power b e
    kept o m = (a.written d).kept (record { other = o; no_number = m; not_rewritten = r })

    by : (x n m : Bool) → is_zero_or_one e ≡ x → is_number b ≡ n → has_number_power b e ≡ m → IsFactorHeld t (raised_high z h l) (raised_low z h l)
    by true n m o i j = trivial_held b t z h l o (a.written d) k
    by false true true o i j = number_power_held z b t i (a.number j d) (p i (a.number j d)) h l k
    by false true false o i j =
        let (n, y, c) = wide_exponent b z i j in
        subst (λ (x : Tree). IsFactorHeld x (raised_high z h l) (raised_low z h l)) (sym (kept o j))
        (subst (λ x. IsFactorHeld (power b (num (whole_fraction x))) (raised_high x h l) (raised_low x h l)) (sym y) (wide_held b n h l i c k))
    by false false m o i j =
        subst (λ (x : Tree). IsFactorHeld x (raised_high z h l) (raised_low z h l)) (sym (kept o (no_number_base b e i))) (kept_held b z h l i base_defined o r k)

pub answer_held : (b e t : Tree) (z : ℤ) → e ≡ num (whole_fraction z) → rewritten b e ≡ None → IsPowerAnswer b e t → (is_number b ≡ true → IsNumberPower z b t) → IsHeldAsPowerOf z b t
answer_held b e t z i r a p = whole_answer_held b t z (ap (rewritten b) (sym i) ∙ r) (subst (λ (x : Tree). IsPowerAnswer b x t) i a) p

-- ---- steps

step_held : (t : Tree) (others : Forest) (s : State) (x : Step) (z : ℤ) → exponent_in t ≡ num (whole_fraction z) → IsStep t others s x → (is_number (base_in t) ≡ true → IfDone x (λ h. IsNumberPower z (base_in t) (tree_of h s))) → IfDone x (λ h. IsHeldAsPowerOf z (base_in t) (tree_of h s))
step_held t others s (step.Done h) z i (r, g) p = answer_held (base_in t) (exponent_in t) (tree_of h s) z i r (given_told g) p
step_held t others s (step.Again h) z i k p = tt

pub if_step_held : (t : Tree) (others : Forest) (s : State) (r : Result Step NumberFault) (z : ℤ) → exponent_in t ≡ num (whole_fraction z) → IfOk r (IsStep t others s)
    → (is_number (base_in t) ≡ true → IfOk r (λ x. IfDone x (λ h. IsNumberPower z (base_in t) (tree_of h s)))) → IfOk r (λ x. IfDone x (λ h. IsHeldAsPowerOf z (base_in t) (tree_of h s)))
if_step_held t others s (Ok x) z i k p = step_held t others s x z i k p
if_step_held t others s (Err f) z i k p = tt
