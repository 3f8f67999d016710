-- Rationals among Numbers: their common denominators, and the operations that fit.
use Rattle.number_forms.proofs.Shared.{◌≡◌, ◌≢◌, ℕ, ◌+◌, ◌*◌, ◌/◌, ◌^◌, ◌≤◌, ◌<◌, [], ◌++◌, true, false, not, Result, ℤ, pos, ◌≤ℤ◌, if◌then◌else◌, refl, sym, ap, ◌∙◌, subst, arith, IfOk, IfErr}
use Rattle.number_forms.proofs.Shared.{nat_abs, mul-le, dvd-mul_left, value, Surd, surd_of, term, surd_times, HasFewBits, IsNoLargerThanPower, SharesPowers, Parts, SharesDenominators}
use Rattle.number_forms.proofs.Shared.{magnitude_over, root_above, mass, IsHeld, multiple_fits, sum_fits_over, power_den, magnitude_power, magnitudes_cross, power_bound, low_power, parts_power}
use Rattle.number_forms.proofs.Shared.{mass-append, no_larger_power, parts_left, parts_right, cancel_le, plus_den, root_enough, calculated, Operation, result_of, add_op, mul_op, pow_op}
use Rattle.number_forms.proofs.Shared.{operation_fits, fraction_fits, sum_fits, fraction_power, zero_times, times_comm, Fraction, plus, times, zero_fraction, is_zero_fraction, whole_fraction}
use Rattle.number_forms.proofs.Shared.{int_is_zero, Tree, num, is_num, zero_is, no_zero, whole_numerator, whole_denominator, IsPowerOver, AnswersRationals, State, held_bound, power_fits}
use Rattle.number_forms.proofs.Shared.{denominator_bound, coefficients_fit, OfOverflow, Forest, tree_of, Gives, forest, NumberFault, given_told, by_test, ◌∣◌, square_le, both, operation, Joint}
use Rattle.number_forms.specs.declared.calculating.Joint.TheVariants as joint

-- ---- common denominators

times_one : (d : ℕ) → d * 1 ≡ d
times_one d = omega arith

zero_den : (d : ℕ) → zero_fraction.den ∣ d
unfolding zero_fraction
zero_den d = subst (λ n. n ∣ d) (sym (whole_denominator (pos 0))) (subst (λ k. 1 ∣ k) (times_one d) (dvd-mul_left 1 d))

-- of a rational as a Number, and as a fraction
pub den_of : (q : Fraction) (d : ℕ) → Parts d (value (num q)) → q.den ∣ d
den_of q d p = by_test (λ b. Parts d (if b then [] else surd_of q) → q.den ∣ d) (is_zero_fraction q) (λ z r. subst (λ x. x.den ∣ d) (sym (zero_is q z)) (zero_den d)) (λ z r. r.whole.0) p

pub parts_of_rational : (q : Fraction) (d : ℕ) → 0 < d → q.den ∣ d → Parts d (value (num q))
parts_of_rational q d p h = by_test (λ b. Parts d (if b then [] else surd_of q)) (is_zero_fraction q) (λ z. record { positive = p; whole = tt }) (λ z. record { positive = p; whole = (h, tt) })

at_num : (a : Tree) (p : Fraction) (d : ℕ) → a ≡ num p → Parts d (value a) → p.den ∣ d
at_num a p d e h = den_of p d (subst (λ (t : Tree). Parts d (value t)) e h)

pub sum_parts : (p q : Fraction) (a b : Tree) → a ≡ num p → b ≡ num q → SharesDenominators (value a ++ value b) (value (num (plus p q)))
sum_parts p q a b e f = grind (arith, parts_of_rational, plus_den, at_num, parts_left, parts_right)

times_den : (p q : Fraction) (d : ℕ) → Parts d (surd_times (value (num p)) (value (num q))) → (times p q).den ∣ d
times_den p q d h =
    by_test (λ b. Parts d (surd_times (if b then [] else surd_of p) (value (num q))) → (times p q).den ∣ d) (is_zero_fraction p)
    (λ z k. subst (λ x. x.den ∣ d) (sym (ap (λ x. times x q) (zero_is p z) ∙ zero_times q)) (zero_den d))
    (λ y. by_test (λ b. Parts d (surd_times (surd_of p) (if b then [] else surd_of q)) → (times p q).den ∣ d) (is_zero_fraction q)
    (λ z k. subst (λ x. x.den ∣ d) (sym (ap (times p) (zero_is q z) ∙ times_comm p zero_fraction ∙ zero_times p)) (zero_den d)) (λ z k. k.whole.0)) h

pub product_parts : (p q : Fraction) (a b : Tree) → a ≡ num p → b ≡ num q → SharesDenominators (surd_times (value a) (value b)) (value (num (times p q)))
product_parts p q a b e f = grind (arith, parts_of_rational, times_den)

pub power_parts : (p : Fraction) (n : ℕ) (a : Tree) → a ≡ num p → SharesPowers (value a) n (value (num (fraction_power p n)))
power_parts p n a e = λ d h. parts_of_rational (fraction_power p n) (d ^ n) (parts_power d (value a) n h).positive (power_den p d n (at_num a p d e h))

-- ---- what fits

abs_zero : (z : ℤ) → int_is_zero z ≡ true → nat_abs z ≡ 0
abs_zero z h = grind arith

zero_magnitude : (q : Fraction) (d : ℕ) → is_zero_fraction q ≡ true → magnitude_over d q ≡ 0
zero_magnitude q d z = ap (λ n. n * (d / q.den)) (abs_zero q.num z) ∙ omega arith

zero_fits : fraction_fits zero_fraction ≡ true
unfolding zero_fraction
zero_fits = grind (arith, zero_magnitude, whole_numerator, multiple_fits, zero_den)

within_root : (m : ℕ) → m ≤ root_above (m * m * 1)
within_root m = let a : m * m * 1 ≤ root_above (m * m * 1) * root_above (m * m * 1) = root_enough (m * m * 1) in square_le m (root_above (m * m * 1)) (omega arith)

rational_mass : (q : Fraction) (e : ℕ) → magnitude_over e q ≤ mass e (value (num q))
rational_mass q e = grind (arith, by_test, zero_magnitude, within_root)

-- over one common denominator as over another
moved_bound : (m n d e p : ℕ) → 0 < e → m * e ≡ d * n → n ≤ e * p → m ≤ d * p
moved_bound m n d e p h f g = cancel_le m (d * p) e h (let x : d * n ≤ d * (e * p) = mul-le d n d (e * p) (omega arith) g in omega arith)

pub rational_sum_fits : (p q : Fraction) → HasFewBits (value (num p) ++ value (num q)) → sum_fits p q ≡ true
rational_sum_fits p q b =
    sum_fits_over p q k.denominator k.parts.positive pd qd
    (power_fits k.denominator (b.high + b.low) (denominator_bound k.denominator b.high b.low k.low) (few b.high b.low b.few))
    (power_fits (magnitude_over k.denominator p + magnitude_over k.denominator q) (b.high + b.low) (trans _ _ _ over (held_bound k.denominator b.high b.low k.low)) (few b.high b.low b.few))
  where
    k : IsHeld (value (num p) ++ value (num q)) b.high b.low
    k = b.held

    few : (h l : ℕ) → 2 * h + 4 * l ≤ 124 → h + l ≤ 126
    few h l f = omega arith

    trans : (a b c : ℕ) → a ≤ b → b ≤ c → a ≤ c
    trans a b c h k = omega arith

    pd : p.den ∣ k.denominator
    pd = den_of p k.denominator (parts_left k.denominator (value (num p)) (value (num q)) k.parts)

    qd : q.den ∣ k.denominator
    qd = den_of q k.denominator (parts_right k.denominator (value (num p)) (value (num q)) k.parts)

    both : (m n s t d e : ℕ) → m * e ≡ d * s → n * e ≡ d * t → (m + n) * e ≡ d * (s + t)
    both m n s t d e f g = omega (arith, f, g)

    total : magnitude_over k.scale p + magnitude_over k.scale q ≤ k.scale * 2 ^ b.high
    total =
        let x : mass k.scale (value (num p) ++ value (num q)) ≡ mass k.scale (value (num p)) + mass k.scale (value (num q)) = mass-append k.scale k.scale (value (num p)) (value (num q)) in
        let y : mass k.scale (value (num p) ++ value (num q)) ≤ k.scale * 2 ^ b.high = k.high in
        omega (arith, rational_mass p k.scale, rational_mass q k.scale)

    over : magnitude_over k.denominator p + magnitude_over k.denominator q ≤ k.denominator * 2 ^ b.high
    over =
        moved_bound (magnitude_over k.denominator p + magnitude_over k.denominator q) (magnitude_over k.scale p + magnitude_over k.scale q) k.denominator k.scale (2 ^ b.high) k.scaled.positive
        (both (magnitude_over k.denominator p) (magnitude_over k.denominator q) (magnitude_over k.scale p) (magnitude_over k.scale q) k.denominator k.scale
        (magnitudes_cross k.denominator k.scale p pd (den_of p k.scale (parts_left k.scale (value (num p)) (value (num q)) k.scaled)))
        (magnitudes_cross k.denominator k.scale q qd (den_of q k.scale (parts_right k.scale (value (num p)) (value (num q)) k.scaled))))
        total

pub rational_product_fits : (p q : Fraction) → HasFewBits (surd_times (value (num p)) (value (num q))) → fraction_fits (times p q) ≡ true
rational_product_fits p q b =
    by_test (λ t. HasFewBits (surd_times (if t then [] else surd_of p) (value (num q))) → fraction_fits (times p q) ≡ true) (is_zero_fraction p)
    (λ z k. ap fraction_fits (ap (λ x. times x q) (zero_is p z) ∙ zero_times q) ∙ zero_fits)
    (λ y. by_test (λ t. HasFewBits (surd_times (surd_of p) (if t then [] else surd_of q)) → fraction_fits (times p q) ≡ true) (is_zero_fraction q)
    (λ z k. ap fraction_fits (ap (times p) (zero_is q z) ∙ times_comm p zero_fraction ∙ zero_times p) ∙ zero_fits)
    (λ z k. coefficients_fit (term p 1) (term q 1) k.high k.low (other p y) (other q z) (omega arith) (omega arith) k.held k.few)) b
  where
    other : (x : Fraction) → is_zero_fraction x ≡ false → x ≢ zero_fraction
    other x z = no_zero x (ap not z)

pub rational_power_fits : (q : Fraction) (n h l : ℕ) → IsHeld (value (num q)) h l → n * (2 * h + 4 * l) ≤ 124 → fraction_fits (fraction_power q n) ≡ true
rational_power_fits q n h l k few =
    multiple_fits (k.denominator ^ n) (fraction_power q n) (parts_power k.denominator (value (num q)) n k.parts).positive (power_den q k.denominator n qd)
    (power_fits (k.denominator ^ n) (n * h + n * l) (denominator_bound (k.denominator ^ n) (n * h) (n * l) low) (together n h l few))
    (subst (λ m. m < 2 ^ 127) (sym (magnitude_power q k.denominator n qd))
    (power_fits (magnitude_over k.denominator q ^ n) (n * h + n * l)
    (trans _ _ _ (power_bound (magnitude_over k.denominator q) k.denominator h n over) (held_bound (k.denominator ^ n) (n * h) (n * l) low)) (together n h l few)))
  where
    together : (n h l : ℕ) → n * (2 * h + 4 * l) ≤ 124 → n * h + n * l ≤ 126
    together n h l f = omega arith

    trans : (a b c : ℕ) → a ≤ b → b ≤ c → a ≤ c
    trans a b c h k = omega arith

    qd : q.den ∣ k.denominator
    qd = den_of q k.denominator k.parts

    low : k.denominator ^ n ≤ 2 ^ (n * l)
    low = low_power k.denominator l n k.low

    over : magnitude_over k.denominator q ≤ k.denominator * 2 ^ h
    over =
        moved_bound (magnitude_over k.denominator q) (magnitude_over k.scale q) k.denominator k.scale (2 ^ h) k.scaled.positive
        (magnitudes_cross k.denominator k.scale q qd (den_of q k.scale k.scaled))
        (trans _ _ _ (rational_mass q k.scale) k.high)

-- ---- refusals

pub as_num : (t : Tree) → is_num t ≡ true → (q : Fraction) × (t ≡ num q)
as_num (num q) h = (q, refl)
as_num _ h = cc

-- an operation that fits is not refused for it
not_refused : (op : Operation) (p q : Fraction) (s : State) (r : Result ℕ NumberFault) → operation_fits op p q ≡ true → AnswersRationals (calculated op p q) s r → IfErr r (OfOverflow (λ o. ⊥))
not_refused op p q s r f a = grind arith

pub joint_parts : (j : Joint) (p q : Fraction) (a b : Tree) → a ≡ num p → b ≡ num q → SharesDenominators (both j (value a) (value b)) (value (num (result_of (operation j) p q)))
joint_parts joint.Sum p q a b e f = sum_parts p q a b e f
joint_parts joint.Product p q a b e f = product_parts p q a b e f

pub sum_not_refused : (a b : Tree) (s : State) (r : Result ℕ NumberFault) → is_num a ≡ true → is_num b ≡ true
    → ((p q : Fraction) → a ≡ num p → b ≡ num q → AnswersRationals (calculated add_op p q) s r) → HasFewBits (value a ++ value b) → IfErr r (OfOverflow (λ o. ⊥))
sum_not_refused a b s r m n f k =
    let p = as_num a m in
    let q = as_num b n in
    not_refused add_op p.0 q.0 s r (rational_sum_fits p.0 q.0 (subst (λ (t : Tree). HasFewBits (value (num p.0) ++ value t)) q.1 (subst (λ (t : Tree). HasFewBits (value t ++ value b)) p.1 k)))
    (f p.0 q.0 p.1 q.1)

pub product_not_refused : (a b : Tree) (s : State) (r : Result ℕ NumberFault) → is_num a ≡ true → is_num b ≡ true
    → ((p q : Fraction) → a ≡ num p → b ≡ num q → AnswersRationals (calculated mul_op p q) s r) → HasFewBits (surd_times (value a) (value b)) → IfErr r (OfOverflow (λ o. ⊥))
product_not_refused a b s r m n f k =
    let p = as_num a m in
    let q = as_num b n in
    not_refused mul_op p.0 q.0 s r (rational_product_fits p.0 q.0 (subst (λ (t : Tree). HasFewBits (surd_times (value (num p.0)) (value t))) q.1 (subst (λ (t : Tree). HasFewBits (surd_times (value t) (value b))) p.1 k))) (f p.0 q.0 p.1 q.1)

pub power_not_refused : (a : Tree) (z : ℤ) (s : State) (r : Result ℕ NumberFault) → is_num a ≡ true
    → ((q : Fraction) → a ≡ num q → AnswersRationals (calculated pow_op q (whole_fraction z)) s r)
    → (h l : ℕ) → IsHeld (value a) h l → nat_abs z * (2 * h + 4 * l) ≤ 124 → IfErr r (OfOverflow (λ o. ⊥))
power_not_refused a z s r m f h l k few =
    let q = as_num a m in
    let fits : fraction_fits (fraction_power q.0 (nat_abs (whole_fraction z).num)) ≡ true =
    ap (λ (y : ℤ). fraction_fits (fraction_power q.0 (nat_abs y))) (whole_numerator z) ∙ rational_power_fits q.0 (nat_abs z) h l (subst (λ (t : Tree). IsHeld (value t) h l) q.1 k) few in
    not_refused pow_op q.0 (whole_fraction z) s r fits (f q.0 q.1)

-- ---- powers that are answered

pub at_least_one : (z : ℤ) → pos 1 ≤ℤ z → 1 ≤ nat_abs z
at_least_one z h = grind arith

pub power_no_larger : {v : Surd} {n : ℕ} {t : Tree} → 1 ≤ n → IsPowerOver v n t → IsNoLargerThanPower v n (value t)
power_no_larger {v = v} {n = n} {t = t} l p = no_larger_power t v n l p.number p.worth p.parts

pub if_power_no_larger : {E : Type 0} (r : Result ℕ E) (f : Forest) (s : State) (v : Surd) (n : ℕ) → 1 ≤ n → IfOk r (λ h. Gives f (forest s) h (IsPowerOver v n))
    → IfOk r (λ h. IsNoLargerThanPower v n (value (tree_of h s)))
if_power_no_larger r f s v n l e = grind (arith, power_no_larger, given_told)
