-- Terms that are added to themselves, and what that does to their products.
use Rattle.number_forms.proofs.Shared.{◌≡◌, ◌≢◌, ℕ, ◌+◌, ◌*◌, ◌/◌, ◌^◌, ◌≤◌, ◌<◌, ◌*ℤ◌, max, [], ◌∷◌, ◌++◌, map, true, pos, refl, sym, ap, ◌∙◌, subst, arith, nat_abs, IsGcd, unsigned_abs-mul}
use Rattle.number_forms.proofs.Shared.{dvd-mul_right, Term, Surd, term_times, IsProper, Agree, class_coefficient-append, class_coefficient-map, AreWholeOver, magnitude_over, root_above}
use Rattle.number_forms.proofs.Shared.{term_mass, mass_from, sum_fits_over, abs_cross, cancel_right, coprime, multiple_den, over_den, plus_over, root_scale, sum_fits, times_comm, times_plus}
use Rattle.number_forms.proofs.Shared.{one_times, Fraction, lowest, plus, times, one_fraction, zero_fraction, whole_fraction, times_lowest, den_pos, mul_pos, gauss, whole_numerator, twice}
use Rattle.number_forms.proofs.Shared.{DoesNotFit, ratio_parts, magnitude_whole, magnitude_positive, IsExtracted, term_of, ◌∣◌, le_of_dvd, dvd_refl, IsCoprime, IsCoprime-from_gcd}
use Rattle.number_forms.proofs.Shared.{IsGcd-from_coprime, IsCoprime-swap, IsCoprime-mul}
use Rattle.surd_terms.specs.declared.term.Term.{Term as CodeTerm}
use Rattle.rational128.specs.declared.overflow.Op.TheVariants as Op

-- ---- fractions

one_and_one : plus one_fraction one_fraction ≡ whole_fraction (pos 2)
unfolding one_fraction
one_and_one = plus_over (pos 1) (pos 1) 1 (omega arith)

pub doubled : (q : Fraction) → plus q q ≡ times q (whole_fraction (pos 2))
doubled q =
    let one : q ≡ times q one_fraction = sym (one_times q) ∙ times_comm one_fraction q in (λ i. plus (one i) (one i)) ∙ sym (times_plus q one_fraction one_fraction) ∙ ap (times q) one_and_one

pub times_doubled : (c e : Fraction) → times (plus c c) e ≡ plus (times c e) (times c e)
times_doubled c e = times_comm (plus c c) e ∙ times_plus e c c ∙ (λ i. plus (times_comm e c i) (times_comm e c i))

doubled_den : (q : Fraction) (d : ℕ) → q.den ∣ d → (plus q q).den ∣ d
doubled_den q d h = subst (λ (x : Fraction). x.den ∣ d) (sym (doubled q)) (multiple_den q (pos 2) d h)

doubled_magnitude : (q : Fraction) (d : ℕ) → q.den ∣ d → magnitude_over d (plus q q) ≡ magnitude_over d q * 2
doubled_magnitude q d h = ap (magnitude_over d) (doubled q) ∙ magnitude_whole q d 2 h

of_zero : (d : ℕ) → magnitude_over d zero_fraction ≡ 0
unfolding zero_fraction
of_zero d = ap (λ z. nat_abs z * (d / zero_fraction.den)) (whole_numerator (pos 0)) ∙ omega arith

pub doubled_not_zero : (q : Fraction) → q ≢ zero_fraction → plus q q ≢ zero_fraction
doubled_not_zero q h e =
    let some : 0 < magnitude_over q.den q = magnitude_positive q q.den h (den_pos q) (dvd_refl q.den) in
    let none : magnitude_over q.den (plus q q) ≡ 0 = ap (magnitude_over q.den) e ∙ of_zero q.den in
    absurd (omega (arith, some, none, doubled_magnitude q q.den (dvd_refl q.den)))

pub sum_not_zero : {a b c q : Fraction} → q ≡ plus a b → a ≡ c → b ≡ c → c ≢ zero_fraction → q ≢ zero_fraction
sum_not_zero {a} {b} {c} {q} e f g h z = doubled_not_zero c h ((λ i. plus (sym f i) (sym g i)) ∙ sym e ∙ z)

pub twice_proper : (t : Term) → IsProper t → IsProper (twice t)
twice_proper t p = record { not_zero = doubled_not_zero t.coefficient p.not_zero; positive = p.positive }

-- ---- their products

pub whole_twice : (d : ℕ) (x : Term) (w : Surd) → AreWholeOver d (map (term_times x) w) → AreWholeOver d (map (term_times (twice x)) w)
whole_twice d x [] h = tt
whole_twice d x (y ∷ w) (h, hs) = (subst (λ (q : Fraction). q.den ∣ d) (sym (times_doubled x.coefficient y.coefficient)) (doubled_den (times x.coefficient y.coefficient) d h), whole_twice d x w hs)

-- twice the products of x count as much as the products of twice x
pub twice_agrees : (x : Term) (w : Surd) → Agree (map (term_times (twice x)) w) (map (term_times x) w ++ map (term_times x) w)
twice_agrees x w = grind (arith, class_coefficient-map, times_doubled, class_coefficient-append)

twice_square : (n r : ℕ) → (n * 2) * (n * 2) * r ≡ 2 * 2 * (n * n * r)
twice_square n r = omega arith

twice_max : (m u a : ℕ) → a ≤ 2 * u → max m a ≤ 2 * max m u
twice_max m u a h = omega arith

term_twice_mass : (m e : ℕ) (x y : Term) → (term_times x y).coefficient.den ∣ e → term_mass m e (term_times (twice x) y) ≤ 2 * term_mass m e (term_times x y)
term_twice_mass m e x y h =
    let q : Fraction = times x.coefficient y.coefficient in
    let n : ℕ = magnitude_over e q in
    let r : ℕ = x.radicand * y.radicand in
    let k : magnitude_over e (times (plus x.coefficient x.coefficient) y.coefficient) ≡ n * 2 = ap (magnitude_over e) (times_doubled x.coefficient y.coefficient) ∙ doubled_magnitude q e h in
    let same : magnitude_over e (times (plus x.coefficient x.coefficient) y.coefficient) * magnitude_over e (times (plus x.coefficient x.coefficient) y.coefficient) * r ≡ 2 * 2 * (n * n * r) =
    ap (λ a. a * a * r) k ∙ twice_square n r in
    twice_max m (root_above (n * n * r)) _ (subst (λ a. root_above a ≤ 2 * root_above (n * n * r)) (sym same) (root_scale 2 (n * n * r)))

pub twice_mass : (m e : ℕ) (x : Term) (w : Surd) → AreWholeOver e (map (term_times x) w) → mass_from m e (map (term_times (twice x)) w) ≤ 2 * mass_from m e (map (term_times x) w)
twice_mass m e x [] h = omega arith
twice_mass m e x (y ∷ w) (h, hs) =
    let a : term_mass m e (term_times (twice x) y) ≤ 2 * term_mass m e (term_times x y) = term_twice_mass m e x y h in
    let b : mass_from m e (map (term_times (twice x)) w) ≤ 2 * mass_from m e (map (term_times x) w) = twice_mass m e x w hs in
    omega arith

-- ---- where the square of a term fits, the term can be added to itself

squares_apart : (a d : ℕ) → IsGcd a d 1 → IsGcd (d * d) (a * a) 1
squares_apart a d h =
    let k : IsCoprime a (d * d) = IsCoprime-mul a d d (IsCoprime-from_gcd a d h) (IsCoprime-from_gcd a d h) in
    let l : IsCoprime (d * d) a = IsCoprime-swap a (d * d) k in
    IsGcd-from_coprime (d * d) (a * a) (IsCoprime-mul (d * d) a a l l)

square_is : (c : Fraction) → times c c ≡ lowest (c.num *ℤ c.num) (c.den * c.den)
unfolding times
square_is c = refl

-- the square of the numerator divides that of the square, times a whole number
square_divides : (c : Fraction) (n : ℕ) → nat_abs c.num * nat_abs c.num ∣ nat_abs (times (times c c) (whole_fraction (pos n))).num
square_divides c n =
    let a : ℕ = nat_abs c.num in
    let d : ℕ = c.den in
    let q : Fraction = lowest ((c.num *ℤ c.num) *ℤ pos n) ((d * d) * 1) in
    let p : 0 < d * d = mul_pos d d (den_pos c) (den_pos c) in
    let is : times (times c c) (whole_fraction (pos n)) ≡ q = ap (λ (x : Fraction). times x (whole_fraction (pos n))) (square_is c) ∙ times_lowest (c.num *ℤ c.num) (pos n) (d * d) 1 p (omega arith) in
    let many : nat_abs ((c.num *ℤ c.num) *ℤ pos n) ≡ (a * a) * n = unsigned_abs-mul (c.num *ℤ c.num) (pos n) ∙ ap (λ k. k * n) (unsigned_abs-mul c.num c.num) in
    let cross : nat_abs q.num * ((d * d) * 1) ≡ nat_abs ((c.num *ℤ c.num) *ℤ pos n) * q.den = abs_cross ((c.num *ℤ c.num) *ℤ pos n) ((d * d) * 1) (omega (arith, p)) in
    let factor : nat_abs q.num * (d * d) ≡ (a * a) * (n * q.den) = regrouped (nat_abs q.num) (d * d) _ (a * a) n q.den cross many in
    subst (λ (x : Fraction). a * a ∣ nat_abs x.num) (sym is) (gauss (d * d) (a * a) (nat_abs q.num) (squares_apart a d (coprime c))
    (subst (λ k. a * a ∣ k) (sym factor) (dvd-mul_right (a * a) (n * q.den))))
  where
    regrouped : (m e k b n f : ℕ) → m * (e * 1) ≡ k * f → k ≡ b * n → m * e ≡ b * (n * f)
    regrouped m e k b n f g h = omega (arith, g, ap (λ z. z * f) h)

small : (a b : ℕ) → a * a ≤ b → b < 2 ^ 127 → a + a < 2 ^ 127
small a b h l = grind arith

own_magnitude : (q : Fraction) → magnitude_over q.den q ≡ nat_abs q.num
own_magnitude q = ap (λ k. nat_abs q.num * k) (cancel_right (q.den / q.den) 1 q.den (den_pos q) (over_den q.den q (dvd_refl q.den) ∙ omega arith)) ∙ omega arith

pub twice_fits : (c q : Fraction) (n : ℕ) → q ≡ times (times c c) (whole_fraction (pos n)) → q ≢ zero_fraction → nat_abs q.num < 2 ^ 127 → c.den < 2 ^ 127 → sum_fits c c ≡ true
twice_fits c q n e h num den =
    let some : 0 < nat_abs q.num = subst (λ k. 0 < k) (own_magnitude q) (magnitude_positive q q.den h (den_pos q) (dvd_refl q.den)) in
    let square : nat_abs c.num * nat_abs c.num ≤ nat_abs q.num = le_of_dvd some (subst (λ (x : Fraction). nat_abs c.num * nat_abs c.num ∣ nat_abs x.num) (sym e) (square_divides c n)) in
    sum_fits_over c c c.den (den_pos c) (dvd_refl c.den) (dvd_refl c.den) den (subst (λ k. k + k < 2 ^ 127) (sym (own_magnitude c)) (small (nat_abs c.num) (nat_abs q.num) square num))

-- of the code's terms
pub twice_refused : (t q : CodeTerm) → IsExtracted (term_of q) (term_times (term_of t) (term_of t)) → DoesNotFit Op.Add (term_of t).coefficient (term_of t).coefficient → ⊥
twice_refused t q e h = grind (arith, ratio_parts, twice_fits)
