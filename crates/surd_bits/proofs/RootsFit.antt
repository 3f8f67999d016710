-- The root of a rational that is held.
use Rattle.surd_bits.proofs.Shared.{◌≡◌, ℕ, ◌+◌, ◌*◌, ◌^◌, ◌≤◌, ◌<◌, max, [], ◌∷◌, pos, ◌*ℤ◌, None, refl, sym, ap, ◌∙◌, subst, arith, nat_abs, passed, unsigned_abs-mul, mul-le, pow-add, pow_pos}
use Rattle.surd_bits.proofs.Shared.{le_of_dvd, Fraction, times, whole_fraction, times_lowest, den_pos, Term, surd_of, term, square_le, magnitude_over, root_above, term_mass, mass, IsHeld}
use Rattle.surd_bits.proofs.Shared.{quotient_fits, cancel_le, den_divides, magnitude_lowest, magnitude_cross, root_enough, root_least, Mul, calculation, first_misfit, root_calculations, IsRootTerm}
use Rattle.surd_bits.proofs.{Shared.{parts_of, ◌∣◌}, Bounds.{power_fits}}

-- p is at most q * 2 ^ h
num_held : (q : Fraction) (h l : ℕ) → IsHeld (surd_of q) h l → nat_abs q.num ≤ q.den * 2 ^ h
num_held q h l k =
    let e : ℕ = k.scale in
    let m : ℕ = magnitude_over e q in
    let a : m * m * 1 ≤ root_above (m * m * 1) * root_above (m * m * 1) = root_enough (m * m * 1) in
    let b : m ≤ root_above (m * m * 1) = square_le m (root_above (m * m * 1)) (omega arith) in
    let c : root_above (m * m * 1) ≤ e * 2 ^ h = at (root_above (m * m * 1)) (term_mass e e (term q 1)) (e * 2 ^ h) (omega arith) k.high in
    over_scale (nat_abs q.num) q.den m e (2 ^ h) k.scaled.positive (magnitude_cross e q k.scaled.whole.0) (trans m (root_above (m * m * 1)) (e * 2 ^ h) b c)
  where
    at : (u m p : ℕ) → u ≤ m → m + 0 ≤ p → u ≤ p
    at u m p h k = omega arith

    trans : (a b c : ℕ) → a ≤ b → b ≤ c → a ≤ c
    trans a b c h k = omega arith

    over_scale : (n d m e p : ℕ) → 0 < e → m * d ≡ n * e → m ≤ e * p → n ≤ d * p
    over_scale n d m e p h f g = cancel_le n (d * p) e h (let x : m * d ≤ (e * p) * d = mul-le m d (e * p) d g (omega arith) in omega arith)

den_held : (q : Fraction) (h l : ℕ) → IsHeld (surd_of q) h l → q.den ≤ 2 ^ l
den_held q h l k = let a : q.den ≤ k.denominator = le_of_dvd k.parts.positive k.parts.whole.0 in let b : k.denominator ≤ 2 ^ l = k.low in omega arith

pub root_fits : (q : Fraction) (h l : ℕ) → IsHeld (surd_of q) h l → 2 * h + 4 * l ≤ 124 → first_misfit (root_calculations (parts_of q)) ≡ None
root_fits q h l k bits =
    passed (calculation Mul (whole_fraction q.num) (whole_fraction (pos q.den))) []
    (quotient_fits (times (whole_fraction q.num) (whole_fraction (pos q.den))) (q.num *ℤ pos q.den) (1 * 1) (omega arith) (times_lowest q.num (pos q.den) 1 1 (omega arith) (omega arith))
    (power_fits (nat_abs (q.num *ℤ pos q.den)) ((l + h) + l) (subst (λ z. z ≤ 2 ^ ((l + h) + l)) (sym (unsigned_abs-mul q.num (pos q.den))) bound) (omega arith)) one_fits)
  where
    one_fits : 1 * 1 < 2 ^ 127
    one_fits = omega arith

    bound : nat_abs q.num * q.den ≤ 2 ^ ((l + h) + l)
    bound =
        let a : nat_abs q.num ≤ q.den * 2 ^ h = num_held q h l k in
        let b : q.den ≤ 2 ^ l = den_held q h l k in
        let c : q.den * 2 ^ h ≤ 2 ^ l * 2 ^ h = mul-le q.den (2 ^ h) (2 ^ l) (2 ^ h) b (omega arith) in
        let d : nat_abs q.num * q.den ≤ (2 ^ l * 2 ^ h) * 2 ^ l = mul-le (nat_abs q.num) q.den (2 ^ l * 2 ^ h) (2 ^ l) (omega arith) b in
        let e : 2 ^ (l + h) ≡ 2 ^ l * 2 ^ h = pow-add 2 l h in
        let f : 2 ^ ((l + h) + l) ≡ 2 ^ (l + h) * 2 ^ l = pow-add 2 (l + h) l in
        let g : (2 ^ l * 2 ^ h) * 2 ^ l ≡ 2 ^ (l + h) * 2 ^ l = ap (λ z. z * 2 ^ l) (sym e) in
        omega arith

-- the root is over the denominator, and its mass there is told by p * q
pub root_parts : (q : Fraction) (t : Term) → IsRootTerm t (parts_of q) → t.coefficient.den ∣ q.den
root_parts q t r = subst (λ z. z.den ∣ q.den) (sym r.coefficient) (den_divides (pos r.root) q.den (den_pos q))

pub root_magnitude : (q : Fraction) (t : Term) (r : IsRootTerm t (parts_of q)) → magnitude_over q.den t.coefficient ≡ r.root
root_magnitude q t r = ap (magnitude_over q.den) r.coefficient ∙ magnitude_lowest q.den (pos r.root) q.den r.root (den_pos q) (den_divides (pos r.root) q.den (den_pos q)) refl

pub root_mass : (q : Fraction) (t : Term) → IsRootTerm t (parts_of q) → mass q.den (t ∷ []) ≡ max q.den (root_above (nat_abs q.num * q.den))
root_mass q t r = ap (λ n. max q.den (root_above (n * n * t.radicand)) + 0) (root_magnitude q t r) ∙ ap (λ n. max q.den (root_above n) + 0) (sym r.square) ∙ omega arith

pub root_held : (q : Fraction) (t : Term) (h l : ℕ) → IsRootTerm t (parts_of q) → IsHeld (surd_of q) h l → IsHeld (t ∷ []) h l
root_held q t h l r k = record {
  denominator = q.den;
  parts = record { positive = den_pos q; whole = (root_parts q t r, tt) };
  low = den_held q h l k;
  scale = q.den;
  scaled = record { positive = den_pos q; whole = (root_parts q t r, tt) };
  high = subst (λ z. z ≤ q.den * 2 ^ h) (sym (root_mass q t r)) (bound (nat_abs q.num) q.den (num_held q h l k));
}
  where
    bound : (n d : ℕ) → n ≤ d * 2 ^ h → max d (root_above (n * d)) ≤ d * 2 ^ h
    bound n d a =
        let p : 1 ≤ 2 ^ h = pow_pos h in
        let b : d * 1 ≤ d * 2 ^ h = mul-le d 1 d (2 ^ h) (omega arith) p in
        let c : n * d ≤ (d * 2 ^ h) * (d * 2 ^ h) = mul-le n d (d * 2 ^ h) (d * 2 ^ h) a (omega arith) in
        let e : root_above (n * d) ≤ d * 2 ^ h = root_least (n * d) (d * 2 ^ h) c in
        omega arith
