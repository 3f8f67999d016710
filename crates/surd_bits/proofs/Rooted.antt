-- The root of a rational of at least 0 is no larger than the rational.
use Rattle.surd_bits.proofs.Shared.{◌≡◌, ◌≢◌, ℕ, ◌+◌, ◌*◌, ◌^◌, ◌≤◌, ◌<◌, max, [], ◌∷◌, Bool, if◌then◌else◌, sym, ap, ◌∙◌, subst, arith, nat_abs, mul-le, pow_pos, le_of_dvd, Term, Surd, surd_of}
use Rattle.surd_bits.proofs.Shared.{square_le, magnitude_over, root_above, IsHeld, IsHeldByOne, cancel_le, magnitude_cross, root_enough, root_least, Fraction, zero_fraction, den_pos, zero_test}
use Rattle.surd_bits.proofs.{Shared.{parts_of, IsRootTerm, value, num, IsNoLargerThanRoot}, RootsFit.{root_parts, root_magnitude, root_mass, root_held}}

pub as_rational : (q : Fraction) → q ≢ zero_fraction → value (num q) ≡ surd_of q
as_rational q n = ap (λ (b : Bool). if b then [] else surd_of q) (zero_test q n)

-- p is at most q * 2 ^ h
num_held_by_one : (q : Fraction) (h l : ℕ) → IsHeldByOne (surd_of q) h l → nat_abs q.num ≤ q.den * 2 ^ h
num_held_by_one q h l k =
    let m : ℕ = magnitude_over k.denominator q in
    let a : m * m * 1 ≤ root_above (m * m * 1) * root_above (m * m * 1) = root_enough (m * m * 1) in
    let b : m ≤ root_above (m * m * 1) = square_le m (root_above (m * m * 1)) (omega arith) in
    let c : max 0 (root_above (m * m * 1)) + 0 ≤ k.denominator * 2 ^ h = k.high in
    over_scale (nat_abs q.num) q.den m k.denominator (2 ^ h) k.parts.positive (magnitude_cross k.denominator q k.parts.whole.0) (at m (root_above (m * m * 1)) (k.denominator * 2 ^ h) b c)
  where
    at : (m u p : ℕ) → m ≤ u → max 0 u + 0 ≤ p → m ≤ p
    at m u p h k = omega arith

    over_scale : (n d m e p : ℕ) → 0 < e → m * d ≡ n * e → m ≤ e * p → n ≤ d * p
    over_scale n d m e p h f g = cancel_le n (d * p) e h (let x : m * d ≤ (e * p) * d = mul-le m d (e * p) d g (omega arith) in omega arith)

root_held_by_one : (q : Fraction) (t : Term) (h l : ℕ) → IsRootTerm t (parts_of q) → IsHeldByOne (surd_of q) h l → IsHeldByOne (t ∷ []) h l
root_held_by_one q t h l r k = record {
  denominator = q.den;
  parts = record { positive = den_pos q; whole = (root_parts q t r, tt) };
  low = let a : q.den ≤ k.denominator = le_of_dvd k.parts.positive k.parts.whole.0 in let b : k.denominator ≤ 2 ^ l = k.low in omega arith;
  high = subst (λ n. max 0 (root_above n) + 0 ≤ q.den * 2 ^ h) (r.square ∙ sym (ap (λ n. n * n * t.radicand) (root_magnitude q t r))) (bound (nat_abs q.num) q.den (num_held_by_one q h l k));
}
  where
    bound : (n d : ℕ) → n ≤ d * 2 ^ h → max 0 (root_above (n * d)) + 0 ≤ d * 2 ^ h
    bound n d a =
        let p : 1 ≤ 2 ^ h = pow_pos h in
        let b : d * 1 ≤ d * 2 ^ h = mul-le d 1 d (2 ^ h) (omega arith) p in
        let c : n * d ≤ (d * 2 ^ h) * (d * 2 ^ h) = mul-le n d (d * 2 ^ h) (d * 2 ^ h) a (omega arith) in
        let e : root_above (n * d) ≤ d * 2 ^ h = root_least (n * d) (d * 2 ^ h) c in
        omega arith

pub root_no_larger : (q : Fraction) (t : Term) → q ≢ zero_fraction → IsRootTerm t (parts_of q) → IsNoLargerThanRoot q (t ∷ [])
root_no_larger q t n r = record {
  parts = record { positive = den_pos q; whole = (root_parts q t r, tt) };
  mass = omega (arith, root_mass q t r);
  held = λ h l k. root_held q t h l r (subst (λ (v : Surd). IsHeld v h l) (as_rational q n) k);
  by_one = λ h l k. root_held_by_one q t h l r (subst (λ (v : Surd). IsHeldByOne v h l) (as_rational q n) k);
}

-- the root of 0, which has no terms
pub no_root_no_larger : (q : Fraction) → IsNoLargerThanRoot q []
no_root_no_larger q = grind arith
