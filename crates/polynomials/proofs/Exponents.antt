-- Exponents of products, packed and not.
use Rattle.std.proofs.Common.{◌≡◌, ℕ, zero, suc, ◌+◌, ◌/◌, ◌%◌, ◌^◌, ◌<◌, ◌≤◌, [], ◌∷◌, ◌++◌, refl, ap, ◌∙◌, arith, zero-add, replicate}
use Rattle.polynomials.specs.{Polynomials.{Monomial, Polynomial, Summand, HasExponents, HaveExponents, monomial_times, row, one_monomial}, Packed.{monomial_of, unpacked}}

-- ---- of products

pub exponents_more : (d e : ℕ) (m : Monomial) → d ≤ e → HasExponents d m → HasExponents e m
exponents_more d e [] h p = tt
exponents_more d e (x ∷ m) h p = (omega (arith, p.0), exponents_more d e m h (p.1))

pub exponents_times : (d e : ℕ) (m n : Monomial) → HasExponents d m → HasExponents e n → HasExponents (d + e) (monomial_times m n)
exponents_times d e [] n h k = exponents_more e (d + e) n (omega arith) k
exponents_times d e (x ∷ m) [] h k = exponents_more d (d + e) (x ∷ m) (omega arith) h
exponents_times d e (x ∷ m) (y ∷ n) h k = (omega (arith, h.0, k.0), exponents_times d e m n (h.1) (k.1))

pub have_append : (d : ℕ) (v w : Polynomial) → HaveExponents d v → HaveExponents d w → HaveExponents d (v ++ w)
have_append d [] w h k = k
have_append d (s ∷ v) w h k = (h.0, have_append d v w (h.1) k)

pub have_row : (d e : ℕ) (s : Summand) (w : Polynomial) → HasExponents d s.monomial → HaveExponents e w → HaveExponents (d + e) (row s w)
have_row d e s [] h k = tt
have_row d e s (t ∷ w) h k = (exponents_times d e s.monomial t.monomial h (k.0), have_row d e s w h (k.1))

-- ---- packed

pub tail_below : (k n : ℕ) → k < 256 ^ suc n → k / 256 < 256 ^ n
tail_below k n h = grind arith

pub record IsPackedSum (n k l : ℕ) : Type 0 where
  pub fits : k + l < 256 ^ n
  pub exponents : unpacked n (k + l) ≡ monomial_times (unpacked n k) (unpacked n l)

sum_below : (k l n : ℕ) → k % 256 + l % 256 < 256 → k / 256 + l / 256 < 256 ^ n → k + l < 256 ^ suc n
sum_below k l n h b = grind arith

low_sum : (k l : ℕ) → k % 256 + l % 256 < 256 → (k + l) % 256 ≡ k % 256 + l % 256
low_sum k l h = omega arith

high_sum : (k l : ℕ) → k % 256 + l % 256 < 256 → (k + l) / 256 ≡ k / 256 + l / 256
high_sum k l h = omega arith

-- no exponent runs over
pub packed_sum : (d e : ℕ) → d + e < 256 → (n k l : ℕ) → k < 256 ^ n → l < 256 ^ n → HasExponents d (unpacked n k) → HasExponents e (unpacked n l) → IsPackedSum n k l
packed_sum d e h zero k l a b p q = record { fits = omega arith; exponents = refl }
packed_sum d e h (suc n) k l a b p q =
    let go : IsPackedSum n (k / 256) (l / 256) = packed_sum d e h n (k / 256) (l / 256) (tail_below k n a) (tail_below l n b) (p.1) (q.1) in
    let low : k % 256 + l % 256 < 256 = omega (arith, p.0, q.0) in
    record {
      fits = sum_below k l n low go.fits;
      exponents = λ i. low_sum k l low i ∷ (ap (unpacked n) (high_sum k l low) ∙ go.exponents) i;
    }

-- ---- the monomial without names

pub packed_zero : monomial_of 0 ≡ one_monomial
unfolding monomial_of
packed_zero = refl

-- eight zeros leave a packed monomial as it is
pub one_times_packed : (k : ℕ) → monomial_times one_monomial (monomial_of k) ≡ monomial_of k
unfolding monomial_of
one_times_packed k = simp zero-add

zero_exponents : (n : ℕ) → HasExponents 0 (replicate n 0)
zero_exponents zero = tt
zero_exponents (suc n) = (omega arith, zero_exponents n)

pub one_exponents : HasExponents 0 one_monomial
one_exponents = zero_exponents 8

byte_exponents : (n k : ℕ) → HasExponents 255 (unpacked n k)
byte_exponents zero k = tt
byte_exponents (suc n) k = (omega arith, byte_exponents n (k / 256))

-- none is above what eight bits hold
pub packed_exponents : (k : ℕ) → HasExponents 255 (monomial_of k)
unfolding monomial_of
packed_exponents k = byte_exponents 8 k
