-- Coefficients as what polynomials are worth, and packed monomials one by one.
use Rattle.polynomials.proofs.Shared.{◌≡◌, ℕ, zero, suc, ◌/◌, ◌%◌, ◌^◌, ◌<◌, Bool, true, false, [], ◌∷◌, refl, sym, ap, ◌∙◌, arith, if◌then◌else◌, times_comm, zero_plus, zero_times, one_times}
use Rattle.polynomials.proofs.{Shared.{Fraction, plus, times, zero_fraction, one_fraction, unpacked, Monomial, Polynomial, AreSame, coefficient_at, is_same_monomial, worth}, Exponents.{tail_below}}
use Rattle.polynomials.specs.Packed.{monomial_of}

-- 1 for one monomial, and 0 for the others
abbrev only : Monomial → Monomial → Fraction
only m n = if is_same_monomial n m then one_fraction else zero_fraction

coefficient_worth : (m : Monomial) (v : Polynomial) → coefficient_at m v ≡ worth (only m) v
coefficient_worth m [] = refl
coefficient_worth m (s ∷ v) = by (is_same_monomial s.monomial m) (coefficient_worth m v)
  where
    q : Fraction
    q = s.coefficient

    by : (b : Bool) → coefficient_at m v ≡ worth (only m) v
        → (if b then plus q (coefficient_at m v) else coefficient_at m v) ≡ plus (times q (if b then one_fraction else zero_fraction)) (worth (only m) v)
    by true go = λ i. plus ((sym (one_times q) ∙ times_comm one_fraction q) i) (go i)
    by false go = go ∙ sym (ap (λ x. plus x (worth (only m) v)) (times_comm q zero_fraction ∙ zero_times q) ∙ zero_plus (worth (only m) v))

pub same_coefficient : (v w : Polynomial) (m : Monomial) → AreSame v w → coefficient_at m v ≡ coefficient_at m w
same_coefficient v w m h = coefficient_worth m v ∙ h.at (only m) ∙ sym (coefficient_worth m w)

pub one_unpacked : (n k l : ℕ) → k < 256 ^ n → l < 256 ^ n → unpacked n k ≡ unpacked n l → k ≡ l
one_unpacked zero k l h j e = omega arith
one_unpacked (suc n) k l h j e =
    let low : k % 256 ≡ l % 256 = cc in
    let behind : unpacked n (k / 256) ≡ unpacked n (l / 256) = cc in
    let high : k / 256 ≡ l / 256 = one_unpacked n (k / 256) (l / 256) (tail_below k n h) (tail_below l n j) behind in
    omega arith

pub one_packed : (k l : ℕ) → k < 2 ^ 64 → l < 2 ^ 64 → monomial_of k ≡ monomial_of l → k ≡ l
unfolding monomial_of
one_packed = one_unpacked 8
