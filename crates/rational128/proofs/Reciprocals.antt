-- Negatives and reciprocals by their parts.
use Rattle.rational128.proofs.Shared.{◌≡◌, ◌≢◌, ℕ, zero, suc, ◌*◌, ◌<◌, ◌^◌, ℤ, pos, negsuc, ◌*ℤ◌, ◌-ℤ◌, neg_ℤ, ◌<ℤ◌, ◌≤ℤ◌, refl, ap, ◌∙◌, arith, to_z, of_z, nat_abs, IsGcd, w128, ints, Fraction}
use Rattle.rational128.proofs.Shared.{lowest, times, negative, inverse, inverse_of, one_fraction, den_pos, lowest_parts, same_lowest, times_lowest, mul_pos}
use Rattle.rational128.proofs.{Coprime.{IsCoprime, IsCoprime-swap, IsGcd-from_coprime}, LowestTerms.{HasParts, parts_themselves, is_lowest_from, fraction_coprime}}

pub abs_negative : (p : ℤ) → nat_abs (neg_ℤ p) ≡ nat_abs p
abs_negative p = grind arith

-- the negative number, as the program hands it on
pub negative_told : (p : ℤ) → nat_abs p < 2 ^ 127 → to_z w128 (of_z w128 (pos 0 -ℤ to_z w128 (of_z w128 p))) ≡ neg_ℤ p
negative_told p h = grind arith

pub negative_lowest : (f : Fraction) (p : ℤ) (d : ℕ) → p ≡ f.num → d ≡ f.den → IsGcd (nat_abs (neg_ℤ p)) d 1
negative_lowest f p d p-is d-is = rw (abs_negative p, p-is, d-is) (IsGcd-from_coprime _ _ (fraction_coprime f))

pub negative_parts : (f : Fraction) (p : ℤ) (d : ℕ) → p ≡ f.num → d ≡ f.den → HasParts (negative f) (neg_ℤ p) d
unfolding negative
negative_parts f p d p-is d-is = rw (p-is, d-is) (parts_themselves (neg_ℤ f.num) f.den (is_lowest_from (neg_ℤ f.num) f.den (den_pos f) (negative_lowest f f.num f.den refl refl)))

-- d with the sign of p
abbrev signed_as : ℤ → ℕ → ℤ
signed_as (pos n) d = pos d
signed_as (negsuc n) d = neg_ℤ (pos d)

-- n/d is 1/f, in lowest terms
pub record IsInverse (f : Fraction) (n : ℤ) (d : ℕ) : Type 0 where
  pub positive : 0 < d
  pub lowest : IsGcd (nat_abs n) d 1
  pub parts : HasParts (inverse f) n d
  pub product : times f (inverse f) ≡ one_fraction

inverse_of_parts : (p : ℤ) (d : ℕ) → 0 < nat_abs p → IsCoprime (nat_abs p) d → 0 < d → IsGcd (nat_abs (signed_as p d)) (nat_abs p) 1 × HasParts (inverse_of p d) (signed_as p d) (nat_abs p)
inverse_of_parts (pos n) d positive h k = let g : IsGcd d n 1 = IsGcd-from_coprime _ _ (IsCoprime-swap _ _ h) in (g, parts_themselves (pos d) n (is_lowest_from (pos d) n positive g))
inverse_of_parts (negsuc n) d positive h k =
    let g : IsGcd (nat_abs (neg_ℤ (pos d))) (suc n) 1 = rw (abs_negative (pos d)) (IsGcd-from_coprime _ _ (IsCoprime-swap _ _ h)) in
    (g, parts_themselves (neg_ℤ (pos d)) (suc n) (is_lowest_from (neg_ℤ (pos d)) (suc n) positive g))

times_inverse_of : (p : ℤ) (d : ℕ) → 0 < nat_abs p → 0 < d → times (lowest p d) (inverse_of p d) ≡ lowest (pos 1) 1
times_inverse_of (pos n) d positive k =
    times_lowest (pos n) (pos d) d n k positive ∙ same_lowest (pos n *ℤ pos d) (pos 1) (d * n) 1 (mul_pos d n k positive) (omega arith) (ap pos (omega arith))
times_inverse_of (negsuc n) d positive k =
    times_lowest (negsuc n) (neg_ℤ (pos d)) d (suc n) k positive
    ∙ same_lowest (negsuc n *ℤ neg_ℤ (pos d)) (pos 1) (d * suc n) 1 (mul_pos d (suc n) k positive) (omega arith) (product n d)
  where
    product : (n d : ℕ) → (negsuc n *ℤ neg_ℤ (pos d)) *ℤ pos 1 ≡ pos 1 *ℤ pos (d * suc n)
    product n zero = omega (arith, ints)
    product n (suc d) = ap pos (omega arith)

nonzero : (p : ℤ) → p ≢ pos 0 → 0 < nat_abs p
nonzero p h = grind arith

inverse_itself : (f : Fraction) → f.num ≢ pos 0 → IsInverse f (signed_as f.num f.den) (nat_abs f.num)
unfolding one_fraction
inverse_itself f h =
    let parts = inverse_of_parts f.num f.den (nonzero f.num h) (fraction_coprime f) (den_pos f) in
    record {
      positive = nonzero f.num h;
      lowest = parts.0;
      parts = parts.1;
      product = ap (λ (g : Fraction). times g (inverse f)) (lowest_parts f) ∙ times_inverse_of f.num f.den (nonzero f.num h) (den_pos f);
    }

-- the program's numbers: p/d is f, m the magnitude of p, and n is d with the sign of p
pub inverts : (f : Fraction) (p n : ℤ) (d m : ℕ) → f.num ≢ pos 0 → p ≡ f.num → d ≡ f.den → m ≡ nat_abs p → (p <ℤ pos 0 → n ≡ neg_ℤ (pos d)) → (pos 0 ≤ℤ p → n ≡ pos d) → IsInverse f n m
inverts f p n d m h k l q r s = grind (arith, inverse_itself)
