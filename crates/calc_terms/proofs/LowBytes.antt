-- Numbers as bytes.
use Rattle.calc_terms.proofs.Shared.{◌≡◌, ℕ, zero, suc, ◌/◌, ◌^◌, ◌<◌, length, refl, ap, arith, low_bytes, from_bytes}

pub length-low_bytes : (k n : ℕ) → length (low_bytes k n) ≡ k
unfolding low_bytes
length-low_bytes zero n = refl
length-low_bytes (suc k) n = ap suc (length-low_bytes k (n / 256))

pub from_bytes-low_bytes : (k n : ℕ) → n < 256 ^ k → from_bytes (low_bytes k n) ≡ n
unfolding low_bytes
from_bytes-low_bytes zero n h = omega arith
from_bytes-low_bytes (suc k) n h =
    let q : n / 256 < 256 ^ k = grind arith in
    rw (from_bytes-low_bytes k (n / 256) q) (omega arith)
