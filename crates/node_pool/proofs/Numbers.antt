-- Numbers, byte by byte.
use Rattle.node_pool.proofs.Shared.{List, ap, arith, drop, get_or, length, refl, suc, sym, take, zero, ℕ, ◌%◌, ◌*◌, ◌++◌, ◌+◌, ◌/◌, ◌<◌, ◌^◌, ◌∙◌, ◌∷◌, ◌≡◌, drop_more, byte_at, bytes_low_first}
use Rattle.node_pool.proofs.Shared.{to_le_bytes, w64, from_bytes, low_bytes, div-div-eq-div-mul, mul_assoc, mul_comm, pow-suc}

byte_is : (i n : ℕ) → byte_at i n ≡ n / 256 ^ i % 256
byte_is i n = grind arith

further : (i n : ℕ) → n / 256 ^ i / 256 ≡ n / 256 ^ suc i
further i n = div-div-eq-div-mul n (256 ^ i) 256 ∙ ap (λ (p : ℕ). n / p) (sym (pow-suc 256 i))

-- the bytes of a number from one place on
written_from : (i k n : ℕ) → bytes_low_first i k n ≡ low_bytes k (n / 256 ^ i)
unfolding low_bytes
written_from i zero n = refl
written_from i (suc k) n = rw (byte_is i n, further i n) (ap (λ (bs : List ℕ). n / 256 ^ i % 256 ∷ bs) (written_from (suc i) k n))

pub written_is : (k n : ℕ) → bytes_low_first 0 k n ≡ low_bytes k n
written_is k n = let e : n / 256 ^ 0 ≡ n = omega arith in written_from 0 k n ∙ ap (low_bytes k) e

-- the bytes of a number in two parts
low_parts : (j k n : ℕ) → low_bytes (j + k) n ≡ low_bytes j n ++ low_bytes k (n / 256 ^ j)
unfolding low_bytes
low_parts zero k n =
    let e : n / 256 ^ 0 ≡ n = omega arith in
    let none : 0 + k ≡ k = omega arith in
    rw (e, none) refl
low_parts (suc j) k n =
    let e : n / 256 / 256 ^ j ≡ n / 256 ^ suc j = div-div-eq-div-mul n 256 (256 ^ j) ∙ ap (λ (p : ℕ). n / p) (mul_comm 256 (256 ^ j) ∙ sym (pow-suc 256 j)) in
    let more : suc j + k ≡ suc (j + k) = omega arith in
    rw more (ap (λ (bs : List ℕ). n % 256 ∷ bs) (low_parts j k (n / 256) ∙ ap (λ (m : ℕ). low_bytes j (n / 256) ++ low_bytes k m) e))

lowest_byte : (n m p : ℕ) → n ≡ m + 256 * p → (n % 256 ≡ m % 256) × (n / 256 ≡ m / 256 + p)
lowest_byte n m p e = (omega arith, omega arith)

-- what is worth more than k bytes changes none of them
low_of : (k m q n : ℕ) → n ≡ m + 256 ^ k * q → low_bytes k n ≡ low_bytes k m
unfolding low_bytes
low_of zero m q n e = refl
low_of (suc k) m q n e =
    let step : 256 ^ suc k * q ≡ 256 * (256 ^ k * q) = ap (λ (x : ℕ). x * q) (pow-suc 256 k ∙ mul_comm (256 ^ k) 256) ∙ mul_assoc 256 (256 ^ k) q in
    let both = lowest_byte n m (256 ^ k * q) (e ∙ ap (λ (x : ℕ). m + x) step) in
    rw (both.0, low_of k (m / 256) q (n / 256) both.1) refl

-- the bytes of two halves are those of the number
pub halves_are : (n : ℕ) → to_le_bytes w64 (n % 2 ^ 64) ++ to_le_bytes w64 (n / 2 ^ 64) ≡ low_bytes 16 n
halves_are n =
    let low = n % 2 ^ 64 in
    let high = n / 2 ^ 64 in
    let whole : n ≡ low + 256 ^ 8 * high = omega arith in
    let first : low_bytes 8 n ≡ low_bytes 8 low = low_of 8 low high n whole in
    ap (λ (bs : List ℕ). bs ++ to_le_bytes w64 high) (written_is 8 low ∙ sym first)
    ∙ ap (λ (bs : List ℕ). low_bytes 8 n ++ bs) (written_is 8 high)
    ∙ sym (low_parts 8 8 n)

-- one byte is a number
pub byte_read : (xs : List ℕ) (at : ℕ) → at < length xs → from_bytes (take 1 (drop at xs)) ≡ get_or xs at 0
byte_read xs at h = grind (arith, drop_more)
