-- Places that a loop reaches.
use Rattle.std.proofs.Common.{ℕ, ◌≡◌, ◌<◌, ◌≤◌, min, arith}

-- in a list whose length is asked before
pub below_end : {i e n : ℕ} → e ≡ n → i < e → i < n
below_end e l = omega (arith, e, l)

pub past_end : {i e n : ℕ} → e ≡ n → e ≤ i → n ≤ i
past_end e l = omega (arith, e, l)

-- in a list that is as long as another
pub below_mapped : {i e n : ℕ} → n ≡ e → i < e → i < n
below_mapped e l = omega (arith, e, l)

pub past_mapped : {i e n : ℕ} → n ≡ e → e ≤ i → n ≤ i
past_mapped e l = omega (arith, e, l)

-- in two lists at once
pub below_first : {i e a b n m : ℕ} → e ≡ min a b → a ≡ n → b ≡ m → i < e → i < n
below_first e p q l = omega (arith, e, p, q, l)

pub below_second : {i e a b n m : ℕ} → e ≡ min a b → a ≡ n → b ≡ m → i < e → i < m
below_second e p q l = omega (arith, e, p, q, l)

pub past_min : {i e a b n m : ℕ} → e ≡ min a b → a ≡ n → b ≡ m → e ≤ i → min n m ≤ i
past_min e p q l = omega (arith, e, p, q, l)
