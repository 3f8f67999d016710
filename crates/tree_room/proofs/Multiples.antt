-- Multiples of one number are ordered as what is multiplied.
use Rattle.std.proofs.{Common.{ℕ, ◌*◌, ◌≤◌, arith}, lemmas.Nat.{mul-le}}

pub scaled : (a b m : ℕ) → a ≤ b → a * m ≤ b * m
scaled a b m h = mul-le a m b m h (omega arith)
