-- Answers of comparisons, one after another.
use Rattle.node_order.proofs.Shared.{◌≡◌, ◌≢◌, ℕ, suc, ◌<◌, arith, Ordering, Less, Equal, Greater, nat_cmp, ordering_then}

pub then_assoc : (a b c : Ordering) → ordering_then (ordering_then a b) c ≡ ordering_then a (ordering_then b c)
then_assoc a b c = grind arith

-- what is decided stays so
pub then_decided : (a b : Ordering) → a ≢ Equal → ordering_then a b ≡ a
then_decided a b h = grind arith

pub nat_cmp_less : (m n : ℕ) → m < n → nat_cmp m n ≡ Less
nat_cmp_less m n h = grind arith

pub nat_cmp_greater : (m n : ℕ) → n < m → nat_cmp m n ≡ Greater
nat_cmp_greater m n h = grind arith

pub nat_cmp_equal : (m n : ℕ) → nat_cmp m n ≡ Equal → m ≡ n
nat_cmp_equal m n h = grind arith

pub nat_cmp-suc : (m n : ℕ) → nat_cmp (suc m) (suc n) ≡ nat_cmp m n
nat_cmp-suc m n = grind arith
