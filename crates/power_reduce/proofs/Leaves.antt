-- Trees that the tests build.
use Rattle.power_reduce.proofs.Shared.{◌≡◌, ℕ, List, true, inl, inr, Fraction, is_reduced, num, symbol, reduced_test}

pub number_reduced : (q : Fraction) → is_reduced (num q) ≡ true
number_reduced q = reduced_test (num q) (inr (inl tt))

pub symbol_reduced : (x : List ℕ) → is_reduced (symbol x) ≡ true
symbol_reduced x = reduced_test (symbol x) (inr (inr tt))
