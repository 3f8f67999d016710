-- What holds of 1 and of products of monomials for which it holds is kept by the arithmetic of polynomials.
use Rattle.expansions.proofs.Shared.{ℕ, zero, suc, [], ◌∷◌, ◌++◌, map, Fraction, joined, normal}
use Rattle.expansions.proofs.Shared.{arith, with_summand, without_zeros, Monomial, Polynomial, Summand, monomial_times, product, raised, scaled, summand_times}

-- a fact of each monomial
abbrev pub AllHave : (Monomial → Type 0) → Polynomial → Type 0
AllHave P [] = Unit {0}
AllHave P (s ∷ v) = P s.monomial × AllHave P v

-- it holds of 1, and of products
pub record IsClosed (P : Monomial → Type 0) : Type 0 where
  pub one : P []
  pub times : (m n : Monomial) → P m → P n → P (monomial_times m n)

module _ (P : Monomial → Type 0) where
  pub append_all : (v w : Polynomial) → AllHave P v → AllHave P w → AllHave P (v ++ w)
  append_all [] w h k = k
  append_all (s ∷ v) w h k = (h.0, append_all v w h.1 k)

  pub scaled_all : (c : Fraction) (v : Polynomial) → AllHave P v → AllHave P (scaled c v)
  scaled_all c [] h = tt
  scaled_all c (s ∷ v) h = (h.0, scaled_all c v h.1)

  pairs_all : IsClosed P → (s : Summand) (w : Polynomial) → P s.monomial → AllHave P w → AllHave P (map (summand_times s) w)
  pairs_all c s [] h k = tt
  pairs_all c s (t ∷ w) h k = (c.times s.monomial t.monomial h k.0, pairs_all c s w h k.1)

  pub product_all : IsClosed P → (v w : Polynomial) → AllHave P v → AllHave P w → AllHave P (product v w)
  product_all c [] w h k = tt
  product_all c (s ∷ v) w h k = append_all (map (summand_times s) w) (product v w) (pairs_all c s w h.0 k) (product_all c v w h.1 k)

  pub raised_all : IsClosed P → (v : Polynomial) (n : ℕ) → AllHave P v → AllHave P (raised v n)
  raised_all c v zero h = (c.one, tt)
  raised_all c v (suc n) h = product_all c v (raised v n) h (raised_all c v n h)

  with_summand_all : (s : Summand) (v : Polynomial) → P s.monomial → AllHave P v → AllHave P (with_summand s v)
  with_summand_all s [] h k = (h, tt)
  with_summand_all s (t ∷ v) h k = let go = with_summand_all s v h k.1 in grind arith

  joined_all : (v : Polynomial) → AllHave P v → AllHave P (joined v)
  joined_all [] h = tt
  joined_all (s ∷ v) h = with_summand_all s (joined v) h.0 (joined_all v h.1)

  without_zeros_all : (v : Polynomial) → AllHave P v → AllHave P (without_zeros v)
  without_zeros_all [] h = tt
  without_zeros_all (s ∷ v) h = let go = without_zeros_all v h.1 in grind arith

  pub normal_all : (v : Polynomial) → AllHave P v → AllHave P (normal v)
  normal_all v h = without_zeros_all (joined v) (joined_all v h)
