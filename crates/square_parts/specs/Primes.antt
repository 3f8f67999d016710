-- Lists of all primes up to the trial limit.
use Rattle.std.specs.Prelude.{ℕ, zero, suc, ◌≡◌, ◌≤◌, ◌-◌, ◌%◌, List, [], ◌∷◌, Bool, ◌&&◌, ◌==◌, if◌then◌else◌, nat_le, nat_lt, true, false}
use Rattle.square_parts.specs.Divisors.{HasNoDivisorBelow}

-- the primes below 100; a number up to 10,000 that is no prime is a multiple of one of them
abbrev pub primes_below_hundred : List ℕ
primes_below_hundred = 2 ∷ 3 ∷ 5 ∷ 7 ∷ 11 ∷ 13 ∷ 17 ∷ 19 ∷ 23 ∷ 29 ∷ 31 ∷ 37 ∷ 41 ∷ 43 ∷ 47 ∷ 53 ∷ 59 ∷ 61 ∷ 67 ∷ 71 ∷ 73 ∷ 79 ∷ 83 ∷ 89 ∷ 97 ∷ []

-- one of the numbers, 2 at least and below e, divides it
abbrev pub has_divisor_among : List ℕ → ℕ → Bool
has_divisor_among [] e = false
has_divisor_among (p ∷ ps) e = if nat_le 2 p && (nat_lt p e && e % p == 0) then true else has_divisor_among ps e

abbrev pub is_composite : ℕ → Bool
is_composite = has_divisor_among primes_below_hundred

-- so many numbers from e on are composite
abbrev pub are_composite : ℕ → ℕ → Bool
are_composite zero e = true
are_composite (suc n) e = is_composite e && are_composite n (suc e)

-- the numbers rise up to the trial limit, and from d on each other one up to there is composite
abbrev pub holds_all_primes : ℕ → List ℕ → Bool
holds_all_primes d [] = are_composite (10001 - d) d
holds_all_primes d (p ∷ ps) = nat_le d p && (nat_le p 10000 && (are_composite (p - d) d && holds_all_primes (suc p) ps))

-- no number from 2 to below d divides n, and the primes from d on are these
pub record IsDividedBelow (ps : List ℕ) (n : ℕ) : Type 0 where
  pub from : ℕ
  pub two : 2 ≤ from
  pub below : HasNoDivisorBelow from n
  pub primes : holds_all_primes from ps ≡ true
