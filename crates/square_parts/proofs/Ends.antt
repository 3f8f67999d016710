-- Numbers that trial division may skip, and when it may end.
use Rattle.square_parts.proofs.Shared.{both, ◌≡◌, ◌≢◌, ℕ, zero, suc, ◌+◌, ◌-◌, ◌*◌, ◌/◌, ◌%◌, ◌^◌, ◌<◌, ◌≤◌, ◌⊎◌, inl, inr, refl, ap, ◌∙◌, subst, arith, List, [], ◌∷◌, Bool, true, false, ◌&&◌, ◌==◌}
use Rattle.square_parts.proofs.Shared.{if◌then◌else◌, nat_le, nat_lt, length, take, drop, slice_index, take-length, ◌∣◌, cases_lt, leb-true, ltb-true, eqb-true, dvd_trans, dvd_of_mod-eq-zero}
use Rattle.square_parts.proofs.Shared.{mul-div_cancel', dvd-mul_left, eq-one_of_dvd-one, HasNoDivisorBelow, HasNoOtherDivisor, has_divisor_among, is_composite, are_composite, holds_all_primes}
use Rattle.square_parts.proofs.{Shared.{IsDividedBelow, primes_below_hundred}, Steps.{done_with}}

-- a composite number has a smaller divisor
divisor_of : (ps : List ℕ) (e : ℕ) → has_divisor_among ps e ≡ true → (f : ℕ) × (2 ≤ f) × (f < e) × (f ∣ e)
divisor_of [] e h = absurd (let bad : false ≡ true = h in cc)
divisor_of (p ∷ ps) e h = by (nat_le 2 p && (nat_lt p e && e % p == 0)) refl (divisor_of ps e)
  where
    by : (b : Bool) → (nat_le 2 p && (nat_lt p e && e % p == 0)) ≡ b → (has_divisor_among ps e ≡ true → (f : ℕ) × (2 ≤ f) × (f < e) × (f ∣ e))
        → (f : ℕ) × (2 ≤ f) × (f < e) × (f ∣ e)
    by true t others =
        let first = both (nat_le 2 p) _ t in
        let second = both (nat_lt p e) _ first.1 in
        (p, leb-true 2 p first.0, ltb-true p e second.0, dvd_of_mod-eq-zero p (eqb-true (e % p) 0 second.1))
    by false t others = others (subst (λ b. (if b then true else has_divisor_among ps e) ≡ true) t h)

-- composite numbers may be skipped
pub skip_composite : (k d n : ℕ) → HasNoDivisorBelow d n → are_composite k d ≡ true → HasNoDivisorBelow (d + k) n
skip_composite zero d n none h = subst (λ x. HasNoDivisorBelow x n) (let e : d ≡ d + 0 = omega arith in e) none
skip_composite (suc k) d n none h =
    subst (λ x. HasNoDivisorBelow x n) (let e : suc d + k ≡ d + suc k = omega arith in e) (skip_composite k (suc d) n further split.1)
  where
    split : (is_composite d ≡ true) × (are_composite k (suc d) ≡ true)
    split = both (is_composite d) _ h

    itself : (e : ℕ) → e ≡ d → e ∣ n → ((f : ℕ) × (2 ≤ f) × (f < d) × (f ∣ d)) → ⊥
    itself e same en (f, two, lt, fd) = none.none f two lt (dvd_trans f (subst (λ x. f ∣ x) (let s : d ≡ e = omega arith in s) fd) en)

    by : (e : ℕ) → 2 ≤ e → e < suc d → e ∣ n → (e < d) ⊎ (d ≤ e) → ⊥
    by e two lt en (inl below) = none.none e two below en
    by e two lt en (inr le) = itself e (let s : e ≡ d = omega arith in s) en (divisor_of primes_below_hundred d split.0)

    further : HasNoDivisorBelow (suc d) n
    further = record { none = λ e two lt en. by e two lt en (cases_lt e d) }

-- what a list of all primes says of its first
pub record IsNextPrime (p : ℕ) (ps : List ℕ) (n : ℕ) : Type 0 where
  pub two : 2 ≤ p
  pub within : p ≤ 10000
  pub below : HasNoDivisorBelow p n
  pub primes : holds_all_primes (suc p) ps ≡ true

pub next_prime : (p : ℕ) (ps : List ℕ) (n : ℕ) → IsDividedBelow (p ∷ ps) n → IsNextPrime p ps n
next_prime p ps n d = record {
  two = omega (arith, above, d.two);
  within = leb-true p 10000 second.0;
  below = subst (λ x. HasNoDivisorBelow x n) (let e : d.from + (p - d.from) ≡ p = omega (arith, above) in e) (skip_composite (p - d.from) d.from n d.below third.0);
  primes = third.1;
}
  where
    first : (nat_le d.from p ≡ true) × ((nat_le p 10000 && (are_composite (p - d.from) d.from && holds_all_primes (suc p) ps)) ≡ true)
    first = both (nat_le d.from p) _ d.primes

    second : (nat_le p 10000 ≡ true) × ((are_composite (p - d.from) d.from && holds_all_primes (suc p) ps) ≡ true)
    second = both (nat_le p 10000) _ first.1

    third : (are_composite (p - d.from) d.from ≡ true) × (holds_all_primes (suc p) ps ≡ true)
    third = both (are_composite (p - d.from) d.from) _ second.1

    above : d.from ≤ p
    above = leb-true d.from p first.0

-- the first prime divides n no more
pub behind_prime : (p : ℕ) (ps : List ℕ) (n m : ℕ) → IsNextPrime p ps n → HasNoDivisorBelow (p + 1) m → IsDividedBelow ps m
behind_prime p ps n m h k = grind arith

pub no_divisor_next : (p : ℕ) (ps : List ℕ) (n : ℕ) → IsDividedBelow (p ∷ ps) n → n % p ≢ 0 → IsDividedBelow ps n
no_divisor_next p ps n d not = let next = next_prime p ps n d in behind_prime p ps n n next (done_with p n next.below not)

-- no divisor of n is below d, whose square exceeds n
pub end_by_square : (d n : ℕ) → 0 < n → HasNoDivisorBelow d n → n < d * d → HasNoOtherDivisor n
end_by_square d n positive none small = record { whole = λ e two le en. by e two en (n / e) (mul-div_cancel' e en) (cases_lt e d) }
  where
    product_grows : (d e k : ℕ) → d ≤ e → d ≤ k → d * d ≤ e * k
    product_grows d e k h l = grind arith

    far : (e k : ℕ) → 2 ≤ e → e * k ≡ n → d ≤ e → 2 ≤ k → (k < d) ⊎ (d ≤ k) → ⊥
    far e k two whole above k-two (inl below) = none.none k k-two below (subst (λ x. k ∣ x) whole (dvd-mul_left k e))
    far e k two whole above k-two (inr le) = let square : d * d ≤ e * k = product_grows d e k above le in absurd (omega arith)

    by : (e : ℕ) → 2 ≤ e → e ∣ n → (k : ℕ) → e * k ≡ n → (e < d) ⊎ (d ≤ e) → e ≡ n
    by e two en k whole (inl below) = absurd (none.none e two below en)
    by e two en zero whole (inr above) = absurd (omega arith)
    by e two en (suc zero) whole (inr above) = omega arith
    by e two en (suc (suc k)) whole (inr above) = absurd (far e (suc (suc k)) two whole above (omega arith) (cases_lt (suc (suc k)) d))

-- all primes are tried
pub end_by_limit : (n : ℕ) → IsDividedBelow [] n → HasNoOtherDivisor n
end_by_limit n d = record { whole = λ e two le en. absurd (beyond.none e two (omega (arith, le)) en) }
  where
    whole : (from : ℕ) → HasNoDivisorBelow (from + (10001 - from)) n → (from ≤ 10001) ⊎ (10001 < from) → HasNoDivisorBelow 10001 n
    whole from none (inl le) = subst (λ x. HasNoDivisorBelow x n) (let e : from + (10001 - from) ≡ 10001 = omega (arith, le) in e) none
    whole from none (inr lt) = record { none = λ e two below en. none.none e two (omega (arith, below, lt)) en }

    order : (d.from ≤ 10001) ⊎ (10001 < d.from)
    order = by (cases_lt 10001 d.from)
      where
        by : (10001 < d.from) ⊎ (d.from ≤ 10001) → (d.from ≤ 10001) ⊎ (10001 < d.from)
        by (inl lt) = inr lt
        by (inr le) = inl le

    beyond : HasNoDivisorBelow 10001 n
    beyond = whole d.from (skip_composite (10001 - d.from) d.from n d.below d.primes) order

-- what a list of all primes says of its first four
pub record AreNextFour (a b c d : ℕ) : Type 0 where
  pub first : (1 ≤ a) × (a < 2 ^ 16)
  pub second : (1 ≤ b) × (b < 2 ^ 16)
  pub third : (1 ≤ c) × (c < 2 ^ 16)
  pub fourth : (1 ≤ d) × (d < 2 ^ 16)

pub next_four : (a b c d : ℕ) (ps : List ℕ) (n : ℕ) → IsDividedBelow (a ∷ b ∷ c ∷ d ∷ ps) n → AreNextFour a b c d
next_four a b c d ps n divided = record {
  first = (omega (arith, one.two), omega (arith, one.within));
  second = (omega (arith, two.two), omega (arith, two.within));
  third = (omega (arith, three.two), omega (arith, three.within));
  fourth = (omega (arith, four.two), omega (arith, four.within));
}
  where
    -- nothing divides 1
    one_is_divided : (p : ℕ) (qs : List ℕ) → 2 ≤ p → holds_all_primes (suc p) qs ≡ true → IsDividedBelow qs 1
    one_is_divided p qs two all = record { from = suc p; two = omega (arith, two); below = record { none = λ e e-two lt en. let one : e ≡ 1 = eq-one_of_dvd-one en in omega (arith, e-two) }; primes = all }

    one : IsNextPrime a (b ∷ c ∷ d ∷ ps) n
    one = next_prime a _ n divided

    two : IsNextPrime b (c ∷ d ∷ ps) 1
    two = next_prime b _ 1 (one_is_divided a _ one.two one.primes)

    three : IsNextPrime c (d ∷ ps) 1
    three = next_prime c _ 1 (one_is_divided b _ two.two two.primes)

    four : IsNextPrime d ps 1
    four = next_prime d _ 1 (one_is_divided c _ three.two three.primes)

-- none of the first four divides n
pub without_four : (a b c d : ℕ) (ps : List ℕ) (n : ℕ) → (n % a ≢ 0) × (n % b ≢ 0) × (n % c ≢ 0) × (n % d ≢ 0) → IsDividedBelow (a ∷ b ∷ c ∷ d ∷ ps) n → IsDividedBelow ps n
without_four a b c d ps n h k = grind (arith, no_divisor_next)

-- four primes and the others
pub record StartsWithFour (a b c d : ℕ) (ps : List ℕ) : Type 0 where
  pub list : ps ≡ a ∷ b ∷ c ∷ d ∷ drop 4 ps
  pub others : take (length ps - 4) (drop 4 ps) ≡ drop 4 ps

pub starts_with_four : (ps : List ℕ) → 4 ≤ length ps → StartsWithFour (slice_index ps 0) (slice_index ps 1) (slice_index ps 2) (slice_index ps 3) ps
starts_with_four [] h = absurd (omega arith)
starts_with_four (a ∷ []) h = absurd (omega arith)
starts_with_four (a ∷ b ∷ []) h = absurd (omega arith)
starts_with_four (a ∷ b ∷ c ∷ []) h = absurd (omega arith)
starts_with_four (a ∷ b ∷ c ∷ d ∷ ps) h = record { list = refl; others = ap (λ n. take n ps) (let e : suc (suc (suc (suc (length ps)))) - 4 ≡ length ps = omega arith in e) ∙ take-length ps }

-- no number below the first of them divides n
pub divided_by_first : (ps : List ℕ) → 4 ≤ length ps → (n : ℕ) → IsDividedBelow ps n → HasNoDivisorBelow (slice_index ps 0) n
divided_by_first [] h n divided = absurd (omega arith)
divided_by_first (p ∷ ps) h n divided = (next_prime p ps n divided).below

-- fours below four are none
pub divided_by_none : (ps : List ℕ) → length ps < 4 → length ps % 4 ≡ 0 → (n : ℕ) → IsDividedBelow ps n → IsDividedBelow [] n
divided_by_none [] few fours n divided = divided
divided_by_none (p ∷ ps) few fours n divided = absurd (let one : length ps < 3 = omega (arith, few) in let bad : suc (length ps) % 4 ≡ 0 = fours in omega (arith, one, bad))
