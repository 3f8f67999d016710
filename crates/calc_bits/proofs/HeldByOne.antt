-- The same by one denominator, a term counted by its magnitude alone.
use Rattle.calc_bits.proofs.Shared.{◌≡◌, ℕ, suc, ◌+◌, ◌*◌, ◌^◌, ◌≤◌, ◌++◌, ◌∙◌, subst, arith, mul-le, pow-add, pow-suc, mul_comm, Surd, surd_times, surd_power, Parts, mass_from, IsHeldByOne}
use Rattle.calc_bits.proofs.{Held.{two_powers, power_bound, low_power, parts_power, mass_power}, MassLaws.{parts_scale, parts_append, parts_times, mass-append, mass_scale, mass_times}}

pub times_by_one : (v w : Surd) (h k l n : ℕ) → IsHeldByOne v h l → IsHeldByOne w k n → IsHeldByOne (surd_times v w) (h + k) (l + n)
times_by_one v w h k l n a b = record {
  denominator = a.denominator * b.denominator;
  parts = parts_times a.denominator b.denominator v w a.parts b.parts;
  low = let x : a.denominator * b.denominator ≤ 2 ^ l * 2 ^ n = mul-le a.denominator b.denominator (2 ^ l) (2 ^ n) a.low b.low in omega (arith, pow-add 2 l n);
  high =
      let x : mass_from 0 (a.denominator * b.denominator) (surd_times v w) ≤ mass_from 0 a.denominator v * mass_from 0 b.denominator w = mass_times 0 0 a.denominator b.denominator v w a.parts b.parts in
      let y : mass_from 0 a.denominator v * mass_from 0 b.denominator w ≤ (a.denominator * b.denominator) * 2 ^ (h + k) = two_powers (mass_from 0 a.denominator v) (mass_from 0 b.denominator w) a.denominator b.denominator h k a.high b.high in
      omega arith;
}

scaled_zero : (j e : ℕ) (v : Surd) → Parts e v → mass_from 0 (j * e) v ≤ j * mass_from 0 e v
scaled_zero j e v p = let z : j * 0 ≡ 0 = omega arith in subst (λ m. mass_from m (j * e) v ≤ j * mass_from 0 e v) z (mass_scale j 0 e v p)

pub append_by_one : (v w : Surd) (h k l n g : ℕ) → IsHeldByOne v h l → IsHeldByOne w k n → 2 ^ h + 2 ^ k ≤ 2 ^ g → IsHeldByOne (v ++ w) g (l + n)
append_by_one v w h k l n g a b s = record {
  denominator = j * i;
  parts = parts_append (j * i) v w (parts_scale j i v b.parts.positive a.parts) (subst (λ c. Parts c w) (mul_comm i j) (parts_scale i j w a.parts.positive b.parts));
  low = let x : j * i ≤ 2 ^ n * 2 ^ l = mul-le j i (2 ^ n) (2 ^ l) b.low a.low in omega (arith, pow-add 2 l n);
  high =
      let x : mass_from 0 (j * i) v ≤ j * mass_from 0 i v = scaled_zero j i v a.parts in
      let y : mass_from 0 (i * j) w ≤ i * mass_from 0 j w = scaled_zero i j w b.parts in
      let z : mass_from 0 (j * i) w ≤ i * mass_from 0 j w = subst (λ c. mass_from 0 c w ≤ i * mass_from 0 j w) (mul_comm i j) y in
      let c : mass_from 0 (j * i) (v ++ w) ≡ mass_from 0 (j * i) v + mass_from 0 (j * i) w = mass-append 0 (j * i) v w in
      let p : j * mass_from 0 i v ≤ j * (i * 2 ^ h) = mul-le j (mass_from 0 i v) j (i * 2 ^ h) (omega arith) a.high in
      let q : i * mass_from 0 j w ≤ i * (j * 2 ^ k) = mul-le i (mass_from 0 j w) i (j * 2 ^ k) (omega arith) b.high in
      let r : (j * i) * (2 ^ h + 2 ^ k) ≤ (j * i) * 2 ^ g = mul-le (j * i) (2 ^ h + 2 ^ k) (j * i) (2 ^ g) (omega arith) s in
      chain (mass_from 0 (j * i) (v ++ w)) (mass_from 0 (j * i) v) (mass_from 0 (j * i) w) i j (mass_from 0 i v) (mass_from 0 j w) (2 ^ h) (2 ^ k) (2 ^ g) c x z p q r;
}
  where
    i : ℕ
    i = a.denominator

    j : ℕ
    j = b.denominator

    chain : (t x y i j u w p q r : ℕ) → t ≡ x + y → x ≤ j * u → y ≤ i * w → j * u ≤ j * (i * p) → i * w ≤ i * (j * q) → (j * i) * (p + q) ≤ (j * i) * r → t ≤ (j * i) * r
    chain t x y i j u w p q r e a b c d f = omega arith

zero_power : (n : ℕ) → 0 ^ suc n ≡ 0
zero_power n = pow-suc 0 n ∙ omega arith

pub power_by_one : (v : Surd) (h l n : ℕ) → IsHeldByOne v h l → IsHeldByOne (surd_power v (suc n)) (suc n * h) (suc n * l)
power_by_one v h l n a = record {
  denominator = a.denominator ^ suc n;
  parts = parts_power a.denominator v (suc n) a.parts;
  low = low_power a.denominator l (suc n) a.low;
  high =
      let x : mass_from (0 ^ suc n) (a.denominator ^ suc n) (surd_power v (suc n)) ≤ mass_from 0 a.denominator v ^ suc n = mass_power 0 a.denominator v (suc n) a.parts in
      let z : mass_from 0 (a.denominator ^ suc n) (surd_power v (suc n)) ≤ mass_from 0 a.denominator v ^ suc n = subst (λ m. mass_from m (a.denominator ^ suc n) (surd_power v (suc n)) ≤ mass_from 0 a.denominator v ^ suc n) (zero_power n) x in
      let y : mass_from 0 a.denominator v ^ suc n ≤ a.denominator ^ suc n * 2 ^ (suc n * h) = power_bound (mass_from 0 a.denominator v) a.denominator h (suc n) a.high in
      omega arith;
}
