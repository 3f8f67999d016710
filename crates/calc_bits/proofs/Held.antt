-- What is held: products, powers and sums, and what that says of one term.
use Rattle.calc_bits.proofs.Shared.{◌≡◌, ℕ, zero, suc, ◌+◌, ◌*◌, ◌^◌, ◌≤◌, ◌<◌, ◌++◌, pos, refl, sym, ap, ◌∙◌, subst, arith, nat_abs, ◌∣◌, mul-le, pow-add, pow-suc, pow-zero, mul_comm, Fraction}
use Rattle.calc_bits.proofs.Shared.{lowest, one_fraction, mul_pos, den_pos, Surd, surd_one, surd_times, surd_power, Parts, magnitude_over, root_above, mass_from, mass, IsHeld}
use Rattle.calc_bits.proofs.{MassLaws.{parts_scale, parts_append, parts_times, mass-append, mass_scale, mass_times}, Quotients.{cancel_le, cancel_right, magnitude_cross, den_divides, magnitude_is}}
use Rattle.calc_bits.proofs.{Quotients.{abs_cross}, RootsAbove.{root_least}}

-- ---- powers of surds

parts_one : Parts 1 surd_one
unfolding one_fraction
parts_one = record { positive = omega arith; whole = (den_divides (pos 1) 1 (omega arith), tt) }

pub power_once : (d : ℕ) → d ^ 1 ≡ d
power_once d = pow-suc d 0 ∙ ap (λ k. k * d) (pow-zero d) ∙ omega arith

pub parts_power : (d : ℕ) (v : Surd) (n : ℕ) → Parts d v → Parts (d ^ n) (surd_power v n)
parts_power d v zero h = subst (λ k. Parts k surd_one) (sym (pow-zero d)) parts_one
parts_power d v (suc zero) h = subst (λ k. Parts k v) (sym (power_once d)) h
parts_power d v (suc (suc n)) h = subst (λ k. Parts k (surd_power v (suc (suc n)))) (mul_comm d (d ^ suc n) ∙ sym (pow-suc d (suc n))) (parts_times d (d ^ suc n) v (surd_power v (suc n)) h (parts_power d v (suc n) h))

pub one_magnitude : magnitude_over 1 one_fraction ≡ 1
unfolding one_fraction
one_magnitude = magnitude_is 1 (lowest (pos 1) 1) 1 1 1 (den_divides (pos 1) 1 (omega arith)) (omega arith) (abs_cross (pos 1) 1 (omega arith)) refl

mass_one : mass_from 1 1 surd_one ≤ 1
mass_one = let l : root_above (magnitude_over 1 one_fraction * magnitude_over 1 one_fraction * 1) ≤ 1 = root_least _ 1 (omega (arith, ap (λ k. k * k * 1) one_magnitude)) in omega arith

power_split : (d n : ℕ) → d * d ^ suc n ≡ d ^ suc (suc n)
power_split d n = mul_comm d (d ^ suc n) ∙ sym (pow-suc d (suc n))

pub mass_power : (m e : ℕ) (v : Surd) (n : ℕ) → Parts e v → mass_from (m ^ n) (e ^ n) (surd_power v n) ≤ mass_from m e v ^ n
mass_power m e v zero h =
    subst (λ x. mass_from (m ^ 0) (e ^ 0) surd_one ≤ x) (sym (pow-zero (mass_from m e v)))
    (subst (λ x. mass_from x (e ^ 0) surd_one ≤ 1) (sym (pow-zero m)) (subst (λ x. mass_from 1 x surd_one ≤ 1) (sym (pow-zero e)) mass_one))
mass_power m e v (suc zero) h =
    subst (λ x. mass_from (m ^ 1) (e ^ 1) v ≤ x) (sym (power_once (mass_from m e v)))
    (subst (λ x. mass_from x (e ^ 1) v ≤ mass_from m e v) (sym (power_once m)) (subst (λ x. mass_from m x v ≤ mass_from m e v) (sym (power_once e)) (omega arith)))
mass_power m e v (suc (suc n)) h =
    let a : mass_from (m * m ^ suc n) (e * e ^ suc n) (surd_times v (surd_power v (suc n))) ≤ mass_from m e v * mass_from (m ^ suc n) (e ^ suc n) (surd_power v (suc n)) =
    mass_times m (m ^ suc n) e (e ^ suc n) v (surd_power v (suc n)) h (parts_power e v (suc n) h) in
    let b : mass_from (m ^ suc n) (e ^ suc n) (surd_power v (suc n)) ≤ mass_from m e v ^ suc n = mass_power m e v (suc n) h in
    let c : mass_from m e v * mass_from (m ^ suc n) (e ^ suc n) (surd_power v (suc n)) ≤ mass_from m e v * mass_from m e v ^ suc n = mul-le _ _ _ _ (omega arith) b in
    subst (λ x. mass_from (m ^ suc (suc n)) (e ^ suc (suc n)) (surd_power v (suc (suc n))) ≤ x) (power_split (mass_from m e v) n)
    (subst (λ x. mass_from x (e ^ suc (suc n)) (surd_power v (suc (suc n))) ≤ mass_from m e v * mass_from m e v ^ suc n) (power_split m n)
    (subst (λ x. mass_from (m * m ^ suc n) x (surd_power v (suc (suc n))) ≤ mass_from m e v * mass_from m e v ^ suc n) (power_split e n) (omega arith)))

-- ---- held

pub two_powers : (a b i j h k : ℕ) → a ≤ i * 2 ^ h → b ≤ j * 2 ^ k → a * b ≤ (i * j) * 2 ^ (h + k)
two_powers a b i j h k x y = subst (λ z. a * b ≤ (i * j) * z) (sym (pow-add 2 h k)) (let l : a * b ≤ (i * 2 ^ h) * (j * 2 ^ k) = mul-le a b (i * 2 ^ h) (j * 2 ^ k) x y in omega arith)

pub held_times : (v w : Surd) (h k l n : ℕ) → IsHeld v h l → IsHeld w k n → IsHeld (surd_times v w) (h + k) (l + n)
held_times v w h k l n a b = record {
  denominator = a.denominator * b.denominator;
  parts = parts_times a.denominator b.denominator v w a.parts b.parts;
  low = let x : a.denominator * b.denominator ≤ 2 ^ l * 2 ^ n = mul-le a.denominator b.denominator (2 ^ l) (2 ^ n) a.low b.low in omega (arith, pow-add 2 l n);
  scale = a.scale * b.scale;
  scaled = parts_times a.scale b.scale v w a.scaled b.scaled;
  high =
      let x : mass (a.scale * b.scale) (surd_times v w) ≤ mass a.scale v * mass b.scale w = mass_times a.scale b.scale a.scale b.scale v w a.scaled b.scaled in
      let y : mass a.scale v * mass b.scale w ≤ (a.scale * b.scale) * 2 ^ (h + k) = two_powers (mass a.scale v) (mass b.scale w) a.scale b.scale h k a.high b.high in
      omega arith;
}

-- sums, where the powers of two add up
pub held_append : (v w : Surd) (h k l n g : ℕ) → IsHeld v h l → IsHeld w k n → 2 ^ h + 2 ^ k ≤ 2 ^ g → IsHeld (v ++ w) g (l + n)
held_append v w h k l n g a b s = record {
  denominator = b.denominator * a.denominator;
  parts = both b.denominator a.denominator a.parts b.parts;
  low = let x : b.denominator * a.denominator ≤ 2 ^ n * 2 ^ l = mul-le b.denominator a.denominator (2 ^ n) (2 ^ l) b.low a.low in omega (arith, pow-add 2 l n);
  scale = b.scale * a.scale;
  scaled = both b.scale a.scale a.scaled b.scaled;
  high =
      let x : mass (b.scale * a.scale) v ≤ b.scale * mass a.scale v = mass_scale b.scale a.scale a.scale v a.scaled in
      let y : mass (a.scale * b.scale) w ≤ a.scale * mass b.scale w = mass_scale a.scale b.scale b.scale w b.scaled in
      let z : mass (b.scale * a.scale) w ≤ a.scale * mass b.scale w = subst (λ c. mass c w ≤ a.scale * mass b.scale w) (mul_comm a.scale b.scale) y in
      let c : mass (b.scale * a.scale) (v ++ w) ≡ mass (b.scale * a.scale) v + mass (b.scale * a.scale) w = mass-append (b.scale * a.scale) (b.scale * a.scale) v w in
      let p : b.scale * mass a.scale v ≤ b.scale * (a.scale * 2 ^ h) = mul-le _ _ _ _ (omega arith) a.high in
      let q : a.scale * mass b.scale w ≤ a.scale * (b.scale * 2 ^ k) = mul-le _ _ _ _ (omega arith) b.high in
      let r : (b.scale * a.scale) * (2 ^ h + 2 ^ k) ≤ (b.scale * a.scale) * 2 ^ g = mul-le _ _ _ _ (omega arith) s in
      chain (mass (b.scale * a.scale) (v ++ w)) (mass (b.scale * a.scale) v) (mass (b.scale * a.scale) w) a.scale b.scale (mass a.scale v) (mass b.scale w) (2 ^ h) (2 ^ k) (2 ^ g) c x z p q r;
}
  where
    both : (d e : ℕ) → Parts e v → Parts d w → Parts (d * e) (v ++ w)
    both d e p q = parts_append (d * e) v w (parts_scale d e v q.positive p) (subst (λ c. Parts c w) (mul_comm e d) (parts_scale e d w p.positive q))

    chain : (t x y i j u w p q r : ℕ) → t ≡ x + y → x ≤ j * u → y ≤ i * w → j * u ≤ j * (i * p) → i * w ≤ i * (j * q) → (j * i) * (p + q) ≤ (j * i) * r → t ≤ (j * i) * r
    chain t x y i j u w p q r e a b c d f = omega arith

pub power_bound : (a i h n : ℕ) → a ≤ i * 2 ^ h → a ^ n ≤ i ^ n * 2 ^ (n * h)
power_bound a i h zero x =
    let e : a ^ 0 ≡ 1 = pow-zero a in
    let z : 0 * h ≡ 0 = omega arith in
    let f : i ^ 0 * 2 ^ (0 * h) ≡ 1 = (λ k. pow-zero i k * 2 ^ (0 * h)) ∙ ap (λ k. 1 * 2 ^ k) z ∙ ap (λ k. 1 * k) (pow-zero 2) in
    omega arith
power_bound a i h (suc n) x =
    let y : a ^ n ≤ i ^ n * 2 ^ (n * h) = power_bound a i h n x in
    let z : a ^ n * a ≤ (i ^ n * i) * 2 ^ (n * h + h) = two_powers (a ^ n) a (i ^ n) i (n * h) h y x in
    subst (λ k. k ≤ i ^ suc n * 2 ^ (suc n * h)) (sym (pow-suc a n)) (subst (λ k. a ^ n * a ≤ k * 2 ^ (suc n * h)) (sym (pow-suc i n)) (subst (λ k. a ^ n * a ≤ (i ^ n * i) * 2 ^ k) (omega arith) z))

one_power : (n : ℕ) → 1 ^ n ≡ 1
one_power zero = pow-zero 1
one_power (suc n) = pow-suc 1 n ∙ omega (arith, one_power n)

pub low_power : (d l n : ℕ) → d ≤ 2 ^ l → d ^ n ≤ 2 ^ (n * l)
low_power d l n a =
    let x : d ^ n ≤ 1 ^ n * 2 ^ (n * l) = power_bound d 1 l n (let y : d ≤ 2 ^ l = a in omega arith) in
    let e : 1 ^ n ≡ 1 = one_power n in
    one_times (d ^ n) (1 ^ n) (2 ^ (n * l)) e x
  where
    one_times : (a b c : ℕ) → b ≡ 1 → a ≤ b * c → a ≤ c
    one_times a b c e h = let f : b * c ≡ 1 * c = ap (λ k. k * c) e in omega arith

pub held_power : (v : Surd) (h l n : ℕ) → IsHeld v h l → IsHeld (surd_power v n) (n * h) (n * l)
held_power v h l n a = record {
  denominator = a.denominator ^ n;
  parts = parts_power a.denominator v n a.parts;
  low = low_power a.denominator l n a.low;
  scale = a.scale ^ n;
  scaled = parts_power a.scale v n a.scaled;
  high =
      let x : mass_from (a.scale ^ n) (a.scale ^ n) (surd_power v n) ≤ mass a.scale v ^ n = mass_power a.scale a.scale v n a.scaled in
      let y : mass a.scale v ^ n ≤ a.scale ^ n * 2 ^ (n * h) = power_bound (mass a.scale v) a.scale h n a.high in
      omega arith;
}

-- ---- one term of what is held

-- d times its magnitude, squared and times its radicand, is at most the square of d * 2 ^ h
pub square_held : (n r d e k w h : ℕ) → 0 < e → n * e ≡ d * k → k * k * r ≤ w * w → w ≤ e * 2 ^ h → n * n * r ≤ (d * 2 ^ h) * (d * 2 ^ h)
square_held n r d e k w h he f a b = by (2 ^ h) b
  where
    by : (p : ℕ) → w ≤ e * p → n * n * r ≤ (d * p) * (d * p)
    by p b =
        let x : w * w ≤ (e * p) * (e * p) = mul-le w w (e * p) (e * p) b b in
        let y : (k * k * r) * (d * d) ≤ ((e * p) * (e * p)) * (d * d) = mul-le (k * k * r) (d * d) ((e * p) * (e * p)) (d * d) (omega arith) (omega arith) in
        cancel_le (n * n * r) ((d * p) * (d * p)) (e * e) (mul_pos e e he he) (omega (arith, y, ap (λ z. z * z * r) f))

-- over two common denominators, magnitudes are as the denominators
pub magnitudes_cross : (d e : ℕ) (q : Fraction) → q.den ∣ d → q.den ∣ e → magnitude_over d q * e ≡ d * magnitude_over e q
magnitudes_cross d e q h k =
    cancel_right (magnitude_over d q * e) (d * magnitude_over e q) q.den (den_pos q) (chain (magnitude_over d q) (magnitude_over e q) d e q.den (nat_abs q.num) (magnitude_cross d q h) (magnitude_cross e q k))
  where
    chain : (m n d e y a : ℕ) → m * y ≡ a * d → n * y ≡ a * e → (m * e) * y ≡ (d * n) * y
    chain m n d e y a f g = omega (arith, ap (λ z. z * e) f, ap (λ z. z * d) g)
