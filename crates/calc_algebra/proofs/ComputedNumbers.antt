-- What the computed functions on naturals give.
use Rattle.calc_algebra.proofs.Shared.{◌≡◌, ℕ, zero, suc, ◌+◌, ◌*◌, ◌^◌, ◌≤◌, ◌<◌, true, refl, arith, inl, inr, ◌/◌, ◌%◌, ap, sym, subst, ◌⊎◌, mod-eq-zero_of_dvd, dvd_of_mod-eq-zero, dvd_trans}
use Rattle.calc_algebra.proofs.Shared.{square_root, trial_limit, without, left_from, left_of, IsTried, empty_product, one_factor_more, are_alike, dvd-mul_right, mul-div_cancel', ◌∣◌}
use Rattle.calc_algebra.proofs.SquareClassLaws.{alike_from, alike_true}
use Rattle.calc_terms.proofs.SmallLaws.{positive_factor as factor_pos}

pub below_power : (k : ℕ) → k < 2 ^ k
below_power zero = omega arith
below_power (suc k) = let h = below_power k in let e : 2 ^ suc k ≡ 2 * 2 ^ k = doubled k in omega arith
  where
    doubled : (k : ℕ) → 2 ^ suc k ≡ 2 * 2 ^ k
    doubled k = grind arith

pub alike_words : (r s : ℕ) → are_alike r s ≡ true → (t : ℕ) × (0 < t) × (t * t ≡ r * s)
alike_words r s h = let a = alike_from r s h in (square_root (r * s), a.positive, a.square)

pub alike_test : (r s : ℕ) → (t : ℕ) × (0 < t) × (t * t ≡ r * s) → are_alike r s ≡ true
alike_test r s (t, p, e) = alike_true r s t (record { square = e; positive = p })

-- ---- trial division

smaller_quotient : (steps d q r : ℕ) → 2 ≤ d → d * q ≡ r → r < 2 ^ suc steps → q < 2 ^ steps
smaller_quotient steps d q r h e l = grind arith

without_free : (steps d r : ℕ) → 2 ≤ d → 0 < r → r < 2 ^ steps → d ∣ without steps d r → ⊥
without_free zero d r h p l x = absurd (omega arith)
without_free (suc steps) d r h p l x = by (r % d) refl (λ p' l'. without_free steps d (r / d) h p' l') x
  where
    by : (m : ℕ) → r % d ≡ m → (0 < r / d → r / d < 2 ^ steps → d ∣ without steps d (r / d) → ⊥) → d ∣ (elim m [ zero ↦ without steps d (r / d) | suc m' ↦ r ]) → ⊥
    by zero e go x =
        let f = mul-div_cancel' d (dvd_of_mod-eq-zero d e) in
        go (factor_pos d (r / d) r f p) (smaller_quotient steps d (r / d) r h f l) x
    by (suc m) e go x = let z = mod-eq-zero_of_dvd d x in absurd (omega arith)

without_tried : (steps d r : ℕ) → 2 ≤ d → d ≤ trial_limit → (m : ℕ) × IsTried m × (r ≡ without steps d r * m)
without_tried zero d r h k = (1, empty_product, omega arith)
without_tried (suc steps) d r h k = by (r % d) refl (without_tried steps d (r / d) h k)
  where
    by : (m : ℕ) → r % d ≡ m → (n : ℕ) × IsTried n × (r / d ≡ without steps d (r / d) * n)
        → (n : ℕ) × IsTried n × (r ≡ (elim m [ zero ↦ without steps d (r / d) | suc m' ↦ r ]) * n)
    by zero e (n, t, f) = (d * n, one_factor_more h k t, product (without steps d (r / d)) n (mul-div_cancel' d (dvd_of_mod-eq-zero d e)) f)
      where
        product : (w n : ℕ) → d * (r / d) ≡ r → r / d ≡ w * n → r ≡ w * (d * n)
        product w n g f = omega (arith, ap (λ x. d * x) f)
    by (suc m) e go = (1, empty_product, omega arith)

-- x is r without its divisors from d on, as many as there are steps
record LeftOf (steps d r x : ℕ) : Type 0 where
  positive : 0 < x
  free : (e : ℕ) → d ≤ e → e < d + steps → e ∣ x → ⊥
  tried : (m : ℕ) × IsTried m × (r ≡ x * m)

tried_times : {m n : ℕ} → IsTried m → IsTried n → IsTried (m * n)
tried_times {n = n} empty_product u = subst IsTried (omega arith) u
tried_times {n = n} (one_factor_more {d} {m} h k t) u = subst IsTried (omega arith) (one_factor_more h k (tried_times t u))

free_from : (steps d w x : ℕ) → LeftOf steps (suc d) w x → (d ∣ w → ⊥) → (e : ℕ) → d ≤ e → e < d + suc steps → e ∣ x → ⊥
free_from steps d w x l none e a b y = by (order d e a)
  where
    order : (d e : ℕ) → d ≤ e → (d ≡ e) ⊎ (suc d ≤ e)
    order d e a = grind arith

    x_divides : x ∣ w
    x_divides = let (m, t, g) = l.tried in subst (λ z. x ∣ z) (sym g) (dvd-mul_right x m)

    by : (d ≡ e) ⊎ (suc d ≤ e) → ⊥
    by (inl q) = none (dvd_trans d (subst (λ z. z ∣ x) (sym q) y) x_divides)
    by (inr q) = l.free e q (omega arith) y

left_from_is : (steps d r : ℕ) → 2 ≤ d → d + steps ≤ trial_limit + 1 → 0 < r → LeftOf steps d r (left_from steps d r)
left_from_is zero d r h k p = record { positive = p; free = λ e a b x. absurd (omega arith); tried = (1, empty_product, omega arith) }
left_from_is (suc steps) d r h k p =
    let (n, u, f) = without_tried r d r h (omega arith) in
    let w : ℕ = without r d r in
    let l = left_from_is steps (suc d) w (omega arith) (omega arith) (factor_pos n w r (omega (arith, f)) p) in
    let (m, t, g) = l.tried in
    record {
      positive = l.positive;
      free = free_from steps d w (left_from steps (suc d) w) l (without_free r d r h p (below_power r));
      tried = (m * n, tried_times {m = m} {n = n} t u, joined (left_from steps (suc d) w) w m n r f g);
    }
  where
    joined : (x w m n r : ℕ) → r ≡ w * n → w ≡ x * m → r ≡ x * (m * n)
    joined x w m n r f g = omega (arith, ap (λ y. y * n) g)

left_of_is : (r : ℕ) → 0 < r → LeftOf 9999 2 r (left_of r)
unfolding left_of
left_of_is r p = left_from_is 9999 2 r (omega arith) (omega arith) p

pub left_of_free : (r d : ℕ) → 0 < r → 2 ≤ d → d ≤ trial_limit → d ∣ left_of r → ⊥
left_of_free r d p a b x = (left_of_is r p).free d a (omega arith) x

pub left_of_tried : (r : ℕ) → 0 < r → (m : ℕ) × IsTried m × (r ≡ left_of r * m)
left_of_tried r p = (left_of_is r p).tried
