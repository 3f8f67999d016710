-- Scales, sums and products of masses.
use Rattle.calc_bits.proofs.Shared.{◌≡◌, ℕ, ◌+◌, ◌*◌, ◌≤◌, ◌<◌, ◌⊎◌, max, min, [], ◌∷◌, ◌++◌, map, sym, ap, ◌∙◌, subst, arith, ◌∣◌, dvd_trans, dvd-mul_left, times, mul_pos, Term, Surd, term_times}
use Rattle.calc_bits.proofs.{Shared.{surd_times, AreWholeOver, Parts, magnitude_over, root_above, term_mass, mass_from, IsHeld}, Quotients.{magnitude_scale, magnitude_times, times_den}}
use Rattle.calc_bits.proofs.RootsAbove.{root_times, root_scale}

-- ---- denominators

whole_scale : (j d : ℕ) (v : Surd) → AreWholeOver d v → AreWholeOver (j * d) v
whole_scale j d [] h = tt
whole_scale j d (t ∷ v) (h, hs) = (dvd_trans t.coefficient.den h (dvd-mul_left d j), whole_scale j d v hs)

pub parts_scale : (j d : ℕ) (v : Surd) → 0 < j → Parts d v → Parts (j * d) v
parts_scale j d v h p = record { positive = mul_pos j d h p.positive; whole = whole_scale j d v p.whole }

whole_append : (d : ℕ) (v w : Surd) → AreWholeOver d v → AreWholeOver d w → AreWholeOver d (v ++ w)
whole_append d [] w h k = k
whole_append d (t ∷ v) w (h, hs) k = (h, whole_append d v w hs k)

pub parts_append : (d : ℕ) (v w : Surd) → Parts d v → Parts d w → Parts d (v ++ w)
parts_append d v w h k = record { positive = h.positive; whole = whole_append d v w h.whole k.whole }

whole_row : (d e : ℕ) (t : Term) (w : Surd) → t.coefficient.den ∣ d → AreWholeOver e w → AreWholeOver (d * e) (map (term_times t) w)
whole_row d e t [] h k = tt
whole_row d e t (u ∷ w) h (k, ks) = (times_den t.coefficient u.coefficient d e h k, whole_row d e t w h ks)

whole_times : (d e : ℕ) (v w : Surd) → AreWholeOver d v → AreWholeOver e w → AreWholeOver (d * e) (surd_times v w)
whole_times d e [] w h k = tt
whole_times d e (t ∷ v) w (h, hs) k = whole_append (d * e) (map (term_times t) w) (surd_times v w) (whole_row d e t w h k) (whole_times d e v w hs k)

pub parts_times : (d e : ℕ) (v w : Surd) → Parts d v → Parts e w → Parts (d * e) (surd_times v w)
parts_times d e v w h k = record { positive = mul_pos d e h.positive k.positive; whole = whole_times d e v w h.whole k.whole }

-- ---- masses of sums

pub mass-append : (m e : ℕ) (v w : Surd) → mass_from m e (v ++ w) ≡ mass_from m e v + mass_from m e w
mass-append m e [] w = omega arith
mass-append m e (t ∷ v) w = let h : mass_from m e (v ++ w) ≡ mass_from m e v + mass_from m e w = mass-append m e v w in omega arith

-- ---- scales

scaled_max : (j m u r s : ℕ) → s ≤ j * r → u ≡ s → max (j * m) u ≤ j * max m r
scaled_max j m u r s h e = grind arith

scaled_square : (j n k r : ℕ) → k ≡ j * n → k * k * r ≡ j * j * (n * n * r)
scaled_square j n k r e = ap (λ x. x * x * r) e ∙ omega arith

term_scale : (j m e : ℕ) (t : Term) → t.coefficient.den ∣ e → term_mass (j * m) (j * e) t ≤ j * term_mass m e t
term_scale j m e t h =
    let n : ℕ = magnitude_over e t.coefficient in
    let k : ℕ = magnitude_over (j * e) t.coefficient in
    scaled_max j m (root_above (k * k * t.radicand)) (root_above (n * n * t.radicand)) (root_above (j * j * (n * n * t.radicand))) (root_scale j (n * n * t.radicand))
    (ap root_above (scaled_square j n k t.radicand (magnitude_scale j e t.coefficient h)))

mass_scale_whole : (j m e : ℕ) (v : Surd) → AreWholeOver e v → mass_from (j * m) (j * e) v ≤ j * mass_from m e v
mass_scale_whole j m e [] h = omega arith
mass_scale_whole j m e (t ∷ v) (h, hs) = grind (arith, term_scale, (mass_scale_whole j m e v hs))

pub mass_scale : (j m e : ℕ) (v : Surd) → Parts e v → mass_from (j * m) (j * e) v ≤ j * mass_from m e v
mass_scale j m e v h = mass_scale_whole j m e v h.whole

-- ---- products

times_max : (m n u w x : ℕ) → x ≤ u * w → max (m * n) x ≤ max m u * max n w
times_max m n u w x h = grind arith

times_square : (a b k r s : ℕ) → k ≡ a * b → k * k * (r * s) ≡ (a * a * r) * (b * b * s)
times_square a b k r s e = ap (λ x. x * x * (r * s)) e ∙ omega arith

term_times_mass : (m n d e : ℕ) (t u : Term) → t.coefficient.den ∣ d → u.coefficient.den ∣ e → term_mass (m * n) (d * e) (term_times t u) ≤ term_mass m d t * term_mass n e u
term_times_mass m n d e t u h k =
    let a : ℕ = magnitude_over d t.coefficient in
    let b : ℕ = magnitude_over e u.coefficient in
    let c : ℕ = magnitude_over (d * e) (times t.coefficient u.coefficient) in
    times_max m n (root_above (a * a * t.radicand)) (root_above (b * b * u.radicand)) (root_above (c * c * (t.radicand * u.radicand)))
    (subst (λ x. root_above x ≤ root_above (a * a * t.radicand) * root_above (b * b * u.radicand))
    (sym (times_square a b c t.radicand u.radicand (magnitude_times t.coefficient u.coefficient d e h k))) (root_times (a * a * t.radicand) (b * b * u.radicand)))

row_mass : (m n d e : ℕ) (t : Term) (w : Surd) → t.coefficient.den ∣ d → AreWholeOver e w → mass_from (m * n) (d * e) (map (term_times t) w) ≤ term_mass m d t * mass_from n e w
row_mass m n d e t [] h k = omega arith
row_mass m n d e t (u ∷ w) h (k, ks) = grind (arith, term_times_mass, (row_mass m n d e t w h ks))

mass_times_whole : (m n d e : ℕ) (v w : Surd) → AreWholeOver d v → AreWholeOver e w → mass_from (m * n) (d * e) (surd_times v w) ≤ mass_from m d v * mass_from n e w
mass_times_whole m n d e [] w h k = omega arith
mass_times_whole m n d e (t ∷ v) w (h, hs) k = grind (arith, row_mass, mass-append, (mass_times_whole m n d e v w hs k))

pub mass_times : (m n d e : ℕ) (v w : Surd) → Parts d v → Parts e w → mass_from (m * n) (d * e) (surd_times v w) ≤ mass_from m d v * mass_from n e w
mass_times m n d e v w h k = mass_times_whole m n d e v w h.whole k.whole

-- ---- held

order : (a b : ℕ) → ((min a b ≡ a) ⊎ (min a b ≡ b))
order a b = grind arith

-- what bounds one number and what bounds the other, together
pub held_meet : (v : Surd) (h k l n : ℕ) → IsHeld v h l → IsHeld v k n → IsHeld v (min h k) (min l n)
held_meet v h k l n a b = grind (arith, order)
