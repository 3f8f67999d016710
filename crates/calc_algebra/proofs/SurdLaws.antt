-- Sums, multiples, products and powers of surds, up to equality at every number.
use Rattle.calc_algebra.proofs.Shared.{ℕ, zero, suc, ◌*◌, ◌≡◌, ◌<◌, pos, ◌∷◌, ◌++◌, map, Bool, true, ◌==◌, ◌&&◌, nat_le, if◌then◌else◌, refl, sym, ap, ◌∙◌, arith, append_assoc, []}
use Rattle.calc_algebra.proofs.Shared.{append-nil, eqb-true, leb-true, and_parts, times_comm, times_assoc, times_plus, zero_plus, zero_times, one_times, Fraction, lowest, plus, times, zero_fraction}
use Rattle.calc_algebra.proofs.Shared.{one_fraction, plus_comm, plus_assoc, same_lowest, times_lowest, mul_pos, quotient, surd_of, Term, Surd, term, surd_one, term_scale, surd_scale}
use Rattle.calc_algebra.proofs.Shared.{term_times, surd_times, surd_power, term_share, class_coefficient, Same, mul_assoc, mul_comm, one-mul}
pub use Rattle.std.proofs.lemmas.List.{map-append as map-append'}

-- the same at every number, whether it occurs or not
pub record Agree (v w : Surd) : Type 0 where
  pub at : (s : ℕ) → class_coefficient v s ≡ class_coefficient w s

pub Agree-refl : (v : Surd) → Agree v v
Agree-refl v = record { at = λ s. refl }

pub Agree-sym : {v w : Surd} → Agree v w → Agree w v
Agree-sym a = record { at = λ s. sym (a.at s) }

pub Agree-trans : {u v w : Surd} → Agree u v → Agree v w → Agree u w
Agree-trans a b = record { at = λ s. a.at s ∙ b.at s }

pub Agree-eq : {v w : Surd} → v ≡ w → Agree v w
Agree-eq {v} {w} e = record { at = λ s. ap (λ x. class_coefficient x s) e }

pub Agree-Same : {v w : Surd} → Agree v w → Same v w
Agree-Same a = record { of_first = λ s h. a.at s; of_second = λ s h. a.at s }

-- ---- sums
pub class_coefficient-append : (v w : Surd) (s : ℕ) → class_coefficient (v ++ w) s ≡ plus (class_coefficient v s) (class_coefficient w s)
class_coefficient-append [] w s = sym (zero_plus (class_coefficient w s))
class_coefficient-append (t ∷ v) w s = ap (plus (term_share t s)) (class_coefficient-append v w s) ∙ sym (plus_assoc (term_share t s) (class_coefficient v s) (class_coefficient w s))

pub Agree-append : {v v' w w' : Surd} → Agree v v' → Agree w w' → Agree (v ++ w) (v' ++ w')
Agree-append {v} {v'} {w} {w'} a b = record { at = λ s. class_coefficient-append v w s ∙ (λ i. plus (a.at s i) (b.at s i)) ∙ sym (class_coefficient-append v' w' s) }

pub append_comm : (v w : Surd) → Agree (v ++ w) (w ++ v)
append_comm v w = record { at = λ s. class_coefficient-append v w s ∙ plus_comm (class_coefficient v s) (class_coefficient w s) ∙ sym (class_coefficient-append w v s) }

-- ---- scaling
pub times_zero : (a : Fraction) → times a zero_fraction ≡ zero_fraction
times_zero a = times_comm a zero_fraction ∙ zero_times a

term_share-term_scale : (c : Fraction) (t : Term) (s : ℕ) → term_share (term_scale c t) s ≡ times c (term_share t s)
term_share-term_scale c t s = grind (arith, times_assoc, times_zero)

pub class_coefficient-surd_scale : (c : Fraction) (v : Surd) (s : ℕ) → class_coefficient (surd_scale c v) s ≡ times c (class_coefficient v s)
class_coefficient-surd_scale c [] s = sym (times_zero c)
class_coefficient-surd_scale c (t ∷ v) s = (λ i. plus (term_share-term_scale c t s i) (class_coefficient-surd_scale c v s i)) ∙ sym (times_plus c (term_share t s) (class_coefficient v s))

pub Agree-surd_scale : (c : Fraction) {v w : Surd} → Agree v w → Agree (surd_scale c v) (surd_scale c w)
Agree-surd_scale c {v} {w} a = record { at = λ s. class_coefficient-surd_scale c v s ∙ ap (times c) (a.at s) ∙ sym (class_coefficient-surd_scale c w s) }

-- ---- products

pub surd_times-append : (u v w : Surd) → surd_times (u ++ v) w ≡ surd_times u w ++ surd_times v w
surd_times-append [] v w = refl
surd_times-append (t ∷ u) v w = ap (λ x. map (term_times t) w ++ x) (surd_times-append u v w) ∙ sym (append_assoc (map (term_times t) w) (surd_times u w) (surd_times v w))

term_times_assoc : (t u x : Term) → term_times (term_times t u) x ≡ term_times t (term_times u x)
term_times_assoc t u x = λ i. term (times_assoc t.coefficient u.coefficient x.coefficient i) (mul_assoc t.radicand u.radicand x.radicand i)

map_times : (t u : Term) (w : Surd) → map (term_times (term_times t u)) w ≡ map (term_times t) (map (term_times u) w)
map_times t u [] = refl
map_times t u (x ∷ w) = λ i. term_times_assoc t u x i ∷ map_times t u w i

pub surd_times-map : (t : Term) (v w : Surd) → surd_times (map (term_times t) v) w ≡ map (term_times t) (surd_times v w)
surd_times-map t [] w = refl
surd_times-map t (u ∷ v) w = (λ i. map_times t u w i ++ surd_times-map t v w i) ∙ sym (map-append' (term_times t) (map (term_times u) w) (surd_times v w))

pub surd_times_assoc : (u v w : Surd) → surd_times (surd_times u v) w ≡ surd_times u (surd_times v w)
surd_times_assoc [] v w = refl
surd_times_assoc (t ∷ u) v w = surd_times-append (map (term_times t) v) (surd_times u v) w ∙ (λ i. surd_times-map t v w i ++ surd_times_assoc u v w i)

one_term : (t : Term) → term_times (term one_fraction 1) t ≡ t
one_term t = λ i. term (one_times t.coefficient i) (one-mul t.radicand i)

map_one : (v : Surd) → map (term_times (term one_fraction 1)) v ≡ v
map_one [] = refl
map_one (t ∷ v) = λ i. one_term t i ∷ map_one v i

pub surd_times-surd_one : (v : Surd) → surd_times surd_one v ≡ v
surd_times-surd_one v = append-nil (map (term_times (term one_fraction 1)) v) ∙ map_one v

pub times_exchange : (q c a x : Fraction) → times (times q c) (times a x) ≡ times (times q a) (times c x)
times_exchange q c a x = grind (arith, times_assoc, times_comm)

ratio_split : (t a s : ℕ) → 0 < a → 0 < s → quotient t s ≡ times (lowest (pos a) 1) (quotient t (a * s))
ratio_split t a s ha hs = grind (arith, same_lowest, mul_pos, times_lowest)

regrouped : (a b s : ℕ) → a * b * s ≡ b * (a * s)
regrouped a b s = omega arith

alike_positive : (n t b a s : ℕ) → n ≡ b * (a * s) → ((t * t == n) && nat_le 1 t) ≡ true → (0 < a) × (0 < s)
alike_positive n t b a s e h = grind (arith, and_parts, eqb-true, leb-true, mul_pos)

share_cases : (b : Bool) (q c : Fraction) (t a s : ℕ) → (b ≡ true → (0 < a) × (0 < s))
    → (if b then times (times q c) (quotient t s) else zero_fraction) ≡ times (times q (lowest (pos a) 1)) (if b then times c (quotient t (a * s)) else zero_fraction)
share_cases b q c t a s h = grind (arith, ratio_split, times_exchange, times_zero)

-- the coefficient of a product with one term
pub term_share-term_times : (t u : Term) (s : ℕ) → term_share (term_times t u) s ≡ times (times t.coefficient (lowest (pos t.radicand) 1)) (term_share u (t.radicand * s))
term_share-term_times t u s = grind (arith, regrouped, share_cases, alike_positive)

pub class_coefficient-map : (t : Term) (w : Surd) (s : ℕ) → class_coefficient (map (term_times t) w) s ≡ times (times t.coefficient (lowest (pos t.radicand) 1)) (class_coefficient w (t.radicand * s))
class_coefficient-map t [] s = sym (times_zero (times t.coefficient (lowest (pos t.radicand) 1)))
class_coefficient-map t (u ∷ w) s = (λ i. plus (term_share-term_times t u s i) (class_coefficient-map t w s i)) ∙ sym (times_plus (times t.coefficient (lowest (pos t.radicand) 1)) (term_share u (t.radicand * s)) (class_coefficient w (t.radicand * s)))

Agree-map : (t : Term) {w w' : Surd} → Agree w w' → Agree (map (term_times t) w) (map (term_times t) w')
Agree-map t {w} {w'} a = record { at = λ s. class_coefficient-map t w s ∙ ap (times (times t.coefficient (lowest (pos t.radicand) 1))) (a.at (t.radicand * s)) ∙ sym (class_coefficient-map t w' s) }

pub Agree-surd_times_right : (v : Surd) {w w' : Surd} → Agree w w' → Agree (surd_times v w) (surd_times v w')
Agree-surd_times_right [] a = Agree-refl []
Agree-surd_times_right (t ∷ v) a = Agree-append (Agree-map t a) (Agree-surd_times_right v a)

-- the terms of w, each with t behind it, are those of the products, in another order
surd_times-cons : (w : Surd) (t : Term) (v : Surd) → Agree (surd_times w (t ∷ v)) (map (λ u. term_times u t) w ++ surd_times w v)
surd_times-cons [] t v = Agree-refl []
surd_times-cons (u ∷ w) t v =
    let m = map (λ x. term_times x t) w in
    let a = map (term_times u) v in
    Agree-append {v = term_times u t ∷ []} {v' = term_times u t ∷ []} (Agree-refl (term_times u t ∷ []))
    (Agree-trans (Agree-append (Agree-refl a) (surd_times-cons w t v))
    (Agree-trans (Agree-eq (sym (append_assoc a m (surd_times w v))))
    (Agree-trans (Agree-append (append_comm a m) (Agree-refl (surd_times w v)))
    (Agree-eq (append_assoc m a (surd_times w v))))))

term_times_comm : (t u : Term) → term_times t u ≡ term_times u t
term_times_comm t u = λ i. term (times_comm t.coefficient u.coefficient i) (mul_comm t.radicand u.radicand i)

map_comm : (t : Term) (w : Surd) → map (term_times t) w ≡ map (λ u. term_times u t) w
map_comm t [] = refl
map_comm t (u ∷ w) = λ i. term_times_comm t u i ∷ map_comm t w i

pub surd_times-nil : (w : Surd) → surd_times w [] ≡ []
surd_times-nil [] = refl
surd_times-nil (t ∷ w) = surd_times-nil w

pub surd_times_comm : (v w : Surd) → Agree (surd_times v w) (surd_times w v)
surd_times_comm [] w = Agree-eq (sym (surd_times-nil w))
surd_times_comm (t ∷ v) w =
    Agree-trans (Agree-append (Agree-eq (map_comm t w)) (surd_times_comm v w)) (Agree-sym (surd_times-cons w t v))

pub Agree-surd_times : {v v' w w' : Surd} → Agree v v' → Agree w w' → Agree (surd_times v w) (surd_times v' w')
Agree-surd_times {v} {v'} {w} {w'} a b =
    Agree-trans (Agree-surd_times_right v b) (Agree-trans (surd_times_comm v w') (Agree-trans (Agree-surd_times_right w' a) (surd_times_comm w' v')))

pub Agree-surd_power : (n : ℕ) {v w : Surd} → Agree v w → Agree (surd_power v n) (surd_power w n)
Agree-surd_power zero a = Agree-refl surd_one
Agree-surd_power (suc zero) a = a
Agree-surd_power (suc (suc n)) a = Agree-surd_times a (Agree-surd_power (suc n) a)

-- an element has at most one inverse
pub one_inverse : (x y w : Surd) → Agree (surd_times x w) surd_one → Agree (surd_times y w) surd_one → Agree x y
one_inverse x y w a b =
    Agree-trans (Agree-sym (Agree-trans (surd_times_comm x surd_one) (Agree-eq (surd_times-surd_one x))))
    (Agree-trans (Agree-surd_times_right x (Agree-sym (Agree-trans (surd_times_comm w y) b)))
    (Agree-trans (Agree-eq (sym (surd_times_assoc x w y)))
    (Agree-trans (Agree-surd_times a (Agree-refl y)) (Agree-eq (surd_times-surd_one y)))))

-- ---- products of several factors

pub surd_times-one : (v : Surd) → Agree (surd_times v surd_one) v
surd_times-one v = Agree-trans (surd_times_comm v surd_one) (Agree-eq (surd_times-surd_one v))

-- a factor goes to the front
pub surd_times_left_comm : (u v w : Surd) → Agree (surd_times u (surd_times v w)) (surd_times v (surd_times u w))
surd_times_left_comm u v w =
    Agree-trans (Agree-eq (sym (surd_times_assoc u v w)))
    (Agree-trans (Agree-surd_times (surd_times_comm u v) (Agree-refl w)) (Agree-eq (surd_times_assoc v u w)))

pub surd_times_exchange : (a b c d : Surd) → Agree (surd_times (surd_times a b) (surd_times c d)) (surd_times (surd_times a c) (surd_times b d))
surd_times_exchange a b c d = grind (arith, Agree-trans, Agree-eq, surd_times_assoc, Agree-surd_times_right, surd_times_left_comm)

-- the inverse of a product
pub inverse_times : (y w z u : Surd) → Agree (surd_times y w) surd_one → Agree (surd_times z u) surd_one → Agree (surd_times (surd_times y z) (surd_times w u)) surd_one
inverse_times y w z u h k =
    Agree-trans (surd_times_exchange y z w u) (Agree-trans (Agree-surd_times h k) (Agree-eq (surd_times-surd_one surd_one)))

-- the inverse of a power
pub inverse_power : (n : ℕ) (y w : Surd) → Agree (surd_times y w) surd_one → Agree (surd_times (surd_power y (suc n)) (surd_power w (suc n))) surd_one
inverse_power zero y w h = h
inverse_power (suc n) y w h = inverse_times y w (surd_power y (suc n)) (surd_power w (suc n)) h (inverse_power n y w h)

-- a product with one rational is a multiple
pub surd_times-surd_of : (c : Fraction) (u : Surd) → Agree (surd_times (surd_of c) u) (surd_scale c u)
surd_times-surd_of c u = grind (arith, Agree-eq, append-nil, one-mul)

pub ruleset ring = (Agree-Same, Agree-eq, append_comm, surd_times_comm, surd_times_assoc, surd_times-surd_one, surd_times-append)
