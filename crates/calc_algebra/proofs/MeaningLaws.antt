-- A meaning is closed under sameness, and unique up to it.
pub use Rattle.calc_algebra.proofs.SquareClassLaws.{Same-sym}
use Rattle.calc_algebra.proofs.Shared.{ℕ, zero, suc, ◌≡◌, ℤ, pos, negsuc, List, ◌∷◌, Contains, ◌⊎◌, ◌*ℤ◌, inl, inr, subst, sym, ap, ◌∙◌, arith, times_comm, one_times, zero_plus, Fraction, lowest, []}
use Rattle.calc_algebra.proofs.Shared.{zero_fraction, one_fraction, plus_comm, lowest_cross, den_pos, whole_fraction, minus_one_fraction, cancel_pos, whole_denominator, Gives, Binding, bound_names}
use Rattle.calc_algebra.proofs.Shared.{Assignment, IsAssignment, Means, MeansSum, MeansProduct, IsWholePower, IsPower, IsRootOf, IsRoot, Same, Inverts, class_coefficient, square_root, Surd, surd_one}
use Rattle.calc_algebra.proofs.{Shared.{surd_of, Tree, num, symbol, undef, add, mult, power, root, neg, sub, div, Trees, none, more, get_or-map, length-map}, SquareClassLaws.{Same-trans, Same-Agree}}
use Rattle.calc_algebra.proofs.SurdLaws.{Agree, Agree-Same, Agree-refl, Agree-sym, Agree-trans, Agree-eq, Agree-append, Agree-surd_scale, Agree-surd_times, Agree-surd_times_right, Agree-surd_power}
use Rattle.calc_algebra.proofs.{SurdLaws.{one_inverse}, HalfLaws.{one_is_not_two}}

power_same : (n : ℤ) (w v u : Surd) → IsWholePower n w v → Same v u → IsWholePower n w u
power_same n w v u h e = grind (arith, Same-trans, Same-sym)

pub root_same : (p : ℤ) (q : ℕ) (v u : Surd) → IsRootOf p q v → Same v u → IsRootOf p q u
root_same p q v u h e = grind (arith, Same-trans, Same-sym)

row_same : (w x v u : Surd) → IsPower w x v → Same v u → IsPower w x u
row_same w x v u (inl (n, i, h)) e = inl (n, i, power_same n w v u h e)
row_same w x v u (inr (h, d, i, r, k, p)) e = inr (h, d, i, r, k, power_same h.num r v u p e)

pub Means-Same : (t : Tree) (f : Assignment) (v u : Surd) → Means t f v → Same v u → Means t f u
Means-Same (num q) f v u h e = Same-trans (Same-sym e) h
Means-Same (symbol x) f v u (q, m, h) e = (q, m, Same-trans (Same-sym e) h)
Means-Same undef f v u h e = h
Means-Same (add ts) f v u (w, m, h) e = (w, m, Same-trans (Same-sym e) h)
Means-Same (mult ts) f v u (w, m, h) e = (w, m, Same-trans (Same-sym e) h)
Means-Same (neg a) f v u (w, m, h) e = (w, m, Same-trans (Same-sym e) h)
Means-Same (sub a b) f v u (w, x, m, n, h) e = (w, x, m, n, Same-trans (Same-sym e) h)
Means-Same (div a b) f v u (w, x, y, m, n, i, h) e = (w, x, y, m, n, i, Same-trans (Same-sym e) h)
Means-Same (power b p) f v u (w, x, m, k, h) e = (w, x, m, k, row_same w x v u h e)
Means-Same (root a) f v u (x, m, (q, i, h)) e = (x, m, (q, i, root_same q.num q.den v u h e))

pub class_coefficient-surd_of : (q : Fraction) → class_coefficient (surd_of q) 1 ≡ q
unfolding square_root one_fraction
class_coefficient-surd_of q = plus_comm _ zero_fraction ∙ zero_plus _ ∙ times_comm q (lowest (pos 1) 1) ∙ one_times q

pub surd_of_one : (p q : Fraction) → Agree (surd_of p) (surd_of q) → p ≡ q
surd_of_one p q h = sym (class_coefficient-surd_of p) ∙ h.at 1 ∙ class_coefficient-surd_of q

pub whole_one : (m n : ℤ) → whole_fraction m ≡ whole_fraction n → m ≡ n
whole_one m n e = cancel_pos m n (whole_fraction m).den (den_pos (whole_fraction m)) (sym (lowest_cross m 1 (omega arith)) ∙ ap (λ x. x.num *ℤ pos 1) e ∙ lowest_cross n 1 (omega arith) ∙ ap (λ x. n *ℤ pos x.den) (sym e))

join : {v u w x : Surd} → Same v w → Same u x → Agree w x → Agree v u
join a b c = Agree-trans (Same-Agree a) (Agree-trans c (Agree-sym (Same-Agree b)))

pub one_inverse' : (y x w u : Surd) → Inverts y w → Inverts x u → Agree w u → Agree y x
one_inverse' y x w u a b c = one_inverse y x w (Same-Agree a) (Agree-trans (Agree-surd_times_right x c) (Same-Agree b))

one_power : (n : ℤ) (w x v u : Surd) → Agree w x → IsWholePower n w v → IsWholePower n x u → Agree v u
one_power (pos zero) w x v u a (h, k) (h', k') = join k k' (Agree-refl surd_one)
one_power (pos (suc n)) w x v u a h k = join h k (Agree-surd_power (suc n) a)
one_power (negsuc n) w x v u a (y, i, h) (y', i', h') = join h h' (Agree-surd_power (suc n) (one_inverse' y y' w x i i' a))

one_root : (p : ℤ) (q : ℕ) (v u : Surd) → IsRootOf p q v → IsRootOf p q u → Agree v u
one_root p q v u h k = grind (arith, join, Agree-refl)

-- a surd that is two rationals
pub one_rational : (p q : Fraction) (x y : Surd) → Agree x y → Same x (surd_of p) → Same y (surd_of q) → p ≡ q
one_rational p q x y a h k = surd_of_one p q (Agree-trans (Agree-sym (Same-Agree h)) (Agree-trans a (Same-Agree k)))

-- a surd has at most one root
pub one_root_of : (x y v u : Surd) → Agree x y → IsRoot x v → IsRoot y u → Agree v u
one_root_of x y v u a (q, i, h) (q', i', h') = let z : q' ≡ q = sym (one_rational q q' x y a i i') in one_root q.num q.den v u h (rw z at h')

-- no whole number is half of an odd one
pub whole_is_no_half : (n : ℤ) (h : Fraction) → h.den ≡ 2 → whole_fraction n ≡ h → ⊥
whole_is_no_half n h d e = one_is_not_two _ _ (whole_denominator n) d (ap (λ (q : Fraction). q.den) e)

one_row : (w w' x x' v u : Surd) → Agree w w' → Agree x x' → IsPower w x v → IsPower w' x' u → Agree v u
one_row w w' x x' v u a b (inl (n, i, h)) (inl (n', i', h')) =
    let z : n' ≡ n = sym (whole_one n n' (one_rational (whole_fraction n) (whole_fraction n') x x' b i i')) in
    one_power n w w' v u a h (rw z at h')
one_row w w' x x' v u a b (inl (n, i, h)) (inr (q, d, i', r, k, h')) = absurd (whole_is_no_half n q d (one_rational (whole_fraction n) q x x' b i i'))
one_row w w' x x' v u a b (inr (q, d, i, r, k, h)) (inl (n, i', h')) = absurd (whole_is_no_half n q d (sym (one_rational q (whole_fraction n) x x' b i i')))
one_row w w' x x' v u a b (inr (q, d, i, r, k, h)) (inr (q', d', i', r', k', h')) =
    let z : q' ≡ q = sym (one_rational q q' x x' b i i') in
    one_power q.num r r' v u (one_root_of w w' r r' a k k') h (rw z at h')

pub none_in : {X : Type 0} {x : X} → Contains [] x → ⊥
none_in (k, l, e) = absurd (omega arith)

-- one element is the first or is contained in the rest
pub at_front : {X : Type 0} (x : X) (xs : List X) (z : X) → Contains (x ∷ xs) z → (x ≡ z) ⊎ Contains xs z
at_front x xs z h = grind arith

name_bound : (f : Assignment) (b : Binding) → Contains f b → Contains (bound_names f) b.name
name_bound f b (k, l, e) = (k, rw length-map l, get_or-map (λ b. b.name) f k b b.name l ∙ ap (λ b. b.name) e)

-- an assignment gives a name at most one value
pub one_value : (f : Assignment) → IsAssignment f → (x : List ℕ) (p q : Fraction) → Gives f x p → Gives f x q → p ≡ q
one_value [] once x p q m n = absurd (none_in m)
one_value (b ∷ f) (new, once) x p q m n = by (λ m' n'. one_value f once x p q m' n') (at_front b f _ m) (at_front b f _ n)
  where
    bind : Fraction → Binding
    bind v = record { name = x; value = v }

    by : (Contains f (bind p) → Contains f (bind q) → p ≡ q) → (b ≡ bind p) ⊎ Contains f (bind p) → (b ≡ bind q) ⊎ Contains f (bind q) → p ≡ q
    by go (inl e) (inl g) = ap (λ b. b.value) (sym e ∙ g)
    by go (inl e) (inr n') = absurd (new (subst (λ y. Contains (bound_names f) y) (ap (λ b. b.name) (sym e)) (name_bound f (bind q) n')))
    by go (inr m') (inl g) = absurd (new (subst (λ y. Contains (bound_names f) y) (ap (λ b. b.name) (sym g)) (name_bound f (bind p) m')))
    by go (inr m') (inr n') = go m' n'

module _ (f : Assignment) (once : IsAssignment f) where
  mutual
    pub one_meaning : (t : Tree) (v u : Surd) → Means t f v → Means t f u → Agree v u
    one_meaning (num q) v u h k = join h k (Agree-refl (surd_of q))
    one_meaning (symbol x) v u (p, m, h) (q, n, k) = join h k (Agree-eq (ap surd_of (one_value f once x p q m n)))
    one_meaning undef v u h k = absurd h
    one_meaning (add ts) v u (w, m, h) (x, n, k) = join h k (one_sum ts w x m n)
    one_meaning (mult ts) v u (w, m, h) (x, n, k) = join h k (one_product ts w x m n)
    one_meaning (neg a) v u (w, m, h) (x, n, k) = join h k (Agree-surd_scale minus_one_fraction (one_meaning a w x m n))
    one_meaning (sub a b) v u (w, y, m, n, h) (w', y', m', n', k) = join h k (Agree-append (one_meaning a w w' m m') (Agree-surd_scale minus_one_fraction (one_meaning b y y' n n')))
    one_meaning (div a b) v u (w, x, y, m, n, i, h) (w', x', y', m', n', i', k) = join h k (Agree-surd_times (one_meaning a w w' m m') (one_inverse' y y' x x' i i' (one_meaning b x x' n n')))
    one_meaning (power b e) v u (w, x, mb, me, h) (w', x', mb', me', h') = one_row w w' x x' v u (one_meaning b w w' mb mb') (one_meaning e x x' me me') h h'
    one_meaning (root a) v u (x, m, h) (x', m', h') = one_root_of x x' v u (one_meaning a x x' m m') h h'

    pub one_sum : (ts : Trees) (v u : Surd) → MeansSum ts f v → MeansSum ts f u → Agree v u
    one_sum none v u h k = Agree-eq (h ∙ sym k)
    one_sum (more t ts) v u (a, b, m, n, e) (a', b', m', n', e') = Agree-trans (Agree-eq e) (Agree-trans (Agree-append (one_meaning t a a' m m') (one_sum ts b b' n n')) (Agree-eq (sym e')))

    pub one_product : (ts : Trees) (v u : Surd) → MeansProduct ts f v → MeansProduct ts f u → Agree v u
    one_product none v u h k = Agree-eq (h ∙ sym k)
    one_product (more t ts) v u (a, b, m, n, e) (a', b', m', n', e') = Agree-trans (Agree-eq e) (Agree-trans (Agree-surd_times (one_meaning t a a' m m') (one_product ts b b' n n')) (Agree-eq (sym e')))

pub ruleset meanings = (Means-Same, Agree-Same, one_meaning)
