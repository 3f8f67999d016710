-- A multiple of one irrational root, and a rational: never close to the middle of two decimals.
use Rattle.std.proofs.Common.{◌≡◌, ℕ, zero, suc, ◌+◌, ◌*◌, ◌^◌, ◌<◌, ◌≤◌, ℤ, pos, negsuc, ◌+ℤ◌, ◌*ℤ◌, refl, sym, ap, subst, ◌∙◌, arith, List, [], ◌∷◌, nat_abs, eqb, false}
use Rattle.std.proofs.{lemmas.Nat.{mul-le}, lemmas.Bool.{ne_eqb, leb-true, ltb-true}, Math.Nat.{le_of_mul-le-mul_right}}
use borrow.Author.Differences.{up, down}
use Rattle.calc_terms.specs.Gcd.{gcd}
use Rattle.calc_terms.specs.Fractions.{Fraction, zero_fraction, lowest, plus, times, quotient, den_pos, mul_pos, plus_assoc, plus_comm}
use Rattle.calc_algebra.specs.Surds.{Surd, term}
use Rattle.enclosures.specs.{Order.{AtMost}, Enclosures.{Bounds, AreBounds, AreEnclosed, least, most, lower, upper}, Rounding.{IsClose, IsNear, doubt, last_unit, middle, term_doubt}}
use Rattle.enclosures.proofs.{OrderLaws.{at_most_trans, plus_at_most}, Apart.{apart}, Forms.{HasForm, form_of, form_lowest, form_quotient, form_zero, form_plus, form_multiple, form_multiple_above, form_multiple_below, form_no_multiple, order_of_forms, forms_at_most}}

-- ---- bounds

abbrev pub exact_bounds : Bounds
exact_bounds = record { low = 1; high = 1; unit = 1 }

pub are_exact : AreBounds 1 exact_bounds
are_exact = record { positive = omega arith; below = omega arith; above = omega arith }

pub one_least : (z : ℤ) → least z exact_bounds ≡ 1
one_least (pos n) = refl
one_least (negsuc n) = refl

pub one_most : (z : ℤ) → most z exact_bounds ≡ 1
one_most (pos n) = refl
one_most (negsuc n) = refl

-- a lower bound, with an upper one that is far; and an upper one with 0
below_bounds : (r s u : ℕ) → 1 ≤ r → 1 ≤ u → s * s ≤ r * (u * u) → AreBounds r (record { low = s; high = r * u; unit = u })
below_bounds r s u hr hu h = record { positive = hu; below = h; above = let k : r * (u * u) * 1 ≤ r * (u * u) * r = mul-le (r * (u * u)) 1 (r * (u * u)) r (omega arith) hr in omega (arith, k) }

above_bounds : (r h u : ℕ) → 1 ≤ u → r * (u * u) ≤ h * h → AreBounds r (record { low = 0; high = h; unit = u })
above_bounds r h u hu k = record { positive = hu; below = omega arith; above = k }

least_above : (z : ℤ) (m : ℕ) (b : Bounds) → z ≡ pos m → least z b ≡ b.low
least_above z m b e = ap (λ y. least y b) e

most_above : (z : ℤ) (m : ℕ) (b : Bounds) → z ≡ pos m → most z b ≡ b.high
most_above z m b e = ap (λ y. most y b) e

least_below : (z : ℤ) (m : ℕ) (b : Bounds) → z ≡ negsuc m → least z b ≡ b.high
least_below z m b e = ap (λ y. least y b) e

most_below : (z : ℤ) (m : ℕ) (b : Bounds) → z ≡ negsuc m → most z b ≡ b.low
most_below z m b e = ap (λ y. most y b) e

-- ---- what the order says in naturals

-- the sum of q = (a1 - a2)/d1 and of a multiple (b1 - b2) k over d2 u is at most that of (x1 - x2)/w, 2/U and c/(d2 U)
from_below : (a1 a2 d1 b1 b2 k d2 u x1 x2 w c U : ℕ) → 0 < d2 → 0 < U
    → ((a1 * 1) * ((d2 * u) * 1) + ((b1 * k) * 1 + 0 * (d2 * u)) * (d1 * 1)) * (w * (U * ((d2 * U) * 1)))
    + (x2 * (U * ((d2 * U) * 1)) + (0 * ((d2 * U) * 1) + (0 * 1 + 0 * (d2 * U)) * U) * w) * ((d1 * 1) * ((d2 * u) * 1))
    ≤ (x1 * (U * ((d2 * U) * 1)) + (2 * ((d2 * U) * 1) + (c * 1 + 0 * (d2 * U)) * U) * w) * ((d1 * 1) * ((d2 * u) * 1))
    + ((a2 * 1) * ((d2 * u) * 1) + ((b2 * k) * 1 + 0 * (d2 * u)) * (d1 * 1)) * (w * (U * ((d2 * U) * 1)))
    → U * ((w * (a1 * d2) + x2 * (d1 * d2)) * u) + U * ((w * (b1 * d1)) * k) ≤ U * ((x1 * (d1 * d2) + w * (a2 * d2)) * u) + U * ((w * (b2 * d1)) * k) + ((2 * d2 + c) * (w * d1)) * u
from_below a1 a2 d1 b1 b2 k d2 u x1 x2 w c U p q h =
    let l : (U * ((w * (a1 * d2) + x2 * (d1 * d2)) * u) + U * ((w * (b1 * d1)) * k)) * (U * d2) ≤ (U * ((x1 * (d1 * d2) + w * (a2 * d2)) * u) + U * ((w * (b2 * d1)) * k) + ((2 * d2 + c) * (w * d1)) * u) * (U * d2) = omega (arith, h) in
    le_of_mul-le-mul_right l (mul_pos U d2 q p)

from_above : (a1 a2 d1 b1 b2 k d2 u x1 x2 w c U : ℕ) → 0 < d2 → 0 < U
    → x1 * (((d1 * 1) * ((d2 * u) * 1)) * (U * ((d2 * U) * 1)))
    + (((a2 * 1) * ((d2 * u) * 1) + ((b2 * k) * 1 + 0 * (d2 * u)) * (d1 * 1)) * (U * ((d2 * U) * 1)) + (0 * ((d2 * U) * 1) + (0 * 1 + 0 * (d2 * U)) * U) * ((d1 * 1) * ((d2 * u) * 1))) * w
    ≤ (((a1 * 1) * ((d2 * u) * 1) + ((b1 * k) * 1 + 0 * (d2 * u)) * (d1 * 1)) * (U * ((d2 * U) * 1)) + (2 * ((d2 * U) * 1) + (c * 1 + 0 * (d2 * U)) * U) * ((d1 * 1) * ((d2 * u) * 1))) * w
    + x2 * (((d1 * 1) * ((d2 * u) * 1)) * (U * ((d2 * U) * 1)))
    → U * ((x1 * (d1 * d2) + w * (a2 * d2)) * u) + U * ((w * (b2 * d1)) * k) ≤ U * ((w * (a1 * d2) + x2 * (d1 * d2)) * u) + U * ((w * (b1 * d1)) * k) + ((2 * d2 + c) * (w * d1)) * u
from_above a1 a2 d1 b1 b2 k d2 u x1 x2 w c U p q h =
    let l : (U * ((x1 * (d1 * d2) + w * (a2 * d2)) * u) + U * ((w * (b2 * d1)) * k)) * (U * d2) ≤ (U * ((w * (a1 * d2) + x2 * (d1 * d2)) * u) + U * ((w * (b1 * d1)) * k) + ((2 * d2 + c) * (w * d1)) * u) * (U * d2) = omega (arith, h) in
    le_of_mul-le-mul_right l (mul_pos U d2 q p)

-- ---- sizes

units_in_one : 0 < last_unit
unfolding last_unit
units_in_one = ltb-true 0 (2 ^ 896) refl

unfoldable pub bits : ℕ
bits = 2 ^ 127

error_bound : (8 * bits) * (2 * bits * bits) < last_unit
unfolding bits last_unit
error_bound = ltb-true _ _ refl

far_bound : 16 * (((8 * bits) * (2 * bits * bits)) * ((8 * bits) * (2 * bits * bits))) * (bits * ((2 * bits * (bits * bits)) * (2 * bits * (bits * bits)))) < last_unit * last_unit
unfolding bits last_unit
far_bound = ltb-true _ _ refl

module _ (d1 m d2 r scale c : ℕ) (h1 : d1 ≤ bits) (hm : m ≤ bits) (h2 : d2 ≤ bits) (hr : r ≤ bits) (hs : scale ≤ bits) (is : c ≡ 2 * (m + 2 * d2)) where
  error_small : (2 * d2 + c) * ((2 * scale) * d1) ≤ (8 * bits) * (2 * bits * bits)
  error_small = mul-le (2 * d2 + c) ((2 * scale) * d1) (8 * bits) (2 * bits * bits) (omega (arith, is, hm, h2)) (mul-le (2 * scale) d1 (2 * bits) bits (omega (arith, hs)) h1)

  multiple_small : (2 * scale) * (m * d1) ≤ 2 * bits * (bits * bits)
  multiple_small = mul-le (2 * scale) (m * d1) (2 * bits) (bits * bits) (omega (arith, hs)) (mul-le m d1 bits bits hm h1)

  fine : (2 * d2 + c) * ((2 * scale) * d1) < last_unit
  fine = omega (arith, error_small, error_bound)

  far : 16 * (((2 * d2 + c) * ((2 * scale) * d1)) * ((2 * d2 + c) * ((2 * scale) * d1))) * (r * (((2 * scale) * (m * d1)) * ((2 * scale) * (m * d1)))) < last_unit * last_unit
  far =
      let e = (2 * d2 + c) * ((2 * scale) * d1) in
      let b = (2 * scale) * (m * d1) in
      let e' = (8 * bits) * (2 * bits * bits) in
      let b' = 2 * bits * (bits * bits) in
      let k : e * e ≤ e' * e' = mul-le e e e' e' error_small error_small in
      let l : r * (b * b) ≤ bits * (b' * b') = mul-le r (b * b) bits (b' * b') hr (mul-le b b b' b' multiple_small multiple_small) in
      let n : (16 * (e * e)) * (r * (b * b)) ≤ (16 * (e' * e')) * (bits * (b' * b')) = mul-le (16 * (e * e)) (r * (b * b)) (16 * (e' * e')) (bits * (b' * b')) (omega (arith, k)) l in
      omega (arith, n, far_bound)

-- ---- the doubt of such a sum

not_one : (r : ℕ) → ((s : ℕ) → s * s ≡ r → ⊥) → eqb r 1 ≡ false
not_one r irrational = ne_eqb r 1 (λ e. irrational 1 (omega (arith, e)))

positive_radicand : (r : ℕ) → ((s : ℕ) → s * s ≡ r → ⊥) → 1 ≤ r
positive_radicand r irrational = by r irrational
  where
    by : (r : ℕ) → ((s : ℕ) → s * s ≡ r → ⊥) → 1 ≤ r
    by zero i = absurd (i 0 (omega arith))
    by (suc r) i = omega arith

-- q and a multiple of the root of r
module _ (q p : Fraction) (r scale : ℕ) (m : ℕ) (size : nat_abs p.num ≡ m) (irrational : (s : ℕ) → s * s ≡ r → ⊥) (hs : 0 < scale) (n : ℤ) (near : IsNear (term q 1 ∷ term p r ∷ []) (middle n scale)) where
  c : ℕ
  c = 2 * (m + 2 * p.den)

  root_doubt : term_doubt (term p r) ≡ quotient (2 * (m + 2 * p.den)) (p.den * last_unit)
  root_doubt = rw (not_one r irrational) (ap (λ k. quotient (2 * (k + 2 * p.den)) (p.den * last_unit)) size)

  doubt_form : HasForm (doubt (term q 1 ∷ term p r ∷ [])) (2 * ((p.den * last_unit) * 1) + (2 * (m + 2 * p.den) * 1 + 0 * (p.den * last_unit)) * last_unit) (0 * ((p.den * last_unit) * 1) + (0 * 1 + 0 * (p.den * last_unit)) * last_unit) (last_unit * ((p.den * last_unit) * 1))
  doubt_form = form_plus _ _ _ _ _ _ _ _ (form_quotient 2 last_unit units_in_one)
      (form_plus _ _ _ _ _ _ _ _ (subst (λ f. HasForm f (2 * (m + 2 * p.den)) 0 (p.den * last_unit)) (sym root_doubt) (form_quotient _ (p.den * last_unit) (mul_pos p.den last_unit (den_pos p) units_in_one))) form_zero)

  x : ℤ
  x = pos 2 *ℤ n +ℤ pos 1

  middle_form : HasForm (middle n scale) (up x) (down x) (2 * scale)
  unfolding x
  middle_form = form_lowest (pos 2 *ℤ n +ℤ pos 1) (2 * scale) (omega (arith, hs))

  whole_form : (k : ℕ) → k ≡ 1 → HasForm (times q (quotient k 1)) (up q.num * 1) (down q.num * 1) (q.den * 1)
  whole_form k e = subst (λ j. HasForm (times q (quotient j 1)) (up q.num * 1) (down q.num * 1) (q.den * 1)) (sym e) (form_multiple q 1 1 (omega arith))

  -- by bounds of the root that give this multiple
  module _ (b : Bounds) (are : AreBounds r b) (b1 b2 : ℕ) where
    says_below : (k : ℕ) → least p.num b ≡ k → HasForm (times p (quotient k b.unit)) (b1 * k) (b2 * k) (p.den * b.unit)
        → last_unit * (((2 * scale) * (up q.num * p.den) + down x * (q.den * p.den)) * b.unit) + last_unit * (((2 * scale) * (b1 * q.den)) * k)
        ≤ last_unit * ((up x * (q.den * p.den) + (2 * scale) * (down q.num * p.den)) * b.unit) + last_unit * (((2 * scale) * (b2 * q.den)) * k) + ((2 * p.den + 2 * (m + 2 * p.den)) * ((2 * scale) * q.den)) * b.unit
    says_below k e f =
        let at : AtMost (plus (times q (quotient (least q.num exact_bounds) exact_bounds.unit)) (plus (times p (quotient (least p.num b) b.unit)) zero_fraction)) (plus (middle n scale) (doubt (term q 1 ∷ term p r ∷ []))) = near.from_below (exact_bounds ∷ b ∷ []) (are_exact, (are, tt)) in
        let sum = form_plus _ _ _ _ _ _ _ _ (whole_form (least q.num exact_bounds) (one_least q.num)) (form_plus _ _ _ _ _ _ _ _ (subst (λ j. HasForm (times p (quotient j b.unit)) (b1 * k) (b2 * k) (p.den * b.unit)) (sym e) f) form_zero) in
        from_below (up q.num) (down q.num) q.den b1 b2 k p.den b.unit (up x) (down x) (2 * scale) (2 * (m + 2 * p.den)) last_unit (den_pos p) units_in_one
        (order_of_forms _ _ _ _ _ _ _ _ sum (form_plus _ _ _ _ _ _ _ _ middle_form doubt_form) at)

    says_above : (k : ℕ) → most p.num b ≡ k → HasForm (times p (quotient k b.unit)) (b1 * k) (b2 * k) (p.den * b.unit)
        → last_unit * ((up x * (q.den * p.den) + (2 * scale) * (down q.num * p.den)) * b.unit) + last_unit * (((2 * scale) * (b2 * q.den)) * k)
        ≤ last_unit * (((2 * scale) * (up q.num * p.den) + down x * (q.den * p.den)) * b.unit) + last_unit * (((2 * scale) * (b1 * q.den)) * k) + ((2 * p.den + 2 * (m + 2 * p.den)) * ((2 * scale) * q.den)) * b.unit
    says_above k e f =
        let at : AtMost (middle n scale) (plus (plus (times q (quotient (most q.num exact_bounds) exact_bounds.unit)) (plus (times p (quotient (most p.num b) b.unit)) zero_fraction)) (doubt (term q 1 ∷ term p r ∷ []))) = near.from_above (exact_bounds ∷ b ∷ []) (are_exact, (are, tt)) in
        let sum = form_plus _ _ _ _ _ _ _ _ (whole_form (most q.num exact_bounds) (one_most q.num)) (form_plus _ _ _ _ _ _ _ _ (subst (λ j. HasForm (times p (quotient j b.unit)) (b1 * k) (b2 * k) (p.den * b.unit)) (sym e) f) form_zero) in
        from_above (up q.num) (down q.num) q.den b1 b2 k p.den b.unit (up x) (down x) (2 * scale) (2 * (m + 2 * p.den)) last_unit (den_pos p) units_in_one
        (order_of_forms _ _ _ _ _ _ _ _ middle_form (form_plus _ _ _ _ _ _ _ _ sum doubt_form) at)

  module _ (some : 0 < m) (h1 : q.den ≤ bits) (hm : m ≤ bits) (h2 : p.den ≤ bits) (hr : r ≤ bits) (ht : scale ≤ bits) where
    multiple : 0 < (2 * scale) * (m * q.den)
    multiple = mul_pos (2 * scale) (m * q.den) (omega (arith, hs)) (mul_pos m q.den some (den_pos q))

    form_above : (k u : ℕ) → 0 < u → p.num ≡ pos m → HasForm (times p (quotient k u)) (m * k) (0 * k) (p.den * u)
    form_above k u i e = let none : 0 ≡ 0 * k = omega arith in subst (λ y. HasForm (times p (quotient k u)) (m * k) y (p.den * u)) none (form_multiple_above p m k u i e)

    pub above_apart : p.num ≡ pos m → ⊥
    above_apart e = apart ((2 * scale) * (up q.num * p.den) + down x * (q.den * p.den)) (up x * (q.den * p.den) + (2 * scale) * (down q.num * p.den)) ((2 * scale) * (m * q.den)) r last_unit ((2 * p.den + 2 * (m + 2 * p.den)) * ((2 * scale) * q.den))
        multiple (positive_radicand r irrational) irrational (fine q.den m p.den r scale _ h1 hm h2 hr ht refl) (far q.den m p.den r scale _ h1 hm h2 hr ht refl)
        (λ s u i j. let h = says_below (record { low = s; high = r * u; unit = u }) (below_bounds r s u (positive_radicand r irrational) i j) m 0 s (least_above p.num m _ e) (form_above s u i e) in omega (arith, h))
        (λ k u i j. let h = says_above (record { low = 0; high = k; unit = u }) (above_bounds r k u i j) m 0 k (most_above p.num m _ e) (form_above k u i e) in omega (arith, h))

  module _ (m' : ℕ) (is : m ≡ suc m') (h1 : q.den ≤ bits) (hm : m ≤ bits) (h2 : p.den ≤ bits) (hr : r ≤ bits) (ht : scale ≤ bits) where
    form_below : (k u : ℕ) → 0 < u → p.num ≡ negsuc m' → HasForm (times p (quotient k u)) (0 * k) (m * k) (p.den * u)
    form_below k u i e =
        let none : 0 ≡ 0 * k = omega arith in
        subst (λ y. HasForm (times p (quotient k u)) y (m * k) (p.den * u)) none (subst (λ z. HasForm (times p (quotient k u)) 0 (z * k) (p.den * u)) (sym is) (form_multiple_below p m' k u i e))

    pub below_apart : p.num ≡ negsuc m' → ⊥
    below_apart e = apart (up x * (q.den * p.den) + (2 * scale) * (down q.num * p.den)) ((2 * scale) * (up q.num * p.den) + down x * (q.den * p.den)) ((2 * scale) * (m * q.den)) r last_unit ((2 * p.den + 2 * (m + 2 * p.den)) * ((2 * scale) * q.den))
        (multiple (omega (arith, is)) h1 hm h2 hr ht) (positive_radicand r irrational) irrational (fine q.den m p.den r scale _ h1 hm h2 hr ht refl) (far q.den m p.den r scale _ h1 hm h2 hr ht refl)
        (λ s u i j. let h = says_above (record { low = s; high = r * u; unit = u }) (below_bounds r s u (positive_radicand r irrational) i j) 0 m s (most_below p.num m' _ e) (form_below s u i e) in omega (arith, h))
        (λ k u i j. let h = says_below (record { low = 0; high = k; unit = u }) (above_bounds r k u i j) 0 m k (least_below p.num m' _ e) (form_below k u i e) in omega (arith, h))

-- ---- Numbers with one root

pub record IsOneRoot (q p : Fraction) (r : ℕ) : Type 0 where
  pub some : 0 < nat_abs p.num
  pub irrational : (s : ℕ) → s * s ≡ r → ⊥
  pub whole_den : q.den ≤ bits
  pub num : nat_abs p.num ≤ bits
  pub den : p.den ≤ bits
  pub radicand : r ≤ bits

pub one_root_told : (q p : Fraction) (r scale : ℕ) → IsOneRoot q p r → 0 < scale → scale ≤ bits → IsClose (term q 1 ∷ term p r ∷ []) scale → ⊥
one_root_told q p r scale i hs ht close = by p.num refl
  where
    by : (z : ℤ) → p.num ≡ z → ⊥
    by (pos m) e =
        let size : nat_abs p.num ≡ m = ap nat_abs e in
        above_apart q p r scale m size i.irrational hs close.lower_decimal close.near_middle (omega (arith, i.some, size)) i.whole_den (omega (arith, i.num, size)) i.den i.radicand ht e
    by (negsuc m) e =
        let size : nat_abs p.num ≡ suc m = ap nat_abs e in
        below_apart q p r scale (suc m) size i.irrational hs close.lower_decimal close.near_middle m refl i.whole_den (omega (arith, i.num, size)) i.den i.radicand ht e

-- without a rational, as with 0
nothing_below : (k u : ℕ) → 0 < u → (l d y : Fraction) → AtMost l (plus y d) → AtMost (plus (times zero_fraction (quotient k u)) l) (plus y (plus (quotient 2 last_unit) d))
nothing_below k u h l d y a =
    let first : AtMost (times zero_fraction (quotient k u)) (quotient 2 last_unit) = forms_at_most _ _ _ _ _ _ _ _ (form_no_multiple k u h) (form_quotient 2 last_unit units_in_one) (omega arith) in
    let both : AtMost (plus (times zero_fraction (quotient k u)) l) (plus (quotient 2 last_unit) (plus y d)) = plus_at_most _ _ _ _ first a in
    subst (λ z. AtMost (plus (times zero_fraction (quotient k u)) l) z) (sym (plus_assoc (quotient 2 last_unit) y d) ∙ ap (λ z. plus z d) (plus_comm (quotient 2 last_unit) y) ∙ plus_assoc y (quotient 2 last_unit) d) both

nothing_above : (k u : ℕ) → 0 < u → (l d y : Fraction) → AtMost y (plus l d) → AtMost y (plus (plus (times zero_fraction (quotient k u)) l) (plus (quotient 2 last_unit) d))
nothing_above k u h l d y a = at_most_trans _ _ _ a (plus_at_most _ _ _ _
    (forms_at_most l _ _ _ _ _ _ _ (form_of l) (form_plus _ _ _ _ _ _ _ _ (form_no_multiple k u h) (form_of l)) (omega arith))
    (forms_at_most d _ _ _ _ _ _ _ (form_of d) (form_plus _ _ _ _ _ _ _ _ (form_quotient 2 last_unit units_in_one) (form_of d)) (omega arith)))

near_with_zero : (v : Surd) (y : Fraction) → IsNear v y → IsNear (term zero_fraction 1 ∷ v) y
near_with_zero v y n = record { from_below = below; from_above = above }
  where
    below : (bs : List Bounds) → AreEnclosed (term zero_fraction 1 ∷ v) bs → AtMost (lower (term zero_fraction 1 ∷ v) bs) (plus y (doubt (term zero_fraction 1 ∷ v)))
    below [] e = absurd e
    below (b ∷ bs) (a, e) = nothing_below _ b.unit a.positive _ _ y (n.from_below bs e)

    above : (bs : List Bounds) → AreEnclosed (term zero_fraction 1 ∷ v) bs → AtMost y (plus (upper (term zero_fraction 1 ∷ v) bs) (doubt (term zero_fraction 1 ∷ v)))
    above [] e = absurd e
    above (b ∷ bs) (a, e) = nothing_above _ b.unit a.positive _ _ y (n.from_above bs e)

zero_den : zero_fraction.den ≤ bits
unfolding zero_fraction lowest gcd bits
zero_den = leb-true 1 (2 ^ 127) refl

pub root_alone_told : (p : Fraction) (r scale : ℕ) → 0 < nat_abs p.num → ((s : ℕ) → s * s ≡ r → ⊥) → nat_abs p.num ≤ bits → p.den ≤ bits → r ≤ bits → 0 < scale → scale ≤ bits → IsClose (term p r ∷ []) scale → ⊥
root_alone_told p r scale some i n d r' hs ht close = one_root_told zero_fraction p r scale (record { some = some; irrational = i; whole_den = zero_den; num = n; den = d; radicand = r' }) hs ht
    (record { lower_decimal = close.lower_decimal; near_middle = near_with_zero _ _ close.near_middle })
