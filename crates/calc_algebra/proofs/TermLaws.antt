-- Surds term by term: what respects sameness, terms of one class joined, squares taken out, products of two terms, and the order of terms.
use Rattle.calc_algebra.proofs.Shared.{◌≡◌, ℕ, zero, suc, ◌*◌, ◌<◌, pos, ◌∷◌, ◌++◌, Bool, true, false, if◌then◌else◌, refl, sym, ap, ◌∙◌, arith, append_assoc, times_comm, times_assoc, times_plus, []}
use Rattle.calc_algebra.proofs.Shared.{zero_plus, zero_times, Fraction, lowest, plus, times, zero_fraction, plus_assoc, times_lowest, mul_pos, quotient, whole_fraction, are_alike, term_share, Same}
use Rattle.calc_algebra.proofs.Shared.{square_root, Term, Surd, term, surd_scale, surd_times, surd_power, false_from_ne_true, one-mul}
use Rattle.calc_algebra.proofs.{SquareRootLaws.{square_root-square, square_from_scaled}, SurdLaws.{Agree, Agree-refl, Agree-sym, Agree-trans, Agree-eq, Agree-Same, Agree-append}}
use Rattle.calc_terms.proofs.SmallLaws.{positive_factor as factor_pos}
use Rattle.calc_algebra.proofs.{SurdLaws.{append_comm, Agree-surd_scale, Agree-surd_times, Agree-surd_power, times_zero}, SquareClassLaws.{Alike, alike_from, alike_true, Same-Agree}}
pub use Rattle.calc_algebra.proofs.SquareClassLaws.{Same-refl, positive_right as alike_right}

-- ---- sameness is respected

pub Same-eq : {v w : Surd} → v ≡ w → Same v w
Same-eq e = Agree-Same (Agree-eq e)

pub Same-append : {v v' w w' : Surd} → Same v v' → Same w w' → Same (v ++ w) (v' ++ w')
Same-append h k = Agree-Same (Agree-append (Same-Agree h) (Same-Agree k))

pub Same-cons : (t : Term) {v w : Surd} → Same v w → Same (t ∷ v) (t ∷ w)
Same-cons t h = Same-append (Same-refl (t ∷ [])) h

pub Same-surd_scale : (c : Fraction) {v w : Surd} → Same v w → Same (surd_scale c v) (surd_scale c w)
Same-surd_scale c h = Agree-Same (Agree-surd_scale c (Same-Agree h))

pub Same-surd_times : {v v' w w' : Surd} → Same v v' → Same w w' → Same (surd_times v w) (surd_times v' w')
Same-surd_times h k = Agree-Same (Agree-surd_times (Same-Agree h) (Same-Agree k))

pub Same-surd_power : (n : ℕ) {v w : Surd} → Same v w → Same (surd_power v n) (surd_power w n)
Same-surd_power n h = Agree-Same (Agree-surd_power n (Same-Agree h))

-- ---- the order of terms

-- two parts of a sum change places
pub Same-append_comm : (v w : Surd) → Same (v ++ w) (w ++ v)
Same-append_comm v w = Agree-Same (append_comm v w)

-- a term goes to the front
pub Same-to_front : (v : Surd) (t : Term) (w : Surd) → Same (v ++ (t ∷ w)) (t ∷ (v ++ w))
Same-to_front v t w = Agree-Same (Agree-trans (Agree-eq (sym (append_assoc v (t ∷ []) w))) (Agree-append (append_comm v (t ∷ [])) (Agree-refl w)))

-- ---- the share of one term

-- the share of a term that is alike
pub share_alike : (q : Fraction) (r s t : ℕ) → Alike r s t → term_share (term q r) s ≡ times q (quotient t s)
share_alike q r s t a = rw (alike_true r s t a, ← a.square, square_root-square t) refl

-- the share of a term that is not
pub share_apart : (q : Fraction) (r s : ℕ) → are_alike r s ≡ false → term_share (term q r) s ≡ zero_fraction
share_apart q r s h = rw h refl

share_sum : (b : Bool) (p q x : Fraction) → plus (if b then times p x else zero_fraction) (if b then times q x else zero_fraction) ≡ (if b then times (plus p q) x else zero_fraction)
share_sum b p q x = grind (arith, times_comm, times_plus, zero_plus)

-- ---- terms that go

pub Agree-zero_term : (r : ℕ) → Agree (term zero_fraction r ∷ []) []
Agree-zero_term r = record {
  at = λ s.
      let nothing : term_share (term zero_fraction r) s ≡ zero_fraction = grind (arith, zero_times) in
      ap (λ x. plus x zero_fraction) nothing ∙ zero_plus zero_fraction;
}

-- a term with coefficient 0 is nothing
pub zero_term : (r : ℕ) → Same (term zero_fraction r ∷ []) []
zero_term r = Agree-Same (Agree-zero_term r)

-- ---- squares are taken out

no_class_of_zero : (s : ℕ) → are_alike 0 s ≡ false
no_class_of_zero s = false_from_ne_true (are_alike 0 s) (λ h. let a = alike_from 0 s h in absurd (omega (arith, a.square, mul_pos (square_root (0 * s)) (square_root (0 * s)) (a.positive) (a.positive))))

-- a term with radicand 0 is nothing
pub zero_radicand : (q : Fraction) → Same (term q 0 ∷ []) []
zero_radicand q = Agree-Same (record { at = λ s. ap (λ x. plus x zero_fraction) (share_apart q 0 s (no_class_of_zero s)) ∙ zero_plus zero_fraction })

whole_times_quotient : (s u x : ℕ) → 0 < x → times (whole_fraction (pos s)) (quotient u x) ≡ quotient (s * u) x
whole_times_quotient s u x h = times_lowest (pos s) (pos u) 1 x (omega arith) h ∙ ap (lowest (pos (s * u))) (one-mul x)

square_alike : (s t x u : ℕ) → 0 < s → Alike t x u → Alike (s * s * t) x (s * u)
square_alike s t x u h a = record { square = omega (arith, ap (λ n. s * s * n) a.square); positive = mul_pos s u h (a.positive) }

square_in_class : (s t x m : ℕ) → 0 < s → Alike (s * s * t) x m → are_alike t x ≡ true
square_in_class s t x m h a =
    let (u, f) = square_from_scaled (t * x) s m h (omega (arith, a.square)) in
    let p : 0 < t * x = factor_pos (s * s) (t * x) (m * m) (omega (arith, a.square)) (mul_pos m m a.positive a.positive) in
    alike_true t x u (record { square = omega (arith, f); positive = factor_pos u u (t * x) (omega (arith, f)) p })

square_apart : (s t x : ℕ) → 0 < s → are_alike t x ≡ false → are_alike (s * s * t) x ≡ false
square_apart s t x h e = false_from_ne_true (are_alike (s * s * t) x) (λ k.
    let g : are_alike t x ≡ true = square_in_class s t x (square_root (s * s * t * x)) h (alike_from (s * s * t) x k) in
    cc)

share_extracted : (q : Fraction) (s t x : ℕ) → 0 < s → term_share (term q (s * s * t)) x ≡ term_share (term (times q (whole_fraction (pos s))) t) x
share_extracted q s t x h = by (are_alike t x) refl
  where
    by : (b : Bool) → are_alike t x ≡ b → term_share (term q (s * s * t)) x ≡ term_share (term (times q (whole_fraction (pos s))) t) x
    by true e =
        let u : ℕ = square_root (t * x) in
        let a : Alike t x u = alike_from t x e in
        share_alike q (s * s * t) x (s * u) (square_alike s t x u h a)
        ∙ ap (times q) (sym (whole_times_quotient s u x (alike_right t x u a)))
        ∙ sym (times_assoc q (whole_fraction (pos s)) (quotient u x))
        ∙ sym (share_alike (times q (whole_fraction (pos s))) t x u a)
    by false e = share_apart q (s * s * t) x (square_apart s t x h e) ∙ sym (share_apart (times q (whole_fraction (pos s))) t x e)

pub Agree-extracted : (q : Fraction) (s t : ℕ) → Agree (term q (s * s * t) ∷ []) (term (times q (whole_fraction (pos s))) t ∷ [])
unfolding zero_fraction
Agree-extracted q zero t =
    Agree-trans (Agree-eq (ap (λ r. term q r ∷ []) (omega arith)))
    (Agree-trans (Same-Agree (zero_radicand q))
    (Agree-trans (Agree-sym (Agree-zero_term t)) (Agree-eq (ap (λ c. term c t ∷ []) (sym (times_zero q))))))
Agree-extracted q (suc s) t = record { at = λ x. ap (λ y. plus y zero_fraction) (share_extracted q (suc s) t x (omega arith)) }

-- the root of s * s * t is s times that of t
pub extracted : (q : Fraction) (r s t : ℕ) → r ≡ s * s * t → Same (term q r ∷ []) (term (times q (whole_fraction (pos s))) t ∷ [])
extracted q r s t e = Agree-Same (Agree-trans (Agree-eq (ap (λ r. term q r ∷ []) e)) (Agree-extracted q s t))

-- ---- terms of one class are joined

-- two terms with one radicand
pub joined_radicand : (p q : Fraction) (r : ℕ) → Same (term p r ∷ term q r ∷ []) (term (plus p q) r ∷ [])
joined_radicand p q r = Agree-Same (record {
  at = λ s. sym (plus_assoc (term_share (term p r) s) (term_share (term q r) s) zero_fraction)
      ∙ ap (λ x. plus x zero_fraction) (share_sum (are_alike r s) p q (quotient (square_root (r * s)) s));
})

-- two terms of one class: with r = g * a * a and s = g * b * b, c * √r + d * √s is (c * a + d * b) * √g
pub joined : (c d : Fraction) (r s g a b : ℕ) → r ≡ g * a * a → s ≡ g * b * b
    → Same (term c r ∷ term d s ∷ []) (term (plus (times c (whole_fraction (pos a))) (times d (whole_fraction (pos b)))) g ∷ [])
joined c d r s g a b e f =
    Agree-Same (Agree-trans
    (Agree-append {v = term c r ∷ []} (Same-Agree (extracted c r a g (omega arith))) (Same-Agree (extracted d s b g (omega arith))))
    (Same-Agree (joined_radicand (times c (whole_fraction (pos a))) (times d (whole_fraction (pos b))) g)))

-- ---- products of two terms

pub surd_times-terms : (q c : Fraction) (r s : ℕ) → surd_times (term q r ∷ []) (term c s ∷ []) ≡ term (times q c) (r * s) ∷ []
surd_times-terms q c r s = refl

pub ruleset respected = (Same-append, Same-surd_scale, Same-surd_times, Same-surd_power)
