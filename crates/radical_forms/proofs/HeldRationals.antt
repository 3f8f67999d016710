-- Numbers that no bits hold are rationals.
use Rattle.radical_forms.proofs.Shared.{◌≡◌, ◌≢◌, ℕ, ◌*◌, ◌^◌, ◌≤◌, ◌<◌, [], ◌∷◌, true, refl, sym, ap, ◌∙◌, subst, arith, mul-le, one_not_zero, IsNumber, IsRadicand, value, natural_of, terms_of, Term}
use Rattle.radical_forms.proofs.Shared.{Surd, term_held, Parts, magnitude_over, mass, IsHeld, Fraction, zero_fraction, Tree, num, add, mult, root, none, more, is_num, magnitude_positive}
use Rattle.std.proofs.Common.{length}
use Rattle.calc_algebra.specs.Numbers.{term_of}

one_denominator : (d : ℕ) → 0 < d → d ≤ 2 ^ 0 → d ≡ 1
one_denominator d o l = omega arith

small_square : (m r : ℕ) → 0 < m → 2 ≤ r → m * m * r ≤ (1 * 2 ^ 0) * (1 * 2 ^ 0) → ⊥
small_square m r h k a = grind (arith, mul-le)

term_without : (c : Fraction) (r : ℕ) (t : Term) → t.coefficient ≡ c → t.radicand ≡ r → c ≢ zero_fraction → 2 ≤ r → IsHeld (t ∷ []) 0 0 → ⊥
term_without c r t i j z k a =
    let one : a.denominator ≡ 1 = one_denominator a.denominator a.parts.positive a.low in
    let p : Parts 1 (t ∷ []) = subst (λ (d : ℕ). Parts d (t ∷ [])) one a.parts in
    let m : 0 < magnitude_over 1 t.coefficient = magnitude_positive t.coefficient 1 (λ e. z (sym i ∙ e)) (omega arith) p.whole.0 in
    small_square (magnitude_over 1 t.coefficient) t.radicand m (omega (arith, k, j)) (term_held t 0 0 a 1 p)

two_masses : (e : ℕ) (v : Surd) → 2 ≤ length v → 2 * e ≤ mass e v
two_masses e (t ∷ (u ∷ v)) l = omega arith
two_masses e v l = absurd (omega arith)

sum_without : (v : Surd) → 2 ≤ length v → IsHeld v 0 0 → ⊥
sum_without v l a = omega (arith, two_masses a.scale v l, a.high, a.scaled.positive)

radicand_two : (r : Fraction) → IsRadicand r → 2 ≤ natural_of r.num
radicand_two r (w, n, i, l, c) = omega (arith, l, ap natural_of i)

pub rational_without : (b : Tree) → IsNumber b → IsHeld (value b) 0 0 → is_num b ≡ true
rational_without (num q) n a = refl
rational_without (add ts) n a = absurd (sum_without (terms_of ts) n.0 a)
rational_without (root (num r)) n a = absurd (term_without (term_of (root (num r))).coefficient (term_of (root (num r))).radicand (term_of (root (num r))) refl refl one_not_zero (radicand_two r n) a)
rational_without (mult (more (num q) (more (root (num r)) none))) n a =
    absurd (term_without q (term_of (mult (more (num q) (more (root (num r)) none)))).radicand (term_of (mult (more (num q) (more (root (num r)) none)))) refl refl n.0 (radicand_two r n.2) a)
rational_without t n a = absurd n
