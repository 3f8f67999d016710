-- A test that surds are the same, for examples that compute.
use Rattle.calc_algebra.proofs.Shared.{◌≡◌, ℕ, zero, suc, ◌∷◌, List, Bool, true, false, ◌&&◌, ◌==◌, arith, ℤ, pos, negsuc, Contains, and_parts, eqb-true, Fraction, []}
use Rattle.calc_algebra.proofs.Shared.{fraction_path, Surd, class_coefficient, radicands, Same}

abbrev same_int : ℤ → ℤ → Bool
same_int (pos m) (pos n) = m == n
same_int (negsuc m) (negsuc n) = m == n
same_int _ _ = false

same_int-true : (x y : ℤ) → same_int x y ≡ true → x ≡ y
same_int-true x y h = grind arith

abbrev same_fractions : Fraction → Fraction → Bool
same_fractions p q = same_int p.num q.num && (p.den == q.den)

same_fractions-true : (p q : Fraction) → same_fractions p q ≡ true → p ≡ q
same_fractions-true p q h = let (a, b) = and_parts (same_int p.num q.num) (p.den == q.den) h in fraction_path p q (same_int-true p.num q.num a) (eqb-true p.den q.den b)

abbrev same_at_all : Surd → Surd → List ℕ → Bool
same_at_all v w [] = true
same_at_all v w (s ∷ ss) = same_fractions (class_coefficient v s) (class_coefficient w s) && same_at_all v w ss

same_at : (v w : Surd) (ss : List ℕ) → same_at_all v w ss ≡ true → (s : ℕ) → Contains ss s → class_coefficient v s ≡ class_coefficient w s
same_at v w [] h s (k, l, e) = absurd (omega arith)
same_at v w (r ∷ ss) h s (zero, l, e) =
    let (a, b) = and_parts (same_fractions (class_coefficient v r) (class_coefficient w r)) (same_at_all v w ss) h in
    rw (← e) (same_fractions-true (class_coefficient v r) (class_coefficient w r) a)
same_at v w (r ∷ ss) h s (suc k, l, e) =
    let (a, b) = and_parts (same_fractions (class_coefficient v r) (class_coefficient w r)) (same_at_all v w ss) h in
    same_at v w ss b s (k, omega arith, e)

-- equal coefficients at each radicand that occurs
abbrev pub compared : Surd → Surd → Bool
compared v w = same_at_all v w (radicands v) && same_at_all v w (radicands w)

pub compared_same : (v w : Surd) → compared v w ≡ true → Same v w
compared_same v w h = grind (arith, same_at)
