-- Being alike is an equivalence, and surds that are equal class by class agree at every number.
use Rattle.calc_algebra.proofs.Shared.{ℕ, ◌*◌, ◌≡◌, ◌<◌, ◌⊎◌, pos, ◌*ℤ◌, ◌∷◌, Bool, true, false, Contains, refl, sym, ap, ◌∙◌, arith, inl, inr, Contains-append_right, and_from, [], times_comm}
use Rattle.calc_algebra.proofs.Shared.{times_assoc, times_plus, zero_plus, zero_times, Fraction, plus, times, zero_fraction, same_lowest, times_lowest, mul_pos, quotient, are_alike, term_share}
use Rattle.calc_algebra.proofs.{Shared.{class_coefficient, radicands, Same, square_root, Term, Surd}, SquareRootLaws.{square_root-square, square_from_scaled}}
use Rattle.calc_algebra.proofs.SurdLaws.{Agree, Agree-Same, Agree-trans}
use Rattle.calc_terms.proofs.SmallLaws.{same_tests as same_bool, positive_factor as factor_pos}

-- the product is the square of t, which is not 0
pub record Alike (r s t : ℕ) : Type 0 where
  pub square : t * t ≡ r * s
  pub positive : 0 < t

pub alike_from : (r s : ℕ) → are_alike r s ≡ true → Alike r s (square_root (r * s))
alike_from r s h = grind arith

root_of : (r s t : ℕ) → Alike r s t → square_root (r * s) ≡ t
root_of r s t a = rw (← a.square) (square_root-square t)

pub alike_true : (r s t : ℕ) → Alike r s t → are_alike r s ≡ true
alike_true r s t a = grind (arith, root_of, and_from)

same_squares : (a b : ℕ) → a * a ≡ b * b → a ≡ b
same_squares a b e = grind arith

pub alike_sym : (r s t : ℕ) → Alike r s t → Alike s r t
alike_sym r s t a = record { square = omega (arith, a.square); positive = a.positive }

pub positive_right : (r s t : ℕ) → Alike r s t → 0 < s
positive_right r s t a = grind arith

-- being alike passes on, and how the roots go together
pub alike_trans : (r c s t u : ℕ) → Alike r c t → Alike c s u → (x : ℕ) × Alike r s x × (x * c ≡ t * u)
alike_trans r c s t u a b =
    let e : (r * s) * (c * c) ≡ (t * u) * (t * u) = squares r c s t u (a.square) (b.square) in
    let (x, f) = square_from_scaled (r * s) c (t * u) (positive_right r c t a) e in (
      x,
      record { square = sym f; positive = factor_pos x x (r * s) (sym f) (mul_pos r s (positive_right c r t (alike_sym r c t a)) (positive_right c s u b)) },
      same_squares (x * c) (t * u) (omega (arith, e, ap (λ n. n * (c * c)) f)),
    )
  where
    squares : (r c s t u : ℕ) → t * t ≡ r * c → u * u ≡ c * s → (r * s) * (c * c) ≡ (t * u) * (t * u)
    squares r c s t u p q = omega (arith, ap (λ n. n * (u * u)) p, ap (λ n. (r * c) * n) q)

module _ (c s u : ℕ) (b : Alike c s u) where
  test_moved : (r : ℕ) → are_alike r s ≡ are_alike r c
  test_moved r = same_bool _ _
      (λ h. let m = alike_trans r s c _ u (alike_from r s h) (alike_sym c s u b) in alike_true r c _ (m.1))
      (λ h. let m = alike_trans r c s _ u (alike_from r c h) b in alike_true r s _ (m.1))

  ratio_moved : (r t x : ℕ) → Alike r c t → x * c ≡ t * u → quotient x s ≡ times (quotient t c) (quotient u s)
  ratio_moved r t x a e =
      let pc : 0 < c = positive_right r c t a in
      let ps : 0 < s = positive_right c s u b in
      same_lowest (pos x) (pos t *ℤ pos u) s (c * s) ps (mul_pos c s pc ps) (ap pos (omega (arith, ap (λ n. n * s) e)))
      ∙ sym (times_lowest (pos t) (pos u) c s pc ps)

  term_share_moved : (a : Term) → term_share a s ≡ times (term_share a c) (quotient u s)
  term_share_moved a = by (are_alike a.radicand c) refl
    where
      r : ℕ
      r = a.radicand

      by : (k : Bool) → are_alike r c ≡ k → term_share a s ≡ times (term_share a c) (quotient u s)
      by true h =
          let m = alike_trans r c s _ u (alike_from r c h) b in
          let e : square_root (r * s) ≡ m.0 = root_of r s (m.0) (m.1) in
          rw (test_moved r, h) (ap (times a.coefficient) (ap (λ n. quotient n s) e ∙ ratio_moved r _ _ (alike_from r c h) (m.2)) ∙ sym (times_assoc a.coefficient (quotient (square_root (r * c)) c) (quotient u s)))
      by false h = rw (test_moved r, h) (sym (zero_times (quotient u s)))

  times_plus_right : (x y z : Fraction) → times (plus x y) z ≡ plus (times x z) (times y z)
  times_plus_right x y z = times_comm (plus x y) z ∙ times_plus z x y ∙ (λ i. plus (times_comm z x i) (times_comm z y i))

  pub class_coefficient_moved : (v : Surd) → class_coefficient v s ≡ times (class_coefficient v c) (quotient u s)
  class_coefficient_moved [] = sym (zero_times (quotient u s))
  class_coefficient_moved (t ∷ v) = (λ i. plus (term_share_moved t i) (class_coefficient_moved v i)) ∙ sym (times_plus_right (term_share t c) (class_coefficient v c) (quotient u s))

abbrev Found : Surd → ℕ → Type 0
Found v s = (c : ℕ) × Contains (radicands v) c × (are_alike c s ≡ true)

find : (v : Surd) (s : ℕ) → Found v s ⊎ (class_coefficient v s ≡ zero_fraction)
find [] s = inr refl
find (t ∷ v) s = by (are_alike t.radicand s) refl (find v s)
  where
    by : (b : Bool) → are_alike t.radicand s ≡ b → Found v s ⊎ (class_coefficient v s ≡ zero_fraction) → Found (t ∷ v) s ⊎ (class_coefficient (t ∷ v) s ≡ zero_fraction)
    by true h rest = inl (t.radicand, (0, omega arith, refl), h)
    by false h (inl (c, m, k)) = inl (c, Contains-append_right (t.radicand ∷ []) (radicands v) c m, k)
    by false h (inr e) = inr (rw (h, e) (zero_plus zero_fraction))

pub Same-Agree : {v w : Surd} → Same v w → Agree v w
Same-Agree {v} {w} h = record { at = at }
  where
    through : (s c : ℕ) → class_coefficient v c ≡ class_coefficient w c → are_alike c s ≡ true → class_coefficient v s ≡ class_coefficient w s
    through s c e k = class_coefficient_moved c s _ (alike_from c s k) v ∙ ap (λ x. times x (quotient (square_root (c * s)) s)) e ∙ sym (class_coefficient_moved c s _ (alike_from c s k) w)

    second : (s : ℕ) → class_coefficient v s ≡ zero_fraction → Found w s ⊎ (class_coefficient w s ≡ zero_fraction) → class_coefficient v s ≡ class_coefficient w s
    second s e (inl (c, m, k)) = through s c (h.of_second c m) k
    second s e (inr f) = e ∙ sym f

    first : (s : ℕ) → Found v s ⊎ (class_coefficient v s ≡ zero_fraction) → class_coefficient v s ≡ class_coefficient w s
    first s (inl (c, m, k)) = through s c (h.of_first c m) k
    first s (inr e) = second s e (find w s)

    at : (s : ℕ) → class_coefficient v s ≡ class_coefficient w s
    at s = first s (find v s)

pub Same-refl : (v : Surd) → Same v v
Same-refl v = record { of_first = λ s c. refl; of_second = λ s c. refl }

pub Same-sym : {v w : Surd} → Same v w → Same w v
Same-sym h = record { of_first = λ s c. sym (h.of_second s c); of_second = λ s c. sym (h.of_first s c) }

pub Same-trans : {u v w : Surd} → Same u v → Same v w → Same u w
Same-trans a b = Agree-Same (Agree-trans (Same-Agree a) (Same-Agree b))

pub ruleset sameness = (Same-trans, Same-Agree, Agree-Same)
