-- Parts of lists that are held, and lists of rising terms that are the same as one that is held.
use Rattle.calc_bits.proofs.Shared.{◌≡◌, ℕ, ◌+◌, ◌*◌, ◌^◌, ◌≤◌, [], ◌∷◌, ◌++◌, sym, ap, ◌∙◌, subst, arith, le_of_dvd, Fraction, plus, negative, zero_fraction, plus_comm, plus_assoc, zero_plus}
use Rattle.calc_bits.proofs.Shared.{plus_negative, Rises, class_coefficient, Same, Term, Surd, AreProper, Same-Agree, Agree-Same, class_coefficient-append, AreWholeOver, Parts, magnitude_over}
use Rattle.calc_bits.proofs.{Shared.{root_above, term_mass, mass_from, mass, IsHeld, IsHeldByOne}, ClassMasses.{mass_same}, Held.{magnitudes_cross, square_held}, MassLaws.{parts_append, mass-append}}
use Rattle.calc_bits.proofs.RootsAbove.{root_enough}

-- ---- parts of lists

whole_left : (d : ℕ) (v w : Surd) → AreWholeOver d (v ++ w) → AreWholeOver d v
whole_left d [] w h = tt
whole_left d (t ∷ v) w (h, hs) = (h, whole_left d v w hs)

whole_right : (d : ℕ) (v w : Surd) → AreWholeOver d (v ++ w) → AreWholeOver d w
whole_right d [] w h = h
whole_right d (t ∷ v) w (h, hs) = whole_right d v w hs

pub parts_left : (d : ℕ) (v w : Surd) → Parts d (v ++ w) → Parts d v
parts_left d v w p = record { positive = p.positive; whole = whole_left d v w p.whole }

pub parts_right : (d : ℕ) (v w : Surd) → Parts d (v ++ w) → Parts d w
parts_right d v w p = record { positive = p.positive; whole = whole_right d v w p.whole }

pub held_left : (v w : Surd) (h l : ℕ) → IsHeld (v ++ w) h l → IsHeld v h l
held_left v w h l k = grind (arith, parts_left, mass-append)

pub held_right : (v w : Surd) (h l : ℕ) → IsHeld (v ++ w) h l → IsHeld w h l
held_right v w h l k = grind (arith, parts_right, mass-append)

-- one term of a list with one of another
pub held_pair : (u : Surd) (a : Term) (v w : Surd) (b : Term) (x : Surd) (h l : ℕ) → IsHeld ((u ++ (a ∷ v)) ++ (w ++ (b ∷ x))) h l → IsHeld (a ∷ b ∷ []) h l
held_pair u a v w b x h l k = grind (arith, mass-append, whole_right, whole_left)

-- ---- what is the same

pub one_mul : (n : ℕ) → 1 * n ≡ n
one_mul n = omega arith

pub mass_of_same : (m e : ℕ) (p v : Surd) → AreProper p → Rises p → Same p v → Parts e v → Parts e p → mass_from m e p ≤ mass_from m e v
mass_of_same m e p v a r s x y =
    subst (λ n. mass_from n e p ≤ mass_from m e v) (one_mul m)
    (subst (λ n. mass_from (1 * m) n p ≤ mass_from m e v) (one_mul e)
    (subst (λ n. mass_from (1 * m) (1 * e) p ≤ n) (one_mul (mass_from m e v)) (mass_same m 1 e p v a r s x (subst (λ n. Parts n p) (sym (one_mul e)) y))))

-- terms that rise, whose denominators are those of a list that is the same, with more terms behind
pub held_same_with : (p v w : Surd) (h l : ℕ) → AreProper p → Rises p → Same p v → ((d : ℕ) → Parts d v → Parts d p) → IsHeld (v ++ w) h l → IsHeld (p ++ w) h l
held_same_with p v w h l a r s f k = record {
  denominator = k.denominator;
  parts = both k.denominator k.parts;
  low = k.low;
  scale = k.scale;
  scaled = both k.scale k.scaled;
  high =
      let x : mass k.scale (p ++ w) ≡ mass k.scale p + mass k.scale w = mass-append k.scale k.scale p w in
      let y : mass k.scale (v ++ w) ≡ mass k.scale v + mass k.scale w = mass-append k.scale k.scale v w in
      let z : mass k.scale p ≤ mass k.scale v = mass_of_same k.scale k.scale p v a r s (parts_left k.scale v w k.scaled) (f k.scale (parts_left k.scale v w k.scaled)) in
      let t : mass k.scale (v ++ w) ≤ k.scale * 2 ^ h = k.high in
      omega arith;
}
  where
    both : (d : ℕ) → Parts d (v ++ w) → Parts d (p ++ w)
    both d q = parts_append d p w (f d (parts_left d v w q)) (parts_right d v w q)

pub held_same : (p v : Surd) (h l : ℕ) → AreProper p → Rises p → Same p v → ((d : ℕ) → Parts d v → Parts d p) → IsHeld v h l → IsHeld p h l
held_same p v h l a r s f k = grind (arith, mass_of_same)

pub held_same_by_one : (p v : Surd) (h l : ℕ) → AreProper p → Rises p → Same p v → ((d : ℕ) → Parts d v → Parts d p) → IsHeldByOne v h l → IsHeldByOne p h l
held_same_by_one p v h l a r s f k = grind (arith, mass_of_same)

-- ---- what stands behind both is left out

pub plus_cancel_right : (a b c : Fraction) → plus a c ≡ plus b c → a ≡ b
plus_cancel_right a b c e = sym (back a) ∙ ap (λ x. plus x (negative c)) e ∙ back b
  where
    back : (x : Fraction) → plus (plus x c) (negative c) ≡ x
    back x = plus_assoc x c (negative c) ∙ ap (plus x) (plus_negative c) ∙ plus_comm x zero_fraction ∙ zero_plus x

pub same_without : (p v w : Surd) → Same (p ++ w) (v ++ w) → Same p v
same_without p v w s = Agree-Same (record {
  at = λ c. plus_cancel_right (class_coefficient p c) (class_coefficient v c) (class_coefficient w c)
      (sym (class_coefficient-append p w c) ∙ (Same-Agree s).at c ∙ class_coefficient-append v w c);
})

-- ---- one term

pub term_held : (t : Term) (h l : ℕ) → IsHeld (t ∷ []) h l → (d : ℕ) → Parts d (t ∷ []) → magnitude_over d t.coefficient * magnitude_over d t.coefficient * t.radicand ≤ (d * 2 ^ h) * (d * 2 ^ h)
term_held t h l k d p =
    let e : ℕ = k.scale in
    let m : ℕ = magnitude_over e t.coefficient in
    square_held (magnitude_over d t.coefficient) t.radicand d e m (root_above (m * m * t.radicand)) h k.scaled.positive
    (magnitudes_cross d e t.coefficient p.whole.0 k.scaled.whole.0) (root_enough (m * m * t.radicand))
    (at (root_above (m * m * t.radicand)) (term_mass e e t) (e * 2 ^ h) (omega arith) k.high)
  where
    at : (u m p : ℕ) → u ≤ m → m + 0 ≤ p → u ≤ p
    at u m p h k = omega arith

pub den_held : (t : Term) (h l : ℕ) → IsHeld (t ∷ []) h l → t.coefficient.den ≤ 2 ^ l
den_held t h l k = let a : t.coefficient.den ≤ k.denominator = le_of_dvd k.parts.positive k.parts.whole.0 in let b : k.denominator ≤ 2 ^ l = k.low in omega arith
