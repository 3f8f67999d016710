-- Sums of fractions over a list do not depend on its order.
use Rattle.expansions.proofs.Shared.{◌≡◌, ℕ, zero, suc, ◌<◌, List, [], ◌∷◌, length, get_or, set, inl, inr, refl, sym, ap, ◌∙◌, arith, get_or-set_same, get_or-set_other, IsPermutation, swap}
use Rattle.expansions.proofs.Shared.{length-set, IsPermutation-keeps, Fraction, negative, plus, plus_assoc, plus_comm, plus_negative, zero_fraction, cases_eq, plus_left_comm, plus_zero}
use Rattle.calc_bits.proofs.Parts.{plus_cancel_right as cancelled}

abbrev pub total : {X : Type 0} → (X → Fraction) → List X → Fraction
total f [] = zero_fraction
total f (x ∷ xs) = plus (f x) (total f xs)

-- one element is exchanged
total_set : {X : Type 0} (f : X → Fraction) (xs : List X) (i : ℕ) (y d : X) → i < length xs → plus (total f (set xs i y)) (f (get_or xs i d)) ≡ plus (f y) (total f xs)
total_set f [] i y d l = absurd (omega (arith, l))
total_set f (x ∷ xs) zero y d l = plus_assoc (f y) (total f xs) (f x) ∙ ap (plus (f y)) (plus_comm (total f xs) (f x))
total_set f (x ∷ xs) (suc i) y d l =
    plus_assoc (f x) (total f (set xs i y)) (f (get_or xs i d)) ∙ ap (plus (f x)) (total_set f xs i y d (omega (arith, l))) ∙ plus_left_comm (f x) (f y) (total f xs)

two_set : (t u v a b : Fraction) → plus u a ≡ plus b t → plus v b ≡ plus a u → v ≡ t
two_set t u v a b p q = cancelled v t b (q ∙ plus_comm a u ∙ p ∙ plus_comm b t)

total_two : {X : Type 0} (f : X → Fraction) (l : List X) (d : X) (i j : ℕ) → i < length l → j < length l → total f (set (set l i (get_or l j d)) j (get_or l i d)) ≡ total f l
total_two {X} f l d i j p q =
    let b : X = get_or l j d in
    let w : List X = set l i b in
    let there : get_or w j d ≡ b = elim (cases_eq j i) [ inl e ↦ ap (λ n. get_or w n d) e ∙ get_or-set_same l i b d p | inr n ↦ get_or-set_other l i j b d n ] in
    let first = total_set f l i b d p in
    let second = total_set f w j (get_or l i d) d (omega (arith, q, length-set l i b)) in
    two_set (total f l) (total f w) (total f (set w j (get_or l i d))) (f (get_or l i d)) (f b) first (ap (λ x. plus (total f (set w j (get_or l i d))) (f x)) (sym there) ∙ second)

total_swap : {X : Type 0} (f : X → Fraction) (l : List X) (i j : ℕ) → i < length l → j < length l → total f (swap l i j) ≡ total f l
total_swap f [] i j p q = absurd (omega (arith, p))
total_swap f (d ∷ l) i j p q = total_two f (d ∷ l) d i j p q

pub total_moved : {X : Type 0} (f : X → Fraction) (xs ys : List X) → IsPermutation xs ys → total f ys ≡ total f xs
total_moved f xs ys = IsPermutation-keeps xs (λ l. total f l ≡ total f xs) refl (λ l i j p q h. total_swap f l i j p q ∙ h) ys
