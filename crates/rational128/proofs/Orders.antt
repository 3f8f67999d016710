-- The order of two fractions by their numerators and denominators.
use Rattle.rational128.proofs.Shared.{◌≡◌, ◌∙◌, ℕ, zero, suc, ◌*◌, ◌<◌, ◌^◌, ℤ, pos, negsuc, neg_ℤ, ◌*ℤ◌, Bool, true, false, ap, sym, refl, arith, nat_abs, to_z, of_z, w128, lt_z, Fraction, den_pos}
use Rattle.rational128.proofs.Signed.{told}
use Rattle.calc_terms.specs.Fractions.{fraction_cmp}
use Rattle.std.proofs.Common.{Ordering, Less, Greater}
use Rattle.std.proofs.lemmas.Bool.{ltb-true}
use Rattle.std.specs.Ordering.{int_cmp, nat_cmp}

-- ---- whole numbers

both_pos : (m n : ℕ) → int_cmp (pos m) (pos n) ≡ nat_cmp m n
both_pos m n = grind arith

both_neg : (m n : ℕ) → int_cmp (neg_ℤ (pos m)) (neg_ℤ (pos n)) ≡ nat_cmp n m
both_neg zero zero = refl
both_neg zero (suc n) = grind arith
both_neg (suc m) zero = grind arith
both_neg (suc m) (suc n) = grind arith

neg_pos : (m n : ℕ) → 0 < m → int_cmp (neg_ℤ (pos m)) (pos n) ≡ Less
neg_pos zero n h = absurd (omega arith)
neg_pos (suc m) n h = refl

pos_neg : (m n : ℕ) → 0 < n → int_cmp (pos m) (neg_ℤ (pos n)) ≡ Greater
pos_neg m zero h = absurd (omega arith)
pos_neg m (suc n) h = refl

-- ---- products with denominators

not_below : (m : ℕ) → lt_z (pos m) (pos 0) ≡ true → ⊥
not_below m h = let lt : m < 0 = ltb-true m 0 h in absurd (omega arith)

positive : (m q : ℕ) → 0 < q → 0 < suc m * q
positive m q h = grind arith

by_pos : (x y : ℤ) (p q : ℕ) → lt_z x (pos 0) ≡ false → lt_z y (pos 0) ≡ false → int_cmp (x *ℤ pos q) (y *ℤ pos p) ≡ nat_cmp (nat_abs x * q) (nat_abs y * p)
by_pos (pos m) (pos n) p q h k = both_pos (m * q) (n * p)
by_pos (pos m) (negsuc n) p q h k = absurd cc
by_pos (negsuc m) y p q h k = absurd cc

by_neg : (x y : ℤ) (p q : ℕ) → lt_z x (pos 0) ≡ true → lt_z y (pos 0) ≡ true → int_cmp (x *ℤ pos q) (y *ℤ pos p) ≡ nat_cmp (nat_abs y * p) (nat_abs x * q)
by_neg (negsuc m) (negsuc n) p q h k = both_neg (suc m * q) (suc n * p)
by_neg (negsuc m) (pos n) p q h k = absurd (not_below n k)
by_neg (pos m) y p q h k = absurd (not_below m h)

by_less : (x y : ℤ) (p q : ℕ) → 0 < q → lt_z x (pos 0) ≡ true → lt_z y (pos 0) ≡ false → int_cmp (x *ℤ pos q) (y *ℤ pos p) ≡ Less
by_less (negsuc m) (pos n) p q d h k = neg_pos (suc m * q) (n * p) (positive m q d)
by_less (negsuc m) (negsuc n) p q d h k = absurd cc
by_less (pos m) y p q d h k = absurd (not_below m h)

by_greater : (x y : ℤ) (p q : ℕ) → 0 < p → lt_z x (pos 0) ≡ false → lt_z y (pos 0) ≡ true → int_cmp (x *ℤ pos q) (y *ℤ pos p) ≡ Greater
by_greater (pos m) (negsuc n) p q d h k = pos_neg (m * q) (suc n * p) (positive n p d)
by_greater (negsuc m) (negsuc n) p q d h k = absurd cc
by_greater x (pos n) p q d h k = absurd (not_below n k)

-- ---- fractions, of which the parts are told

-- the parts of a fraction
pub record HasParts (a : Fraction) (x : ℤ) (p : ℕ) : Type 0 where
  pub num : x ≡ a.num
  pub den : p ≡ a.den
  pub small : nat_abs x < 2 ^ 127

-- the test of a sign, and the magnitude, are those of the numerator
sign : (x : ℤ) (b : Bool) → nat_abs x < 2 ^ 127 → lt_z (to_z w128 (of_z w128 x)) (pos 0) ≡ b → lt_z x (pos 0) ≡ b
sign x b h e = ap (λ (z : ℤ). lt_z z (pos 0)) (sym (told x h)) ∙ e

size : (x : ℤ) (m : ℕ) → nat_abs x < 2 ^ 127 → m ≡ nat_abs (to_z w128 (of_z w128 x)) → m ≡ nat_abs x
size x m h e = e ∙ ap nat_abs (told x h)

pub less : (a b : Fraction) (x y : ℤ) (p q : ℕ) → HasParts a x p → HasParts b y q → lt_z (to_z w128 (of_z w128 x)) (pos 0) ≡ true → lt_z (to_z w128 (of_z w128 y)) (pos 0) ≡ false → Less ≡ fraction_cmp a b
less a b x y p q k l h i =
    let e = by_less x y p q (let d : 0 < q = omega (arith, l.den, den_pos b) in d) (sign x true k.small h) (sign y false l.small i) in
    cc

pub greater : (a b : Fraction) (x y : ℤ) (p q : ℕ) → HasParts a x p → HasParts b y q → lt_z (to_z w128 (of_z w128 x)) (pos 0) ≡ false → lt_z (to_z w128 (of_z w128 y)) (pos 0) ≡ true → Greater ≡ fraction_cmp a b
greater a b x y p q k l h i =
    let e = by_greater x y p q (let d : 0 < p = omega (arith, k.den, den_pos a) in d) (sign x false k.small h) (sign y true l.small i) in
    cc

pub positives : (a b : Fraction) (x y : ℤ) (p q m n : ℕ) (r : Ordering) → HasParts a x p → HasParts b y q → lt_z (to_z w128 (of_z w128 x)) (pos 0) ≡ false → lt_z (to_z w128 (of_z w128 y)) (pos 0) ≡ false
    → m ≡ nat_abs (to_z w128 (of_z w128 x)) → n ≡ nat_abs (to_z w128 (of_z w128 y)) → r ≡ nat_cmp (m * q) (n * p) → r ≡ fraction_cmp a b
positives a b x y p q m n r k l h i s t is =
    let e = by_pos x y p q (sign x false k.small h) (sign y false l.small i) in
    let first = size x m k.small s in
    let second = size y n l.small t in
    cc

pub negatives : (a b : Fraction) (x y : ℤ) (p q m n : ℕ) (r : Ordering) → HasParts a x p → HasParts b y q → lt_z (to_z w128 (of_z w128 x)) (pos 0) ≡ true → lt_z (to_z w128 (of_z w128 y)) (pos 0) ≡ true
    → m ≡ nat_abs (to_z w128 (of_z w128 x)) → n ≡ nat_abs (to_z w128 (of_z w128 y)) → r ≡ nat_cmp (n * p) (m * q) → r ≡ fraction_cmp a b
negatives a b x y p q m n r k l h i s t is =
    let e = by_neg x y p q (sign x true k.small h) (sign y true l.small i) in
    let first = size x m k.small s in
    let second = size y n l.small t in
    cc
