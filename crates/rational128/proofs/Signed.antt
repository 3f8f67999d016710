-- Signed numbers that fit, as the program hands them on.
use Rattle.rational128.proofs.Shared.{◌≡◌, ◌∙◌, ℕ, suc, ◌*◌, ◌<◌, ◌^◌, ℤ, pos, negsuc, neg_ℤ, ◌*ℤ◌, ◌-ℤ◌, ap, refl, subst, sym, arith, ints, false, true, to_z, of_z, nat_abs, w128, to_z-of_z, fits_signed_from_abs, over}
use Rattle.rational128.proofs.Shared.{FitsSigned, lt_z, unsigned_abs-mul}
use Rattle.std.proofs.lemmas.Bool.{ltb-true}

-- a number that fits is handed on as it is
pub told : (z : ℤ) → nat_abs z < 2 ^ 127 → to_z w128 (of_z w128 z) ≡ z
told z h = to_z-of_z w128 z (fits_signed_from_abs w128 z h)

-- x is the product of p and k, and fits
pub record IsFittingProduct (x p : ℤ) (k : ℕ) : Type 0 where
  pub is : x ≡ p *ℤ pos k
  pub fits : nat_abs p * k < 2 ^ 127
  pub small : nat_abs x < 2 ^ 127

pub fitting_product : (x p : ℤ) (k : ℕ) → nat_abs p < 2 ^ 127 → (nat_abs (to_z w128 (of_z w128 p)) * k < 2 ^ 127) × (x ≡ to_z w128 (of_z w128 p) *ℤ pos k) → IsFittingProduct x p k
fitting_product x p k h l = grind arith

-- the quotient of a number that fits is handed on as it is
pub quotient_told : (x z : ℤ) (h : ℕ) → nat_abs z < 2 ^ 127 → x ≡ over (to_z w128 (of_z w128 z)) h → (to_z w128 (of_z w128 x) ≡ over z h) × (nat_abs (over z h) < 2 ^ 127)
quotient_told x z h k e = grind arith

-- the product of two numbers is handed on as it is, where it fits
pub product_told : (x y z y' z' : ℤ) → y' ≡ y → z' ≡ z → (nat_abs y' * nat_abs z' < 2 ^ 127) × (x ≡ y' *ℤ z') → (to_z w128 (of_z w128 x) ≡ y *ℤ z) × (nat_abs (y *ℤ z) < 2 ^ 127)
product_told x y z y' z' h k l = grind arith

-- ---- a product of two numbers, by the magnitude of the second

minus_pos : (n : ℕ) → pos 0 -ℤ pos n ≡ neg_ℤ (pos n)
minus_pos n = omega (arith, ints)

minus_neg : (n : ℕ) → pos 0 -ℤ neg_ℤ (pos n) ≡ pos n
minus_neg n = omega (arith, ints)

-- the second is below 0
turned : (a b : ℤ) → lt_z b (pos 0) ≡ true → pos 0 -ℤ (a *ℤ pos (nat_abs b)) ≡ a *ℤ b
turned (pos m) (negsuc n) h = minus_pos (m * suc n)
turned (negsuc m) (negsuc n) h = minus_neg (suc m * suc n)
turned a (pos n) h = let lt : n < 0 = ltb-true n 0 h in absurd (omega arith)

kept : (a b : ℤ) → lt_z b (pos 0) ≡ false → a *ℤ pos (nat_abs b) ≡ a *ℤ b
kept a (pos n) h = refl
kept a (negsuc n) h = absurd cc

pub record IsProductTold (x a b : ℤ) : Type 0 where
  pub fits : nat_abs a * nat_abs b < 2 ^ 127
  pub small : nat_abs x < 2 ^ 127
  pub is : x ≡ a *ℤ pos (nat_abs b)

-- the product of a number and the magnitude of another, of which each is handed on as it is
pub magnitude_told : (x a b : ℤ) (k : ℕ) → FitsSigned w128 a → FitsSigned w128 b → k ≡ nat_abs (to_z w128 (of_z w128 b)) → (nat_abs (to_z w128 (of_z w128 a)) * k < 2 ^ 127) × (x ≡ to_z w128 (of_z w128 a) *ℤ pos k) → IsProductTold x a b
magnitude_told x a b k f g e h =
    let first = to_z-of_z w128 a f in
    let size : k ≡ nat_abs b = e ∙ ap nat_abs (to_z-of_z w128 b g) in
    let fits : nat_abs a * nat_abs b < 2 ^ 127 = subst (λ (z : ℤ). nat_abs z * nat_abs b < 2 ^ 127) first (subst (λ (n : ℕ). nat_abs (to_z w128 (of_z w128 a)) * n < 2 ^ 127) size h.0) in
    let is : x ≡ a *ℤ pos (nat_abs b) = h.1 ∙ ap (λ (z : ℤ). z *ℤ pos k) first ∙ ap (λ (n : ℕ). a *ℤ pos n) size in
    record { fits = fits; is = is; small = subst (λ (n : ℕ). n < 2 ^ 127) (sym (ap nat_abs is ∙ unsigned_abs-mul a (pos (nat_abs b)))) fits }

pub negated_told : (x a b : ℤ) → FitsSigned w128 b → IsProductTold x a b → lt_z (to_z w128 (of_z w128 b)) (pos 0) ≡ true
    → (nat_abs a * nat_abs b < 2 ^ 127) × (to_z w128 (of_z w128 (pos 0 -ℤ to_z w128 (of_z w128 x))) ≡ a *ℤ b)
negated_told x a b g p h =
    let below : lt_z b (pos 0) ≡ true = ap (λ (z : ℤ). lt_z z (pos 0)) (sym (to_z-of_z w128 b g)) ∙ h in
    let is : pos 0 -ℤ to_z w128 (of_z w128 x) ≡ a *ℤ b = ap (λ (z : ℤ). pos 0 -ℤ z) (told x p.small ∙ p.is) ∙ turned a b below in
    (p.fits, ap (λ (z : ℤ). to_z w128 (of_z w128 z)) is ∙ told (a *ℤ b) (subst (λ (n : ℕ). n < 2 ^ 127) (sym (unsigned_abs-mul a b)) p.fits))

pub kept_told : (x a b : ℤ) → FitsSigned w128 b → IsProductTold x a b → lt_z (to_z w128 (of_z w128 b)) (pos 0) ≡ false → (nat_abs a * nat_abs b < 2 ^ 127) × (to_z w128 (of_z w128 x) ≡ a *ℤ b)
kept_told x a b g p h =
    let above : lt_z b (pos 0) ≡ false = ap (λ (z : ℤ). lt_z z (pos 0)) (sym (to_z-of_z w128 b g)) ∙ h in
    (p.fits, told x p.small ∙ p.is ∙ kept a b above)
