-- A power as a factor: what holds it holds its answer, and within few bits it fits.
use Rattle.node_bounds.proofs.Shared.{◌≡◌, ℕ, ◌*◌, ◌≤◌, ℤ, Bool, true, false, None, Result, refl, sym, ap, ◌∙◌, subst, arith, IfErr, IsOk, nat_abs, inl, inr, eqb-true, mul-le, whole_fraction, Tree}
use Rattle.node_bounds.proofs.Shared.{num, power, none, more, is_undef, is_reduced, is_half_num, is_whole_num, IsReducedPower, lacks_power, AreFewBits, HasFewBitsRaised, has_number_power}
use Rattle.node_bounds.proofs.Shared.{is_zero_or_one, rewritten, IsFactorHeld, is_counted, IsPartHeld, factor_held, raised_high, raised_low, OfOverflow, NumberFault, whole_exponent, cases_Bool}
use Rattle.node_bounds.proofs.{Shared.{raised_most, counted_bits}, Clashes.{clash}, HeldFactors.{factor_wider, power_factor, base_factor}, Rewritten.{is_rewritten}}

-- ---- bits of powers

pub few_most : (n : ℤ) {p q h l : ℕ} → p ≤ h → q ≤ l → HasFewBitsRaised n h l → HasFewBitsRaised n p q
few_most n {p} {q} {h} {l} x y f = let r = raised_most n x y in omega (arith, r.0, r.1, f)

-- a power of few bits is not a high one
pub few_magnitude : (n : ℤ) (h l : ℕ) → HasFewBitsRaised n h l → nat_abs n * h ≤ 62
few_magnitude n h l k = grind (arith, mul-le)

-- ---- a power as a part

-- the base as a factor
record IsBaseOfPart (c : Tree) (n : ℤ) (h l : ℕ) : Type 0 where
  i : ℕ
  j : ℕ
  base : IsFactorHeld c i j
  high : raised_high n i j ≤ h
  low : raised_low n i j ≤ l

base_of_part : (c p : Tree) (n : ℤ) {h l : ℕ} → p ≡ num (whole_fraction n) → IsPartHeld (more (power c p) none) h l → IsBaseOfPart c n h l
base_of_part c p n {h} {l} e a = by (subst (λ (x : Tree). IsPartHeld (more (power c x) none) h l) e a)
  where
    by : IsPartHeld (more (power c (num (whole_fraction n))) none) h l → IsBaseOfPart c n h l
    by (factor_held i j k m x b r y z) = let w = counted_bits n i j in record { i = i; j = j; base = base_factor c b; high = omega (arith, y, w.0); low = omega (arith, z, w.1) }

pub counted_exponent : {c p : Tree} {h l : ℕ} → IsPartHeld (more (power c p) none) h l → is_counted p ≡ true
counted_exponent (factor_held i j k m x b r y z) = x

counted_no_half : (p : Tree) → is_counted p ≡ true → is_half_num p ≡ false
counted_no_half p h = grind (arith, eqb-true)

other_exponent : (p : Tree) → is_counted p ≡ true → is_whole_num p ≡ false → (is_zero_or_one p ≡ false) × ((c : Tree) → has_number_power c p ≡ false)
other_exponent p h k = grind (arith, clash)

not_rewritten : (c p : Tree) → is_reduced c ≡ true → is_reduced p ≡ true → is_counted p ≡ true → is_whole_num p ≡ false → rewritten c p ≡ None
not_rewritten c p h k a b = grind (arith, clash, is_rewritten, counted_no_half)

-- what holds the part holds its answer
pub part_answer : (c p r : Tree) {h l : ℕ} → is_reduced c ≡ true → is_reduced p ≡ true → IsReducedPower c p r → IsPartHeld (more (power c p) none) h l → is_undef r ≡ false → IsFactorHeld r h l
part_answer c p r {h} {l} x y a k d = by (is_whole_num p) refl
  where
    kept : (w : is_whole_num p ≡ false) → (b : Bool) → lacks_power c p ≡ b → IsFactorHeld r h l
    kept w true e = clash (sym (ap is_undef (a.undefined e)) ∙ d)
    kept w false e =
        let o = other_exponent p (counted_exponent k) w in
        subst (λ (t : Tree). IsFactorHeld t h l) (sym ((a.written e).kept (record { other = o.0; no_number = o.1 c; not_rewritten = not_rewritten c p x y (counted_exponent k) w })))
        (power_factor c p k)

    by : (b : Bool) → is_whole_num p ≡ b → IsFactorHeld r h l
    by true w =
        let z = whole_exponent p w in
        let m = base_of_part c p z.exponent z.is k in
        factor_wider r m.high m.low (a.held z.exponent z.is d m.i m.j m.base)
    by false w = kept w (lacks_power c p) refl

pub fine : {A : Type 0} (r : Result A NumberFault) → IsOk r → IfErr r (OfOverflow (λ o. ⊥))
fine r h = grind arith

-- and of few bits the power fits
pub part_fits : {A : Type 0} (c p : Tree) (r : Result A NumberFault) (h l : ℕ) → IsPartHeld (more (power c p) none) h l → AreFewBits h l
    → ((n : ℤ) (i j : ℕ) → p ≡ num (whole_fraction n) → IsFactorHeld c i j → HasFewBitsRaised n i j → IfErr r (OfOverflow (λ o. ⊥)))
    → (is_whole_num p ≡ false → is_half_num p ≡ false → IsOk r) → IfErr r (OfOverflow (λ o. ⊥))
part_fits c p r h l k f bits others = elim (cases_Bool (is_whole_num p)) [
  | inl w ↦ let z = whole_exponent p w in let m = base_of_part c p z.exponent z.is k in bits z.exponent m.i m.j z.is m.base (omega (arith, m.high, m.low, f))
  | inr w ↦ fine r (others w (counted_no_half p (counted_exponent k)))
]
