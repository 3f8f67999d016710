-- Powers are held by the bits of their bases, also those that are rewritten.
use Rattle.node_bounds.proofs.Shared.{neg_ℤ, ◌≡◌, ℕ, zero, suc, ◌+◌, ◌*◌, ◌≤◌, inr, ℤ, pos, negsuc, true, false, not, Some, refl, sym, ap, ◌∙◌, subst, arith, ◌/◌, mul-le, Fraction, whole_fraction}
use Rattle.node_bounds.proofs.Shared.{whole_numerator, Tree, num, mult, power, root, Trees, none, more, is_mult, is_undef, has_undef, is_number, is_reduced, IsReducedProduct, IsReducedPower}
use Rattle.node_bounds.proofs.Shared.{IsCountedWithin, IsRewritten, AreReducedPowers, IsLifted, IsProductOfPowers, IsHeldAsPowerOf, base_in, exponent_in, half, parts_of, raised, rewritten_whole}
use Rattle.node_bounds.proofs.Shared.{as_whole, whole_no_half, chosen, IsFactorHeld, AreFactorsHeld, none_held, Counts, counts, multiple, counts_of, is_counted, power_high, power_low, IsPartHeld}
use Rattle.node_bounds.proofs.Shared.{factor_held, IsBaseHeld, tree_held, IsFactorPower, raised_high, raised_low, single_part, tree_as_base, one_counts, children_of, or_parts, root_held, part_raised}
use Rattle.node_bounds.proofs.{Shared.{part_turned, raised_most, raised_both}, Clashes.{clash, base_reduced}, HeldFactors.{parts_each, factor_wider, factor_power, base_factor, EachHeld, more_each}}
use Rattle.node_bounds.proofs.{Rewritten.{by_product, by_power}, HeldParts.{counted_exponent, part_answer}}
use Rattle.product_reduce.specs.Bits.{factor_held as factors_held}

-- ---- even powers of roots

pub half_of : (a t : Tree) (q : Fraction) → rewritten_whole (root a) (num q) ≡ Some t → t ≡ power a (num (whole_fraction (half q.num)))
half_of a t q h = chosen _ _ t (λ (u : Tree). u ≡ power a (num (whole_fraction (half q.num)))) h (λ k. refl)

pub half_bits : (n : ℤ) (h l : ℕ) → (raised_high (half n) h l ≤ raised_high n h l) × (raised_low (half n) h l ≤ raised_low n h l)
half_bits (pos n) h l = (omega (arith, mul-le (n / 2) h n h (omega arith) (omega arith)), omega (arith, mul-le (n / 2) l n l (omega arith) (omega arith)))
half_bits (negsuc n) h l = by (suc n / 2) (omega arith)
  where
    by : (m : ℕ) → m ≤ suc n → (raised_high (neg_ℤ (pos m)) h l ≤ suc n * (h + 2 * l)) × (raised_low (neg_ℤ (pos m)) h l ≤ suc n * (2 * h + 2 * l))
    by zero k = (omega arith, omega arith)
    by (suc m) k = (mul-le (suc m) (h + 2 * l) (suc n) (h + 2 * l) k (omega arith), mul-le (suc m) (2 * h + 2 * l) (suc n) (2 * h + 2 * l) k (omega arith))

-- the argument of a root
pub root_argument : (a : Tree) {h l : ℕ} → is_number (root a) ≡ false → IsFactorHeld (root a) h l → IsFactorHeld a h l
root_argument a {h} {l} n k = by (single_part (root a) n refl k)
  where
    of_base : {i j : ℕ} → IsBaseHeld (root a) i j → i ≤ h → j ≤ l → IsFactorHeld a h l
    of_base {i} {j} (root_held o m t) x y = factor_wider a x y (base_factor a (tree_as_base a i j o t))
    of_base (tree_held o m t) x y = clash (sym (ap not n) ∙ m)

    by : IsPartHeld (more (root a) none) h l → IsFactorHeld a h l
    by (factor_held i j p q x b r y z) = of_base b (omega (arith, y, ap (λ (c : Counts). power_high c i j) one_counts)) (omega (arith, z, ap (λ (c : Counts). power_low c i j) one_counts))

root_way : (a r : Tree) (n : ℤ) → is_number (root a) ≡ false → IsHeldAsPowerOf (half n) a r → IsHeldAsPowerOf n (root a) r
root_way a r n m k d h l f = let x = half_bits n h l in factor_wider r x.0 x.1 (k d h l (root_argument a m f))

-- ---- powers of powers

pub power_raised : (c f g : Tree) (n : ℤ) {h l : ℕ} → IsCountedWithin (multiple n (counts_of f)) g → IsFactorHeld (power c f) h l
    → IsPartHeld (more (power c g) none) (raised_high n h l) (raised_low n h l)
power_raised c f g n {h} {l} w k = by n (record { base = refl; counted = w.counted; within = w.within })
  where
    by : (n : ℤ) → IsFactorPower n (power c f) (power c g) → IsPartHeld (more (power c g) none) (raised_high n h l) (raised_low n h l)
    by (pos n) p = part_raised n (more (power c f) none) (more (power c g) none) h l (p, inr refl) (factor_power c f k)
    by (negsuc n) p = part_turned n (more (power c f) none) (more (power c g) none) h l (p, inr refl) (factor_power c f k)

pub factor_counted : (c f : Tree) {h l : ℕ} → IsFactorHeld (power c f) h l → is_counted f ≡ true
factor_counted c f k = counted_exponent (factor_power c f k)

power_way : (c f e g r : Tree) (n : ℤ) → is_reduced c ≡ true → e ≡ num (whole_fraction n) → IsReducedProduct (more f (more e none)) g → IsReducedPower c g r → IsHeldAsPowerOf n (power c f) r
power_way c f e g r n x i p a d h l k = part_answer c g r x p.reduces.reduced a (power_raised c f g n (p.counts f n (ap (λ (y : Tree). more f (more y none)) i) (factor_counted c f k)) k) d

-- ---- powers of products

module _ (n : ℤ) where
  pub powers_held : (gs us : Trees) {h l : ℕ} → has_undef us ≡ false → AreReducedPowers (raised gs (num (whole_fraction n))) us → EachHeld gs h l
      → AreFactorsHeld us (raised_high n h l) (raised_low n h l)
  powers_held none none d a k = none_held
  powers_held (more g gs) (more u us) {h} {l} d a (more_each p q i j f k x y) =
      let (y0, y1) = or_parts (is_undef u) (has_undef us) d in
      let s = raised_both n p q i j in
      let m = raised_most n x y in
      factors_held (raised_high n p q) (raised_low n p q) (raised_high n i j) (raised_low n i j) (a.0.held n refl y0 p q f) (powers_held gs us y1 a.1 k) (omega (arith, s.0, m.0))
      (omega (arith, s.1, m.1))
  powers_held gs us d a k = absurd a

defined_factors : (us : Trees) (r : Tree) → IsReducedProduct us r → is_undef r ≡ false → has_undef us ≡ false
defined_factors us r a d = grind (arith, clash)

product_way : (fs us : Trees) (e r : Tree) (n : ℤ) → is_reduced (mult fs) ≡ true → is_number (mult fs) ≡ false → e ≡ num (whole_fraction n) → AreReducedPowers (raised (parts_of fs) e) us
    → IsReducedProduct us r → IsHeldAsPowerOf n (mult fs) r
product_way fs us e r n h k a b c = grind (arith, powers_held, defined_factors, parts_each)

-- ---- what is answered for the tree

pub product_holds : (t v r b e : Tree) (n : ℤ) → is_mult t ≡ true → IsProductOfPowers (children_of t) v → IsReducedProduct (children_of v) r → IsRewritten b e t → e ≡ num (whole_fraction n)
    → IsHeldAsPowerOf n b r
product_holds t v r b e n m p a w q = grind (arith, by_product, product_way)

even_way : (a e t v r : Tree) (n : ℤ) → is_number (root a) ≡ false → IsRewritten (root a) e t → e ≡ num (whole_fraction n) → v ≡ t → IsReducedPower (base_in v) (exponent_in v) r
    → IsHeldAsPowerOf n (root a) r
even_way a e t v r n k w q l p =
    let i : rewritten_whole (root a) (num (whole_fraction n)) ≡ Some t = ap (rewritten_whole (root a)) (sym q) ∙ sym (as_whole (root a) e (whole_no_half e w.whole)) ∙ w.is in
    let j : v ≡ power a (num (whole_fraction (half n))) = l ∙ half_of a t (whole_fraction n) i ∙ ap (λ (z : ℤ). power a (num (whole_fraction (half z)))) (whole_numerator n) in
    root_way a r n k ((subst (λ (y : Tree). IsReducedPower (base_in y) (exponent_in y) r) j p).held (half n) refl)

pub power_holds : (t v r b e : Tree) (n : ℤ) → is_mult t ≡ false → IsLifted t v → IsReducedPower (base_in v) (exponent_in v) r → IsRewritten b e t → e ≡ num (whole_fraction n) → IsHeldAsPowerOf n b r
power_holds t v r b e n m l a w q =
    by_power (λ (x y : Tree). IsRewritten x e y → IsLifted y v → IsHeldAsPowerOf n x r) b e t m w (λ x z h k w l. even_way x e (power x (num (whole_fraction z))) v r n k w q l a)
    (λ c f h w k. power_way c f e k.exponent r n (base_reduced c f h) q k.product (subst (λ (y : Tree). IsReducedPower (base_in y) (exponent_in y) r) k.is a)) w l
