-- Fractions by their parts in lowest terms.
use Rattle.rational128.proofs.Shared.{holds, ◌≡◌, ℕ, ◌<◌, ℤ, pos, ◌*ℤ◌, Bool, true, ◌&&◌, refl, sym, ap, ◌∙◌, subst, arith, nat_abs, IsGcd, lt-ltb, eq-eqb, eqb-true, same_from_IsGcd, gcd_is, Fraction}
use Rattle.rational128.proofs.{Shared.{Holds, is_lowest, lowest, second_held, lowest_parts, same_lowest, fraction_path, Rat, ratio_of, value_of}, Coprime.{IsCoprime, IsCoprime-from_gcd}}

-- what `is_lowest` tests
pub is_lowest_from : (n : ℤ) (d : ℕ) → 0 < d → IsGcd (nat_abs n) d 1 → is_lowest n d ≡ true
is_lowest_from n d positive h = both _ _ (lt-ltb 0 d positive) (eq-eqb _ 1 (same_from_IsGcd _ _ _ _ (gcd_is (nat_abs n) d) h))
  where
    both : (a b : Bool) → a ≡ true → b ≡ true → (a && b) ≡ true
    both a b p q = rw (p, q) refl

-- f is n/d, in lowest terms
pub record HasParts (f : Fraction) (n : ℤ) (d : ℕ) : Type 0 where
  pub num : f.num ≡ n
  pub den : f.den ≡ d

-- numbers in lowest terms are the parts of their quotient
pub parts_themselves : (n : ℤ) (d : ℕ) → is_lowest n d ≡ true → HasParts (lowest n d) n d
parts_themselves n d h =
    let f : Fraction = record { num = n; den = d; lowest = holds _ h } in
    let e : f ≡ lowest n d = lowest_parts f in
    record { num = ap (λ a. a.num) (sym e); den = ap (λ a. a.den) (sym e) }

-- and of each quotient with the same cross product
pub parts_by_cross : (n : ℤ) (d : ℕ) (p : ℤ) (q : ℕ) → 0 < d → IsGcd (nat_abs n) d 1 → 0 < q → n *ℤ pos q ≡ p *ℤ pos d → HasParts (lowest p q) n d
parts_by_cross n d p q d-positive h q-positive e =
    let own : HasParts (lowest n d) n d = parts_themselves n d (is_lowest_from n d d-positive h) in
    let same : lowest n d ≡ lowest p q = same_lowest n p d q d-positive q-positive e in
    record { num = ap (λ a. a.num) (sym same) ∙ own.num; den = ap (λ a. a.den) (sym same) ∙ own.den }

-- fractions with the same parts are one
pub same_parts : (f g : Fraction) (n : ℤ) (d : ℕ) → HasParts f n d → HasParts g n d → f ≡ g
same_parts f g n d a b = fraction_path f g (a.num ∙ sym b.num) (a.den ∙ sym b.den)

-- the parts of a fraction are in lowest terms
pub fraction_coprime : (f : Fraction) → IsCoprime (nat_abs f.num) f.den
fraction_coprime f = IsCoprime-from_gcd _ _ (subst (λ g. IsGcd (nat_abs f.num) f.den g) (eqb-true _ 1 (second_held _ _ f.lowest)) (gcd_is (nat_abs f.num) f.den))

-- ---- rationals of the code

-- a rational that is made of numbers in lowest terms has them as the parts of its value
pub made_parts : (r : Rat) (n' n : ℤ) (d' d : ℕ) → ratio_of r ≡ record { num = n'; den = d' } → n' ≡ n → d' ≡ d → is_lowest n d ≡ true → HasParts (value_of r) n d
made_parts r n' n d' d e h k l = grind (arith, parts_themselves)

-- what a rational shows are the parts of its value
pub ratio_parts : (r : Rat) → HasParts (value_of r) (ratio_of r).num (ratio_of r).den
ratio_parts r = parts_themselves (ratio_of r).num (ratio_of r).den (r.in_lowest_terms)
