-- Rewritings of quotients, powers and roots that keep meanings.
use Rattle.calc_algebra.proofs.Shared.{arith, ◌≡◌, inl, inr, ℤ, pos, negsuc, ◌+ℤ◌, ◌++◌, sym, ap, subst, if◌then◌else◌, Fraction, zero_fraction, one_fraction, minus_one_fraction, whole_fraction}
use Rattle.calc_algebra.proofs.Shared.{Assignment, Means, IsPower, IsWholePower, IsRoot, is_opaque_exponent, base_of, Same, Surd, surd_of, surd_times, Tree, num, add, mult, power, root, div, Trees}
use Rattle.calc_algebra.proofs.{Shared.{none, more}, MeaningLaws.{one_meaning, Means-Same, Same-sym, whole_one, one_rational, whole_is_no_half}, SurdLaws.{Agree-refl, Agree-Same}}
use Rattle.calc_algebra.proofs.{TermLaws.{Same-refl}, ExponentLaws.{IsPower-Same, power_add, power_mul}, PowerLaws.{IsWholePower-Same, whole_power_of_product, whole_power_of_one, even_power_of_root}}
use Rattle.calc_algebra.proofs.MeaningRewrites.{KeepsMeanings, KeepsMeanings-refl, KeepsMeanings-eq, KeepsMeanings-trans, KeepsMeanings-product_more, two, sum_two, product_parts, product_more}
use Rattle.calc_algebra.proofs.MeaningRewrites.{product_none, product_two, two_product, none_product}

-- ---- exponents that are written

-- the whole number that an exponent means
pub exponent_is : (k : ℤ) (w x v : Surd) → Same x (surd_of (whole_fraction k)) → IsPower w x v → IsWholePower k w v
exponent_is k w x v e (inl (n, s, h)) =
    let z : n ≡ k = whole_one n k (one_rational (whole_fraction n) (whole_fraction k) x x (Agree-refl x) s e) in
    subst (λ m. IsWholePower m w v) z h
exponent_is k w x v e (inr (h, d, s, u, r, p)) = absurd (whole_is_no_half k h d (one_rational (whole_fraction k) h x x (Agree-refl x) e s))

-- a meaning of b to a written whole exponent
pub record PowerParts (b : Tree) (k : ℤ) (f : Assignment) (v : Surd) : Type 0 where
  pub base : Surd
  pub base_means : Means b f base
  pub is : IsWholePower k base v

pub power_parts : (f : Assignment) (b : Tree) (k : ℤ) (v : Surd) → Means (power b (num (whole_fraction k))) f v → PowerParts b k f v
power_parts f b k v (w, x, m, n, p) = record { base = w; base_means = m; is = exponent_is k w x v n p }

pub power_whole : (f : Assignment) (b : Tree) (k : ℤ) (w v : Surd) → Means b f w → IsWholePower k w v → Means (power b (num (whole_fraction k))) f v
power_whole f b k w v m p = (w, surd_of (whole_fraction k), m, Same-refl (surd_of (whole_fraction k)), inl (k, Same-refl (surd_of (whole_fraction k)), p))

-- ---- exponents 0 and 1

-- b ^ 0 is 1
pub power_zero_is_one : (b : Tree) → KeepsMeanings (power b (num zero_fraction)) (num one_fraction)
unfolding zero_fraction
power_zero_is_one b = record { means = λ f once v m. let p = power_parts f b (pos 0) v m in p.is.1 }

-- b ^ 1 is b
pub power_one_is_base : (b : Tree) → KeepsMeanings (power b (num one_fraction)) b
unfolding one_fraction
power_one_is_base b = record { means = λ f once v m. let p = power_parts f b (pos 1) v m in Means-Same b f p.base v p.base_means (Same-sym p.is) }

-- b is b ^ 1
pub to_power_one : (b : Tree) → KeepsMeanings b (power b (num one_fraction))
unfolding one_fraction
to_power_one b = record { means = λ f once v m. power_whole f b (pos 1) v v m (Same-refl v) }

-- ---- quotients

-- a / b is a * b ^ -1
pub div_as_product : (a b : Tree) → KeepsMeanings (div a b) (mult (two a (power b (num minus_one_fraction))))
div_as_product a b = record { means = λ f once v m. product_two f a (power b (num minus_one_fraction)) v m.0 m.2 m.3 (power_whole f b (negsuc 0) m.1 m.2 m.4 (m.2, m.5, Same-refl m.2)) m.6 }

-- ---- factors with one base

-- b ^ e * b ^ g is b ^ (e + g)
pub same_base : (b e g : Tree) → KeepsMeanings (mult (two (power b e) (power b g))) (power b (add (two e g)))
same_base b e g = record {
  means = λ f once v m.
      let (p, q, x, y, s) = two_product f (power b e) (power b g) v m in
      let same : Same y.0 x.0 = Agree-Same (one_meaning f once b y.0 x.0 y.2 x.2) in
      let sum : Surd = x.1 ++ y.1 in (
        x.0,
        sum,
        x.2,
        sum_two f e g sum x.1 y.1 x.3 y.3 (Same-refl sum),
        IsPower-Same (Same-refl x.0) (Same-refl sum) (Same-sym s) (power_add x.0 x.1 y.1 p q x.4 (IsPower-Same same (Same-refl y.1) (Same-refl q) y.4)),
      );
}

-- the exponent of a factor over its base
abbrev pub exponent_of : Tree → Tree
exponent_of (power b e) = if is_opaque_exponent e then num one_fraction else e
exponent_of t = num one_fraction

-- a factor is its base to its exponent
pub power_of_base : (t : Tree) → KeepsMeanings t (power (base_of t) (exponent_of t))
power_of_base t = grind (arith, to_power_one, KeepsMeanings-refl)

-- factors with one base are that base to the sum of their exponents
pub same_bases : (t u : Tree) → base_of t ≡ base_of u → KeepsMeanings (mult (two t u)) (power (base_of t) (add (two (exponent_of t) (exponent_of u))))
same_bases t u e =
    KeepsMeanings-trans
    (KeepsMeanings-product_more (power_of_base t)
    (KeepsMeanings-product_more (KeepsMeanings-trans (power_of_base u) (KeepsMeanings-eq (ap (λ b. power b (exponent_of u)) (sym e)))) (KeepsMeanings-refl (mult none))))
    (same_base (base_of t) (exponent_of t) (exponent_of u))

-- ---- powers of powers, products and roots

-- (c ^ g) ^ n is c ^ (g * n) for a whole n
pub power_of_power : (c g : Tree) (n : ℤ) → KeepsMeanings (power (power c g) (num (whole_fraction n))) (power c (mult (two g (num (whole_fraction n)))))
power_of_power c g n = record {
  means = λ f once v m.
      let p = power_parts f (power c g) n v m in
      let y = p.base_means in
      let e : Surd = surd_of (whole_fraction n) in
      let product : Surd = surd_times y.1 e in (
        y.0,
        product,
        y.2,
        product_two f g (num (whole_fraction n)) product y.1 e y.3 (Same-refl e) (Same-refl product),
        power_mul n y.0 y.1 p.base v y.4 p.is,
      );
}

-- each factor to the power e
abbrev pub powers : Trees → Tree → Trees
powers none e = none
powers (more t ts) e = more (power t e) (powers ts e)

powers_mean : (f : Assignment) (ts : Trees) (n : ℤ) (w v : Surd) → Means (mult ts) f w → IsWholePower n w v → Means (mult (powers ts (num (whole_fraction n)))) f v
powers_mean f none n w v m p = product_none f v (whole_power_of_one n v (IsWholePower-Same n (none_product f w m) (Same-refl v) p))
powers_mean f (more t ts) n w v m p =
    let e : Tree = num (whole_fraction n) in
    let k = product_parts f t ts w m in
    let (a, b, c, d, s) = whole_power_of_product n k.first k.rest v (IsWholePower-Same n k.same (Same-refl v) p) in
    product_more f (power t e) (powers ts e) v a b (power_whole f t n k.first a k.first_means c) (powers_mean f ts n k.rest b k.rest_means d) s

-- a whole power of a product is the product of the powers
pub power_of_product : (ts : Trees) (n : ℤ) → KeepsMeanings (power (mult ts) (num (whole_fraction n))) (mult (powers ts (num (whole_fraction n))))
power_of_product ts n = record { means = λ f once v m. let p = power_parts f (mult ts) n v m in powers_mean f ts n p.base v p.base_means p.is }

-- the root that the power by half of an odd whole number is taken of
pub half_exponent_is : (h : Fraction) (w x v : Surd) → h.den ≡ 2 → Same x (surd_of h) → IsPower w x v → (u : Surd) × IsRoot w u × IsWholePower h.num u v
half_exponent_is h w x v d e (inl (n, s, p)) = absurd (whole_is_no_half n h d (one_rational (whole_fraction n) h x x (Agree-refl x) s e))
half_exponent_is h w x v d e (inr (q, c, s, u, r, p)) =
    let z : q ≡ h = one_rational q h x x (Agree-refl x) s e in
    (u, r, subst (λ (k : Fraction). IsWholePower k.num u v) z p)

-- b ^ (n/2) for an odd n is the power n of the root of b
pub half_power : (b : Tree) (h : Fraction) → h.den ≡ 2 → KeepsMeanings (power b (num h)) (power (root b) (num (whole_fraction h.num)))
half_power b h d = record {
  means = λ f once v m.
      let (u, r, p) = half_exponent_is h m.0 m.1 v d m.3 m.4 in
      power_whole f (root b) h.num u v (m.0, m.2, r) p;
}

-- an even power of a root is a power of its argument, with half the exponent
pub power_of_root : (a : Tree) (n k : ℤ) → n ≡ k +ℤ k → KeepsMeanings (power (root a) (num (whole_fraction n))) (power a (num (whole_fraction k)))
power_of_root a n k e = record {
  means = λ f once v m.
      let p = power_parts f (root a) n v m in
      let r = p.base_means in
      power_whole f a k r.0 v r.1 (even_power_of_root n k r.0 p.base v e r.2 p.is);
}
