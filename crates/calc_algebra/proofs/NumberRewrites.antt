-- Rewritings with Numbers that keep meanings: their sums, products, powers, inverses and roots, and coefficients.
use Rattle.calc_algebra.proofs.Shared.{◌≡◌, ◌≢◌, ℕ, suc, ◌*◌, ◌<◌, ℤ, pos, negsuc, ◌∷◌, ◌++◌, sym, ap, ◌∙◌, arith, subst, fraction_power, Fraction, lowest, times, []}
use Rattle.calc_algebra.proofs.Shared.{inverse, zero_fraction, whole_fraction, lowest_parts, times_lowest, Assignment, IsAssignment, Means, IsRootOf, IsNumber, value}
use Rattle.calc_algebra.proofs.Shared.{split_product, product_tree, part_of, num_one, Same, Inverts, Surd, term, surd_of, surd_power, Tree, num, add, mult, power, root, Trees, none, more, one-mul}
use Rattle.calc_algebra.proofs.{Shared.{mul-one}, MeaningLaws.{one_meaning, Means-Same, Same-sym, surd_of_one}, NumberValues.{number_means}, SquareClassLaws.{Same-trans, Same-Agree}}
use Rattle.calc_algebra.proofs.{SurdLaws.{Agree-sym, Agree-trans, Agree-Same}, TermLaws.{Same-refl, Same-eq, Same-append, Same-surd_times, Same-surd_power, extracted}}
use Rattle.calc_algebra.proofs.{InverseLaws.{Inverts-Same, inverse_times_itself, Inverts-surd_of}, PowerLaws.{whole_power_negative, surd_power-surd_of}, MeaningRewrites.{KeepsMeanings}}
use Rattle.calc_algebra.proofs.MeaningRewrites.{KeepsMeanings-refl, KeepsMeanings-eq, KeepsMeanings-trans, KeepsMeanings-sum_more, KeepsMeanings-product_more, two, two_sum, two_product}
use Rattle.calc_algebra.proofs.MeaningRewrites.{nested_product, single_product, to_single_product, empty_product, one_factor_of_product, to_one_factor, one_times_tree, same_factor}
use Rattle.calc_algebra.proofs.PowerRewrites.{power_parts}

-- ---- the meanings of a Number

-- each meaning of a Number is its value
pub number_value : (f : Assignment) → IsAssignment f → (t : Tree) (v : Surd) → IsNumber t → Means t f v → Same v (value t)
number_value f once t v h m = Agree-Same (one_meaning f once t v (value t) m (number_means t f h))

-- what is the same as its value is a meaning
pub value_means : (f : Assignment) (t : Tree) (v : Surd) → IsNumber t → Same v (value t) → Means t f v
value_means f t v h e = Means-Same t f (value t) v (number_means t f h) (Same-sym e)

-- ---- sums, products, powers and inverses of Numbers

pub sum_of_numbers : (a b c : Tree) → IsNumber a → IsNumber b → IsNumber c → Same (value c) (value a ++ value b) → KeepsMeanings (add (two a b)) c
sum_of_numbers a b c h k l e = record {
  means = λ f once v m.
      let (x, y, p, q, s) = two_sum f a b v m in
      value_means f c v l (Same-trans s (Same-trans (Same-append (number_value f once a x h p) (number_value f once b y k q)) (Same-sym e)));
}

-- an exponent of at least 1
pub power_of_number : (a c : Tree) (n : ℕ) → IsNumber a → IsNumber c → Same (value c) (surd_power (value a) (suc n)) → KeepsMeanings (power a (num (whole_fraction (pos (suc n))))) c
power_of_number a c n h l e = record {
  means = λ f once v m.
      let p = power_parts f a (pos (suc n)) v m in
      value_means f c v l (Same-trans p.is (Same-trans (Same-surd_power (suc n) (number_value f once a p.base h p.base_means)) (Same-sym e)));
}

-- an exponent below 0, by the value of an inverse
pub power_of_inverse : (a c : Tree) (y : Surd) (n : ℕ) → IsNumber a → IsNumber c → Inverts y (value a) → Same (value c) (surd_power y (suc n)) → KeepsMeanings (power a (num (whole_fraction (negsuc n)))) c
power_of_inverse a c y n h l i e = record {
  means = λ f once v m.
      let p = power_parts f a (negsuc n) v m in
      let j : Inverts y p.base = Inverts-Same (Same-refl y) (Same-sym (number_value f once a p.base h p.base_means)) i in
      value_means f c v l (Same-trans (whole_power_negative n p.base v y j p.is) (Same-sym e));
}

-- ---- rationals

pub product_of_rationals : (p q : Fraction) → KeepsMeanings (mult (two (num p) (num q))) (num (times p q))
product_of_rationals p q = record {
  means = λ f once v m.
      let (x, y, h, k, s) = two_product f (num p) (num q) v m in
      Same-trans s (Same-surd_times h k);
}

pub power_of_rational : (q : Fraction) (n : ℕ) → KeepsMeanings (power (num q) (num (whole_fraction (pos (suc n))))) (num (fraction_power q (suc n)))
power_of_rational q n = record {
  means = λ f once v m.
      let p = power_parts f (num q) (pos (suc n)) v m in
      Same-trans p.is (Same-trans (Same-surd_power (suc n) p.base_means) (surd_power-surd_of q (suc n)));
}

pub negative_power_of_rational : (q : Fraction) (n : ℕ) → q ≢ zero_fraction → KeepsMeanings (power (num q) (num (whole_fraction (negsuc n)))) (num (fraction_power (inverse q) (suc n)))
negative_power_of_rational q n h = record {
  means = λ f once v m.
      let p = power_parts f (num q) (negsuc n) v m in
      let i : Inverts (surd_of (inverse q)) p.base = Inverts-Same (Same-refl (surd_of (inverse q))) (Same-sym p.base_means) (Inverts-surd_of q (inverse q) (inverse_times_itself q h)) in
      Same-trans (whole_power_negative n p.base v (surd_of (inverse q)) i p.is) (surd_power-surd_of (inverse q) (suc n));
}

-- a fraction with denominator 1 is whole
pub fraction_whole : (q : Fraction) → q.den ≡ 1 → q ≡ whole_fraction q.num
fraction_whole q e = lowest_parts q ∙ ap (lowest q.num) e

-- ---- roots of rationals

one_root_of : (z : ℤ) (d : ℕ) (v w : Surd) → IsRootOf z d v → IsRootOf z d w → Same v w
one_root_of z d v w h k = grind (arith, Same-trans, Same-sym)

-- a meaning of the root of p/q
pub root_parts : (f : Assignment) (q : Fraction) (v : Surd) → Means (root (num q)) f v → IsRootOf q.num q.den v
root_parts f q v (x, m, (p, s, k)) = subst (λ r. IsRootOf r.num r.den v) (surd_of_one p q (Agree-trans (Agree-sym (Same-Agree s)) (Same-Agree m))) k

-- the root of a rational is the Number whose value is that root
pub root_of_rational : (q : Fraction) (c : Tree) → IsNumber c → IsRootOf q.num q.den (value c) → KeepsMeanings (root (num q)) c
root_of_rational q c l k = record { means = λ f once v m. value_means f c v l (one_root_of q.num q.den v (value c) (root_parts f q v m) k) }

-- √(p/d) is √(p * d)/d, with squares taken out: s/d * √t where p * d = s * s * t
pub root_extracted : (p d s t : ℕ) → 0 < d → suc p * d ≡ s * s * t → IsRootOf (pos (suc p)) d (term (lowest (pos s) d) t ∷ [])
root_extracted p d s t h e = Same-sym (Same-trans (extracted (lowest (pos 1) d) (suc p * d) s t e) (Same-eq (ap (λ q. term q t ∷ []) value_is)))
  where
    value_is : times (lowest (pos 1) d) (whole_fraction (pos s)) ≡ lowest (pos s) d
    value_is = times_lowest (pos 1) (pos s) d 1 h (omega arith) ∙ (λ i. lowest (pos (one-mul s i)) (mul-one d i))

-- ---- the coefficient of a product

-- a product is its coefficient times the factors behind it
pub split_keeps : (ts : Trees) → KeepsMeanings (mult ts) (mult (more (split_product ts).coefficient (split_product ts).factors))
split_keeps (more (num q) (more (root (num r)) ts)) = grind (arith, nested_product (two (num q) (root (num r))) ts, KeepsMeanings-refl)
split_keeps (more (num q) ts) = KeepsMeanings-refl (mult (more (num q) ts))
split_keeps (more (root (num r)) ts) = grind (arith, KeepsMeanings-refl, to_one_factor)
split_keeps (more (add us) ts) = grind (arith, KeepsMeanings-refl, to_one_factor)
split_keeps ts = to_one_factor ts

-- a list of factors as one tree
pub product_tree_keeps : (ts : Trees) → KeepsMeanings (mult ts) (product_tree ts)
product_tree_keeps ts = grind (arith, empty_product, single_product, KeepsMeanings-refl)

-- factors behind a coefficient as one factor, and back
pub factors_as_one : (c : Tree) (ts : Trees) → KeepsMeanings (mult (more c ts)) (mult (two c (product_tree ts)))
factors_as_one c ts = KeepsMeanings-product_more (KeepsMeanings-refl c) (KeepsMeanings-trans (product_tree_keeps ts) (to_single_product (product_tree ts)))

-- the coefficient of a term, beside its part
abbrev pub coefficient_of : Tree → Tree
coefficient_of (mult ts) = (split_product ts).coefficient
coefficient_of t = num_one

-- a term is its coefficient times its part
pub coefficient_times_part : (t : Tree) → KeepsMeanings t (mult (two (coefficient_of t) (part_of t)))
coefficient_times_part (mult ts) = KeepsMeanings-trans (split_keeps ts) (factors_as_one (split_product ts).coefficient (split_product ts).factors)
coefficient_times_part t = one_times_tree t

-- 1 times a tree is the tree
pub one_times_part : (t : Tree) → KeepsMeanings (mult (two num_one t)) t
one_times_part t = KeepsMeanings-trans (one_factor_of_product (more t none)) (single_product t)

-- terms with one part are that part times the sum of their coefficients
pub same_parts : (t u : Tree) → part_of t ≡ part_of u → KeepsMeanings (add (two t u)) (mult (two (add (two (coefficient_of t) (coefficient_of u))) (part_of t)))
same_parts t u e =
    KeepsMeanings-trans
    (KeepsMeanings-sum_more (coefficient_times_part t)
    (KeepsMeanings-sum_more (KeepsMeanings-trans (coefficient_times_part u) (KeepsMeanings-eq (ap (λ p. mult (two (coefficient_of u) p)) (sym e)))) (KeepsMeanings-refl (add none))))
    (same_factor (coefficient_of t) (coefficient_of u) (part_of t))

-- a coefficient in place of another
pub with_coefficient : (c d p : Tree) → KeepsMeanings c d → KeepsMeanings (mult (two c p)) (mult (two d p))
with_coefficient c d p h = KeepsMeanings-product_more h (KeepsMeanings-refl (mult (more p none)))
