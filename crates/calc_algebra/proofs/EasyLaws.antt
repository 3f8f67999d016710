-- Bad and Easy trees from their children, and what their reduced trees tell.
use Rattle.calc_algebra.proofs.Shared.{refl, ◌∷◌, arith, ◌≡◌, ◌≢◌, ℕ, ◌≤◌, ◌⊎◌, inl, inr, ℤ, pos, negsuc, List, ◌++◌, true, false, subst, ◌≤ℤ◌, HasValue, IsZero, IsWhole, IsNegative, []}
use Rattle.calc_algebra.proofs.Shared.{GivesZeroNoPower, IsBadNode, IsBad, IsEasy, Fraction, zero_fraction, whole_fraction, int_is_negative, IsPower, IsRootOf, IsNumber, value, classes, Same, Surd}
use Rattle.calc_algebra.proofs.Shared.{surd_of, Tree, num, undef, add, mult, power, root, neg, sub, div, Trees, none, more, names, names_of, IsPart, itself, in_add, in_mult, in_base, in_exponent}
use Rattle.calc_algebra.proofs.{Shared.{in_root, in_neg, in_left, in_right, in_dividend, in_divisor, IsPartOf, first, later}, MeaningLaws.{Means-Same, Same-sym}, MeaningRewrites.{KeepsMeanings}}
use Rattle.calc_algebra.proofs.{NumberClasses.{number_zero, number_rational, number_short}, NumberRewrites.{number_value}, PowerLaws.{zero_surd_of}, SquareClassLaws.{Same-trans}}

-- ---- parts of parts

mutual
  pub IsPart-trans : (p q t : Tree) → IsPart p q → IsPart q t → IsPart p t
  IsPart-trans p q t h itself = h
  IsPart-trans p q (add ts) h (in_add k) = in_add (IsPartOf-trans p q ts h k)
  IsPart-trans p q (mult ts) h (in_mult k) = in_mult (IsPartOf-trans p q ts h k)
  IsPart-trans p q (power b e) h (in_base k) = in_base (IsPart-trans p q b h k)
  IsPart-trans p q (power b e) h (in_exponent k) = in_exponent (IsPart-trans p q e h k)
  IsPart-trans p q (root a) h (in_root k) = in_root (IsPart-trans p q a h k)
  IsPart-trans p q (neg a) h (in_neg k) = in_neg (IsPart-trans p q a h k)
  IsPart-trans p q (sub a b) h (in_left k) = in_left (IsPart-trans p q a h k)
  IsPart-trans p q (sub a b) h (in_right k) = in_right (IsPart-trans p q b h k)
  IsPart-trans p q (div a b) h (in_dividend k) = in_dividend (IsPart-trans p q a h k)
  IsPart-trans p q (div a b) h (in_divisor k) = in_divisor (IsPart-trans p q b h k)

  pub IsPartOf-trans : (p q : Tree) (ts : Trees) → IsPart p q → IsPartOf q ts → IsPartOf p ts
  IsPartOf-trans p q none h k = elim k [ ]
  IsPartOf-trans p q (more t ts) h (first k) = first (IsPart-trans p q t h k)
  IsPartOf-trans p q (more t ts) h (later k) = later (IsPartOf-trans p q ts h k)

both_empty : (a b : List (List ℕ)) → a ++ b ≡ [] → (a ≡ []) × (b ≡ [])
both_empty [] b e = (refl, e)
both_empty (x ∷ a) b e = cc

mutual
  pub names_of_part : (p t : Tree) → IsPart p t → names t ≡ [] → names p ≡ []
  names_of_part p t itself e = e
  names_of_part p (add ts) (in_add h) e = names_of_parts p ts h e
  names_of_part p (mult ts) (in_mult h) e = names_of_parts p ts h e
  names_of_part p (power b g) (in_base h) e = names_of_part p b h (both_empty (names b) (names g) e).0
  names_of_part p (power b g) (in_exponent h) e = names_of_part p g h (both_empty (names b) (names g) e).1
  names_of_part p (root a) (in_root h) e = names_of_part p a h e
  names_of_part p (neg a) (in_neg h) e = names_of_part p a h e
  names_of_part p (sub a b) (in_left h) e = names_of_part p a h (both_empty (names a) (names b) e).0
  names_of_part p (sub a b) (in_right h) e = names_of_part p b h (both_empty (names a) (names b) e).1
  names_of_part p (div a b) (in_dividend h) e = names_of_part p a h (both_empty (names a) (names b) e).0
  names_of_part p (div a b) (in_divisor h) e = names_of_part p b h (both_empty (names a) (names b) e).1

  names_of_parts : (p : Tree) (ts : Trees) → IsPartOf p ts → names_of ts ≡ [] → names p ≡ []
  names_of_parts p none h e = elim h [ ]
  names_of_parts p (more t ts) (first h) e = names_of_part p t h (both_empty (names t) (names_of ts) e).0
  names_of_parts p (more t ts) (later h) e = names_of_parts p ts h (both_empty (names t) (names_of ts) e).1

-- each part of an Easy tree is Easy
pub easy_part : (p t : Tree) → IsPart p t → IsEasy t → IsEasy p
easy_part p t h e = record {
  no_symbols = names_of_part p t h e.no_symbols;
  decided = λ q k. e.decided q (IsPart-trans q p t k h);
  short_divisors = λ a b k. e.short_divisors a b (IsPart-trans (div a b) p t k h);
  short_bases = λ b g k. e.short_bases b g (IsPart-trans (power b g) p t k h);
}

-- ---- Bad trees by their children

-- a tree with a Bad part is Bad
pub bad_part : (p t : Tree) → IsPart p t → IsBad p → IsBad t
bad_part p t h (q, k, b) = (q, IsPart-trans q p t k h, b)

-- some tree of the list is Bad
abbrev pub HasBad : Trees → Type 0
HasBad none = ⊥
HasBad (more t ts) = IsBad t ⊎ HasBad ts

has_bad : (p : Tree) (ts : Trees) → IsPartOf p ts → IsBadNode p → HasBad ts
has_bad p none h b = elim h [ ]
has_bad p (more t ts) (first h) b = inl (p, h, b)
has_bad p (more t ts) (later h) b = inr (has_bad p ts h b)

pub bad_among : (ts : Trees) → HasBad ts → (p : Tree) × IsPartOf p ts × IsBadNode p
bad_among none h = absurd h
bad_among (more t ts) (inl (p, h, b)) = (p, first h, b)
bad_among (more t ts) (inr h) = let (p, k, b) = bad_among ts h in (p, later k, b)

-- a sum is Bad exactly where a child is
pub bad_sum : (ts : Trees) → IsBad (add ts) → HasBad ts
bad_sum ts h = grind (arith, has_bad)

pub sum_of_bad : (ts : Trees) → HasBad ts → IsBad (add ts)
sum_of_bad ts h = let (p, k, b) = bad_among ts h in (p, in_add k, b)

-- and a product
pub bad_product : (ts : Trees) → IsBad (mult ts) → HasBad ts
bad_product ts h = grind (arith, has_bad)

pub product_of_bad : (ts : Trees) → HasBad ts → IsBad (mult ts)
product_of_bad ts h = let (p, k, b) = bad_among ts h in (p, in_mult k, b)

pub bad_neg : (a : Tree) → IsBad (neg a) → IsBad a
bad_neg a h = grind arith

pub bad_sub : (a b : Tree) → IsBad (sub a b) → IsBad a ⊎ IsBad b
bad_sub a b h = grind arith

-- a quotient is Bad where a child is, or the divisor is zero
pub bad_div : (a b : Tree) → IsBad (div a b) → IsBad a ⊎ (IsBad b ⊎ IsZero b)
bad_div a b h = grind arith

pub div_by_zero_is_bad : (a b : Tree) → IsZero b → IsBad (div a b)
div_by_zero_is_bad a b z = (div a b, itself, z)

-- a power is Bad where a child is, or its base has no such power
pub bad_power : (b e : Tree) → IsBad (power b e) → IsBad b ⊎ (IsBad e ⊎ IsBadNode (power b e))
bad_power b e (p, itself, n) = inr (inr n)
bad_power b e (p, in_base h, n) = inl (p, h, n)
bad_power b e (p, in_exponent h, n) = inr (inl (p, h, n))

pub zero_power_is_bad : (b e : Tree) → IsZero b → GivesZeroNoPower e → IsBad (power b e)
zero_power_is_bad b e z g = (power b e, itself, inl (z, g))

-- a root is Bad where its argument is, or is a negative rational
pub bad_root : (a : Tree) → IsBad (root a) → IsBad a ⊎ IsNegative a
bad_root a (p, itself, n) = inr n
bad_root a (p, in_root h, n) = inl (p, h, n)

pub undef_is_bad : IsBad undef
undef_is_bad = (undef, itself, tt)

-- a number is not Bad
pub num_is_not_bad : (q : Fraction) → ¬ (IsBad (num q))
num_is_not_bad q (p, itself, n) = n

-- ---- values

-- an Easy tree that is not Bad has a value
pub easy_has_value : (t : Tree) → IsEasy t → ¬ (IsBad t) → (v : Surd) × HasValue t v
easy_has_value t e n = by (e.decided t itself)
  where
    by : IsBad t ⊎ ((v : Surd) × HasValue t v) → (v : Surd) × HasValue t v
    by (inl b) = absurd (n b)
    by (inr v) = v

-- a value goes over to the Number that keeps it
pub value_reduced : (t r : Tree) (v : Surd) → KeepsMeanings t r → IsNumber r → HasValue t v → Same v (value r)
value_reduced t r v k h m = number_value [] tt r v h (k.means [] tt v m)

-- and the Number's value is the tree's
pub reduced_value : (t r : Tree) → KeepsMeanings t r → IsNumber r → (v : Surd) → HasValue t v → HasValue t (value r)
reduced_value t r k h v m = Means-Same t [] v (value r) m (value_reduced t r v k h m)

-- what means zero is reduced to 0
pub zero_reduced : (t r : Tree) → KeepsMeanings t r → IsNumber r → IsZero t → r ≡ num zero_fraction
zero_reduced t r k h z = number_zero r h (Same-sym (value_reduced t r [] k h z))

-- and only that
pub reduced_to_zero : (t r : Tree) → KeepsMeanings t r → r ≡ num zero_fraction → (v : Surd) → HasValue t v → IsZero t
reduced_to_zero t r k e v m = grind (arith, Means-Same, Same-trans, zero_surd_of)

-- what means a whole number is reduced to it
pub whole_reduced : (t r : Tree) (n : ℤ) → KeepsMeanings t r → IsNumber r → IsWhole t n → r ≡ num (whole_fraction n)
whole_reduced t r n k h w = number_rational r (whole_fraction n) h (Same-sym (value_reduced t r (surd_of (whole_fraction n)) k h w))

pub rational_reduced : (t r : Tree) (q : Fraction) → KeepsMeanings t r → IsNumber r → HasValue t (surd_of q) → r ≡ num q
rational_reduced t r q k h m = number_rational r q h (Same-sym (value_reduced t r (surd_of q) k h m))

-- what means a negative rational is reduced to one
pub negative_reduced : (t r : Tree) → KeepsMeanings t r → IsNumber r → IsNegative t → (q : Fraction) × (int_is_negative q.num ≡ true) × (r ≡ num q)
negative_reduced t r k h (q, n, m) = (q, n, rational_reduced t r q k h m)

-- ---- an Easy quotient, power or root that is not Bad

-- the divisor is not 0, and has at most two classes
pub easy_divisor : (a b r : Tree) → IsEasy (div a b) → ¬ (IsBad (div a b)) → KeepsMeanings b r → IsNumber r → (r ≢ num zero_fraction) × (classes r ≤ 2)
easy_divisor a b r e n k h =
    let bad : ¬ (IsBad b) = λ x. n (bad_part b (div a b) (in_divisor itself) x) in
    let (v, m) = easy_has_value b (easy_part b (div a b) (in_divisor itself) e) bad in
    let (w, s, l) = e.short_divisors a b itself v m in (
      λ z. n (div_by_zero_is_bad a b (reduced_to_zero b r k z v m)),
      number_short r w h (Same-trans (Same-sym (value_reduced b r v k h m)) s) l,
    )

-- what is known of the reduced base r and the reduced exponent x of an Easy power, where x is a whole number
pub record EasyWholePower (r x : Tree) : Type 0 where
  pub exponent : ℤ
  pub exponent_is : x ≡ num (whole_fraction exponent)
  pub not_zero : exponent ≤ℤ pos 0 → r ≢ num zero_fraction
  pub short : (n : ℕ) → exponent ≡ negsuc n → classes r ≤ 2

-- and where it is half of an odd one
pub record EasyHalfPower (r x : Tree) : Type 0 where
  pub exponent : Fraction
  pub half : exponent.den ≡ 2
  pub exponent_is : x ≡ num exponent
  pub base : Fraction
  pub base_is : r ≡ num base
  pub not_negative : int_is_negative base.num ≡ false
  pub not_zero : int_is_negative exponent.num ≡ true → r ≢ num zero_fraction

not_negative : (z : ℤ) (d : ℕ) (v : Surd) → IsRootOf z d v → int_is_negative z ≡ false
not_negative z d v h = grind arith

pub easy_power : (b g r x : Tree) → IsEasy (power b g) → ¬ (IsBad (power b g)) → KeepsMeanings b r → KeepsMeanings g x → IsNumber r → IsNumber x → EasyWholePower r x ⊎ EasyHalfPower r x
easy_power b g r x e n k l h j = let (v, m) = easy_has_value (power b g) e n in by m.0 m.1 v m.2 m.3 m.4
  where
    by : (w y v : Surd) → HasValue b w → HasValue g y → IsPower w y v → EasyWholePower r x ⊎ EasyHalfPower r x
    by w y v mb mg (inl (i, s, p)) =
        let whole : IsWhole g i = Means-Same g [] y (surd_of (whole_fraction i)) mg s in
        inl (record {
          exponent = i;
          exponent_is = whole_reduced g x i l j whole;
          not_zero = λ q z. n (zero_power_is_bad b g (reduced_to_zero b r k z w mb) (inl (i, q, whole)));
          short = λ a f.
              let (u, t, c) = e.short_bases b g itself a (subst (λ z. IsWhole g z) f whole) w mb in
              number_short r u h (Same-trans (Same-sym (value_reduced b r w k h mb)) t) c;
        })
    by w y v mb mg (inr (i, d, s, u, (q, t, o), p)) =
        let half : HasValue g (surd_of i) = Means-Same g [] y (surd_of i) mg s in
        inr (record {
          exponent = i;
          half = d;
          exponent_is = rational_reduced g x i l j half;
          base = q;
          base_is = rational_reduced b r q k h (Means-Same b [] w (surd_of q) mb t);
          not_negative = not_negative q.num q.den u o;
          not_zero = λ f z. n (zero_power_is_bad b g (reduced_to_zero b r k z w mb) (inr (i, f, (d, half))));
        })

-- the argument of a root is a rational that is not negative
pub easy_root : (a r : Tree) → IsEasy (root a) → ¬ (IsBad (root a)) → KeepsMeanings a r → IsNumber r → (q : Fraction) × (r ≡ num q) × (int_is_negative q.num ≡ false)
easy_root a r e n k h =
    let (v, m) = easy_has_value (root a) e n in
    let i = m.2 in
    (i.0, rational_reduced a r i.0 k h (Means-Same a [] m.0 (surd_of i.0) m.1 i.1), not_negative i.0.num i.0.den v i.2)
