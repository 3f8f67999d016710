-- The test for reduced trees says what its words say.
use Rattle.calc_terms.proofs.Names.{not_true as from_not}
use Rattle.calc_algebra.proofs.Shared.{◌==◌, if◌then◌else◌, false_from_ne_true, num, ◌≡◌, inl, inr, ℕ, Bool, true, false, not, ◌||◌, refl, ap, arith, is_lt, and_parts, and_from, or_left, or_right}
use Rattle.calc_algebra.proofs.Shared.{not-true, not_from_false, eqb-true, leb-true, Fraction, Tree, undef, add, mult, power, root, neg, sub, div, Trees, none, more, AllParts, AllPartsOf, is_undef}
use Rattle.calc_algebra.proofs.Shared.{tree_cmp, whole_power_form, power_form, split_product, none_is, rises_by, sum_form, product_form, has_form, all_parts, all_parts_of, is_reduced, NoneIs, RisesBy}
use Rattle.calc_algebra.proofs.Shared.{IsWholePowerForm, IsPowerForm, IsSumForm, IsProductForm, HasForm, IsReduced, no_zero, no_one, zero_test, one_test}
use Rattle.calc_algebra.proofs.NumberLaws.{number_words, number_test, rises_words, rises_test}

-- ---- Booleans

-- ---- lists

pub none_words : (p : Tree → Bool) (ts : Trees) → none_is p ts ≡ true → NoneIs p ts
none_words p none h = tt
none_words p (more t ts) h = let (a, b) = and_parts (not (p t)) (none_is p ts) h in (from_not (p t) a, none_words p ts b)

pub none_test : (p : Tree → Bool) (ts : Trees) → NoneIs p ts → none_is p ts ≡ true
none_test p none h = refl
none_test p (more t ts) h = and_from (not (p t)) (none_is p ts) (not_from_false (p t) h.0) (none_test p ts h.1)

pub rises_by_words : (key : Tree → Tree) (ts : Trees) → rises_by key ts ≡ true → RisesBy key ts
rises_by_words key none h = tt
rises_by_words key (more t none) h = tt
rises_by_words key (more t (more u ts)) h =
    let (a, b) = and_parts (is_lt (tree_cmp (key t) (key u))) (rises_by key (more u ts)) h in
    (grind arith, rises_by_words key (more u ts) b)

pub rises_by_test : (key : Tree → Tree) (ts : Trees) → RisesBy key ts → rises_by key ts ≡ true
rises_by_test key none h = refl
rises_by_test key (more t none) h = refl
rises_by_test key (more t (more u ts)) h = and_from (is_lt (tree_cmp (key t) (key u))) (rises_by key (more u ts)) (ap is_lt h.0) (rises_by_test key (more u ts) h.1)

-- ---- powers

pub whole_power_words : (b : Tree) (n : Fraction) → whole_power_form b n ≡ true → IsWholePowerForm b n
whole_power_words b n h = grind (arith, and_parts, no_zero, no_one, from_not, leb-true)

pub whole_power_test : (b : Tree) (n : Fraction) → IsWholePowerForm b n → whole_power_form b n ≡ true
whole_power_test b n h = grind (arith, and_from, not_from_false, zero_test, one_test)

pub one_and_two : (n : ℕ) → n ≡ 1 → n ≡ 2 → ⊥
one_and_two n e f = absurd (omega arith)

pub power_words : (b e : Tree) → power_form b e ≡ true → IsPowerForm b e
power_words b e h = grind (arith, one_and_two, whole_power_words, not_from_false)

pub power_test : (b e : Tree) → IsPowerForm b e → power_form b e ≡ true
power_test b (num q) h = by (q.den == 1) refl
  where
    by : (k : Bool) → (q.den == 1) ≡ k → (if k then whole_power_form b q else not (q.den == 2)) ≡ true
    by true e = whole_power_test b q (h.1 (eqb-true q.den 1 e))
    by false e = not_from_false (q.den == 2) (false_from_ne_true (q.den == 2) (λ k. h.0 (eqb-true q.den 2 k)))
power_test b e h = refl

-- ---- sums and products

pub sum_words : (ts : Trees) → sum_form ts ≡ true → IsSumForm ts
sum_words ts h = grind (arith, and_parts, none_words, rises_words, rises_by_words)

pub sum_test : (ts : Trees) → IsSumForm ts → sum_form ts ≡ true
sum_test ts h = grind (arith, and_from, none_test, rises_test, rises_by_test)

pub product_words : (ts : Trees) → product_form ts ≡ true → IsProductForm ts
product_words ts h = grind (arith, and_parts, split_product, none_words, no_zero, no_one, rises_by_words, from_not)

pub product_test : (ts : Trees) → IsProductForm ts → product_form ts ≡ true
product_test ts h = grind (arith, and_from, none_test, zero_test, one_test, rises_by_test, not_from_false)

-- ---- nodes and parts

pub form_words : (t : Tree) → has_form t ≡ true → HasForm t
form_words t h = grind (arith, number_words, from_not, power_words, sum_words, product_words)

pub form_test : (t : Tree) → HasForm t → has_form t ≡ true
form_test t h = grind (arith, or_left, number_test, or_right, not_from_false, power_test, sum_test, product_test)

module _ (p : Tree → Bool) (P : Tree → Type 0) where
  mutual
    pub all_parts_words : ((t : Tree) → p t ≡ true → P t) → (t : Tree) → all_parts p t ≡ true → AllParts P t
    all_parts_words f (add ts) h = let (a, b) = and_parts (p (add ts)) _ h in (f (add ts) a, all_parts_of_words f ts b)
    all_parts_words f (mult ts) h = let (a, b) = and_parts (p (mult ts)) _ h in (f (mult ts) a, all_parts_of_words f ts b)
    all_parts_words f (power b e) h = grind (arith, and_parts, f, all_parts_words f b, all_parts_words f e)
    all_parts_words f (root a) h = let (x, y) = and_parts (p (root a)) _ h in (f (root a) x, all_parts_words f a y)
    all_parts_words f (neg a) h = let (x, y) = and_parts (p (neg a)) _ h in (f (neg a) x, all_parts_words f a y)
    all_parts_words f (sub a b) h = grind (arith, and_parts, f, all_parts_words f a, all_parts_words f b)
    all_parts_words f (div a b) h = grind (arith, and_parts, f, all_parts_words f a, all_parts_words f b)
    all_parts_words f t h = f t h

    pub all_parts_of_words : ((t : Tree) → p t ≡ true → P t) → (ts : Trees) → all_parts_of p ts ≡ true → AllPartsOf P ts
    all_parts_of_words f none h = tt
    all_parts_of_words f (more t ts) h = let (a, b) = and_parts (all_parts p t) _ h in (all_parts_words f t a, all_parts_of_words f ts b)

  mutual
    pub all_parts_test : ((t : Tree) → P t → p t ≡ true) → (t : Tree) → AllParts P t → all_parts p t ≡ true
    all_parts_test f (add ts) h = and_from _ _ (f (add ts) h.0) (all_parts_of_test f ts h.1)
    all_parts_test f (mult ts) h = and_from _ _ (f (mult ts) h.0) (all_parts_of_test f ts h.1)
    all_parts_test f (power b e) h = and_from _ _ (and_from _ _ (f (power b e) h.0) (all_parts_test f b h.1)) (all_parts_test f e h.2)
    all_parts_test f (root a) h = and_from _ _ (f (root a) h.0) (all_parts_test f a h.1)
    all_parts_test f (neg a) h = and_from _ _ (f (neg a) h.0) (all_parts_test f a h.1)
    all_parts_test f (sub a b) h = and_from _ _ (and_from _ _ (f (sub a b) h.0) (all_parts_test f a h.1)) (all_parts_test f b h.2)
    all_parts_test f (div a b) h = and_from _ _ (and_from _ _ (f (div a b) h.0) (all_parts_test f a h.1)) (all_parts_test f b h.2)
    all_parts_test f t h = f t h

    pub all_parts_of_test : ((t : Tree) → P t → p t ≡ true) → (ts : Trees) → AllPartsOf P ts → all_parts_of p ts ≡ true
    all_parts_of_test f none h = refl
    all_parts_of_test f (more t ts) h = and_from _ _ (all_parts_test f t h.0) (all_parts_of_test f ts h.1)

module _ (P Q R : Tree → Type 0) (f : (t : Tree) → P t → Q t → R t) where
  mutual
    pub AllParts-zip : (t : Tree) → AllParts P t → AllParts Q t → AllParts R t
    AllParts-zip (add ts) h k = (f (add ts) h.0 k.0, AllPartsOf-zip ts h.1 k.1)
    AllParts-zip (mult ts) h k = (f (mult ts) h.0 k.0, AllPartsOf-zip ts h.1 k.1)
    AllParts-zip (power b e) h k = (f (power b e) h.0 k.0, AllParts-zip b h.1 k.1, AllParts-zip e h.2 k.2)
    AllParts-zip (root a) h k = (f (root a) h.0 k.0, AllParts-zip a h.1 k.1)
    AllParts-zip (neg a) h k = (f (neg a) h.0 k.0, AllParts-zip a h.1 k.1)
    AllParts-zip (sub a b) h k = (f (sub a b) h.0 k.0, AllParts-zip a h.1 k.1, AllParts-zip b h.2 k.2)
    AllParts-zip (div a b) h k = (f (div a b) h.0 k.0, AllParts-zip a h.1 k.1, AllParts-zip b h.2 k.2)
    AllParts-zip t h k = f t h k

    pub AllPartsOf-zip : (ts : Trees) → AllPartsOf P ts → AllPartsOf Q ts → AllPartsOf R ts
    AllPartsOf-zip none h k = tt
    AllPartsOf-zip (more t ts) h k = (AllParts-zip t h.0 k.0, AllPartsOf-zip ts h.1 k.1)

module _ (P Q : Tree → Type 0) (f : (t : Tree) → P t → Q t) where
  pub AllParts-map : (t : Tree) → AllParts P t → AllParts Q t
  AllParts-map t h = AllParts-zip P P Q (λ u a b. f u a) t h h

  pub AllPartsOf-map : (ts : Trees) → AllPartsOf P ts → AllPartsOf Q ts
  AllPartsOf-map ts h = AllPartsOf-zip P P Q (λ u a b. f u a) ts h h

pub undef_words : (t : Tree) → is_undef t ≡ true → t ≡ undef
undef_words t h = grind arith

pub reduced_words : (t : Tree) → is_reduced t ≡ true → IsReduced t
unfolding is_reduced
reduced_words t h = grind (arith, undef_words, all_parts_words has_form HasForm form_words t)

pub reduced_test : (t : Tree) → IsReduced t → is_reduced t ≡ true
unfolding is_reduced
reduced_test t (inl e) = ap (λ u. is_undef u || all_parts has_form u) e
reduced_test t (inr h) = or_right (is_undef t) _ (all_parts_test has_form HasForm form_test t h)
