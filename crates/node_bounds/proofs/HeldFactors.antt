-- Reduced trees as factors: what holds a tree holds it as a factor, and the parts of a product are held by bits of their own.
use Rattle.node_bounds.proofs.Shared.{pos, ◌≡◌, ◌≢◌, ℕ, zero, suc, ◌+◌, ◌-◌, ◌*◌, ◌^◌, ◌≤◌, ◌⊎◌, inl, inr, List, [], ◌∷◌, Bool, true, false, if◌then◌else◌, refl, sym, ap, ◌∙◌, subst, arith, mul-le}
use Rattle.node_bounds.proofs.Shared.{pow-le-pow_right, zero_fraction, one_fraction, Tree, num, undef, add, mult, power, Trees, none, more, count, is_undef, is_mult, AllParts, AllPartsOf}
use Rattle.node_bounds.proofs.Shared.{whole_denominator, AreTerms, Rises, is_number, value, terms_of, Split, split_product, num_one, is_num_one, is_reduced, HasForm, NoneIs, IsProductForm, IsSumForm}
use Rattle.node_bounds.proofs.Shared.{number_terms, other_terms, Surd, term, surd_one, one_not_zero, number_test, term_words, mass, mass_from, IsHeld, has_coefficient, product_form_of, no_split}
use Rattle.node_bounds.proofs.Shared.{reduced_parts, parts_reduced, Leads, in_front, parts_of, HasFactors, product_factors, IsFactorHeld, single_part, part_single, number_as_factor, IsSumHeld, Counts}
use Rattle.node_bounds.proofs.Shared.{counts, counts_of, is_counted, Addend, addend, addend_of, addends_of, power_high, power_low, IsTreeHeld, undef_held, AreWeighted, none_weighted, more_weighted}
use Rattle.node_bounds.proofs.Shared.{IsPartHeld, no_factor_held, factor_held, IsBaseHeld, symbol_held, tree_held, Weighted, AreHeld, tree_as_sum, factor_is_held, factor_as_tree, addend_left_out}
use Rattle.node_bounds.proofs.Shared.{addend_to_front, exponents_within, held_number, one_counted, one_counts, symbol_is_held, root_is_held, tree_wider, parts_defined, cases_Bool, two_terms}
use Rattle.node_bounds.proofs.{Shared.{some_factors, some_counts, split_off, base_positive, as_factor, root_held, no_terms, rational_some, number_some}, Clashes.{clash, undef_words, power_no_number}}
use Rattle.tree_bits.specs.HeldTrees.{exponent_in}
pub use Rattle.product_reduce.proofs.HeldProducts.{factor_wider}

-- ---- Undef, bases and powers

undef_number : is_number undef ≡ false
unfolding is_number
undef_number = refl

-- a high of at least 1 holds Undef
pub undef_factor : {h l : ℕ} → 1 ≤ h → IsFactorHeld undef h l
undef_factor {h} {l} o =
    let e : counts_of num_one ≡ counts 1 0 = one_counts in
    part_single undef undef_number refl (factor_held 1 0 0 0 one_counted (tree_held (omega arith) refl undef_held) no_factor_held (omega (arith, ap (λ (c : Counts). power_high c 1 0) e, o)) (omega (arith, ap (λ (c : Counts). power_low c 1 0) e)))

pub power_factor : (b e : Tree) {h l : ℕ} → IsPartHeld (more (power b e) none) h l → IsFactorHeld (power b e) h l
power_factor b e a = part_single (power b e) (power_no_number b e) refl a

pub factor_power : (b e : Tree) {h l : ℕ} → IsFactorHeld (power b e) h l → IsPartHeld (more (power b e) none) h l
factor_power b e a = single_part (power b e) (power_no_number b e) refl a

base_tree : {b : Tree} {h l : ℕ} → IsBaseHeld b h l → IsTreeHeld b h l
base_tree (symbol_held {x} o) = tree_wider o (omega arith) (symbol_is_held x)
base_tree (root_held {a} {h} {l} o n t) = root_is_held a h l n o t
base_tree (tree_held o s t) = t

pub base_factor : (b : Tree) {h l : ℕ} → IsBaseHeld b h l → IsFactorHeld b h l
base_factor b h = grind (arith, cases_Bool, undef_words, undef_factor, base_positive, factor_is_held, base_tree)

-- ---- how high at least

zero_whole : zero_fraction.den ≡ 1
unfolding zero_fraction
zero_whole = whole_denominator (pos 0)

pub no_zero_exponent : (b e : Tree) → HasForm (power b e) → e ≢ num zero_fraction
no_zero_exponent b e h = grind (arith, zero_whole)

-- an exponent that is reduced counts
exponent_some : (t : Tree) → AllParts HasForm t → is_counted (exponent_in t) ≡ true → 1 ≤ (counts_of (exponent_in t)).up + (counts_of (exponent_in t)).down
exponent_some t h k = grind (arith, some_counts, no_zero_exponent, one_counts)

pub first_counted : {t : Tree} {ts : Trees} {h l : ℕ} → IsPartHeld (more t ts) h l → is_counted (exponent_in t) ≡ true
first_counted (factor_held p q k n c b r x y) = c

pub part_high : (t : Tree) (ts : Trees) {h l : ℕ} → AllParts HasForm t → IsPartHeld (more t ts) h l → 1 ≤ h
part_high t ts f a = omega (arith, exponent_some t f (first_counted a), exponents_within {t = t} {ts = ts} a)

-- a coefficient other than 0 before such a part
some_mass : (m e : ℕ) (c : Surd) → c ≢ [] → m ≤ mass_from m e c
some_mass m e [] z = absurd (z refl)
some_mass m e (t ∷ v) z = omega arith

led_high : (c : Surd) (t : Tree) (ts : Trees) {h l : ℕ} → c ≢ [] → AllParts HasForm t → IsSumHeld (addend c (more t ts) ∷ []) h l → 1 ≤ h
led_high c t ts {h} {l} z f a = by a.weighted a.held
  where
    least : (h s m p : ℕ) → 0 + 1 ≤ s → s ≤ m → 1 ≤ p → m * 2 ^ p + 0 ≤ s * 2 ^ h → 1 ≤ h
    least (suc h) s m p o k i j = omega arith
    least zero s m p o k i j =
        let x : 2 ^ 1 ≤ 2 ^ p = pow-le-pow_right {n = 2} (omega arith) i in
        absurd (omega (arith, mul-le m (2 ^ 1) m (2 ^ p) (omega arith) x))

    by : {ws : List Weighted} → AreWeighted (addend c (more t ts) ∷ []) ws → AreHeld ws h l → 1 ≤ h
    by (more_weighted p q b none_weighted) k = least h k.scale (mass k.scale c) p (omega (arith, k.scale_positive)) (some_mass k.scale k.scale c z) (part_high t ts f b) k.high

-- ---- products

-- the coefficient of a product is not 0
pub coefficient_some : (ts : Trees) → is_reduced (mult ts) ≡ true → is_number (mult ts) ≡ false → value (split_product ts).coefficient ≢ []
coefficient_some ts r n = by (in_front ts f.no_product f.front)
  where
    f : IsProductForm ts
    f = product_form_of ts (reduced_parts (mult ts) r refl) n

    by : (has_coefficient ts ≡ false) ⊎ Leads ts → value (split_product ts).coefficient ≢ []
    by (inl h) = subst (λ (s : Split). value s.coefficient ≢ []) (sym (no_split ts h)) (rational_some one_fraction one_not_zero)
    by (inr l) = subst (λ (s : Split). value s.coefficient ≢ []) (sym l.is) (number_some l.c l.coefficient.number l.coefficient.not_zero)

product_factor : (ts : Trees) → is_number (mult ts) ≡ false → as_factor (mult ts) ≡ addend (value (split_product ts).coefficient) (split_product ts).factors
product_factor ts n = ap (λ (b : Bool). if b then addend (value (mult ts)) none else addend_of (mult ts)) n

-- ---- trees as factors

term_high : (t : Tree) {h l : ℕ} → AllParts HasForm t → is_number t ≡ false → IsSumHeld (addend_of t ∷ []) h l → 1 ≤ h
term_high (mult ts) {h} {l} f n a = by (split_product ts).factors p.formed (some_factors (mult ts) refl r n) a
  where
    r : is_reduced (mult ts) ≡ true
    r = parts_reduced (mult ts) f

    p : HasFactors ts
    p = product_factors ts r n

    by : (us : Trees) → AllPartsOf HasForm us → 1 ≤ count us → IsSumHeld (addend (value (split_product ts).coefficient) us ∷ []) h l → 1 ≤ h
    by none k o b = absurd (omega arith)
    by (more u us) k o b = led_high (value (split_product ts).coefficient) u us (coefficient_some ts r n) k.0 b
term_high t f n a = led_high surd_one t none (no_terms (term one_fraction 1) []) f a

-- an addend alone
first_alone : (x : Addend) (xs : List Addend) {h l : ℕ} → IsSumHeld (x ∷ xs) h l → IsSumHeld (x ∷ []) h l
first_alone x [] a = a
first_alone x (y ∷ zs) {h} {l} a = first_alone x zs (addend_left_out y (x ∷ zs) h l (addend_to_front (x ∷ []) y zs h l a))

all_terms : (ts : Trees) → other_terms ts ≡ none → (AreTerms ts) × (number_terms ts ≡ ts)
all_terms none e = (tt, refl)
all_terms (more t ts) e = grind (arith, term_words, all_terms ts)

others_formed : (ts : Trees) → AllPartsOf HasForm ts → AllPartsOf HasForm (other_terms ts)
others_formed none h = tt
others_formed (more t ts) h = grind (arith, others_formed ts h.1)

sum_high : (ts : Trees) {h l : ℕ} → AllParts HasForm (add ts) → is_number (add ts) ≡ false → IsTreeHeld (add ts) h l → 1 ≤ h
sum_high ts {h} {l} f n a = by (other_terms ts) refl (others_formed ts f.1) m.no_number (tree_as_sum refl a)
  where
    m : IsSumForm ts
    m = elim f.0 [ inl k ↦ clash (sym (number_test (add ts) k) ∙ n) | inr k ↦ k ]

    by : (us : Trees) → other_terms ts ≡ us → AllPartsOf HasForm us → NoneIs is_number us → IsSumHeld (addend (terms_of (number_terms ts)) none ∷ addends_of us) h l → 1 ≤ h
    by none e k o b = let r = all_terms ts e in clash (sym (number_test (add ts) (two_terms ts m.two, r.0, subst (λ (us : Trees). Rises (terms_of us)) r.1 m.number)) ∙ n)
    by (more u us) e k o b = term_high u k.0 o.0 (first_alone (addend_of u) (addends_of us) (addend_left_out (addend (terms_of (number_terms ts)) none) (addends_of (more u us)) h l b))

pub tree_high : (t : Tree) {h l : ℕ} → AllParts HasForm t → is_number t ≡ false → IsTreeHeld t h l → 1 ≤ h
tree_high (add ts) f n a = sum_high ts f n a
tree_high t {h} {l} f n a = term_high t f n (subst (λ (xs : List Addend). IsSumHeld xs h l) (one_addend t n) (tree_as_sum (parts_defined t f) a))
  where
    one_addend : (t : Tree) → is_number t ≡ false → (if is_number t then addend (value t) none ∷ [] else addend_of t ∷ []) ≡ addend_of t ∷ []
    one_addend t n = ap (λ (b : Bool). if b then addend (value t) none ∷ [] else addend_of t ∷ []) n

pub tree_factor : (t : Tree) {h l : ℕ} → is_reduced t ≡ true → is_undef t ≡ false → IsTreeHeld t h l → IsFactorHeld t h l
tree_factor t {h} {l} r d a = elim (cases_Bool (is_number t)) [ inl n ↦ number_as_factor t h l n (held_number n a) | inr n ↦ factor_is_held t h l d (tree_high t (reduced_parts t r d) n a) a ]

pub factor_tree : (t : Tree) {h l : ℕ} → IsFactorHeld t h l → IsTreeHeld t h l
factor_tree t {h} {l} a = factor_as_tree t h l a

-- ---- the parts of a product

-- each tree as a factor, by bits of its own
pub data EachHeld : Trees → ℕ → ℕ → Type 0 where
  none_each : {h l : ℕ} → EachHeld none h l
  more_each : {t : Tree} {ts : Trees} {h l : ℕ} (p q k n : ℕ) → IsFactorHeld t p q → EachHeld ts k n → p + k ≤ h → q + n ≤ l → EachHeld (more t ts) h l

each_wider : {ts : Trees} {h l k n : ℕ} → h ≤ k → l ≤ n → EachHeld ts h l → EachHeld ts k n
each_wider x y none_each = none_each
each_wider x y (more_each p q i j a b u v) = more_each p q i j a b (omega arith) (omega arith)

part_each : (ts : Trees) {h l : ℕ} → NoneIs is_number ts → NoneIs is_mult ts → IsPartHeld ts h l → EachHeld ts h l
part_each none n m a = none_each
part_each (more t ts) n m (factor_held p q k i c b r x y) =
    let high : ℕ = power_high (counts_of (exponent_in t)) p q in
    more_each high (power_low (counts_of (exponent_in t)) p q) k i (part_single t n.0 m.0 (factor_held p q 0 0 c b no_factor_held (omega arith) (omega arith))) (part_each ts n.1 m.1 r) x y

-- a coefficient other than 0, and the factors behind it
record IsTakenApart (c : Surd) (ts : Trees) (h l : ℕ) : Type 0 where
  p : ℕ
  q : ℕ
  k : ℕ
  n : ℕ
  coefficient : IsHeld c p q
  factors : IsPartHeld ts k n
  high : p + k ≤ h
  low : q + n ≤ l

taken_apart : (c : Surd) (ts : Trees) {h l : ℕ} → c ≢ [] → IsSumHeld (addend c ts ∷ []) h l → IsTakenApart c ts h l
taken_apart c ts {h} {l} z a = by c z a.weighted a.held
  where
    by : (c : Surd) → c ≢ [] → {ws : List Weighted} → AreWeighted (addend c ts ∷ []) ws → AreHeld ws h l → IsTakenApart c ts h l
    by [] z w k = absurd (z refl)
    by (t ∷ v) z (more_weighted i j f none_weighted) k =
        let r = split_off t v h l i j k in
        record { p = h - i; q = l - j; k = i; n = j; coefficient = r.2; factors = f; high = omega (arith, r.0); low = omega (arith, r.1) }

pub parts_each : (ts : Trees) {h l : ℕ} → is_reduced (mult ts) ≡ true → is_number (mult ts) ≡ false → IsFactorHeld (mult ts) h l → EachHeld (parts_of ts) h l
parts_each ts {h} {l} r n a = by (is_num_one c)
  where
    f : HasFactors ts
    f = product_factors ts r n

    c : Tree
    c = (split_product ts).coefficient

    us : Trees
    us = (split_product ts).factors

    s : IsTakenApart (value c) us h l
    s = taken_apart (value c) us (coefficient_some ts r n) (subst (λ (x : Addend). IsSumHeld (x ∷ []) h l) (product_factor ts n) a)

    by : (b : Bool) → EachHeld (if b then us else more c us) h l
    by true = each_wider (omega (arith, s.high)) (omega (arith, s.low)) (part_each us f.no_number f.no_product s.factors)
    by false = more_each s.p s.q s.k s.n (number_as_factor c s.p s.q f.number s.coefficient) (part_each us f.no_number f.no_product s.factors) s.high s.low
