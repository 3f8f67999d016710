-- How many leading factors of a reduced product are Numbers.
use Rattle.coefficients.proofs.Shared.{true≢false, ◌≡◌, ℕ, zero, suc, ◌-◌, ◌<◌, ◌≤◌, ◌⊎◌, inl, inr, Bool, true, false, if◌then◌else◌, refl, sym, ap, ◌∙◌, subst, arith, has_coefficient, Fraction}
use Rattle.coefficients.proofs.Shared.{is_number, IsNumber, Split, split, split_product, num_one, product_tree, part_of, is_reduced, IsProductForm, HasForm, Tree, num, add, mult, root, Trees, none}
use Rattle.coefficients.proofs.Shared.{more, append, count, AllParts, AllPartsOf, is_mult, number_test, number_words, nth, children_of, coefficient_length, coefficient_of, factors_of, two_count}
use Rattle.coefficients.proofs.{Coefficients.{leading_factors, product_form_of}, Factors.{no_split, spliced_split, AreFactors}, Forms.{reduced_parts, parts_reduced}}
use Rattle.coefficients.proofs.Splits.{Leads, in_front, number_has_no_factors}

-- 0, 1 or 2, as the first and the second are Numbers
abbrev pub leading_numbers : Trees → ℕ
leading_numbers ts = if is_number (nth 0 ts) then (if is_number (nth 1 ts) then 2 else 1) else 0

by_split : (ts us : Trees) (c : Tree) → split_product ts ≡ split c us → coefficient_length ts ≡ count ts - count us
by_split ts us c e = ap (λ (s : Split). count ts - count s.factors) e

first_no : (ts : Trees) → has_coefficient ts ≡ false → is_number (nth 0 ts) ≡ false
unfolding is_number
first_no ts h = grind arith

behind_no : (ts : Trees) → AreFactors ts → is_number (nth 0 ts) ≡ false
behind_no none h = absurd (let l : 1 ≤ 0 = h.some in omega arith)
behind_no (more t ts) h = h.no_number.0

one_leads : (c : Tree) (ts us : Trees) → split_product us ≡ split c ts → us ≡ more c ts → IsNumber c → AreFactors ts → coefficient_length us ≡ leading_numbers us
one_leads c ts us e w n a = grind (arith, split_product, split, by_split, number_test, behind_no)

two_lead : (q r : Fraction) (ts : Trees) → is_number (root (num r)) ≡ true → leading_numbers (more (num q) (more (root (num r)) ts)) ≡ 2
two_lead q r ts h = rw (number_test (num q) tt, h) refl

led_length : (ts : Trees) (l : Leads ts) → AreFactors l.factors → coefficient_length ts ≡ leading_numbers ts
led_length ts l a = by l.c l.is l.whole l.coefficient.number
  where
    by : (c : Tree) → split_product ts ≡ split c l.factors → ts ≡ append (factors_of c) l.factors → IsNumber c → coefficient_length ts ≡ leading_numbers ts
    by (num q) e w n = one_leads (num q) l.factors ts e w n a
    by (add us) e w n = one_leads (add us) l.factors ts e w n a
    by (root r) e w n = one_leads (root r) l.factors ts e w n a
    by (mult (more (num q) (more (root (num r)) none))) e w n =
        by_split ts l.factors (mult (more (num q) (more (root (num r)) none))) e ∙ ap (λ (x : Trees). count x - count l.factors) w ∙ lengths
        ∙ sym (ap leading_numbers w ∙ two_lead q r l.factors (number_test (root (num r)) n.2))
      where
        lengths : suc (suc (count l.factors)) - count l.factors ≡ 2
        lengths = omega arith
    by c e w n = absurd n

-- what the children of a reduced product tell
pub record IsLong (ts : Trees) : Type 0 where
  pub two : 2 ≤ count ts
  pub length : coefficient_length ts ≡ leading_numbers ts
  pub child : (n : ℕ) → n < count ts → is_reduced (nth n ts) ≡ true

child_reduced : (ts : Trees) (n : ℕ) → AllPartsOf HasForm ts → n < count ts → is_reduced (nth n ts) ≡ true
child_reduced none n h l = absurd (omega arith)
child_reduced (more t ts) zero h l = parts_reduced t h.0
child_reduced (more t ts) (suc n) h l = child_reduced ts n h.1 (omega arith)

number_long : (ts : Trees) → IsNumber (mult ts) → AllPartsOf HasForm ts → IsLong ts
number_long ts h p = grind (arith, number_has_no_factors, two_lead, number_test, child_reduced)

product_long : (ts : Trees) → AllParts HasForm (mult ts) → is_number (mult ts) ≡ false → IsProductForm ts → (has_coefficient ts ≡ false) ⊎ Leads ts → IsLong ts
product_long ts p n f x = record { two = two_count ts f.two; length = by x; child = λ n l. child_reduced ts n p.1 l }
  where
    by : (has_coefficient ts ≡ false) ⊎ Leads ts → coefficient_length ts ≡ leading_numbers ts
    by (inl h) = by_split ts ts num_one (no_split ts h) ∙ zero_left (count ts) ∙ sym (ap (λ (b : Bool). if b then (if is_number (nth 1 ts) then 2 else 1) else 0) (first_no ts h))
      where
        zero_left : (k : ℕ) → k - k ≡ 0
        zero_left k = omega arith
    by (inr l) = led_length ts l (leading_factors ts l p n f)

long_form : (ts : Trees) → AllParts HasForm (mult ts) → (b : Bool) → is_number (mult ts) ≡ b → IsLong ts
long_form ts p true e = number_long ts (number_words (mult ts) e) p.1
long_form ts p false e = let f = product_form_of ts p e in product_long ts p e f (in_front ts f.no_product f.front)

pub long : (t : Tree) → is_mult t ≡ true → is_reduced t ≡ true → IsLong (children_of t)
long (mult ts) m h = long_form ts (reduced_parts (mult ts) h refl) (is_number (mult ts)) refl
long t m h = absurd (true≢false (sym m))

-- ---- what the length tells of the factors

-- a spliced coefficient
pub record IsPairLed (ts : Trees) : Type 0 where
  pub q : Fraction
  pub r : Fraction
  pub factors : Trees
  pub whole : ts ≡ more (num q) (more (root (num r)) factors)
  pub is : split_product ts ≡ split (mult (more (num q) (more (root (num r)) none))) factors

-- no coefficient, one of one factor, or one of two
pub record IsMeasured (ts : Trees) : Type 0 where
  pub none_led : coefficient_length ts ≡ 0 → split_product ts ≡ split num_one ts
  pub one_led : coefficient_length ts ≡ 1 → ts ≡ more (split_product ts).coefficient (split_product ts).factors
  pub two_led : (coefficient_length ts ≡ 0 → ⊥) → (coefficient_length ts ≡ 1 → ⊥) → IsPairLed ts

no_length : {a b : ℕ} {A : Type 0} (n : ℕ) → n ≡ a → n ≡ b → (a ≡ b → ⊥) → A
no_length n e f h = absurd (h (sym e ∙ f))

led_none : (ts : Trees) → split_product ts ≡ split num_one ts → IsMeasured ts
led_none ts e = grind (arith, by_split, no_length)

led_one : (c : Tree) (ts us : Trees) → split_product us ≡ split c ts → us ≡ more c ts → IsMeasured us
led_one c ts us e w = grind (arith, by_split, no_length)

led_two : (q r : Fraction) (ts us : Trees) → split_product us ≡ split (mult (more (num q) (more (root (num r)) none))) ts → us ≡ more (num q) (more (root (num r)) ts) → IsMeasured us
led_two q r ts us e w =
    let two : coefficient_length us ≡ 2 = by_split us ts (mult (more (num q) (more (root (num r)) none))) e ∙ ap (λ (x : Trees). count x - count ts) w ∙ lengths in
    record { none_led = λ h. no_length _ two h (λ k. absurd (omega arith)); one_led = λ h. no_length _ two h (λ k. absurd (omega arith)); two_led = λ h k. record { q = q; r = r; factors = ts; whole = w; is = e } }
  where
    lengths : suc (suc (count ts)) - count ts ≡ 2
    lengths = omega arith

led_measured : (ts us : Trees) (c : Tree) → split_product ts ≡ split c us → ts ≡ append (factors_of c) us → IsNumber c → IsMeasured ts
led_measured ts us (num q) e w n = led_one (num q) us ts e w
led_measured ts us (add vs) e w n = led_one (add vs) us ts e w
led_measured ts us (root r) e w n = led_one (root r) us ts e w
led_measured ts us (mult (more (num q) (more (root (num r)) none))) e w n = led_two q r us ts e w
led_measured ts us c e w n = absurd n

number_measured : (ts : Trees) → IsNumber (mult ts) → IsMeasured ts
number_measured (more (num q) (more (root (num r)) none)) h = led_two q r none _ (spliced_split (mult (more (num q) (more (root (num r)) none))) none h refl) refl
number_measured ts h = absurd h

product_measured : (ts : Trees) → (has_coefficient ts ≡ false) ⊎ Leads ts → IsMeasured ts
product_measured ts h = grind (arith, led_none, no_split, led_measured)

measured_form : (ts : Trees) → AllParts HasForm (mult ts) → (b : Bool) → is_number (mult ts) ≡ b → IsMeasured ts
measured_form ts p true e = number_measured ts (number_words (mult ts) e)
measured_form ts p false e = let f = product_form_of ts p e in product_measured ts (in_front ts f.no_product f.front)

pub measured : (t : Tree) → is_mult t ≡ true → is_reduced t ≡ true → IsMeasured (children_of t)
measured (mult ts) m h = measured_form ts (reduced_parts (mult ts) h refl) (is_number (mult ts)) refl
measured t m h = absurd (true≢false (sym m))

-- factors stand behind the coefficient of a product that is no Number
some_form : (ts : Trees) → AllParts HasForm (mult ts) → is_number (mult ts) ≡ false → IsProductForm ts → (has_coefficient ts ≡ false) ⊎ Leads ts
    → 1 ≤ count (split_product ts).factors
some_form ts p n f (inl h) = subst (λ (s : Split). 1 ≤ count s.factors) (sym (no_split ts h)) (let l : 2 ≤ count ts = two_count ts f.two in omega arith)
some_form ts p n f (inr l) = subst (λ (s : Split). 1 ≤ count s.factors) (sym l.is) (leading_factors ts l p n f).some

pub some_factors : (t : Tree) → is_mult t ≡ true → is_reduced t ≡ true → is_number t ≡ false → 1 ≤ count (split_product (children_of t)).factors
some_factors (mult ts) m h n =
    let p = reduced_parts (mult ts) h refl in
    let f = product_form_of ts p n in
    some_form ts p n f (in_front ts f.no_product f.front)
some_factors t m h n = absurd (true≢false (sym m))

-- the parts of a product by its children, and of another tree
pub product_coefficient : (t : Tree) → is_mult t ≡ true → (split_product (children_of t)).coefficient ≡ coefficient_of t
product_coefficient t m = grind (arith, true≢false)

pub product_part : (t : Tree) → is_mult t ≡ true → product_tree (split_product (children_of t)).factors ≡ part_of t
product_part t m = grind (arith, true≢false)

pub other_coefficient : (t : Tree) → is_mult t ≡ false → num_one ≡ coefficient_of t
other_coefficient t m = grind (arith, true≢false)

pub other_part : (t : Tree) → is_mult t ≡ false → t ≡ part_of t
other_part t m = grind (arith, true≢false)
