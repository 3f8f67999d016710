-- Faces of single nodes over the faces of their children, and their bytes.
use Rattle.beautify.proofs.Shared.{◌≡◌, ◌∙◌, ◌==◌, if◌then◌else◌, None, Some, ℕ, zero, suc, ◌+◌, ◌*◌, ◌<◌, ◌≤◌, nat_abs, refl, sym, ap, subst, arith, true, false, Bool, Tree, Trees, Fraction}
use Rattle.beautify.proofs.Shared.{has_minus, with_minus, is_symbol, face_of_sum, Part, Numerator, Denominator, num, power, root, mult, add, div, none, more, append, count, size, sizes, nth, plain}
use Rattle.beautify.proofs.Shared.{children_of, root_kind, whole_num, AllParts, AllPartsOf, HasTwo, is_num, num_least, IsExpression, Forest, tree_at, Form, Face, Unsigned, Divisor, IsReadyPart}
use Rattle.beautify.proofs.Shared.{IsShowable, IsFactor, AreFactors, first, behind, face, unsigned_face, exponent_below, stands_below, divisor_of, product_of, fraction_of, unless_one, numerator_of}
use Rattle.beautify.proofs.Shared.{denominator_of, factor_above, factor_below, factors_above, factors_below, form_room, part_room, part_above, part_below, share_room, Terms, Above, Below, least_size}
use Rattle.beautify.proofs.{Shared.{size_by_form, is_short, short_whole}, Sizes.{eight_each}, Trees.{unless_one_by, unless_one_test, first-append, behind-append}}
use Rattle.calc_terms.proofs.SmallLaws.{two_count as two_or_more}
use Rattle.calc_terms.specs.declared.kind.Kind.TheVariants as kind

-- ---- children

pub child_showable : (n : ℕ) (t : Tree) → AllParts IsShowable t → n < count (children_of t) → AllParts IsShowable (nth n (children_of t))
child_showable n t h w = of_list n (children_of t) (all_children t h) w
  where
    all_children : (t : Tree) → AllParts IsShowable t → AllPartsOf IsShowable (children_of t)
    all_children t h = grind arith

    of_list : (n : ℕ) (ts : Trees) → AllPartsOf IsShowable ts → n < count ts → AllParts IsShowable (nth n ts)
    of_list n none h w = absurd (omega arith)
    of_list zero (more t ts) h w = h.0
    of_list (suc n) (more t ts) h w = of_list n ts h.1 (omega arith)

-- a child that is written with its sign
pub ready_child : {form : Form} {i j n : ℕ} {f : Forest} → IsReadyPart form i f → n < count (children_of (plain (tree_at i f))) → IsExpression j f → plain (tree_at j f) ≡ nth n (children_of (plain (tree_at i f))) → IsReadyPart Face j f
ready_child {i = i} {n = n} {f = f} r w x e = record { expression = x; showable = subst (AllParts IsShowable) (sym e) (child_showable n (plain (tree_at i f)) r.showable w); takes-it = tt }

pub own_part : (t : Tree) → AllParts IsShowable t → IsShowable t
own_part t h = grind arith

-- ---- roots

pub root_face : (t a : Tree) → root_kind t ≡ kind.Root → a ≡ nth 0 (children_of t) → root (face a) ≡ unsigned_face t
root_face t a k e = grind arith

pub root_size : (t a : Tree) → root_kind t ≡ kind.Root → a ≡ nth 0 (children_of t) → size t ≡ 8 + size a
root_size t a k e = grind arith

-- ---- powers

pub power_size : (t b e : Tree) → root_kind t ≡ kind.Pow → b ≡ nth 0 (children_of t) → e ≡ nth 1 (children_of t) → size t ≡ 8 + (size b + size e)
power_size t b e k p q = grind arith

pub raised_face : (t b e : Tree) → root_kind t ≡ kind.Pow → b ≡ nth 0 (children_of t) → e ≡ nth 1 (children_of t) → stands_below t ≡ false → power (face b) (face e) ≡ unsigned_face t
raised_face t b e k p q s = grind arith

pub inverse_face : (t : Tree) → root_kind t ≡ kind.Pow → stands_below t ≡ true → div (whole_num 1) (divisor_of t) ≡ unsigned_face t
inverse_face t k s = grind arith

pub is_power : (t : Tree) → stands_below t ≡ true → root_kind t ≡ kind.Pow
is_power t s = grind arith

exponent_size : (e : Tree) → (exponent_below e ≡ 0 → ⊥) → 16 ≤ size e
exponent_size (num q) h = num_least q
exponent_size e h = absurd (h refl)

pub below_size : (t e : Tree) → stands_below t ≡ true → e ≡ nth 1 (children_of t) → 16 ≤ size e
below_size t e s q = grind (arith, exponent_size)

-- the number of an exponent below the line
exponent_number : (e : Tree) (n : ℕ) → exponent_below e ≡ suc n → numerator_of e ≡ whole_num (suc n)
exponent_number e n h = grind arith

pub divisor_one : (t b e : Tree) → stands_below t ≡ true → b ≡ nth 0 (children_of t) → e ≡ nth 1 (children_of t) → exponent_below e ≡ 1 → face b ≡ divisor_of t
divisor_one t b e s p q h = grind arith

pub divisor_more : (t b e : Tree) → stands_below t ≡ true → b ≡ nth 0 (children_of t) → e ≡ nth 1 (children_of t) → (exponent_below e ≡ 1 → ⊥) → power (face b) (numerator_of e) ≡ divisor_of t
divisor_more t b e s p q h = grind (arith, exponent_number)

pub exponent_num : (t e : Tree) → stands_below t ≡ true → e ≡ nth 1 (children_of t) → is_num e ≡ true
exponent_num t e s q = grind arith

-- ---- numbers

pub number_alone : (n : ℕ) → product_of (unless_one n none) ≡ whole_num n
number_alone n = unless_one_test (λ (us : Trees). product_of us ≡ whole_num n) n none (λ e. ap whole_num (sym e)) refl

pub whole_face : (t : Tree) (q : Fraction) → t ≡ num q → q.den ≡ 1 → numerator_of t ≡ unsigned_face t
whole_face t q e d = ap numerator_of e ∙ sym (number_alone (nat_abs q.num)) ∙ ap (λ (k : ℕ). fraction_of (unless_one (nat_abs q.num) none) (unless_one k none)) (sym d) ∙ ap unsigned_face (sym e)

pub parted_face : (t : Tree) (q : Fraction) → t ≡ num q → (q.den ≡ 1 → ⊥) → div (numerator_of t) (denominator_of t) ≡ unsigned_face t
parted_face t q e d =
    ap (λ (x : Tree). div (numerator_of x) (denominator_of x)) e
    ∙ unless_one_test (λ (us : Trees). div (whole_num (nat_abs q.num)) (whole_num q.den) ≡ fraction_of (unless_one (nat_abs q.num) none) us) q.den none (λ h. absurd (d h)) (ap (λ (x : Tree). div x (whole_num q.den)) (sym (number_alone (nat_abs q.num))))
    ∙ ap unsigned_face (sym e)

pub number_size : (t : Tree) (q : Fraction) → t ≡ num q → 16 ≤ size t
number_size t q e = omega (arith, ap size e, num_least q)

long_by : (b : Bool) (q : Fraction) → is_short q ≡ b → (q.den ≡ 1 → ⊥) → size_by_form kind.Num b ≡ 40
long_by true q e d = absurd (d (short_whole q e))
long_by false q e d = refl

pub parted_size : (t : Tree) (q : Fraction) → t ≡ num q → (q.den ≡ 1 → ⊥) → size t ≡ 40
parted_size t q e d = ap size e ∙ long_by (is_short q) q refl d

-- ---- products

pub multiplied_is : (n : ℕ) (us : Trees) → 1 < n → n ≤ count us → mult (first n us) ≡ product_of (first n us)
multiplied_is (suc (suc n)) (more t (more u us)) o h = refl
multiplied_is n us o h = absurd (omega arith)

-- ---- how many children

pub one_child : (t : Tree) → root_kind t ≡ kind.Root → 0 < count (children_of t)
one_child t k = grind arith

pub two_children : (t : Tree) → root_kind t ≡ kind.Pow → (0 < count (children_of t)) × (1 < count (children_of t))
two_children t k = grind arith

-- ---- bytes of sums and products

number_room : (c : Bool) (t : Tree) → part_room (if c then None else Some (Numerator 0)) t ≤ 40
number_room c t = grind arith

whole_room : (c : Bool) (t : Tree) → part_room (if c then None else Some (Denominator 0)) t ≤ 40
whole_room c t = grind arith

number_bound : (b : Bool) (q : Fraction) → is_short q ≡ b → part_room (part_above 0 (num q)) (num q) + part_room (part_below 0 (num q)) (num q) + 12 ≤ 4 * size_by_form kind.Num b
number_bound true q e = omega (arith, number_room (nat_abs q.num == 1) (num q), ap (λ (d : ℕ). part_room (if d == 1 then None else Some (Denominator 0)) (num q)) (short_whole q e))
number_bound false q e = omega (arith, number_room (nat_abs q.num == 1) (num q), whole_room (q.den == 1) (num q))

side_bound : (b : Bool) (t : Tree) → part_room (if b then None else Some (Part Unsigned 0)) t + part_room (if b then Some (Part Divisor 0) else None) t + 12 ≤ 4 * size t
side_bound true t = omega (arith, least_size t)
side_bound false t = omega (arith, least_size t)

factor_bound : (t : Tree) → IsFactor t → part_room (part_above 0 t) t + part_room (part_below 0 t) t + 12 ≤ 4 * size t
factor_bound (num q) h = number_bound (is_short q) q refl
factor_bound t h = side_bound (stands_below t) t

sides_bound : (ts : Trees) → AreFactors ts → share_room Above ts + share_room Below ts + 12 * count ts ≤ 4 * sizes ts
sides_bound none h = omega arith
sides_bound (more t ts) h = omega (arith, factor_bound t h.0, sides_bound ts h.1)

terms_bound : (ts : Trees) → share_room Terms ts + 12 * count ts ≤ 4 * sizes ts
terms_bound none = omega arith
terms_bound (more t ts) = omega (arith, least_size t, terms_bound ts)

-- a product, its factors, and the bytes of both sides
pub record IsProduct (t : Tree) (ts : Trees) : Type 0 where
  pub factors : AreFactors ts
  pub some : 2 ≤ count ts
  pub bytes : share_room Above ts + share_room Below ts + 32 < form_room Unsigned t
  pub slots : 16 * count ts + 24 ≤ form_room Unsigned t
  pub few_above : count (factors_above ts) ≤ count ts
  pub few_below : count (factors_below ts) ≤ count ts
  pub whole : factors_below ts ≡ none → product_of (factors_above ts) ≡ unsigned_face t
  pub parted : 0 < count (factors_below ts) → div (product_of (factors_above ts)) (product_of (factors_below ts)) ≡ unsigned_face t

count-unless_one : (n : ℕ) (ts : Trees) → count (unless_one n ts) ≤ count ts + 1
count-unless_one n ts = unless_one_by (λ us. count us ≤ count ts + 1) n ts (omega arith) (omega arith)

one_above : (t : Tree) (ts : Trees) → IsFactor t → count (factor_above t ts) ≤ count ts + 1
one_above t ts h = grind (arith, count-unless_one)

one_below : (t : Tree) (ts : Trees) → IsFactor t → count (factor_below t ts) ≤ count ts + 1
one_below t ts h = grind (arith, count-unless_one)

few_above : (ts : Trees) → AreFactors ts → count (factors_above ts) ≤ count ts
few_above none h = omega arith
few_above (more t ts) h = omega (arith, one_above t (factors_above ts) h.0, few_above ts h.1)

few_below : (ts : Trees) → AreFactors ts → count (factors_below ts) ≤ count ts
few_below none h = omega arith
few_below (more t ts) h = omega (arith, one_below t (factors_below ts) h.0, few_below ts h.1)

-- the first trees by their number
pub product_first : (n : ℕ) (ts us : Trees) → n ≡ count ts → more (product_of (first n (append ts us))) (behind n (append ts us)) ≡ more (product_of ts) us
product_first n ts us e = rw (e, first-append ts us, behind-append ts us) refl

fraction_parted : (above below : Trees) → 0 < count below → div (product_of above) (product_of below) ≡ fraction_of above below
fraction_parted above none h = absurd (omega arith)
fraction_parted above (more t ts) h = refl

product_of_factors : (ts : Trees) → HasTwo ts × AreFactors ts → IsProduct (mult ts) ts
product_of_factors ts h =
    let n = two_or_more ts h.0 in
    record {
      factors = h.1;
      some = n;
      bytes = omega (arith, sides_bound ts h.1, n);
      slots = omega (arith, eight_each ts, n);
      few_above = few_above ts h.1;
      few_below = few_below ts h.1;
      whole = λ e. ap (fraction_of (factors_above ts)) (sym e);
      parted = fraction_parted (factors_above ts) (factors_below ts);
    }

product_parts : (t : Tree) → root_kind t ≡ kind.Mult → t ≡ mult (children_of t)
product_parts t h = grind arith

pub product : (t : Tree) → root_kind t ≡ kind.Mult → AllParts IsShowable t → IsProduct t (children_of t)
product t k h =
    let e = product_parts t k in
    subst (λ (x : Tree). IsProduct x (children_of t)) (sym e) (product_of_factors (children_of t) (subst IsShowable e (own_part t h)))

-- a sum and its terms
pub record IsSum (t : Tree) (ts : Trees) : Type 0 where
  pub some : 2 ≤ count ts
  pub bytes : share_room Terms (behind 1 ts) + form_room Face (nth 0 ts) + 8 * count (behind 1 ts) < form_room Unsigned t
  pub slots : 16 * count ts ≤ form_room Unsigned t
  pub face-is : face_of_sum ts ≡ unsigned_face t

sum_of_terms : (ts : Trees) → HasTwo ts → IsSum (add ts) ts
sum_of_terms none h = absurd h
sum_of_terms (more t ts) h =
    record { some = two_or_more (more t ts) h; bytes = omega (arith, terms_bound ts, least_size t); slots = omega (arith, eight_each (more t ts)); face-is = refl }

sum_parts : (t : Tree) → root_kind t ≡ kind.Add → t ≡ add (children_of t)
sum_parts t h = grind arith

pub sum : (t : Tree) → root_kind t ≡ kind.Add → AllParts IsShowable t → IsSum t (children_of t)
sum t k h =
    let e = sum_parts t k in
    subst (λ (x : Tree). IsSum x (children_of t)) (sym e) (sum_of_terms (children_of t) (subst IsShowable e (own_part t h)))

-- ---- names

pub symbol_face : (t : Tree) → is_symbol t ≡ true → t ≡ unsigned_face t
symbol_face t h = grind arith

pub symbol_size : (t : Tree) → is_symbol t ≡ true → size t ≡ 16
symbol_size t h = grind arith

-- ---- signs

pub signed_face : (t : Tree) (b : Bool) → b ≡ has_minus t → with_minus b (unsigned_face t) ≡ face t
signed_face t b e = ap (λ (c : Bool). with_minus c (unsigned_face t)) e
