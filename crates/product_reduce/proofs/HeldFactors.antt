-- What holds factors one by one holds them opened, their Numbers apart from the others, and these in any order.
use Rattle.product_reduce.proofs.Shared.{◌≡◌, ◌≢◌, ℕ, ◌+◌, ◌-◌, ◌≤◌, ◌⊎◌, List, inl, inr, [], ◌∷◌, Bool, true, false, if◌then◌else◌, refl, sym, ap, ◌∙◌, subst, arith, Fraction, zero_fraction}
use Rattle.product_reduce.proofs.Shared.{one_fraction, zero_test, Tree, num, add, mult, root, Trees, none, more, append, is_mult, is_number, value, IsNumber, NoneIs, HasForm, IsProductForm, Split}
use Rattle.product_reduce.proofs.Shared.{split, split_product, num_one, is_num_one, Term, Surd, term, surd_of, surd_one, Permuted, permuted_none, permuted_more, permuted_swap, permuted_trans}
use Rattle.product_reduce.proofs.Shared.{one_not_zero, number_words, number_test, has_coefficient, no_split, Leads, in_front, IsHeld, IsSumHeld, as_factor, counts_of, Addend, addend, addend_of}
use Rattle.product_reduce.proofs.Shared.{exponent_in, power_high, power_low, AreWeighted, none_weighted, more_weighted, IsPartHeld, no_factor_held, Weighted, weighted, AreHeld, wider, parts_multiply}
use Rattle.product_reduce.proofs.Shared.{one_weighted, split_off, IsFactorHeld, AreFactorsHeld, none_held, factor_held, term_held, factors_of, opened, numbers_in, others_in, coefficient_before}
use Rattle.product_reduce.proofs.{Shared.{AllParts, AllPartsOf, behind_none, swapped}, HeldNumbers.{value_held, number_as_factor}}
use Rattle.tree_bits.specs.HeldTrees as held

-- ---- more bits, and lists behind one another

pub factors_wider : {ts : Trees} {h l k n : ℕ} → h ≤ k → l ≤ n → AreFactorsHeld ts h l → AreFactorsHeld ts k n
factors_wider x y none_held = none_held
factors_wider x y (factor_held p q i j f s a b) = factor_held p q i j f s (omega arith) (omega arith)
factors_wider x y (term_held p q i j f s a b) = term_held p q i j f s (omega arith) (omega arith)

pub factors_append : (ts us : Trees) {h l k n : ℕ} → AreFactorsHeld ts h l → AreFactorsHeld us k n → AreFactorsHeld (append ts us) (h + k) (l + n)
factors_append none us {k = k} {n = n} none_held b = factors_wider (omega arith) (omega arith) b
factors_append (more t ts) us {k = k} {n = n} (factor_held p q i j f s x y) b = factor_held p q (i + k) (j + n) f (factors_append ts us s b) (omega arith) (omega arith)
factors_append (more t (more u ts)) us {k = k} {n = n} (term_held p q i j f s x y) b = term_held p q (i + k) (j + n) f (factors_append ts us s b) (omega arith) (omega arith)

-- ---- one factor that is neither a Number nor a product

as_single : (t : Tree) → is_number t ≡ false → is_mult t ≡ false → as_factor t ≡ addend surd_one (more t none)
as_single t n m = grind arith

pub single_part : (t : Tree) {p q : ℕ} → is_number t ≡ false → is_mult t ≡ false → IsFactorHeld t p q → IsPartHeld (more t none) p q
single_part t {p = p} {q = q} n m a = let b : IsSumHeld (addend surd_one (more t none) ∷ []) p q = subst (λ (x : Addend). IsSumHeld (x ∷ []) p q) (as_single t n m) a in by b.weighted b.held
  where
    by : {ws : List Weighted} → AreWeighted (addend surd_one (more t none) ∷ []) ws → AreHeld ws p q → IsPartHeld (more t none) p q
    by (more_weighted i j f none_weighted) k = let s = split_off (term one_fraction 1) [] p q i j k in wider s.0 s.1 f

pub part_single : (t : Tree) {p q : ℕ} → is_number t ≡ false → is_mult t ≡ false → IsPartHeld (more t none) p q → IsFactorHeld t p q
part_single t {p = p} {q = q} n m f =
    subst (λ (x : Addend). IsSumHeld (x ∷ []) p q) (sym (as_single t n m)) (record { terms = weighted surd_one p q ∷ []; weighted = more_weighted p q f none_weighted; held = one_weighted p q })

pub part_factors : (ts : Trees) {h l : ℕ} → NoneIs is_number ts → NoneIs is_mult ts → IsPartHeld ts h l → AreFactorsHeld ts h l
part_factors none n m a = none_held
part_factors (more t ts) n m (held.factor_held p q k i c b r x y) =
    let high : ℕ = power_high (counts_of (exponent_in t)) p q in
    let low : ℕ = power_low (counts_of (exponent_in t)) p q in
    factor_held high low k i (part_single t n.0 m.0 (held.factor_held p q 0 0 c b no_factor_held (omega arith) (omega arith))) (part_factors ts n.1 m.1 r) x y

-- ---- the factors of a product

pub no_terms : (t : Term) (v : Surd) → (t ∷ v) ≢ []
no_terms t v e = cc

-- a coefficient other than 0, and the factors behind it
record IsHeldSplit (s : Split) (h l : ℕ) : Type 0 where
  p : ℕ
  q : ℕ
  k : ℕ
  n : ℕ
  coefficient : IsHeld (value s.coefficient) p q
  factors : IsPartHeld s.factors k n
  high : p + k ≤ h
  low : q + n ≤ l

split_held : (s : Split) (h l : ℕ) → value s.coefficient ≢ [] → IsSumHeld (addend (value s.coefficient) s.factors ∷ []) h l → IsHeldSplit s h l
split_held s h l z a = by (value s.coefficient) refl a.weighted a.held
  where
    by : (v : Surd) → value s.coefficient ≡ v → {ws : List Weighted} → AreWeighted (addend (value s.coefficient) s.factors ∷ []) ws → AreHeld ws h l → IsHeldSplit s h l
    by [] e w k = absurd (z e)
    by (t ∷ v) e (more_weighted i j f none_weighted) k =
        let r = split_off t v h l i j (subst (λ (x : Surd). AreHeld (weighted x i j ∷ []) h l) e k) in
        record { p = h - i; q = l - j; k = i; n = j; coefficient = subst (λ (x : Surd). IsHeld x (h - i) (l - j)) (sym e) r.2; factors = f; high = omega (arith, r.0); low = omega (arith, r.1) }

pub rational_some : (c : Fraction) → c ≢ zero_fraction → value (num c) ≢ []
rational_some c n e = no_terms (term c 1) [] (sym (ap (λ (b : Bool). if b then [] else surd_of c) (zero_test c n)) ∙ e)

pub number_some : (c : Tree) → IsNumber c → c ≢ num zero_fraction → value c ≢ []
number_some c n z = grind (arith, rational_some)

-- where a coefficient is spliced, it is one factor or two
number_factors : (c : Tree) {p q : ℕ} → IsNumber c → IsHeld (value c) p q → AreFactorsHeld (factors_of c) p q
number_factors (mult (more (num c) (more (root (num r)) none))) {p = p} {q = q} n a = term_held {c = c} {r = r} p q 0 0 a none_held (omega arith) (omega arith)
number_factors (num c) {p = p} {q = q} n a = factor_held p q 0 0 (number_as_factor (num c) p q (number_test (num c) n) a) none_held (omega arith) (omega arith)
number_factors (add ts) {p = p} {q = q} n a = factor_held p q 0 0 (number_as_factor (add ts) p q (number_test (add ts) n) a) none_held (omega arith) (omega arith)
number_factors (root b) {p = p} {q = q} n a = factor_held p q 0 0 (number_as_factor (root b) p q (number_test (root b) n) a) none_held (omega arith) (omega arith)
number_factors c n a = absurd n

split_factors : (s : Split) {h l : ℕ} → IsNumber s.coefficient → NoneIs is_number s.factors → NoneIs is_mult s.factors → IsHeldSplit s h l
    → AreFactorsHeld (append (factors_of s.coefficient) s.factors) h l
split_factors s c n m a = factors_wider a.high a.low (factors_append (factors_of s.coefficient) s.factors (number_factors s.coefficient c a.coefficient) (part_factors s.factors n m a.factors))

one_some : value num_one ≢ []
one_some = rational_some one_fraction one_not_zero

product_factors : (us : Trees) {h l : ℕ} → IsProductForm us → IsSumHeld (addend (value (split_product us).coefficient) (split_product us).factors ∷ []) h l → AreFactorsHeld us h l
product_factors us {h = h} {l = l} f a = by (in_front us f.no_product f.front)
  where
    by : (has_coefficient us ≡ false) ⊎ Leads us → AreFactorsHeld us h l
    by (inl k) =
        let e : split_product us ≡ split num_one us = no_split us k in
        let b = split_held (split num_one us) h l one_some (subst (λ (s : Split). IsSumHeld (addend (value s.coefficient) s.factors ∷ []) h l) e a) in
        factors_wider (omega (arith, b.high)) (omega (arith, b.low)) (part_factors us (subst (λ (s : Split). NoneIs is_number s.factors) e f.no_number) f.no_product b.factors)
    by (inr x) =
        let b = split_held (split x.c x.factors) h l (number_some x.c x.coefficient.number x.coefficient.not_zero) (subst (λ (s : Split). IsSumHeld (addend (value s.coefficient) s.factors ∷ []) h l) x.is a) in
        subst (λ (ts : Trees). AreFactorsHeld ts h l) (sym x.whole)
        (split_factors (split x.c x.factors) x.coefficient.number (subst (λ (s : Split). NoneIs is_number s.factors) x.is f.no_number)
        (behind_none is_mult (factors_of x.c) x.factors (subst (NoneIs is_mult) x.whole f.no_product)) b)

mult_held : (us : Trees) {p q : ℕ} → HasForm (mult us) → IsFactorHeld (mult us) p q → AreFactorsHeld us p q
mult_held us {p = p} {q = q} f a = by (is_number (mult us)) refl f
  where
    by : (b : Bool) → is_number (mult us) ≡ b → HasForm (mult us) → AreFactorsHeld us p q
    by true e k = number_factors (mult us) (number_words (mult us) e) (value_held (mult us) p q e a)
    by false e (inl n) = absurd (let x : true ≡ false = sym (number_test (mult us) n) ∙ e in cc)
    by false e (inr k) = product_factors us k (subst (λ (x : Addend). IsSumHeld (x ∷ []) p q) (ap (λ (b : Bool). if b then addend (value (mult us)) none else addend_of (mult us)) e) a)

pub factors_held : (t : Tree) {p q : ℕ} → AllParts HasForm t → IsFactorHeld t p q → AreFactorsHeld (factors_of t) p q
factors_held (mult us) f a = mult_held us f.0 a
factors_held t {p = p} {q = q} f a = factor_held p q 0 0 a none_held (omega arith) (omega arith)

pub opened_held : (ts : Trees) {h l : ℕ} → AllPartsOf HasForm ts → AreFactorsHeld ts h l → AreFactorsHeld (opened ts) h l
opened_held none f none_held = none_held
opened_held (more t ts) f (factor_held p q k n a s x y) = factors_wider x y (factors_append (factors_of t) (opened ts) (factors_held t f.0 a) (opened_held ts f.1 s))
opened_held (more (num c) (more (root (num r)) ts)) f (term_held p q k n a s x y) = term_held p q k n a (opened_held ts (f.1).1 s) x y

-- ---- Numbers apart from the others

pub record AreHeldApart (ts : Trees) (h l : ℕ) : Type 0 where
  pub p : ℕ
  pub q : ℕ
  pub k : ℕ
  pub n : ℕ
  pub numbers : AreFactorsHeld (numbers_in ts) p q
  pub others : IsPartHeld (others_in ts) k n
  pub high : p + k ≤ h
  pub low : q + n ≤ l

pub root_number : (r : Fraction) → AllParts HasForm (root (num r)) → is_number (root (num r)) ≡ true
root_number r (inl n, f) = number_test (root (num r)) n
root_number r (inr k, f) = cc

one_apart : (t : Tree) (ts : Trees) {p q k n h l : ℕ} → is_mult t ≡ false → IsFactorHeld t p q → AreHeldApart ts k n → p + k ≤ h → q + n ≤ l → AreHeldApart (more t ts) h l
one_apart t ts {p = p} {q = q} {h = h} {l = l} m a s x y = by (is_number t) refl
  where
    by : (b : Bool) → is_number t ≡ b → AreHeldApart (more t ts) h l
    by true e = record {
      p = p + s.p;
      q = q + s.q;
      k = s.k;
      n = s.n;
      numbers = subst (λ (us : Trees). AreFactorsHeld us (p + s.p) (q + s.q)) (sym (ap (λ (b : Bool). if b then more t (numbers_in ts) else numbers_in ts) e))
          (factor_held p q s.p s.q a s.numbers (omega arith) (omega arith));
      others = subst (λ (us : Trees). IsPartHeld us s.k s.n) (sym (ap (λ (b : Bool). if b then others_in ts else more t (others_in ts)) e)) s.others;
      high = omega (arith, x, s.high);
      low = omega (arith, y, s.low);
    }
    by false e = record {
      p = s.p;
      q = s.q;
      k = p + s.k;
      n = q + s.n;
      numbers = subst (λ (us : Trees). AreFactorsHeld us s.p s.q) (sym (ap (λ (b : Bool). if b then more t (numbers_in ts) else numbers_in ts) e)) s.numbers;
      others = subst (λ (us : Trees). IsPartHeld us (p + s.k) (q + s.n)) (sym (ap (λ (b : Bool). if b then others_in ts else more t (others_in ts)) e))
          (parts_multiply (single_part t e m a) s.others);
      high = omega (arith, x, s.high);
      low = omega (arith, y, s.low);
    }

pub held_apart : (ts : Trees) {h l : ℕ} → AllPartsOf HasForm ts → NoneIs is_mult ts → AreFactorsHeld ts h l → AreHeldApart ts h l
unfolding is_number
held_apart none f m none_held = record { p = 0; q = 0; k = 0; n = 0; numbers = none_held; others = no_factor_held; high = omega arith; low = omega arith }
held_apart (more t ts) f m (factor_held p q k n a s x y) = one_apart t ts m.0 a (held_apart ts f.1 m.1 s) x y
held_apart (more (num c) (more (root (num r)) ts)) f m (term_held p q k n a s x y) =
    let g = held_apart ts (f.1).1 (m.1).1 s in
    let e = root_number r (f.1).0 in
    record {
      p = p + g.p;
      q = q + g.q;
      k = g.k;
      n = g.n;
      numbers = subst (λ (us : Trees). AreFactorsHeld (more (num c) us) (p + g.p) (q + g.q)) (sym (ap (λ (b : Bool). if b then more (root (num r)) (numbers_in ts) else numbers_in ts) e))
          (term_held p q g.p g.q a g.numbers (omega arith) (omega arith));
      others = subst (λ (us : Trees). IsPartHeld us g.k g.n) (sym (ap (λ (b : Bool). if b then others_in ts else more (root (num r)) (others_in ts)) e)) g.others;
      high = omega (arith, x, g.high);
      low = omega (arith, y, g.low);
    }

-- ---- in any order

part_tail : {t : Tree} {ts us : Trees} {h l : ℕ} → ((k n : ℕ) → IsPartHeld ts k n → IsPartHeld us k n) → IsPartHeld (more t ts) h l → IsPartHeld (more t us) h l
part_tail f (held.factor_held p q k n c b r x y) = held.factor_held p q k n c b (f k n r) x y

pub part_permuted : {ts us : Trees} {h l : ℕ} → Permuted ts us → IsPartHeld ts h l → IsPartHeld us h l
part_permuted permuted_none a = a
part_permuted (permuted_more {t} k) a = part_tail (λ i j b. part_permuted k b) a
part_permuted (permuted_swap {t} {u} {ts}) a = swapped a
part_permuted (permuted_trans k m) a = part_permuted m (part_permuted k a)

-- ---- behind a coefficient

pub before_held : (c : Tree) (ts : Trees) {p q k n h l : ℕ} → is_number c ≡ true → AllParts HasForm c → NoneIs is_number ts → NoneIs is_mult ts → IsHeld (value c) p q → IsPartHeld ts k n → p + k ≤ h
    → q + n ≤ l
    → AreFactorsHeld (coefficient_before c ts) h l
before_held c ts {p = p} {q = q} {h = h} {l = l} e f n m a b x y = by (is_num_one c)
  where
    by : (z : Bool) → AreFactorsHeld (if z then ts else append (factors_of c) ts) h l
    by true = factors_wider (omega arith) (omega arith) (part_factors ts n m b)
    by false = factors_wider x y (factors_append (factors_of c) ts (factors_held c f (number_as_factor c p q e a)) (part_factors ts n m b))
