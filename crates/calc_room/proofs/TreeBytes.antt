-- How many bytes a reduced tree has at most.
use Rattle.calc_room.proofs.Shared.{◌≡◌, ℕ, ◌+◌, ◌*◌, ◌^◌, ◌≤◌, ◌<◌, ◌⊎◌, inl, inr, max, List, length, Bool, true, false, ◌==◌, refl, sym, ap, ◌∙◌, subst, arith, ⊤, if◌then◌else◌, pow_pos, mul-le}
use Rattle.calc_room.proofs.Shared.{eqb-true, Fraction, Tree, num, symbol, undef, add, mult, power, root, neg, sub, div, Trees, none, more, size, sizes, is_num, is_mult, AllParts, AllPartsOf}
use Rattle.calc_room.proofs.Shared.{IsNumber, IsTerm, AreTerms, Rises, is_number, is_term, is_radicand, terms_of, HasForm, IsProductForm, IsPowerForm, IsWholePowerForm, NoneIs, number_terms}
use Rattle.calc_room.proofs.Shared.{other_terms, split_product, split, num_one, IsFrontForm, is_whole_num, is_transparent_power, IsReduced, number_test, term_words, number_words, counted}
use Rattle.calc_room.proofs.{Shared.{counted_among, SpansTree, SpansTrees}, NumberSpans.{value_spanned, terms_spanned}, NumberBytes.{number_bytes, sum_bytes}}

-- ---- what counts

pub term_is_number : (t : Tree) → is_term t ≡ true → is_number t ≡ true
unfolding is_number
term_is_number t h = grind arith

pub term_counts : (t : Tree) → IsTerm t → is_number t ≡ true
unfolding is_number
term_counts t h = grind (arith, number_test)

-- a Number counts nothing among children, and another tree what it counts
pub counted_number : (t : Tree) (ts : Trees) → is_number t ≡ true → counted_among (more t ts) ≡ counted_among ts
counted_number t ts e = ap (λ b. (if b then 0 else counted t) + counted_among ts) e ∙ omega arith

pub counted_other : (t : Tree) (ts : Trees) → is_number t ≡ false → counted_among (more t ts) ≡ counted t + counted_among ts
counted_other t ts e = ap (λ b. (if b then 0 else counted t) + counted_among ts) e

pub none_counted : (ts : Trees) → AreTerms ts → counted_among ts ≡ 0
none_counted none h = refl
none_counted (more t ts) (h, hs) = counted_number t ts (term_counts t h) ∙ none_counted ts hs

-- a Number counts once
pub number_counts : (t : Tree) → IsNumber t → counted t ≡ 1
unfolding is_number
number_counts t h = grind (arith, none_counted, counted_number, number_test)

-- ---- the three bounds

-- a reduced tree; a factor of a product, with room for the product and its coefficient; and a base of a whole power, with room
-- for the power and its exponent, too
record Bounded (m : ℕ) (t : Tree) : Type 0 where
  tree : size t ≤ 204 * counted t * m
  factor : is_mult t ≡ false → size t + 96 * m ≤ 204 * counted t * m + 40
  base : is_mult t ≡ false → is_transparent_power t ≡ false → size t + 96 * m + 8 ≤ 204 * counted t * m

abbrev AllBounded : ℕ → Trees → Type 0
AllBounded m none = ⊤
AllBounded m (more t ts) = Bounded m t × AllBounded m ts

from_base : (m : ℕ) (t : Tree) → size t + 96 * m + 8 ≤ 204 * counted t * m → Bounded m t
from_base m t h = record { tree = omega arith; factor = λ e. omega arith; base = λ e f. h }

grown : (x y m : ℕ) → x ≤ y → 204 * x * m ≤ 204 * y * m
grown x y m h = mul-le (204 * x) m (204 * y) m (omega arith) (omega arith)

-- ---- lists of terms and of factors

-- trees that are no Numbers
others_bytes : (m : ℕ) (ts : Trees) → NoneIs is_number ts → AllBounded m ts → sizes ts ≤ 204 * counted_among ts * m
others_bytes m none n b = omega arith
others_bytes m (more t ts) (n, ns) (b, bs) =
    let x : sizes ts ≤ 204 * counted_among ts * m = others_bytes m ts ns bs in
    let y : size t ≤ 204 * counted t * m = b.tree in
    let z : counted_among (more t ts) ≡ counted t + counted_among ts = counted_other t ts n in
    rw z (joined (size t) (sizes ts) (counted t) (counted_among ts) m y x)
  where
    joined : (s u a c m : ℕ) → s ≤ 204 * a * m → u ≤ 204 * c * m → s + u ≤ 204 * (a + c) * m
    joined s u a c m h k = omega arith

-- ns are the terms of ts that make its Number
record SumParts (gs : List ℕ) (m : ℕ) (ts ns : Trees) : Type 0 where
  are : AreTerms ns
  spans : SpansTrees gs ns
  bytes : sizes ts ≤ sizes ns + 204 * counted_among ts * m

sum_parts : (gs : List ℕ) (m : ℕ) (ts : Trees) → NoneIs is_number (other_terms ts) → SpansTrees gs ts → AllBounded m ts → SumParts gs m ts (number_terms ts)
sum_parts gs m none n s b = record { are = tt; spans = tt; bytes = omega arith }
sum_parts gs m (more t ts) n (s, ss) (b, bs) = by (λ n. sum_parts gs m ts n ss bs) (is_term t) refl n
  where
    by : (NoneIs is_number (other_terms ts) → SumParts gs m ts (number_terms ts)) → (k : Bool) → is_term t ≡ k → NoneIs is_number (if k then other_terms ts else more t ts)
        → SumParts gs m (more t ts) (if k then more t (number_terms ts) else none)
    by go true e n =
        let p : SumParts gs m ts (number_terms ts) = go n in
        let z : counted_among (more t ts) ≡ counted_among ts = counted_number t ts (term_is_number t e) in
        let l : sizes ts ≤ sizes (number_terms ts) + 204 * counted_among ts * m = p.bytes in
        record { are = (term_words t e, p.are); spans = (s, p.spans); bytes = rw z (omega arith) }
    by go false e n = let l : sizes (more t ts) ≤ 204 * counted_among (more t ts) * m = others_bytes m (more t ts) n (b, bs) in record { are = tt; spans = tt; bytes = omega arith }

-- fs are the factors of ts that are no Numbers
record ProductParts (m : ℕ) (ts fs : Trees) : Type 0 where
  bytes : sizes ts + 48 ≤ 96 * m + sizes fs
  counts : counted_among ts ≡ counted_among fs
  no_product : NoneIs is_mult fs
  bounded : AllBounded m fs

no_coefficient : (m : ℕ) (ts : Trees) → 0 < m → NoneIs is_mult ts → AllBounded m ts → ProductParts m ts ts
no_coefficient m ts h n b = record { bytes = omega arith; counts = refl; no_product = n; bounded = b }

one_coefficient : (m : ℕ) (t : Tree) (ts : Trees) → is_number t ≡ true → size t + 48 ≤ 96 * m → NoneIs is_mult ts → AllBounded m ts → ProductParts m (more t ts) ts
one_coefficient m t ts e l n b = record { bytes = omega arith; counts = counted_number t ts e; no_product = n; bounded = b }

module _ (gs : List ℕ) (m : ℕ) (hm : 0 < m)
    (nb : (t : Tree) → IsNumber t → SpansTree gs t → size t + 48 ≤ 96 * m)
    (sb : (ts : Trees) → AreTerms ts → Rises (terms_of ts) → SpansTrees gs ts → sizes ts + 56 ≤ 96 * m) where
  spliced : (q r : Fraction) (ts : Trees) → IsFrontForm (more (num q) ts) → is_radicand r ≡ true → SpansTrees gs (more (num q) (more (root (num r)) none)) → NoneIs is_mult ts → AllBounded m ts
      → ProductParts m (more (num q) (more (root (num r)) ts)) ts
  unfolding is_number
  spliced q r ts f e s n b =
      let k : IsTerm (root (num r)) = term_words (root (num r)) e in
      let l : size (mult (more (num q) (more (root (num r)) none))) + 48 ≤ 96 * m = nb (mult (more (num q) (more (root (num r)) none))) (f.0, f.1, k) (tt, s) in
      record { bytes = omega arith; counts = counted_number (num q) (more (root (num r)) ts) refl ∙ counted_number (root (num r)) ts (number_test (root (num r)) k); no_product = n; bounded = b }

  product_parts : (ts : Trees) → IsFrontForm ts → SpansTrees gs ts → NoneIs is_mult ts → AllBounded m ts → ProductParts m ts (split_product ts).factors
  unfolding is_number
  product_parts (more (num q) (more (root (num r)) ts)) f (s, (u, ss)) (n, (o, ns)) (b, (c, bs)) = by (is_radicand r) refl
    where
      by : (k : Bool) → is_radicand r ≡ k → ProductParts m (more (num q) (more (root (num r)) ts)) (if k then split (mult (more (num q) (more (root (num r)) none))) ts else split (num q) (more (root (num r)) ts)).factors
      by true e = spliced q r ts f e (s, (u, tt)) ns bs
      by false e = one_coefficient m (num q) (more (root (num r)) ts) refl (nb (num q) tt s) (o, ns) (c, bs)
  product_parts (more (num q) ts) f (s, ss) (n, ns) (b, bs) = one_coefficient m (num q) ts refl (nb (num q) tt s) ns bs
  product_parts (more (root (num r)) ts) f (s, ss) (n, ns) (b, bs) = by (is_radicand r) refl
    where
      by : (k : Bool) → is_radicand r ≡ k → ProductParts m (more (root (num r)) ts) (if k then split (root (num r)) ts else split num_one (more (root (num r)) ts)).factors
      by true e = let k : IsTerm (root (num r)) = term_words (root (num r)) e in one_coefficient m (root (num r)) ts (number_test (root (num r)) k) (nb (root (num r)) k s) ns bs
      by false e = no_coefficient m (more (root (num r)) ts) hm (n, ns) (b, bs)
  product_parts (more (add us) ts) f (s, ss) (n, ns) (b, bs) = by (is_number (add us)) refl
    where
      by : (k : Bool) → is_number (add us) ≡ k → ProductParts m (more (add us) ts) (if k then split (add us) ts else split num_one (more (add us) ts)).factors
      by true e = one_coefficient m (add us) ts e (nb (add us) (number_words (add us) e) s) ns bs
      by false e = no_coefficient m (more (add us) ts) hm (n, ns) (b, bs)
  product_parts ts f s n b = no_coefficient m ts hm n b

  product_bytes : (ts fs : Trees) → ProductParts m ts fs → NoneIs is_number fs → size (mult ts) ≤ 204 * counted (mult ts) * m
  product_bytes ts none p n =
      let a : sizes ts + 48 ≤ 96 * m + 0 = p.bytes in
      let c : 204 * 1 * m ≤ 204 * max 1 (counted_among ts) * m = grown 1 (max 1 (counted_among ts)) m (omega arith) in
      omega arith
  product_bytes ts (more f fs) p (n, ns) =
      let a : sizes ts + 48 ≤ 96 * m + (size f + sizes fs) = p.bytes in
      let l : size f + 96 * m ≤ 204 * counted f * m + 40 = (p.bounded.0).factor p.no_product.0 in
      let r : sizes fs ≤ 204 * counted_among fs * m = others_bytes m fs ns p.bounded.1 in
      let e : counted_among ts ≡ counted f + counted_among fs = p.counts ∙ counted_other f fs n in
      let c : 204 * (counted f + counted_among fs) * m ≤ 204 * max 1 (counted_among ts) * m = grown (counted f + counted_among fs) (max 1 (counted_among ts)) m (omega arith) in
      omega arith

  sum_base : (ts ns : Trees) → SumParts gs m ts ns → Rises (terms_of ns) → Bounded m (add ts)
  sum_base ts ns p r = grind arith

  number_base : (t : Tree) → IsNumber t → SpansTree gs t → Bounded m t
  number_base t h s = grind arith

  -- a power with another exponent than a whole number
  other_power : (b e : Tree) → is_whole_num e ≡ false → Bounded m b → Bounded m e → Bounded m (power b e)
  other_power b e h x y = grind arith

  whole_exponent : (b : Tree) (q : Fraction) → (q.den == 1) ≡ true → IsWholePowerForm b q → Bounded m b → Bounded m (power b (num q))
  unfolding is_number
  whole_exponent b q h f x = grind arith

  power_base : (b e : Tree) → IsPowerForm b e → Bounded m b → Bounded m e → Bounded m (power b e)
  power_base b (num q) f x y = by (q.den == 1) refl
    where
      by : (z : Bool) → (q.den == 1) ≡ z → Bounded m (power b (num q))
      by true h = whole_exponent b q h (f.1 (eqb-true q.den 1 h)) x
      by false h = other_power b (num q) h x y
  power_base b e f x y = other_power b e refl x y

  root_base : (a : Tree) → is_num a ≡ false → Bounded m a → Bounded m (root a)
  root_base a h x = grind arith

  product_base : (ts : Trees) → IsProductForm ts → SpansTrees gs ts → AllBounded m ts → Bounded m (mult ts)
  product_base ts f s b = grind (arith, product_bytes, product_parts)

  no_form : ⊥ ⊎ ⊥ → ⊥
  no_form h = grind arith

  add_by : (ts : Trees) → HasForm (add ts) → SpansTree gs (add ts) → AllBounded m ts → Bounded m (add ts)
  add_by ts (inl h) s b = number_base (add ts) h s
  add_by ts (inr f) s b = sum_base ts (number_terms ts) (sum_parts gs m ts f.no_number s.1 b) f.number

  mult_by : (ts : Trees) → HasForm (mult ts) → SpansTree gs (mult ts) → AllBounded m ts → Bounded m (mult ts)
  mult_by ts (inl h) s b = number_base (mult ts) h s
  mult_by ts (inr f) s b = product_base ts f s.1 b

  power_by : (b e : Tree) → HasForm (power b e) → Bounded m b → Bounded m e → Bounded m (power b e)
  power_by b e h x y = grind (arith, power_base)

  root_by : (a : Tree) → HasForm (root a) → SpansTree gs (root a) → Bounded m a → Bounded m (root a)
  root_by a h s x = grind (arith, number_base, root_base)

  mutual
    bounded : (t : Tree) → AllParts HasForm t → SpansTree gs t → Bounded m t
    bounded (num q) h s = number_base (num q) tt s
    bounded (symbol x) h s = from_base m (symbol x) (omega arith)
    bounded undef h s = from_base m undef (omega arith)
    bounded (add ts) (h, hs) (s, ss) = add_by ts h (s, ss) (all_bounded ts hs ss)
    bounded (mult ts) (h, hs) (s, ss) = mult_by ts h (s, ss) (all_bounded ts hs ss)
    bounded (power b e) (h, hb, he) (s, sb', se) = power_by b e h (bounded b hb sb') (bounded e he se)
    bounded (root a) (h, ha) (s, sa) = root_by a h (s, sa) (bounded a ha sa)
    bounded (neg a) (h, ha) s = absurd (no_form h)
    bounded (sub a b) (h, ha, hb) s = absurd (no_form h)
    bounded (div a b) (h, ha, hb) s = absurd (no_form h)

    all_bounded : (ts : Trees) → AllPartsOf HasForm ts → SpansTrees gs ts → AllBounded m ts
    all_bounded none h s = tt
    all_bounded (more t ts) (h, hs) (s, ss) = (bounded t h s, all_bounded ts hs ss)

-- a reduced tree that gs spans
tree_bounded : (gs : List ℕ) (t : Tree) → IsReduced t → SpansTree gs t → Bounded (2 ^ length gs) t
tree_bounded gs t h s = by h
  where
    m : ℕ
    m = 2 ^ length gs

    undefined : Bounded m undef
    undefined = let p : 0 < m = pow_pos (length gs) in from_base m undef (omega arith)

    by : IsReduced t → Bounded m t
    by (inl e) = subst (Bounded m) (sym e) undefined
    by (inr f) = bounded gs m (pow_pos (length gs))
        (λ t h s. number_bytes gs t h (value_spanned gs t h s))
        (λ ts h r s. sum_bytes gs ts h r (terms_spanned gs ts h s)) t f s

pub tree_bytes : (gs : List ℕ) (t : Tree) → IsReduced t → SpansTree gs t → size t ≤ 204 * counted t * 2 ^ length gs
tree_bytes gs t h s = (tree_bounded gs t h s).tree

pub factor_bytes : (gs : List ℕ) (t : Tree) → IsReduced t → SpansTree gs t → is_mult t ≡ false → size t + 96 * 2 ^ length gs ≤ 204 * counted t * 2 ^ length gs + 40
factor_bytes gs t h s = (tree_bounded gs t h s).factor

pub base_bytes : (gs : List ℕ) (t : Tree) → IsReduced t → SpansTree gs t → is_mult t ≡ false → is_transparent_power t ≡ false → size t + 96 * 2 ^ length gs + 8 ≤ 204 * counted t * 2 ^ length gs
base_bytes gs t h s = (tree_bounded gs t h s).base
