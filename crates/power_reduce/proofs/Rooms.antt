-- Bytes at hand for a step on a power, and what it needs.
use Rattle.power_reduce.proofs.Shared.{◌≡◌, ℕ, ◌+◌, ◌*◌, ◌^◌, ◌<◌, ◌≤◌, List, length, Bool, true, false, Result, refl, ap, subst, arith, IfErr, IsOk, pow_pos, is_number, is_num_one, is_reduced}
use Rattle.power_reduce.proofs.Shared.{is_whole_num, split_product, NoneIs, HasForm, number_test, reduced_words, counted, counted_among, SpansTree, SpansTrees, tree_bytes, counted_other}
use Rattle.power_reduce.proofs.Shared.{whole_fraction, Tree, num, mult, root, Trees, none, more, AllPartsOf, AllParts, is_mult, size, sizes, GivesTwo, no_split, reduced_parts, parts_reduced, in_front}
use Rattle.power_reduce.proofs.Shared.{State, free_of, Full, numerator, LacksRoom, full_as, refusal_as, is_power, base_in, exponent_in, parts_of, power_of_root, raised, IsShortOfStep, IsShortOfRoot}
use Rattle.power_reduce.proofs.Shared.{LacksStep, children_of, Forest, bytes_in, tree_of, IsHanded, Gives, without_root, Stands, forest, KeepsRefusals, NumberFault, bytes_in-join, used_forest}
use Rattle.power_reduce.proofs.Shared.{size-plain, split_counts, number_counts_one, power_need, inverse_need, num_bytes, bytes_of_coefficient, IsShort, raised_factor, raised_number, scaled}
use Rattle.power_reduce.proofs.{Powers.{power_is, one_bytes}, RaisedBytes.{handed_bytes}, Spanned.{split_spans}}
use Rattle.std.specs.Prelude.{if◌then◌else◌}

-- ---- both sides of a power stand by themselves

given_bytes : {g f : Forest} {i : ℕ} {t : Tree} → Gives g f i (λ x. x ≡ t) → bytes_in f ≡ bytes_in g + size t
given_bytes {g = g} e = omega (arith, ap bytes_in e.ends.whole, bytes_in-join g e.tree, size-plain e.tree e.ends.alone e.whole, ap size e.told)

pub sides_free : {s t : State} {i h j : ℕ} {b e : Tree} → Stands s → Stands t → KeepsRefusals s t → IsHanded i (forest s) → GivesTwo (without_root i (forest s)) (forest t) h j (λ x. x ≡ b) (λ x. x ≡ e)
    → free_of t + size b + size e ≡ free_of s + size (tree_of i s)
sides_free {s = s} {t = t} {i = i} st su k h g =
    omega (arith, used_forest s st, used_forest t su, k.size, st.pool.fits, su.pool.fits, handed_bytes i (forest s) h, given_bytes g.first-given, given_bytes g.second-given)

-- ---- refusals

pub no_refusal : {A E : Type 0} (P : E → Type 0) (r : Result A E) → IsOk r → IfErr r P
no_refusal P r h = grind arith

pub short_below : {s t : State} {n : ℕ} {full : Full} → IsShort n s t full → free_of s < n
short_below r = subst (λ (f : Full). f.free < f.needed) r.told r.lacks.lacking

pub coefficient_most : (ts : Trees) → bytes_of_coefficient ts ≤ 16
coefficient_most ts = grind (arith, one_bytes)

-- as many bytes, and a need that is no less
pub lacks_as : {A : Type 0} {a b n m : ℕ} (gs : List ℕ) (r : Result A NumberFault) → b ≡ a → n ≤ m → IfErr r (LacksRoom n a gs) → IfErr r (LacksRoom m b gs)
lacks_as {n = n} {m = m} gs r e l h = refusal_as r h (λ f k. full_as f k (λ full s. omega (arith, e, s, scaled n m (2 ^ length gs) l)))

-- an inverse needs less than a power
pub inverse_lacks_power : {a b : ℕ} (gs : List ℕ) (f : NumberFault) → b ≡ a → LacksRoom inverse_need a gs f → LacksRoom power_need b gs f
inverse_lacks_power gs f e k = full_as f k (λ full s. omega (arith, e, s))

-- a power of a Number
pub number_lacks : (gs : List ℕ) (t : Tree) (free : ℕ) (f : NumberFault) → is_number (base_in t) ≡ true → LacksRoom power_need (free + size t) gs f → LacksStep gs t free f
number_lacks gs t free f n k = full_as f k (λ full s. rw (number_counts_one (base_in t) n) (omega (arith, s)))

-- ---- the power of a root

root_size : (b e : Tree) → size (power_of_root b e) ≡ 16 + size b + size (num (whole_fraction (numerator e)))
root_size b e = omega arith

-- the root finds no bytes; its exponent finds none; and the node over both
pub no_root : (t : Tree) (free old : ℕ) → free + size (base_in t) ≡ old + size t → free < 8 → IsShortOfRoot t old
no_root t free old e l = omega (arith, e, l, root_size (base_in t) (exponent_in t))

pub no_exponent : (t r : Tree) (n over free old : ℕ) → r ≡ root (base_in t) → n ≡ size (num (whole_fraction (numerator (exponent_in t)))) → free + size (base_in t) ≡ old + size t → over + size r ≡ free + size (base_in t) → over < n → IsShortOfRoot t old
no_exponent t r n over free old i j e f l = omega (arith, ap size i, j, e, f, l, root_size (base_in t) (exponent_in t))

pub no_power : (t r : Tree) (n last over free old : ℕ) → r ≡ root (base_in t) → n ≡ size (num (whole_fraction (numerator (exponent_in t)))) → free + size (base_in t) ≡ old + size t → over + size r ≡ free + size (base_in t) → over ≡ last + n → last < 8 → IsShortOfRoot t old
no_power t r n last over free old i j e f g l = omega (arith, ap size i, j, e, f, g, l, root_size (base_in t) (exponent_in t))

-- ---- a product whose factors are raised

pub record HasFactors (ts : Trees) : Type 0 where
  pub number : is_number (split_product ts).coefficient ≡ true
  pub no_product : NoneIs is_mult (split_product ts).factors
  pub no_number : NoneIs is_number (split_product ts).factors
  pub formed : AllPartsOf HasForm (split_product ts).factors

factors_behind : (ts : Trees) → AllParts HasForm (mult ts) → is_number (mult ts) ≡ false → HasFactors ts
factors_behind ts p n = grind (arith, in_front, no_split, number_test)

pub product_factors : (ts : Trees) → is_reduced (mult ts) ≡ true → is_number (mult ts) ≡ false → HasFactors ts
product_factors ts h n = factors_behind ts (reduced_parts (mult ts) h refl) n

whole_bytes : (e : Tree) → is_whole_num e ≡ true → size e ≤ 40
whole_bytes e h = grind (arith, num_bytes)

module _ (gs : List ℕ) where
  raised_factors : (ts : Trees) (e : Tree) → is_whole_num e ≡ true → NoneIs is_mult ts → NoneIs is_number ts → AllPartsOf HasForm ts → SpansTrees gs ts → sizes (raised ts e) ≤ 204 * counted_among ts * 2 ^ length gs
  raised_factors none e w m n p s = omega arith
  raised_factors (more t ts) e w (m, ms) (n, ns) (p, ps) (s, ss) =
      rw (counted_other t ts n) (omega (arith, raised_factor gs t e (parts_reduced t p) s m w, raised_factors ts e w ms ns ps ss))

  raised_parts : (ts : Trees) (e : Tree) → is_whole_num e ≡ true → HasFactors ts → SpansTrees gs ts → size (mult (raised (parts_of ts) e)) ≤ 204 * counted (mult ts) * 2 ^ length gs + 96 * 2 ^ length gs + 8
  raised_parts ts e w h s = by (is_num_one c)
    where
      c : Tree
      c = (split_product ts).coefficient

      us : Trees
      us = (split_product ts).factors

      most : sizes (raised us e) ≤ 204 * counted (mult ts) * 2 ^ length gs
      most =
          let l : counted_among us ≤ counted (mult ts) = omega (arith, split_counts ts) in
          omega (arith, raised_factors us e w h.no_product h.no_number h.formed (split_spans gs ts s).1, scaled (counted_among us) (counted (mult ts)) (2 ^ length gs) l)

      by : (b : Bool) → size (mult (raised (if b then us else more c us) e)) ≤ 204 * counted (mult ts) * 2 ^ length gs + 96 * 2 ^ length gs + 8
      by true = omega (arith, most)
      by false = omega (arith, most, raised_number gs c e h.number (split_spans gs ts s).0 w)

  parts_short : (b e : Tree) (n : ℕ) → is_mult b ≡ true → is_reduced b ≡ true → is_number b ≡ false → is_whole_num e ≡ true → SpansTree gs b → n < size (mult (raised (parts_of (children_of b)) e)) → n < 400 * (counted b + 2) * 2 ^ length gs
  parts_short (mult ts) e n m r k w s l = omega (arith, l, raised_parts ts e w (product_factors ts r k) s.1, pow_pos (length gs))
  parts_short b e n m r k w s l = absurd cc

  -- where the coefficient finds no bytes
  pub split_short : (t : Tree) (free old : ℕ) → is_power t ≡ true → is_reduced (base_in t) ≡ true → is_whole_num (exponent_in t) ≡ true → SpansTree gs t
      → free + size (base_in t) + size (exponent_in t) ≡ old + size t → free < 16 → IsShortOfStep gs t old
  split_short t free old p r w s e l =
      let (q, h, k) = subst (SpansTree gs) (power_is t p) s in
      omega (arith, e, l, tree_bytes gs (base_in t) (reduced_words (base_in t) r) h, whole_bytes (exponent_in t) w, pow_pos (length gs))

  -- where a factor's power finds none
  pub raised_short : (t x y b : Tree) (free old : ℕ) → is_power t ≡ true → is_mult (base_in t) ≡ true → is_reduced (base_in t) ≡ true → is_number (base_in t) ≡ false → is_whole_num (exponent_in t) ≡ true → SpansTree gs t
      → x ≡ mult (parts_of (children_of b)) → b ≡ base_in t → y ≡ exponent_in t → free + size x + size y ≡ old + size t → free + size x + size y < size (mult (raised (children_of x) y)) → IsShortOfStep gs t old
  raised_short t x y b free old p m r n w s i j k e l = grind (arith, parts_short)
