-- How many bytes trees have that are handed to a sum, a product or a power.
use Rattle.tree_room.proofs.Shared.{◌≡◌, ℕ, ◌+◌, ◌*◌, ◌^◌, ◌≤◌, List, length, Bool, true, false, not, refl, arith, and_parts, not-true, pow_pos, mul-le, if◌then◌else◌, is_number, are_reduced}
use Rattle.tree_room.proofs.Shared.{is_reduced, is_whole_num, none_is, number_words, reduced_words, counted, counted_among, SpansTree, SpansTrees, number_bytes, value_spanned, tree_bytes}
use Rattle.tree_room.proofs.Shared.{factor_bytes, counted_other, Tree, add, mult, power, Trees, none, more, is_mult, size, sizes, counted_in_all, sum_count, numbers_among, product_count}

-- s bytes for n nodes that count, and as many bytes for each of k Numbers
joined : (s u a c k m : ℕ) → s ≤ 204 * a * m → u ≤ 204 * c * m + 96 * k * m → s + u ≤ 204 * (a + c) * m + 96 * k * m
joined s u a c k m h l = omega arith

joined_number : (s u c k m : ℕ) → s + 48 ≤ 96 * m → u ≤ 204 * c * m + 96 * k * m → s + u ≤ 204 * c * m + 96 * (1 + k) * m
joined_number s u c k m h l = omega arith

module _ (gs : List ℕ) where
  one_number_bytes : (t : Tree) → is_number t ≡ true → SpansTree gs t → size t + 48 ≤ 96 * 2 ^ length gs
  one_number_bytes t h s = number_bytes gs t (number_words t h) (value_spanned gs t (number_words t h) s)

  -- ---- sums

  terms_bytes : (ts : Trees) → are_reduced ts ≡ true → SpansTrees gs ts → sizes ts ≤ 204 * counted_in_all ts * 2 ^ length gs
  terms_bytes none h s = omega arith
  terms_bytes (more t ts) h (s, ss) =
      let (a, b) = and_parts (is_reduced t) (are_reduced ts) h in
      omega (arith, tree_bytes gs t (reduced_words t a) s, terms_bytes ts b ss)

  pub sum_bytes : (ts : Trees) → are_reduced ts ≡ true → SpansTrees gs ts → size (add ts) ≤ 204 * sum_count ts * 2 ^ length gs
  sum_bytes ts h s = omega (arith, terms_bytes ts h s, pow_pos (length gs))

  -- ---- products

  factors_and_numbers : (ts : Trees) → are_reduced ts ≡ true → SpansTrees gs ts → sizes ts ≤ 204 * counted_among ts * 2 ^ length gs + 96 * numbers_among ts * 2 ^ length gs
  factors_and_numbers none h s = omega arith
  factors_and_numbers (more t ts) h (s, ss) = by (is_number t) refl (factors_and_numbers ts parts.1 ss)
    where
      parts : (is_reduced t ≡ true) × (are_reduced ts ≡ true)
      parts = and_parts (is_reduced t) (are_reduced ts) h

      by : (z : Bool) → is_number t ≡ z → sizes ts ≤ 204 * counted_among ts * 2 ^ length gs + 96 * numbers_among ts * 2 ^ length gs
          → size t + sizes ts ≤ 204 * ((if z then 0 else counted t) + counted_among ts) * 2 ^ length gs + 96 * ((if z then 1 else 0) + numbers_among ts) * 2 ^ length gs
      by true e rest = omega (arith, joined_number (size t) (sizes ts) (counted_among ts) (numbers_among ts) (2 ^ length gs) (one_number_bytes t e s) rest)
      by false e rest = omega (arith, joined (size t) (sizes ts) (counted t) (counted_among ts) (numbers_among ts) (2 ^ length gs) (tree_bytes gs t (reduced_words t parts.0) s) rest)

  pub product_bytes : (ts : Trees) → are_reduced ts ≡ true → SpansTrees gs ts → size (mult ts) ≤ 204 * product_count ts * 2 ^ length gs
  product_bytes ts h s =
      let x : (2 + counted_among ts) * 2 ^ length gs ≤ product_count ts * 2 ^ length gs = mul-le (2 + counted_among ts) (2 ^ length gs) (product_count ts) (2 ^ length gs) (omega arith) (omega arith) in
      let y : (numbers_among ts + counted_among ts) * 2 ^ length gs ≤ product_count ts * 2 ^ length gs = mul-le (numbers_among ts + counted_among ts) (2 ^ length gs) (product_count ts) (2 ^ length gs) (omega arith) (omega arith) in
      omega (arith, factors_and_numbers ts h s, pow_pos (length gs), x, y)

  pub factors_bytes : (ts : Trees) → are_reduced ts ≡ true → SpansTrees gs ts → none_is is_number ts ≡ true → sizes ts ≤ 204 * counted_among ts * 2 ^ length gs
  factors_bytes none h s n = omega arith
  factors_bytes (more t ts) h (s, ss) n =
      let (a, b) = and_parts (is_reduced t) (are_reduced ts) h in
      let (c, d) = and_parts (not (is_number t)) (none_is is_number ts) n in
      let e : counted_among (more t ts) ≡ counted t + counted_among ts = counted_other t ts (not-true (is_number t) c) in
      rw e (omega (arith, tree_bytes gs t (reduced_words t a) s, factors_bytes ts b ss d))

  -- ---- powers under way

  whole_bytes : (e : Tree) → is_whole_num e ≡ true → size e ≤ 40
  whole_bytes e h = grind arith

  pub raised_factor : (t e : Tree) → is_reduced t ≡ true → SpansTree gs t → is_mult t ≡ false → is_whole_num e ≡ true → size (power t e) ≤ 204 * counted t * 2 ^ length gs
  raised_factor t e h s n w = omega (arith, factor_bytes gs t (reduced_words t h) s n, whole_bytes e w, pow_pos (length gs))

  pub raised_number : (t e : Tree) → is_number t ≡ true → SpansTree gs t → is_whole_num e ≡ true → size (power t e) ≤ 96 * 2 ^ length gs
  raised_number t e h s w = omega (arith, one_number_bytes t h s, whole_bytes e w)
