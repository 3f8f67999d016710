-- How many bytes suffice where two factors of a product are joined and their joint is reduced.
use Rattle.node_bounds.proofs.Shared.{◌≡◌, ℕ, zero, suc, ◌+◌, ◌*◌, ◌^◌, ◌≤◌, ◌<◌, List, length, inl, inr, Bool, true, false, not, ◌&&◌, if◌then◌else◌, refl, sym, ap, subst, arith, ◌-◌, max, and_parts}
use Rattle.node_bounds.proofs.Shared.{eqb-true, pow_pos, is_number, is_reduced, are_reduced, is_whole_num, base_of, reduced_words, counted, counted_among, SpansRoot, SpansTrees, tree_bytes}
use Rattle.node_bounds.proofs.Shared.{counted_number, counted_other, Tree, num, mult, power, Trees, none, more, count, is_mult, size, sizes, reduced_parts, IsJoinedFrom, whole_power_room, removed}
use Rattle.node_bounds.proofs.Shared.{exponent_of, joint, is_single, nth, exponent_count, numbers_among, product_count, sum_count, sum_room, product_room, power_room, product_power_room, counts_one}
use Rattle.node_bounds.proofs.Shared.{product_bytes, scaled, exponents_added, not-true, reduced_nth, neighbours_joint, joint_there, base_is_reduced, number_size, sizes_taken}
use Rattle.node_bounds.proofs.{Calm.{all_nth, all_removed, all_base}, JointCounts.{joint_count, pair_joined_count, numbers_one}, JointRooms.{joined_spans}}
use Rattle.tree_room.proofs.Counts.{no_number as numbers_other}

-- ---- the other factors

module _ (gs : List ℕ) where
  factors_bytes : (ts : Trees) → are_reduced ts ≡ true → SpansTrees gs ts → sizes ts + 48 * numbers_among ts ≤ 204 * counted_among ts * 2 ^ length gs + 96 * numbers_among ts * 2 ^ length gs
  factors_bytes none h s = omega arith
  factors_bytes (more t ts) h (s, ss) = by (is_number t) refl (factors_bytes ts parts.1 ss)
    where
      parts : (is_reduced t ≡ true) × (are_reduced ts ≡ true)
      parts = and_parts (is_reduced t) (are_reduced ts) h

      by : (z : Bool) → is_number t ≡ z → sizes ts + 48 * numbers_among ts ≤ 204 * counted_among ts * 2 ^ length gs + 96 * numbers_among ts * 2 ^ length gs
          → sizes (more t ts) + 48 * numbers_among (more t ts) ≤ 204 * counted_among (more t ts) * 2 ^ length gs + 96 * numbers_among (more t ts) * 2 ^ length gs
      by true e rest = rw (counted_number t ts e, numbers_one t ts e) (omega (arith, number_size gs t e s, rest))
      by false e rest = rw (counted_other t ts e, numbers_other t ts e) (omega (arith, tree_bytes gs t (reduced_words t parts.0) s, rest))

  -- with the node of their product
  pub others_bytes : (ts : Trees) → are_reduced ts ≡ true → SpansTrees gs ts → size (mult ts) ≤ 204 * counted_among ts * 2 ^ length gs + 96 * (1 + max 1 (numbers_among ts - 1)) * 2 ^ length gs
  others_bytes ts h s = by (numbers_among ts) refl
    where
      most : sizes ts + 48 * numbers_among ts ≤ 204 * counted_among ts * 2 ^ length gs + 96 * numbers_among ts * 2 ^ length gs
      most = factors_bytes ts h s

      by : (n : ℕ) → numbers_among ts ≡ n → size (mult ts) ≤ 204 * counted_among ts * 2 ^ length gs + 96 * (1 + max 1 (numbers_among ts - 1)) * 2 ^ length gs
      by zero e = omega (arith, most, pow_pos (length gs), ap (λ (n : ℕ). n * 2 ^ length gs) e, scaled 1 (1 + max 1 (numbers_among ts - 1)) (2 ^ length gs) (omega arith))
      by (suc n) e = omega (arith, most, scaled (numbers_among ts) (1 + max 1 (numbers_among ts - 1)) (2 ^ length gs) (omega arith))

-- ---- the joint

-- the two factors at a place and behind it, joined
pub record IsJoining (at : ℕ) (ts us : Trees) : Type 0 where
  pub within : at < count us
  pub is : nth at us ≡ joint (nth at ts) (nth (suc at) ts)
  pub base_reduced : is_reduced (base_of (nth at ts)) ≡ true
  pub others : are_reduced (removed at us) ≡ true
  pub count-is : 2 * counted (base_of (nth at ts)) + exponent_count (exponent_of (nth at ts)) + exponent_count (exponent_of (nth (suc at) ts)) + product_count (removed at us) ≤ product_count ts
  pub apart : (is_mult (base_of (nth at ts)) && not (is_number (base_of (nth at ts)))) ≡ true → 1 ≤ exponent_count (exponent_of (nth at ts))

-- of a power that is reduced only another exponent than a whole number stands over a product
pub product_base : (b e : Tree) → is_reduced (power b e) ≡ true → is_mult b ≡ true → 1 ≤ exponent_count e
product_base b (num q) r m = by (is_whole_num (num q)) refl
  where
    product_clash : is_mult b ≡ false → ⊥
    product_clash h = cc

    by : (z : Bool) → is_whole_num (num q) ≡ z → 1 ≤ (if z then 0 else 2)
    by true h = elim (reduced_parts (power b (num q)) r refl).0 [ inl n ↦ absurd n | inr f ↦ absurd (product_clash (f.1 (eqb-true q.den 1 h)).no_product) ]
    by false h = omega arith
product_base b e r m = omega arith

single_apart : (t : Tree) → is_reduced t ≡ true → is_mult t ≡ false → (is_mult (base_of t) && not (is_number (base_of t))) ≡ true → 1 ≤ exponent_count (exponent_of t)
single_apart t r n h = grind (arith, and_parts, product_base)

pub joining : (at : ℕ) (ts us : Trees) → IsJoinedFrom at ts us → IsJoining at ts us
joining at ts us j =
    let p = neighbours_joint at ts j.reduced j.pair in
    let w = j.pair.within in
    let (both, partner) = and_parts (is_single (nth at ts) && is_single (nth (suc at) ts)) _ j.pair.pair in
    let (a, b) = and_parts (is_single (nth at ts)) (is_single (nth (suc at) ts)) both in
    let first : is_reduced (nth at ts) ≡ true = reduced_nth at ts (omega arith) j.reduced in
    subst (IsJoining at ts) (sym j.is) (record {
      within = p.within;
      is = joint_there at ts j.pair;
      base_reduced = base_is_reduced (nth at ts) first;
      others = p.others;
      count-is = omega (arith, pair_joined_count at ts j.pair, ap joint_count (joint_there at ts j.pair));
      apart = single_apart (nth at ts) first (not-true _ (and_parts _ _ a).1);
    })

-- ---- bytes at hand

-- c counts in the base, to which the exponents add x and y, and r in the other factors, of which q are Numbers but one
exponents_fit : (m c x y q r h z s w : ℕ) → 1 ≤ m → 1 ≤ c → 1 ≤ q → 2 * c + x + y + suc (q + r) ≤ h → z ≤ 3 + x + y → s ≤ 204 * r * m + 96 * (1 + q) * m → w ≤ 204 * c * m
    → 8 + w + sum_room z m + s ≤ product_room h m
exponents_fit m c x y q r h z s w hm hc hq k l u v = omega (arith, scaled (2 * c + x + y + suc (q + r)) h m k, scaled z (3 + x + y) m l, scaled 1 c m hc, scaled 1 q m hq)

power_fits : (m c x y q r h s : ℕ) → 1 ≤ m → 1 ≤ c → 1 ≤ q → 2 * c + x + y + suc (q + r) ≤ h → s ≤ 204 * r * m + 96 * (1 + q) * m → power_room c m + s ≤ product_room h m
power_fits m c x y q r h s hm hc hq k u = omega (arith, scaled (2 * c + x + y + suc (q + r)) h m k, scaled 1 c m hc, scaled 1 q m hq)

product_power_fits : (m c x y q r h s : ℕ) → 1 ≤ m → 1 ≤ c → 1 ≤ q → 1 ≤ x → 2 * c + x + y + suc (q + r) ≤ h → s ≤ 204 * r * m + 96 * (1 + q) * m → product_power_room c m + s ≤ product_room h m
product_power_fits m c x y q r h s hm hc hq hx k u = omega (arith, scaled (2 * c + x + y + suc (q + r)) h m k, scaled 1 c m hc, scaled 1 q m hq, scaled 1 x m hx)

joint_fits : (m p s : ℕ) → 1 ≤ m → s ≤ 204 * p * m → s + 96 ≤ product_room p m
joint_fits m p s hm h = omega arith

module _ (gs : List ℕ) (at : ℕ) (ts us : Trees) (k : IsJoinedFrom at ts us) (spans : SpansTrees gs ts) where
  abbrev j : IsJoining at ts us
  j = joining at ts us k

  abbrev pub b : Tree
  b = base_of (nth at ts)

  abbrev pub others : Trees
  others = removed at us

  beside : size (mult others) ≤ 204 * counted_among others * 2 ^ length gs + 96 * (1 + max 1 (numbers_among others - 1)) * 2 ^ length gs
  beside = others_bytes gs others j.others (all_removed (SpansRoot gs) at us (subst (SpansTrees gs) (sym k.is) (joined_spans gs at ts k.pair spans)))

  base_bytes : size b ≤ 204 * counted b * 2 ^ length gs
  base_bytes = tree_bytes gs b (reduced_words b j.base_reduced) (all_base (SpansRoot gs) (nth at ts) (all_nth (SpansRoot gs) at ts (let w = k.pair.within in omega arith) spans))

  -- where the sum of the exponents finds no bytes
  pub exponents_lack : (bytes : ℕ) → bytes < 8 + size b + sum_room (sum_count (more (exponent_of (nth at ts)) (more (exponent_of (nth (suc at) ts)) none))) (2 ^ length gs)
      → bytes + size (mult others) < product_room (product_count ts) (2 ^ length gs)
  exponents_lack bytes l =
      let e : Tree = exponent_of (nth at ts) in
      let f : Tree = exponent_of (nth (suc at) ts) in
      omega (
        arith,
        l,
        exponents_fit (2 ^ length gs) (counted b) (exponent_count e) (exponent_count f) (max 1 (numbers_among others - 1)) (counted_among others) (product_count ts)
            (sum_count (more e (more f none))) (size (mult others)) (size b)
            (pow_pos (length gs)) (counts_one b) (omega arith) j.count-is (exponents_added e f) beside base_bytes,
      )

  -- where the power of that sum, which is whole, finds none
  pub power_lacks : (bytes : ℕ) → bytes < whole_power_room b (2 ^ length gs) → bytes + size (mult others) < product_room (product_count ts) (2 ^ length gs)
  power_lacks bytes l = by (is_mult b && not (is_number b)) refl l
    where
      by : (z : Bool) → (is_mult b && not (is_number b)) ≡ z → bytes < (if z then product_power_room (counted b) (2 ^ length gs) else power_room (counted b) (2 ^ length gs))
          → bytes + size (mult others) < product_room (product_count ts) (2 ^ length gs)
      by true e l =
          omega (
            arith,
            l,
            product_power_fits (2 ^ length gs) (counted b) (exponent_count (exponent_of (nth at ts))) (exponent_count (exponent_of (nth (suc at) ts))) (max 1 (numbers_among others - 1))
                (counted_among others) (product_count ts) (size (mult others))
                (pow_pos (length gs)) (counts_one b) (omega arith) (j.apart e) j.count-is beside,
          )
      by false e l =
          omega (
            arith,
            l,
            power_fits (2 ^ length gs) (counted b) (exponent_count (exponent_of (nth at ts))) (exponent_count (exponent_of (nth (suc at) ts))) (max 1 (numbers_among others - 1))
                (counted_among others) (product_count ts) (size (mult others))
                (pow_pos (length gs)) (counts_one b) (omega arith) j.count-is beside,
          )

  -- the bytes of the product are those of the joint and of the others
  pub split_bytes : size (mult us) ≡ size (nth at us) + size (mult others)
  split_bytes = omega (arith, sizes_taken at us j.within)

-- where two factors cannot be joined
pub joint_lacks : (gs : List ℕ) (ts : Trees) (free : ℕ) → are_reduced ts ≡ true → SpansTrees gs ts → free < 96 → free + size (mult ts) < product_room (product_count ts) (2 ^ length gs)
joint_lacks gs ts free r s l = omega (arith, l, joint_fits (2 ^ length gs) (product_count ts) (size (mult ts)) (pow_pos (length gs)) (product_bytes gs ts r s))
