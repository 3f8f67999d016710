-- What holds the answers of children holds the node over them, by the bounds of the tree.
use Rattle.deep_reduce.proofs.Shared.{◌≡◌, ◌≤◌, ℤ, true, false, ◌&&◌, ◌||◌, Option, Some, None, refl, sym, ap, ◌∙◌, subst, arith, inl, inr, numerator, is_half_num, and_parts, whole_literal}
use Rattle.deep_reduce.proofs.Shared.{half_literal, or_literal, is_whole_literal, is_half_literal, all_simple, are_all_simple, is_simple_power, power_bounds, bounds, bounds_of_factors, high, low}
use Rattle.deep_reduce.proofs.Shared.{Tree, num, symbol, power, Trees, none, more, is_num, is_symbol, is_undef, has_undef, is_leaf, HoldsPower, holds_whole, holds_half, holds_kept, HoldsNode}
use Rattle.deep_reduce.proofs.Shared.{IsNodeAnswer, IsReducedFrom, IsFactorHeld, AreFactorsHeld, none_held, AreTreesHeld, raised_high, raised_low, factor_is_held, symbol_is_held, children_of}
use Rattle.deep_reduce.proofs.Shared.{or_parts, number_reduced, or_from, cases_Bool, clash, or_other, factor_tree, tree_factor, undef_factor, first_side, second_side, whole_answer}
use Rattle.deep_reduce.proofs.Shared.{half_literal_answer, zero_high, factor_held, bounds_of_each, rational_row, sum_row, rational_to_symbol, symbol_to_symbol, base_most}
use Rattle.deep_reduce.proofs.NodeRewrites.{AreReducedFrom, IsOver, over_number, over_symbol, over_undef, over_sum, over_product, over_power, over_root, over_neg, over_sub, over_div}
use Rattle.deep_reduce.proofs.PlainNodes.{undef_has_no_value}
use Rattle.tree_bits.proofs.Rows.{two_powers_within as two_powers, raised_within as row_most}

-- ---- children

terms_held : (ts us : Trees) → are_all_simple ts ≡ true → AreReducedFrom ts us → has_undef us ≡ false → AreTreesHeld us (bounds_of_each ts)
terms_held none none s h d = tt
terms_held (more t ts) (more u us) s h d =
    let (p, q) = and_parts (all_simple t) (are_all_simple ts) s in
    let e = (or_parts (is_undef u) (has_undef us) d).0 in
    (e, factor_tree u (h.0.held p e), terms_held ts us q h.1 (or_parts (is_undef u) (has_undef us) d).1)
terms_held ts us s h d = absurd h

factors_held : (ts us : Trees) → are_all_simple ts ≡ true → AreReducedFrom ts us → has_undef us ≡ false → AreFactorsHeld us (bounds_of_factors ts).high (bounds_of_factors ts).low
factors_held none none s h d = none_held
factors_held (more t ts) (more u us) s h d =
    let (p, q) = and_parts (all_simple t) (are_all_simple ts) s in
    factor_held (high t) (low t) (bounds_of_factors ts).high (bounds_of_factors ts).low (h.0.held p (or_parts (is_undef u) (has_undef us) d).0)
    (factors_held ts us q h.1 (or_parts (is_undef u) (has_undef us) d).1) (omega arith) (omega arith)
factors_held ts us s h d = absurd h

-- ---- powers

-- the row is by the exponent n
record IsRow (b e : Tree) (n : ℤ) : Type 0 where
  high : (power_bounds (Some n) (bounds b)).high ≤ high (power b e)
  low : (power_bounds (Some n) (bounds b)).low ≤ low (power b e)

row_is : (b e : Tree) (n : ℤ) → or_literal (whole_literal e) (half_literal e) ≡ Some n → IsRow b e n
row_is b e n o = record { high = omega (arith, ap (λ (m : Option ℤ). (power_bounds m (bounds b)).high) o); low = omega (arith, ap (λ (m : Option ℤ). (power_bounds m (bounds b)).low) o) }

-- a symbol as the exponent of a rational or of a symbol
symbol_power : (b e : Tree) → (is_num b || is_symbol b) ≡ true → is_symbol e ≡ true → IsFactorHeld (power b e) (high (power b e)) (low (power b e))
symbol_power b e h k = grind (arith, factor_is_held, high, rational_to_symbol, symbol_to_symbol)

leaf_of : (b : Tree) → (is_num b || is_symbol b) ≡ true → is_leaf b ≡ true
leaf_of b h = grind arith

symbol_leaf : (e : Tree) → is_symbol e ≡ true → (is_leaf e ≡ true) × (is_num e ≡ false)
symbol_leaf e h = grind arith

no_literal : (o : Option ℤ) → o ≡ None → (elim o [ Some n ↦ true | None ↦ false ]) ≡ false
no_literal o h = grind arith

power_holds : (b c e f : Tree) → is_simple_power b e ≡ true → all_simple b ≡ true → IsReducedFrom b c → IsReducedFrom e f → is_undef c ≡ false → HoldsPower c f (high (power b e)) (low (power b e))
power_holds b c e f s p h k d = by (whole_literal e) (half_literal e) refl refl
  where
    by : (x y : Option ℤ) → whole_literal e ≡ x → half_literal e ≡ y → HoldsPower c f (high (power b e)) (low (power b e))
    by (Some n) y i j =
        let r = row_is b e n (ap (λ (o : Option ℤ). or_literal o (half_literal e)) i) in
        let m = row_most n (bounds b) in
        holds_whole n (high b) (low b) (whole_answer e f n i k.plain) (h.held p d) (omega (arith, m.0, r.high)) (omega (arith, m.1, r.low))
    by None (Some n) i j =
        let r = row_is b e n (ap (λ (o : Option ℤ). or_literal o (half_literal e)) i ∙ j) in
        let (q, is, half, same) = half_literal_answer e f n j k.plain in
        let m = row_most n (bounds b) in
        let w = base_most n (bounds b) in
        holds_half (high b) (low b) (ap is_half_num is ∙ half) (zero_high b) (h.held p d) (omega (arith, w.0, r.high)) (omega (arith, w.1, r.low))
        (omega (arith, m.0, r.high, ap (λ (z : ℤ). raised_high z (high b) (low b)) (ap numerator is ∙ same)))
        (omega (arith, m.1, r.low, ap (λ (z : ℤ). raised_low z (high b) (low b)) (ap numerator is ∙ same)))
    by None None i j =
        let t = and_parts (is_num b || is_symbol b) (is_symbol e) (or_other (is_whole_literal e || is_half_literal e) _ s (or_from (is_whole_literal e) (is_half_literal e) (no_literal (whole_literal e) i) (no_literal (half_literal e) j))) in
        let l = symbol_leaf e t.1 in
        let c-is : c ≡ b = h.leaf (leaf_of b t.0) in
        let f-is : f ≡ e = k.leaf l.0 in
        holds_kept (ap is_num f-is ∙ l.1) (subst (λ (x : Tree). IsFactorHeld (power x f) (high (power b e)) (low (power b e))) (sym c-is) (subst (λ (x : Tree). IsFactorHeld (power b x) (high (power b e)) (low (power b e))) (sym f-is) (symbol_power b e t.0 t.1)))

-- ---- the node

pub holds_over : (t u : Tree) → all_simple t ≡ true → IsOver t u → has_undef (children_of u) ≡ false → HoldsNode u (high t) (low t)
holds_over t u s (over_number q) d = tree_factor (num q) (number_reduced q) refl (rational_row q)
holds_over t u s (over_symbol x) d = factor_is_held (symbol x) 1 0 refl (omega arith) (symbol_is_held x)
holds_over t u s over_undef d = undef_factor (omega arith)
holds_over t u s (over_sum ts us h) d = sum_row ts us (terms_held ts us s h d)
holds_over t u s (over_product ts us h) d = factors_held ts us s h d
holds_over t u s (over_power b c e f h k) d =
    let (xy, q) = and_parts (is_simple_power b e && all_simple b) (all_simple e) s in
    let (x, p) = and_parts (is_simple_power b e) (all_simple b) xy in
    power_holds b c e f x p h k (first_side c f d)
holds_over t u s (over_root a c h) d = (h.held s (or_parts (is_undef c) false d).0, zero_high a)
holds_over t u s (over_neg a c h) d = h.held s (or_parts (is_undef c) false d).0
holds_over t u s (over_sub a c b e h k) d = grind (arith, and_parts, first_side, second_side, over_sub, two_powers)
holds_over t u s (over_div a c b e h k) d = grind (arith, and_parts, first_side, second_side, over_div)

defined_node : (u r : Tree) → IsNodeAnswer u r → is_undef r ≡ false → has_undef (children_of u) ≡ false
defined_node u r a d = elim (cases_Bool (has_undef (children_of u))) [ inl e ↦ clash (sym (ap is_undef (a.undefined (undef_has_no_value u e))) ∙ d) | inr e ↦ e ]

pub node_held : (t u r : Tree) → IsOver t u → IsNodeAnswer u r → all_simple t ≡ true → is_undef r ≡ false → IsFactorHeld r (high t) (low t)
node_held t u r h a s d = a.held d (high t) (low t) (holds_over t u s h (defined_node u r a d))

pub node_leaf : (t u r : Tree) → IsOver t u → IsNodeAnswer u r → is_leaf t ≡ true → r ≡ t
node_leaf t u r (over_number q) a l = a.leaf refl
node_leaf t u r (over_symbol x) a l = a.leaf refl
node_leaf t u r over_undef a l = a.leaf refl
node_leaf t u r h a l = cc
