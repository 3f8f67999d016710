-- By what bits the step of a node over expanded children is held.
use Rattle.expand_forms.proofs.Shared.{◌≡◌, ◌<◌, ◌≤◌, ◌+◌, ◌*◌, ℕ, zero, suc, Result, true, sym, ap, ◌∙◌, subst, arith, IfErr, and_parts, bits, bits_of, high, low, most_bits, Fraction, inverse}
use Rattle.expand_forms.proofs.Shared.{IsExpandedFrom, are_polynomials, minus_one_fraction, Payload, Tree, power, sub, div, Trees, none, more, count, root_kind, AreHeldTogether, IsHeld}
use Rattle.expand_forms.proofs.Shared.{IsNoOverflow, scaled, divisor_of, exponent_of, is_divisor, is_exponent, is_polynomial, polynomial_of, product_of, AreExpandedFrom, IsOver, children_of, grown}
use Rattle.expand_forms.proofs.Shared.{nth, OfOverflow, NumberFault, held_more, held_opposite, held_product, one_held, answer_held, difference_held, held_together, power_within, quotient_held}
use Rattle.expand_forms.proofs.{Shared.{sum_held, AreHeldFrom, tree_held, tree_monomials}, ChildExpansions.{divisor_same, exponent_same}, Nodes.{from}}
use Rattle.calc_terms.specs.declared.kind.Kind.TheVariants as kind

-- ---- the expanded trees of trees

pub expanded_held : (t u : Tree) → is_polynomial t ≡ true → IsExpandedFrom t u → IsHeld (polynomial_of u) (high t) (low t)
expanded_held t u p e = answer_held (tree_monomials t) (e p) (tree_held t p)

pub answers_held : (ts us : Trees) → are_polynomials ts ≡ true → AreExpandedFrom ts us → AreHeldFrom ts us
answers_held none none p e = tt
answers_held none (more u us) p e = absurd e
answers_held (more t ts) none p e = absurd e
answers_held (more t ts) (more u us) p e = let (x, y) = and_parts (is_polynomial t) (are_polynomials ts) p in (expanded_held t u x e.0, answers_held ts us y e.1)

-- ---- few bits, or more

pub few_bits : (t : Tree) → bits_of t ≤ 124 → high t + low t < 127
few_bits t l = omega (arith, l)

-- a call that makes no overflow of few bits
pub within_bits : {A : Type 0} (r : Result A NumberFault) (t : Tree) → (bits_of t ≤ 124 → IfErr r IsNoOverflow) → IfErr r (OfOverflow (λ o. 124 < bits_of t))
within_bits r t k = grind arith

-- ---- by the kind of the node

pub sum_over : (w u : Tree) → kind.Add ≡ root_kind w → kind.Add ≡ root_kind u → is_polynomial w ≡ true → AreExpandedFrom (children_of w) (children_of u) → IsHeld (polynomial_of u) (high w) (low w)
sum_over w u k l p e = grind (arith, sum_held, answers_held)

pub product_over : (w u : Tree) → kind.Mult ≡ root_kind w → is_polynomial w ≡ true → AreExpandedFrom (children_of w) (children_of u) → AreHeldTogether (children_of u) (high w) (low w)
product_over w u k p e = grind (arith, held_together, answers_held)

pub power_over : (w u : Tree) → kind.Pow ≡ root_kind w → kind.Pow ≡ root_kind u → is_polynomial w ≡ true → AreExpandedFrom (children_of w) (children_of u) → bits_of w ≤ 124
    → (h : ℕ) × (l : ℕ) × IsHeld (polynomial_of (nth 0 (children_of u))) h l × (exponent_of (nth 1 (children_of u)) * (h + l) < 127)
power_over (power b x) u k l p e few = by u l e
  where
    by : (v : Tree) → kind.Pow ≡ root_kind v → AreExpandedFrom (more b (more x none)) (children_of v)
        → (h : ℕ) × (l : ℕ) × IsHeld (polynomial_of (nth 0 (children_of v))) h l × (exponent_of (nth 1 (children_of v)) * (h + l) < 127)
    by (power c y) l e =
        let (a, d) = and_parts (is_polynomial b) (is_exponent x) p in
        let (n, s, ex) = exponent_same x y d e.1.0 in
        let (m, o) = power_within b x d in
        (high b, low b, expanded_held b c a e.0, omega (arith, ap (λ (j : ℕ). j * (high b + low b)) n, m, o, few))
    by v l e = cc
power_over w u k l p e few = cc

pub opposite_over : (w u : Tree) → kind.Neg ≡ root_kind w → kind.Neg ≡ root_kind u → is_polynomial w ≡ true → AreExpandedFrom (children_of w) (children_of u)
    → IsHeld (scaled minus_one_fraction (polynomial_of (nth 0 (children_of u)))) (high w) (low w)
opposite_over w u k l p e = grind (arith, held_opposite, expanded_held)

pub difference_over : (w u : Tree) → kind.Sub ≡ root_kind w → kind.Sub ≡ root_kind u → is_polynomial w ≡ true → AreExpandedFrom (children_of w) (children_of u)
    → IsHeld (polynomial_of (sub (nth 0 (children_of u)) (nth 1 (children_of u)))) (high w) (low w)
difference_over w u k l p e = grind (arith, difference_held, expanded_held)

pub quotient_over : (w u : Tree) → kind.Div ≡ root_kind w → kind.Div ≡ root_kind u → is_polynomial w ≡ true → AreExpandedFrom (children_of w) (children_of u)
    → IsHeld (scaled (inverse (divisor_of (nth 1 (children_of u)))) (polynomial_of (nth 0 (children_of u)))) (high w) (low w)
quotient_over (div a c) u k l p e = by u l e
  where
    by : (v : Tree) → kind.Div ≡ root_kind v → AreExpandedFrom (more a (more c none)) (children_of v)
        → IsHeld (scaled (inverse (divisor_of (nth 1 (children_of v)))) (polynomial_of (nth 0 (children_of v)))) (high (div a c)) (low (div a c))
    by (div b d) l e =
        let (x, y) = and_parts (is_polynomial a) (is_divisor c) p in
        let (n, s, ex) = divisor_same c d y e.1.0 in
        subst (λ (q : Fraction). IsHeld (scaled (inverse q) (polynomial_of b)) (high (div a c)) (low (div a c))) (sym n) (quotient_held a c y (expanded_held a b x e.0))
    by v l e = cc
quotient_over w u k l p e = cc

-- ---- products, from the last child on

together_product : (ts : Trees) {h l : ℕ} → AreHeldTogether ts h l → IsHeld (product_of ts) h l
together_product none e = held_more one_held (omega arith) (omega arith)
together_product (more t ts) (a, b, c, d, x, y, m, n) = held_more (held_product (tree_monomials t) x (together_product ts y)) m n

-- a child and the product of those behind it
pub together_next : (n : ℕ) (ts : Trees) {h l : ℕ} → n < count ts → AreHeldTogether ts h l
    → (a : ℕ) × (b : ℕ) × (c : ℕ) × (d : ℕ) × IsHeld (polynomial_of (nth n ts)) a b × IsHeld (product_of (from (n + 1) ts)) c d × (a + c ≤ h) × (b + d ≤ l)
together_next n none few e = absurd (omega (arith, few))
together_next zero (more t ts) few (a, b, c, d, x, y, m, n) = (a, b, c, d, x, together_product ts y, m, n)
together_next (suc k) (more t ts) {h} {l} few (a, b, c, d, x, y, m, n) =
    let (i, j, p, q, z, w, o, r) = together_next k ts (omega (arith, few)) y in
    let same : suc (k + 1) ≡ suc k + 1 = omega arith in
    (i, j, p, q, z, subst (λ (x : ℕ). IsHeld (product_of (from x (more t ts))) p q) same w, omega (arith, m, o), omega (arith, n, r))

-- ---- nodes that hold the same

same_root : (x : Payload) (ts us : Trees) → root_kind (grown x us) ≡ root_kind (grown x ts)
same_root x ts us = grind arith

pub over_kind : (t now : Tree) → IsOver t now → root_kind now ≡ root_kind t
over_kind t now o = ap root_kind o.node ∙ same_root o.holds (children_of t) (children_of now) ∙ sym (ap root_kind o.whole)

-- ---- more bits

pub beyond_bits : (t : Tree) → 124 < most_bits t → 124 < bits t
beyond_bits t l = grind arith
