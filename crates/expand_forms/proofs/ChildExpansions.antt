-- The polynomial of a node over expanded children has the coefficients of that over the children themselves.
use Rattle.expand_forms.proofs.Shared.{◌≡◌, ◌≢◌, ℕ, [], true, refl, sym, ap, ◌∙◌, subst, arith, negsuc, not, and_parts, eqb-true, Kind, no_zero, zero_test, factor_not_zero, product_not_zero}
use Rattle.expand_forms.proofs.Shared.{negative_lowest, Fraction, inverse, is_zero_fraction, lowest, minus_one_fraction, negative, one_fraction, times, zero_fraction, Payload, rational, named, bare}
use Rattle.expand_forms.proofs.Shared.{Tree, num, symbol, power, neg, sub, div, Trees, none, more, count, expanded, constant, raised, scaled, are_polynomials, divisor_of, exponent_of}
use Rattle.expand_forms.proofs.Shared.{has_polynomial_root, is_divisor, is_exponent, is_polynomial, polynomial_of, product_of, sum_of, AreSame, IsExpanded, IsExpandedFrom, compound, grown, nth, takes}
use Rattle.expand_forms.proofs.{Shared.{takes_kind, AreAnswers, EachTree}, Expansions.{constant_expanded, is_expanded, same_polynomial}, Numbers.{opposite_whole}}
use Rattle.expansions.proofs.{SameCoefficients.{product_both, same_append, same_refl, scaled_same, raised_same}, TreeMonomials.{tree_monomials}}
use Rattle.calc_measures.proofs.Inverses.{times_minus_one as minus_one_times}
use Rattle.calc_terms.specs.declared.kind.Kind.TheVariants as kind

-- the polynomial of a node over such children has the coefficients of another one
pub record IsOver (P : Tree → Type 0) (t u : Tree) (us : Trees) : Type 0 where
  pub root : has_polynomial_root u ≡ true
  pub children : EachTree P us
  pub same : AreSame (polynomial_of u) (polynomial_of t)

-- ---- children

pub child_same : (t u : Tree) → is_polynomial t ≡ true → IsExpandedFrom t u → AreSame (polynomial_of u) (polynomial_of t)
child_same t u p e = same_polynomial (tree_monomials t) (e p)

pub child_expanded : (t u : Tree) → is_polynomial t ≡ true → IsExpandedFrom t u → IsExpanded u
child_expanded t u p e = is_expanded (polynomial_of t) (tree_monomials t) (e p)

-- ---- literals

opposite_expanded : (q : Fraction) → expanded (scaled minus_one_fraction (constant q)) ≡ num (negative q)
opposite_expanded q = constant_expanded (times minus_one_fraction q) ∙ ap num (minus_one_times q)

pub exponent_same : (e u : Tree) → is_exponent e ≡ true → IsExpandedFrom e u → (exponent_of u ≡ exponent_of e) × (is_exponent u ≡ true) × IsExpanded u
exponent_same e u h x = grind (arith, constant_expanded, child_expanded, opposite_expanded, opposite_whole)

minus_one_nonzero : minus_one_fraction ≢ zero_fraction
unfolding one_fraction
minus_one_nonzero = factor_not_zero minus_one_fraction minus_one_fraction (minus_one_times minus_one_fraction ∙ negative_lowest (negsuc 0) 1 (omega arith))

negative_nonzero : (q : Fraction) → not (is_zero_fraction q) ≡ true → not (is_zero_fraction (negative q)) ≡ true
negative_nonzero q h = ap not (zero_test (negative q) (λ z. product_not_zero minus_one_fraction q minus_one_nonzero (no_zero q h) (minus_one_times q ∙ z)))

pub divisor_same : (d u : Tree) → is_divisor d ≡ true → IsExpandedFrom d u → (divisor_of u ≡ divisor_of d) × (is_divisor u ≡ true) × IsExpanded u
divisor_same d u h x = grind (arith, constant_expanded, child_expanded, opposite_expanded, negative_nonzero)

-- ---- nodes over children of which this is known

module _
    (A : Tree → Tree → Type 0) (P : Tree → Type 0)
    (child_same : (t u : Tree) → is_polynomial t ≡ true → A t u → AreSame (polynomial_of u) (polynomial_of t))
    (child_is : (t u : Tree) → is_polynomial t ≡ true → A t u → P u)
    (exponent_as : (e u : Tree) → is_exponent e ≡ true → A e u → (exponent_of u ≡ exponent_of e) × (is_exponent u ≡ true) × P u)
    (divisor_as : (d u : Tree) → is_divisor d ≡ true → A d u → (divisor_of u ≡ divisor_of d) × (is_divisor u ≡ true) × P u)
  where
    all_are : (ts us : Trees) → are_polynomials ts ≡ true → AreAnswers A ts us → EachTree P us
    all_are none none p e = tt
    all_are none (more u us) p e = absurd e
    all_are (more t ts) none p e = absurd e
    all_are (more t ts) (more u us) p e = let (a, b) = and_parts (is_polynomial t) (are_polynomials ts) p in (child_is t u a e.0, all_are ts us b e.1)

    sum_is_same : (ts us : Trees) → are_polynomials ts ≡ true → AreAnswers A ts us → AreSame (sum_of us) (sum_of ts)
    sum_is_same none none p e = same_refl []
    sum_is_same none (more u us) p e = absurd e
    sum_is_same (more t ts) none p e = absurd e
    sum_is_same (more t ts) (more u us) p e = let (a, b) = and_parts (is_polynomial t) (are_polynomials ts) p in same_append (child_same t u a e.0) (sum_is_same ts us b e.1)

    product_is_same : (ts us : Trees) → are_polynomials ts ≡ true → AreAnswers A ts us → AreSame (product_of us) (product_of ts)
    product_is_same none none p e = same_refl (product_of none)
    product_is_same none (more u us) p e = absurd e
    product_is_same (more t ts) none p e = absurd e
    product_is_same (more t ts) (more u us) p e = let (a, b) = and_parts (is_polynomial t) (are_polynomials ts) p in product_both (child_same t u a e.0) (product_is_same ts us b e.1)

    -- ---- nodes

    over_kind : (k : Kind) (ts us : Trees) → takes_kind k (count ts) ≡ true → AreAnswers A ts us → is_polynomial (compound k ts) ≡ true → IsOver P (compound k ts) (compound k us) us
    over_kind kind.Undef ts us e h p = cc
    over_kind kind.Add ts us e h p = record { root = refl; children = all_are ts us p h; same = sum_is_same ts us p h }
    over_kind kind.Mult ts us e h p = record { root = refl; children = all_are ts us p h; same = product_is_same ts us p h }
    over_kind kind.Pow ts us e h p = over_power ts us (eqb-true (count ts) 2 e) h p
      where
        over_power : (ts us : Trees) → count ts ≡ 2 → AreAnswers A ts us → is_polynomial (power (nth 0 ts) (nth 1 ts)) ≡ true → IsOver P (power (nth 0 ts) (nth 1 ts)) (power (nth 0 us) (nth 1 us)) us
        over_power none us e h p = absurd (omega (arith, e))
        over_power (more b none) us e h p = absurd (omega (arith, e))
        over_power (more b (more x none)) none e h p = absurd h
        over_power (more b (more x none)) (more u none) e h p = absurd h.1
        over_power (more b (more x none)) (more u (more y (more v vs))) e h p = absurd h.1.1
        over_power (more b (more x none)) (more u (more y none)) e h p =
            let (a, d) = and_parts (is_polynomial b) (is_exponent x) p in
            let (n, s, ex) = exponent_as x y d h.1.0 in
            record { root = s; children = (child_is b u a h.0, (ex, tt)); same = subst (λ (k : ℕ). AreSame (raised (polynomial_of u) k) (raised (polynomial_of b) (exponent_of x))) (sym n) (raised_same (exponent_of x) (child_same b u a h.0)) }
        over_power (more b (more x (more z zs))) us e h p = absurd (omega (arith, e))
    over_kind kind.Root ts us e h p = cc
    over_kind kind.Neg ts us e h p = over_neg ts us (eqb-true (count ts) 1 e) h p
      where
        over_neg : (ts us : Trees) → count ts ≡ 1 → AreAnswers A ts us → is_polynomial (neg (nth 0 ts)) ≡ true → IsOver P (neg (nth 0 ts)) (neg (nth 0 us)) us
        over_neg none us e h p = absurd (omega (arith, e))
        over_neg (more a none) none e h p = absurd h
        over_neg (more a none) (more u none) e h p = record { root = refl; children = (child_is a u p h.0, tt); same = scaled_same minus_one_fraction (child_same a u p h.0) }
        over_neg (more a none) (more u (more v vs)) e h p = absurd h.1
        over_neg (more a (more b ts)) us e h p = absurd (omega (arith, e))
    over_kind kind.Sub ts us e h p = over_sub ts us (eqb-true (count ts) 2 e) h p
      where
        over_sub : (ts us : Trees) → count ts ≡ 2 → AreAnswers A ts us → is_polynomial (sub (nth 0 ts) (nth 1 ts)) ≡ true → IsOver P (sub (nth 0 ts) (nth 1 ts)) (sub (nth 0 us) (nth 1 us)) us
        over_sub none us e h p = absurd (omega (arith, e))
        over_sub (more b none) us e h p = absurd (omega (arith, e))
        over_sub (more b (more x none)) none e h p = absurd h
        over_sub (more b (more x none)) (more u none) e h p = absurd h.1
        over_sub (more b (more x none)) (more u (more y (more v vs))) e h p = absurd h.1.1
        over_sub (more b (more x none)) (more u (more y none)) e h p =
            let (a, d) = and_parts (is_polynomial b) (is_polynomial x) p in
            record { root = refl; children = (child_is b u a h.0, (child_is x y d h.1.0, tt)); same = same_append (child_same b u a h.0) (scaled_same minus_one_fraction (child_same x y d h.1.0)) }
        over_sub (more b (more x (more z zs))) us e h p = absurd (omega (arith, e))
    over_kind kind.Div ts us e h p = over_div ts us (eqb-true (count ts) 2 e) h p
      where
        over_div : (ts us : Trees) → count ts ≡ 2 → AreAnswers A ts us → is_polynomial (div (nth 0 ts) (nth 1 ts)) ≡ true → IsOver P (div (nth 0 ts) (nth 1 ts)) (div (nth 0 us) (nth 1 us)) us
        over_div none us e h p = absurd (omega (arith, e))
        over_div (more b none) us e h p = absurd (omega (arith, e))
        over_div (more b (more x none)) none e h p = absurd h
        over_div (more b (more x none)) (more u none) e h p = absurd h.1
        over_div (more b (more x none)) (more u (more y (more v vs))) e h p = absurd h.1.1
        over_div (more b (more x none)) (more u (more y none)) e h p =
            let (a, d) = and_parts (is_polynomial b) (is_divisor x) p in
            let (n, s, ex) = divisor_as x y d h.1.0 in
            record { root = s; children = (child_is b u a h.0, (ex, tt)); same = subst (λ (q : Fraction). AreSame (scaled (inverse q) (polynomial_of u)) (scaled (inverse (divisor_of x)) (polynomial_of b))) (sym n) (scaled_same (inverse (divisor_of x)) (child_same b u a h.0)) }
        over_div (more b (more x (more z zs))) us e h p = absurd (omega (arith, e))
    over_kind k ts us e h p = cc

    no_children : (ts us : Trees) → count ts ≡ 0 → AreAnswers A ts us → us ≡ none
    no_children none none e h = refl
    no_children none (more u us) e h = absurd h
    no_children (more t ts) us e h = absurd (omega (arith, e))

    pub over_payload : (x : Payload) (ts us : Trees) → takes x (count ts) ≡ true → AreAnswers A ts us → is_polynomial (grown x ts) ≡ true → IsOver P (grown x ts) (grown x us) us
    over_payload (rational r) ts us e h p = record { root = refl; children = subst (EachTree P) (sym (no_children ts us (eqb-true (count ts) 0 e) h)) tt; same = same_refl (polynomial_of (num (lowest r.num r.den))) }
    over_payload (named x) ts us e h p = record { root = refl; children = subst (EachTree P) (sym (no_children ts us (eqb-true (count ts) 0 e) h)) tt; same = same_refl (polynomial_of (symbol x)) }
    over_payload (bare k) ts us e h p = over_kind k ts us e h p
