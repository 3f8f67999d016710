-- A node over the answers of its children has no more terms and no other names than the node that was handed.
use Rattle.expand_forms.proofs.Shared.{◌≡◌, ℕ, zero, suc, ◌^◌, ◌≤◌, ◌<◌, [], ◌++◌, length, true, false, sym, ap, subst, arith, le-max_right, pow-le-pow_left, and_parts, eqb-true, length-append}
use Rattle.expand_forms.proofs.Shared.{mul-le, Within, no_new_name, within_beside, within_left, within_none, within_of, within_same, within_trans, HasNoNewName, inverse, minus_one_fraction, Payload}
use Rattle.expand_forms.proofs.Shared.{rational, named, bare, Kind, Tree, symbol, neg, Trees, none, more, count, is_symbol, names, names_of, product_of_terms, sum_of_terms, terms, are_polynomials}
use Rattle.expand_forms.proofs.Shared.{divisor_of, exponent_of, is_divisor, is_exponent, is_polynomial, polynomial_of, product_of, sum_of, AreExpandedFrom, IsExpandedFrom, children_of, compound}
use Rattle.expand_forms.proofs.Shared.{grown, nth, takes, takes_kind, expanded_few, few_names, expanded_no_new_name, few_terms, product_length, raised_length, scaled_length, some_terms, tree_normal}
use Rattle.expand_forms.proofs.{ChildExpansions.{exponent_same}, ChildRooms.{child_names}}
use Rattle.calc_terms.specs.declared.kind.Kind.TheVariants as kind

-- ---- answers

answer_length : (t u : Tree) → is_polynomial t ≡ true → IsExpandedFrom t u → length (polynomial_of u) ≤ terms t
answer_length t u p e =
    let has = expanded_few (polynomial_of t) (tree_normal t) (few_names t t (terms t) (no_new_name (within_same (names t))) (few_terms t)) (some_terms t p) in
    omega (arith, ap (λ (x : Tree). length (polynomial_of x)) (e p), has.few)

sum_length : (ts us : Trees) → are_polynomials ts ≡ true → AreExpandedFrom ts us → length (sum_of us) ≤ sum_of_terms ts
sum_length none none p e = omega arith
sum_length none (more u us) p e = absurd e
sum_length (more t ts) none p e = absurd e
sum_length (more t ts) (more u us) p e =
    let (a, b) = and_parts (is_polynomial t) (are_polynomials ts) p in
    omega (arith, length-append (polynomial_of u) (sum_of us), answer_length t u a e.0, sum_length ts us b e.1)

products_length : (ts us : Trees) → are_polynomials ts ≡ true → AreExpandedFrom ts us → length (product_of us) ≤ product_of_terms ts
products_length none none p e = omega arith
products_length none (more u us) p e = absurd e
products_length (more t ts) none p e = absurd e
products_length (more t ts) (more u us) p e =
    let (a, b) = and_parts (is_polynomial t) (are_polynomials ts) p in
    omega (
      arith,
      product_length (polynomial_of u) (product_of us),
      mul-le (length (polynomial_of u)) (length (product_of us)) (terms t) (product_of_terms ts) (answer_length t u a e.0)
          (products_length ts us b e.1),
    )

nth_from : (n : ℕ) (ts us : Trees) → AreExpandedFrom ts us → n < count ts → IsExpandedFrom (nth n ts) (nth n us)
nth_from n none us e l = absurd (omega (arith, l))
nth_from n (more t ts) none e l = absurd e
nth_from zero (more t ts) (more u us) e l = e.0
nth_from (suc n) (more t ts) (more u us) e l = nth_from n ts us e.1 (omega (arith, l))

-- ---- terms of a node

over_kind : (k : Kind) (ts us : Trees) → takes_kind k (count ts) ≡ true → AreExpandedFrom ts us → is_polynomial (compound k ts) ≡ true → length (polynomial_of (compound k us)) ≤ terms (compound k ts)
over_kind kind.Undef ts us e h p = cc
over_kind kind.Add ts us e h p = omega (arith, sum_length ts us p h, le-max_right 1 (sum_of_terms ts))
over_kind kind.Mult ts us e h p = products_length ts us p h
over_kind kind.Pow ts us e h p =
    let two : count ts ≡ 2 = eqb-true (count ts) 2 e in
    let (a, d) = and_parts (is_polynomial (nth 0 ts)) (is_exponent (nth 1 ts)) p in
    let b = answer_length (nth 0 ts) (nth 0 us) a (nth_from 0 ts us h (omega (arith, two))) in
    let n = (exponent_same (nth 1 ts) (nth 1 us) d (nth_from 1 ts us h (omega (arith, two)))).0 in
    omega (arith, raised_length (polynomial_of (nth 0 us)) (exponent_of (nth 1 us)), ap (λ (k : ℕ). length (polynomial_of (nth 0 us)) ^ k) n, pow-le-pow_left b (exponent_of (nth 1 ts)))
over_kind kind.Root ts us e h p = cc
over_kind kind.Neg ts us e h p =
    let one : count ts ≡ 1 = eqb-true (count ts) 1 e in
    omega (arith, scaled_length minus_one_fraction (polynomial_of (nth 0 us)), answer_length (nth 0 ts) (nth 0 us) p (nth_from 0 ts us h (omega (arith, one))))
over_kind kind.Sub ts us e h p =
    let two : count ts ≡ 2 = eqb-true (count ts) 2 e in
    let (a, b) = and_parts (is_polynomial (nth 0 ts)) (is_polynomial (nth 1 ts)) p in
    omega (
      arith,
      length-append (polynomial_of (nth 0 us)) (polynomial_of (neg (nth 1 us))),
      scaled_length minus_one_fraction (polynomial_of (nth 1 us)),
      answer_length (nth 0 ts) (nth 0 us) a (nth_from 0 ts us h (omega (arith, two))),
      answer_length (nth 1 ts) (nth 1 us) b (nth_from 1 ts us h (omega (arith, two))),
    )
over_kind kind.Div ts us e h p =
    let two : count ts ≡ 2 = eqb-true (count ts) 2 e in
    let (a, b) = and_parts (is_polynomial (nth 0 ts)) (is_divisor (nth 1 ts)) p in
    omega (arith, scaled_length (inverse (divisor_of (nth 1 us))) (polynomial_of (nth 0 us)), answer_length (nth 0 ts) (nth 0 us) a (nth_from 0 ts us h (omega (arith, two))))
over_kind k ts us e h p = cc

pub over_terms : (x : Payload) (ts us : Trees) → takes x (count ts) ≡ true → AreExpandedFrom ts us → is_polynomial (grown x ts) ≡ true → length (polynomial_of (grown x us)) ≤ terms (grown x ts)
over_terms x ts us e h p = grind (arith, over_kind)

-- ---- names of a node

answer_names : (ts us : Trees) → are_polynomials ts ≡ true → AreExpandedFrom ts us → Within (names_of ts) (names_of us)
answer_names none none p e = within_same []
answer_names none (more u us) p e = absurd e
answer_names (more t ts) none p e = absurd e
answer_names (more t ts) (more u us) p e =
    let (a, b) = and_parts (is_polynomial t) (are_polynomials ts) p in
    within_beside (names t) (names u) (names_of ts) (names_of us) (within_of (subst (λ (x : Tree). HasNoNewName t x) (sym (e.0 a)) (expanded_no_new_name t))) (answer_names ts us b e.1)

two_names : (a b : Tree) → Within (names a ++ (names b ++ [])) (names a ++ names b)
two_names a b = within_beside (names a) (names a) (names b ++ []) (names b) (within_same (names a)) (within_left (names b) [])

node_names : (t : Tree) → is_symbol t ≡ false → Within (names_of (children_of t)) (names t)
node_names t h = grind (arith, within_none, within_same, two_names, within_left)

no_symbol : (k : Kind) (us : Trees) → is_symbol (compound k us) ≡ false
no_symbol k us = grind arith

-- of the node as it was, and as it is over the answers of its children
pub over_names : (x : Payload) (ts us : Trees) → children_of (grown x ts) ≡ ts → children_of (grown x us) ≡ us → are_polynomials ts ≡ true → AreExpandedFrom ts us
    → HasNoNewName (grown x ts) (grown x us)
over_names (rational r) ts us a b p e = no_new_name (within_none [])
over_names (named x) ts us a b p e = no_new_name (within_same (names (symbol x)))
over_names (bare k) ts us a b p e =
    let t = compound k ts in
    let u = compound k us in
    let above : Within (names t) (names_of ts) = subst (λ (x : Trees). Within (names t) (names_of x)) a (child_names t) in
    let below : Within (names_of us) (names u) = subst (λ (x : Trees). Within (names_of x) (names u)) b (node_names u (no_symbol k us)) in
    no_new_name (within_trans above (within_trans (answer_names ts us p e) below))
