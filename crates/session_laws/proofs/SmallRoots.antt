-- The radicands of a Number stand below the roots of its face.
use Rattle.std.proofs.Common.{◌≡◌, ◌∙◌, ℕ, ◌<◌, ◌≤◌, ◌^◌, List, [], ◌∷◌, Bool, true, false, cond, eqb, ◌⊎◌, inl, inr, sym, ap, subst, arith, Contains}
use Rattle.std.specs.Prelude.{⊤, nat_abs, pos}
use Rattle.std.proofs.lemmas.Bool.{ne_eqb}
use Rattle.calc_algebra.specs.{Numbers.{AreTerms, IsNumber, IsRadicand, IsTerm, natural_of, term_of, terms_of, value}, SquareClasses.{radicands}, Surds.{Surd, surd_of}}
use Rattle.calc_language.specs.{Faces.{face, face_of_sum, fraction_of, has_minus, next_term, next_terms, product_of, unless_one, unsigned_face, with_minus}, Grammar.{SoFar, single, summed, multiplied, as_tree, plus_term}}
use Rattle.calc_terms.proofs.FractionFacts.{whole_numerator}
use Rattle.calc_terms.specs.{Fractions.{Fraction, is_zero_fraction}, Integers.{int_is_negative}, Trees.{Tree, num, add, mult, root, Trees, none, more, append, AllPartsOf, whole_num}}
use Rattle.session_laws.specs.{Decided.{HasSmallRoots, IsSmallRoot}, Meant.{HasSmallRadicands}}
use Rattle.tree_handles.proofs.Outcomes.{by_test}

abbrev HaveSmallRoots : Trees → Type 0
HaveSmallRoots ts = AllPartsOf IsSmallRoot ts

-- ---- what a face is made of

product_small : (ts : Trees) → HasSmallRoots (product_of ts) → HaveSmallRoots ts
product_small none h = tt
product_small (more t none) h = (h, tt)
product_small (more t (more u ts)) h = h.1

unless_small : (n : ℕ) (ts : Trees) → HaveSmallRoots (unless_one n ts) → HaveSmallRoots ts
unless_small n ts = by_test (λ b. HaveSmallRoots (cond b ts (more (whole_num n) ts)) → HaveSmallRoots ts) (eqb n 1) (λ e h. h) (λ e h. h.1)

over_small : (above : Trees) (n : ℕ) → HasSmallRoots (fraction_of above (unless_one n none)) → HaveSmallRoots above
over_small above n = by_test (λ b. HasSmallRoots (fraction_of above (cond b none (more (whole_num n) none))) → HaveSmallRoots above) (eqb n 1) (λ e h. product_small above h) (λ e h. product_small above h.1)

with_minus_small : (b : Bool) (t : Tree) → HasSmallRoots (with_minus b t) → HasSmallRoots t
with_minus_small true t h = h.1
with_minus_small false t h = h

append_front : (ts us : Trees) → HaveSmallRoots (append ts us) → HaveSmallRoots ts
append_front none us h = tt
append_front (more t ts) us h = (h.0, append_front ts us h.1)

append_back : (ts us : Trees) → HaveSmallRoots (append ts us) → HaveSmallRoots us
append_back none us h = h
append_back (more t ts) us h = append_back ts us h.1

-- ---- terms

whole_face : (n : ℕ) (r : Fraction) → r.num ≡ pos n → r.den ≡ 1 → 2 ≤ n → with_minus (has_minus (num r)) (unsigned_face (num r)) ≡ whole_num n
whole_face n r e f l =
    let other : eqb n 1 ≡ false = ne_eqb n 1 (λ z. omega (arith, z, l)) in
    ap (λ z. with_minus (int_is_negative z) (fraction_of (unless_one (nat_abs z) none) (unless_one r.den none))) e
    ∙ ap (λ d. fraction_of (unless_one n none) (unless_one d none)) f ∙ ap (λ b. product_of (cond b none (more (whole_num n) none))) other

root_small : (r : Fraction) → IsRadicand r → HasSmallRoots (root (with_minus (has_minus (num r)) (unsigned_face (num r)))) → natural_of r.num < 10 ^ 12
root_small r (d, n, e, l, c) h =
    let there : HasSmallRoots (root (whole_num n)) = subst (λ t. HasSmallRoots (root t)) (whole_face n r e d l) h in
    let small : n < 10 ^ 12 = subst (λ z. nat_abs z < 10 ^ 12) (whole_numerator (pos n)) there.0 in
    subst (λ z. natural_of z < 10 ^ 12) (sym e) small

term_small : (t : Tree) → IsTerm t → HasSmallRoots (unsigned_face t) → (term_of t).radicand < 10 ^ 12
term_small (num q) k h = omega arith
term_small (root (num r)) k h = root_small r k h
term_small (mult (more (num q) (more (root (num r)) none))) k h =
    let above = more (root (with_minus (has_minus (num r)) (unsigned_face (num r)))) none in
    root_small r k.2 (unless_small (nat_abs q.num) above (over_small (unless_one (nat_abs q.num) above) q.den h)).0
term_small t k h = absurd k

-- ---- sums

abbrev AreSmallTerms : Trees → Type 0
AreSmallTerms none = ⊤
AreSmallTerms (more t ts) = ((term_of t).radicand < 10 ^ 12) × AreSmallTerms ts

plus_small : (s : SoFar) (u : Tree) → HasSmallRoots (as_tree (plus_term s u)) → HasSmallRoots (as_tree s) × HasSmallRoots u
plus_small (single t) u h = (h.1.0, h.1.1.0)
plus_small (summed ts) u h = ((tt, append_front ts (more u none) h.1), (append_back ts (more u none) h.1).0)
plus_small (multiplied ts) u h = (h.1.0, h.1.1.0)

next_small : (s : SoFar) (b : Bool) (u : Tree) → HasSmallRoots (as_tree (next_term s b u)) → HasSmallRoots (as_tree s) × HasSmallRoots u
next_small s true u h = (h.1, h.2)
next_small s false u h = plus_small s u h

terms_small : (s : SoFar) (ts : Trees) → AreTerms ts → HasSmallRoots (as_tree (next_terms s ts)) → HasSmallRoots (as_tree s) × AreSmallTerms ts
terms_small s none k h = (h, tt)
terms_small s (more t ts) k h =
    let rest = terms_small (next_term s (has_minus t) (unsigned_face t)) ts k.1 h in
    let two = next_small s (has_minus t) (unsigned_face t) rest.0 in
    (two.0, (term_small t k.0 two.1, rest.1))

sum_small : (ts : Trees) → AreTerms ts → HasSmallRoots (face_of_sum ts) → AreSmallTerms ts
sum_small none k h = tt
sum_small (more t ts) k h =
    let rest = terms_small (single (with_minus (has_minus t) (unsigned_face t))) ts k.1 h in
    (term_small t k.0 (with_minus_small (has_minus t) (unsigned_face t) rest.0), rest.1)

-- ---- Numbers

abbrev AreBelow : Surd → Type 0
AreBelow [] = ⊤
AreBelow (t ∷ v) = (t.radicand < 10 ^ 12) × AreBelow v

where_number : (x y : ℕ) (xs : List ℕ) → Contains (x ∷ xs) y → (x ≡ y) ⊎ Contains xs y
where_number x y xs h = grind arith

none_there : (y : ℕ) → Contains [] y → ⊥
none_there y (k, l, e) = absurd (omega arith)

below : (v : Surd) → AreBelow v → (r : ℕ) → Contains (radicands v) r → r < 10 ^ 12
below [] h r c = absurd (none_there r c)
below (t ∷ v) h r c = elim (where_number t.radicand r (radicands v) c) [ inl e ↦ subst (λ n. n < 10 ^ 12) e h.0 | inr d ↦ below v h.1 r d ]

terms_below : (ts : Trees) → AreSmallTerms ts → AreBelow (terms_of ts)
terms_below none h = tt
terms_below (more t ts) h = (h.0, terms_below ts h.1)

value_below : (t : Tree) → IsNumber t → HasSmallRoots (unsigned_face t) → AreBelow (value t)
value_below (num q) k h = by_test (λ b. AreBelow (cond b [] (surd_of q))) (is_zero_fraction q) (λ e. tt) (λ e. (omega arith, tt))
value_below (add ts) k h = terms_below ts (sum_small ts k.1 h)
value_below (root a) k h = (term_small (root a) k h, tt)
value_below (mult ts) k h = (term_small (mult ts) k h, tt)
value_below t k h = absurd k

pub small_number : (t : Tree) → IsNumber t → HasSmallRoots (face t) → HasSmallRadicands t
small_number t k h = below (value t) (value_below t k (with_minus_small (has_minus t) (unsigned_face t) h))
