-- The order of packed monomials is that of their trees, with any names.
use Rattle.expansions.proofs.Shared.{◌≡◌, ℕ, zero, suc, ◌+◌, ◌/◌, ◌%◌, ◌<◌, List, [], ◌∷◌, length, get_or, drop, Bool, true, false, inl, inr, refl, sym, ap, ◌∙◌, arith, div-div-eq-div-mul}
use Rattle.expansions.proofs.Shared.{bytes_high_first, ◌==◌, not, reverse, ◌⊎◌, length-reverse, tree_cmp_total, trees_cmp_turned, code_of, monomial_of, unpacked, Ordering, Less, Equal, Greater}
use Rattle.expansions.proofs.Shared.{nat_cmp, slice_cmp, ordering_index, ordering_then, ordering_reverse, nat_list_cmp_total, tree_cmp, trees_cmp, tree_cmp_refl, tree_cmp_same, root_code, root_kind}
use Rattle.expansions.proofs.Shared.{Trees, more, symbol, factor_tree, factor_trees, monomial_cmp, monomial_tree, Monomial, factor, AreNames, AreOf, AreZero, IsBelowNames, factors_of, behind_cmp}
use Rattle.expansions.proofs.Shared.{eight_names, exponents_cmp, first_exponent, kind_with, packed_cmp, packed_term_cmp, Term, drop-cons, cases_eq, IsTotalOrder, on_total, named}
use Rattle.expansions.proofs.FactorOrders.{factors_cmp, monomials_cmp}
use Rattle.calc_terms.specs.declared.kind.Kind.TheVariants as kind

-- ---- two factors

pub above : (x y : List ℕ) → slice_cmp nat_cmp x y ≡ Less → slice_cmp nat_cmp y x ≡ Greater
above x y l = nat_list_cmp_total.antisymm y x ∙ ap ordering_reverse l

-- of the second name, which is above the first
later_cmp : (x y : List ℕ) (e f : ℕ) → slice_cmp nat_cmp x y ≡ Less → tree_cmp (factor_tree (factor y (suc e))) (factor_tree (factor x (suc f))) ≡ behind_cmp (suc e) (suc f)
later_cmp x y e f l = let a = above x y l in grind (arith, factors_cmp)

name_itself : (x : List ℕ) → slice_cmp nat_cmp x x ≡ Equal
name_itself x = tree_cmp_refl (symbol x)

by_names : (x : List ℕ) (e f : ℕ) → slice_cmp nat_cmp x x ≡ Equal
    → ordering_then (nat_cmp (root_code (factor_tree (factor x (suc e)))) (root_code (factor_tree (factor x (suc f))))) (ordering_then (slice_cmp nat_cmp x x) (nat_cmp (suc e) (suc f))) ≡ nat_cmp (suc e) (suc f)
by_names x zero zero h = ap (λ (o : Ordering). ordering_then o Equal) h
by_names x zero (suc f) h = grind arith
by_names x (suc e) zero h = grind arith
by_names x (suc e) (suc f) h = grind arith

-- of one name
same_cmp : (x : List ℕ) (e f : ℕ) → tree_cmp (factor_tree (factor x (suc e))) (factor_tree (factor x (suc f))) ≡ nat_cmp (suc e) (suc f)
same_cmp x e f = factors_cmp (factor x (suc e)) (factor x (suc f)) ∙ by_names x e f (name_itself x)

-- it decides
behind_then : (e f : ℕ) (o : Ordering) → ordering_then (behind_cmp e f) o ≡ behind_cmp e f
behind_then e f o = grind arith

other_then : (e f : ℕ) (o : Ordering) → (e ≡ f → ⊥) → ordering_then (nat_cmp e f) o ≡ nat_cmp e f
other_then e f o h = grind arith

-- ---- their exponents

abbrev IsWithoutFactor : List (List ℕ) → List ℕ → Type 0
IsWithoutFactor ns es = (first_exponent es ≡ 0) × (factors_of ns es ≡ [])

record StartsAbove (x : List ℕ) (ns : List (List ℕ)) (es : List ℕ) : Type 0 where
  name : List ℕ
  less : ℕ
  rest : Monomial
  above : slice_cmp nat_cmp x name ≡ Less
  first : first_exponent es ≡ suc less
  factors : factors_of ns es ≡ factor name (suc less) ∷ rest

zero_first : (es : List ℕ) → AreZero es → first_exponent es ≡ 0
zero_first [] o = refl
zero_first (zero ∷ es) o = zero_first es o.1
zero_first (suc e ∷ es) o = absurd (omega (arith, o.0))

first_factor : (x : List ℕ) (ns : List (List ℕ)) (es : List ℕ) → IsBelowNames x ns → AreOf ns es → IsWithoutFactor ns es ⊎ StartsAbove x ns es
first_factor x [] es b o = inl (zero_first es o, refl)
first_factor x (y ∷ ns) [] b o = inl (refl, refl)
first_factor x (y ∷ ns) (zero ∷ es) b o = elim (first_factor x ns es b.1 o) [
  | inl n ↦ inl (n.0, n.1)
  | inr s ↦ inr (record { name = s.name; less = s.less; rest = s.rest; above = s.above; first = s.first; factors = s.factors })
]
first_factor x (y ∷ ns) (suc e ∷ es) b o = inr (record { name = y; less = e; rest = factors_of ns es; above = b.0; first = refl; factors = refl })

behind : (x : List ℕ) (ns : List (List ℕ)) (es : List ℕ) (f : ℕ) (us : Trees) → IsBelowNames x ns → AreOf ns es
    → trees_cmp (factor_trees (factors_of ns es)) (more (factor_tree (factor x (suc f))) us) ≡ behind_cmp (first_exponent es) (suc f)
behind x ns es f us b o = by (first_factor x ns es b o)
  where
    later : Trees
    later = more (factor_tree (factor x (suc f))) us

    by : IsWithoutFactor ns es ⊎ StartsAbove x ns es → trees_cmp (factor_trees (factors_of ns es)) later ≡ behind_cmp (first_exponent es) (suc f)
    by (inl n) = ap (λ (m : Monomial). trees_cmp (factor_trees m) later) n.1 ∙ sym (ap (λ (e : ℕ). behind_cmp e (suc f)) n.0)
    by (inr s) =
        ap (λ (m : Monomial). trees_cmp (factor_trees m) later) s.factors
        ∙ ap (λ (p : Ordering). ordering_then p (trees_cmp (factor_trees s.rest) us)) (later_cmp x s.name s.less f s.above)
        ∙ behind_then (suc s.less) (suc f) (trees_cmp (factor_trees s.rest) us)
        ∙ sym (ap (λ (e : ℕ). behind_cmp e (suc f)) s.first)

zeros_cmp : (es fs : List ℕ) → AreZero es → AreZero fs → exponents_cmp es fs ≡ Equal
zeros_cmp [] fs o p = refl
zeros_cmp (e ∷ es) [] o p = refl
zeros_cmp (zero ∷ es) (zero ∷ fs) o p = zeros_cmp es fs o.1 p.1
zeros_cmp (suc e ∷ es) (f ∷ fs) o p = absurd (omega (arith, o.0))
zeros_cmp (zero ∷ es) (suc f ∷ fs) o p = absurd (omega (arith, p.0))

left_none : (es fs : List ℕ) (f : ℕ) → exponents_cmp (0 ∷ es) (suc f ∷ fs) ≡ behind_cmp (first_exponent es) (suc f)
left_none es fs f = grind arith

right_none : (es fs : List ℕ) (e : ℕ) → exponents_cmp (suc e ∷ es) (0 ∷ fs) ≡ ordering_reverse (behind_cmp (first_exponent fs) (suc e))
right_none es fs e = grind arith

both_same : (es fs : List ℕ) (e f : ℕ) → e ≡ f → exponents_cmp (e ∷ es) (f ∷ fs) ≡ exponents_cmp es fs
both_same es fs e f h = grind arith

both_differ : (es fs : List ℕ) (e f : ℕ) → (suc e ≡ suc f → ⊥) → exponents_cmp (suc e ∷ es) (suc f ∷ fs) ≡ nat_cmp (suc e) (suc f)
both_differ es fs e f h = grind arith

differ_not : (es fs : List ℕ) (e f : ℕ) → (e ≡ f → ⊥) → exponents_cmp (e ∷ es) (f ∷ fs) ≡ Equal → ⊥
differ_not es fs e f n h = grind arith

two_same : (x : List ℕ) (e f : ℕ) (es fs : List ℕ) (o : Ordering) → e ≡ f → o ≡ exponents_cmp es fs
    → ordering_then (tree_cmp (factor_tree (factor x (suc e))) (factor_tree (factor x (suc f)))) o ≡ exponents_cmp (suc e ∷ es) (suc f ∷ fs)
two_same x e f es fs o h go =
    ap (λ (p : Ordering). ordering_then p o) (tree_cmp_same (factor_tree (factor x (suc e))) (factor_tree (factor x (suc f))) (ap (λ (k : ℕ). factor_tree (factor x (suc k))) h))
    ∙ go ∙ sym (both_same es fs (suc e) (suc f) (ap suc h))

two_differ : (x : List ℕ) (e f : ℕ) (es fs : List ℕ) (o : Ordering) → (suc e ≡ suc f → ⊥)
    → ordering_then (tree_cmp (factor_tree (factor x (suc e))) (factor_tree (factor x (suc f)))) o ≡ exponents_cmp (suc e ∷ es) (suc f ∷ fs)
two_differ x e f es fs o h =
    ap (λ (p : Ordering). ordering_then p o) (same_cmp x e f) ∙ other_then (suc e) (suc f) o h ∙ sym (both_differ es fs e f h)

pub factors_named : (ns : List (List ℕ)) (es fs : List ℕ) → AreNames ns → AreOf ns es → AreOf ns fs → length es ≡ length fs
    → trees_cmp (factor_trees (factors_of ns es)) (factor_trees (factors_of ns fs)) ≡ exponents_cmp es fs
factors_named [] es fs h o p l = sym (zeros_cmp es fs o p)
factors_named (x ∷ ns) [] [] h o p l = refl
factors_named (x ∷ ns) [] (f ∷ fs) h o p l = absurd (omega (arith, l))
factors_named (x ∷ ns) (e ∷ es) [] h o p l = absurd (omega (arith, l))
factors_named (x ∷ ns) (zero ∷ es) (zero ∷ fs) h o p l = factors_named ns es fs h.1 o p (omega (arith, l))
factors_named (x ∷ ns) (zero ∷ es) (suc f ∷ fs) h o p l = behind x ns es f (factor_trees (factors_of ns fs)) h.0 o ∙ sym (left_none es fs f)
factors_named (x ∷ ns) (suc e ∷ es) (zero ∷ fs) h o p l =
    trees_cmp_turned (factor_trees (factor x (suc e) ∷ factors_of ns es)) (factor_trees (factors_of ns fs)) ∙ ap ordering_reverse (behind x ns fs e (factor_trees (factors_of ns es)) h.0 p)
    ∙ sym (right_none es fs e)
factors_named (x ∷ ns) (suc e ∷ es) (suc f ∷ fs) h o p l =
    let rest = trees_cmp (factor_trees (factors_of ns es)) (factor_trees (factors_of ns fs)) in
    let go : rest ≡ exponents_cmp es fs = factors_named ns es fs h.1 o p (omega (arith, l)) in
    elim (cases_eq e f) [
      | inl q ↦ two_same x e f es fs rest q go
      | inr n ↦ two_differ x e f es fs rest (λ q. n (omega (arith, q)))
    ]

-- ---- kinds

zeros_kind : (d : ℕ) (es : List ℕ) → AreZero es → kind_with (suc d) es ≡ kind_with (suc d) []
zeros_kind d [] o = refl
zeros_kind d (zero ∷ es) o = zeros_kind d es o.1
zeros_kind d (suc e ∷ es) o = absurd (omega (arith, o.0))

zeros_none : (es : List ℕ) → AreZero es → kind_with 0 es ≡ kind.Num
zeros_none [] o = refl
zeros_none (zero ∷ es) o = zeros_none es o.1
zeros_none (suc e ∷ es) o = absurd (omega (arith, o.0))

only_kind : (x : List ℕ) (d : ℕ) → kind_with (suc d) [] ≡ root_kind (factor_tree (factor x (suc d)))
only_kind x d = grind arith

kind_behind : (ns : List (List ℕ)) (es : List ℕ) (x : List ℕ) (d : ℕ) → AreOf ns es → kind_with (suc d) es ≡ root_kind (monomial_tree (factor x (suc d) ∷ factors_of ns es))
kind_behind [] es x d o = zeros_kind d es o ∙ only_kind x d
kind_behind (y ∷ ns) [] x d o = only_kind x d
kind_behind (y ∷ ns) (zero ∷ es) x d o = kind_behind ns es x d o
kind_behind (y ∷ ns) (suc e ∷ es) x d o = refl

pub kind_named : (ns : List (List ℕ)) (es : List ℕ) → AreOf ns es → kind_with 0 es ≡ root_kind (monomial_tree (factors_of ns es))
kind_named [] es o = zeros_none es o
kind_named (x ∷ ns) [] o = refl
kind_named (x ∷ ns) (zero ∷ es) o = kind_named ns es o
kind_named (x ∷ ns) (suc e ∷ es) o = kind_behind ns es x e o

-- ---- packed monomials

kinds_cmp : (ns : List (List ℕ)) (es fs : List ℕ) → AreOf ns es → AreOf ns fs
    → nat_cmp (root_code (monomial_tree (factors_of ns es))) (root_code (monomial_tree (factors_of ns fs))) ≡ nat_cmp (code_of (kind_with 0 es)) (code_of (kind_with 0 fs))
kinds_cmp ns es fs o p = λ i. nat_cmp (code_of (sym (kind_named ns es o) i)) (code_of (sym (kind_named ns fs p) i))

-- by kinds, and then by factors
pub exponents_order : List ℕ → List ℕ → Ordering
exponents_order es fs = ordering_then (nat_cmp (code_of (kind_with 0 es)) (code_of (kind_with 0 fs))) (exponents_cmp es fs)

pub order_named : (ns : List (List ℕ)) (es fs : List ℕ) → AreNames ns → AreOf ns es → AreOf ns fs → length es ≡ length fs → monomial_cmp (factors_of ns es) (factors_of ns fs) ≡ exponents_order es fs
unfolding exponents_order
order_named ns es fs h o p l =
    monomials_cmp (factors_of ns es) (factors_of ns fs) ∙ (λ i. ordering_then (kinds_cmp ns es fs o p i) (factors_named ns es fs h o p l i))

pub kinds_decide : (es fs : List ℕ) (o : Ordering) (b : Bool) → o ≡ nat_cmp (code_of (kind_with 0 es)) (code_of (kind_with 0 fs)) → b ≡ not (ordering_index o == 1) → b ≡ true
    → o ≡ exponents_order es fs
unfolding exponents_order
kinds_decide es fs o b h c e = grind arith

pub factors_decide : (es fs : List ℕ) (o : Ordering) (b : Bool) → o ≡ nat_cmp (code_of (kind_with 0 es)) (code_of (kind_with 0 fs)) → b ≡ not (ordering_index o == 1) → b ≡ false
    → exponents_cmp es fs ≡ exponents_order es fs
unfolding exponents_order
factors_decide es fs o b h c e = grind arith

pub unpacked_length : (n k : ℕ) → length (unpacked n k) ≡ n
unpacked_length zero k = refl
unpacked_length (suc n) k = ap suc (unpacked_length n (k / 256))

pub packed_length : (k : ℕ) → length (reverse (monomial_of k)) ≡ 8
unfolding monomial_of
packed_length k = length-reverse (unpacked 8 k) ∙ unpacked_length 8 k

-- only of the same exponents
exponents_equal : (es fs : List ℕ) → length es ≡ length fs → exponents_cmp es fs ≡ Equal → es ≡ fs
exponents_equal [] [] l e = refl
exponents_equal [] (f ∷ fs) l e = absurd (omega (arith, l))
exponents_equal (e ∷ es) [] l h = absurd (omega (arith, l))
exponents_equal (e ∷ es) (f ∷ fs) l h = elim (cases_eq e f) [
  | inl q ↦ λ i. q i ∷ exponents_equal es fs (omega (arith, l)) (sym (both_same es fs e f q) ∙ h) i
  | inr n ↦ absurd (differ_not es fs e f n h)
]

second_equal : (a b : Ordering) → ordering_then a b ≡ Equal → b ≡ Equal
second_equal a b e = grind arith

pub order_equal : (es fs : List ℕ) → length es ≡ length fs → exponents_order es fs ≡ Equal → es ≡ fs
unfolding exponents_order
order_equal es fs l e = exponents_equal es fs l (second_equal (nat_cmp (code_of (kind_with 0 es)) (code_of (kind_with 0 fs))) (exponents_cmp es fs) e)

pub eight_of : (es : List ℕ) → length es ≡ 8 → AreOf eight_names es
eight_of (a ∷ b ∷ c ∷ d ∷ e ∷ f ∷ g ∷ h ∷ []) l = tt
eight_of _ l = absurd (omega (arith, l))

pub eight_rise : AreNames eight_names
eight_rise = ((refl, (refl, (refl, (refl, (refl, (refl, (refl, tt))))))), ((refl, (refl, (refl, (refl, (refl, (refl, tt)))))), ((refl, (refl, (refl, (refl, (refl, tt))))), ((refl, (refl, (refl, (refl, tt)))), ((refl, (refl, (refl, tt))), ((refl, (refl, tt)), ((refl, tt), (tt, tt))))))))

pub packed_order : (k l : ℕ) → packed_cmp k l ≡ exponents_order (reverse (monomial_of k)) (reverse (monomial_of l))
unfolding packed_cmp
packed_order k l =
    order_named eight_names (reverse (monomial_of k)) (reverse (monomial_of l)) eight_rise (eight_of _ (packed_length k)) (eight_of _ (packed_length l)) (packed_length k ∙ sym (packed_length l))

-- with any names
pub packed_named : (ns : List (List ℕ)) (k l : ℕ) → AreNames ns → AreOf ns (reverse (monomial_of k)) → AreOf ns (reverse (monomial_of l))
    → packed_cmp k l ≡ monomial_cmp (named ns (monomial_of k)) (named ns (monomial_of l))
packed_named ns k l h o p = packed_order k l ∙ sym (order_named ns (reverse (monomial_of k)) (reverse (monomial_of l)) h o p (packed_length k ∙ sym (packed_length l)))

pub packed_total : IsTotalOrder packed_cmp
unfolding packed_cmp
packed_total = on_total (λ (k : ℕ). monomial_tree (named eight_names (monomial_of k))) tree_cmp_total

-- ---- as bytes

-- the first name's exponent stands in the highest byte
pub be_bytes : (k : ℕ) → bytes_high_first 8 k ≡ reverse (monomial_of k)
unfolding monomial_of
be_bytes k =
    let q2 : k / 256 / 256 ≡ k / 65536 = div-div-eq-div-mul k 256 256 in
    let q3 : k / 256 / 256 / 256 ≡ k / 16777216 = ap (λ (n : ℕ). n / 256) q2 ∙ div-div-eq-div-mul k 65536 256 in
    let q4 : k / 256 / 256 / 256 / 256 ≡ k / 4294967296 = ap (λ (n : ℕ). n / 256) q3 ∙ div-div-eq-div-mul k 16777216 256 in
    let q5 : k / 256 / 256 / 256 / 256 / 256 ≡ k / 1099511627776 = ap (λ (n : ℕ). n / 256) q4 ∙ div-div-eq-div-mul k 4294967296 256 in
    let q6 : k / 256 / 256 / 256 / 256 / 256 / 256 ≡ k / 281474976710656 = ap (λ (n : ℕ). n / 256) q5 ∙ div-div-eq-div-mul k 1099511627776 256 in
    let q7 : k / 256 / 256 / 256 / 256 / 256 / 256 / 256 ≡ k / 72057594037927936 = ap (λ (n : ℕ). n / 256) q6 ∙ div-div-eq-div-mul k 281474976710656 256 in
    λ i. sym q7 i % 256 ∷ sym q6 i % 256 ∷ sym q5 i % 256 ∷ sym q4 i % 256 ∷ sym q3 i % 256 ∷ sym q2 i % 256 ∷ k / 256 % 256 ∷ k % 256 ∷ []

-- ---- from a place on

at_place : (es : List ℕ) (i : ℕ) (d : ℕ) → i < length es → drop i es ≡ get_or es i d ∷ drop (i + 1) es
at_place es i d l = drop-cons es i d l ∙ ap (λ (n : ℕ). get_or es i d ∷ drop n es) (let e : suc i ≡ i + 1 = omega arith in e)

first_none : (d : ℕ) (e : ℕ) (es : List ℕ) → e ≡ 0 → kind_with d (e ∷ es) ≡ kind_with d es
first_none zero e es h = ap (λ (x : ℕ). kind_with 0 (x ∷ es)) h
first_none (suc d) e es h = ap (λ (x : ℕ). kind_with (suc d) (x ∷ es)) h

first_some : (e : ℕ) (es : List ℕ) → (e ≡ 0 → ⊥) → kind_with 0 (e ∷ es) ≡ kind_with e es
first_some zero es h = absurd (h refl)
first_some (suc e) es h = refl

-- the next exponent is 0, or the first other one
pub next_none : (d : ℕ) (es : List ℕ) (i : ℕ) → i < length es → get_or es i 0 ≡ 0 → kind_with d (drop i es) ≡ kind_with d (drop (i + 1) es)
next_none d es i l h = ap (kind_with d) (at_place es i 0 l) ∙ first_none d (get_or es i 0) (drop (i + 1) es) h

pub next_some : (d : ℕ) (es : List ℕ) (i : ℕ) → i < length es → d ≡ 0 → (get_or es i 0 ≡ 0 → ⊥) → kind_with d (drop i es) ≡ kind_with (get_or es i 0) (drop (i + 1) es)
next_some d es i l z h = ap (λ (n : ℕ). kind_with n (drop i es)) z ∙ ap (kind_with 0) (at_place es i 0 l) ∙ first_some (get_or es i 0) (drop (i + 1) es) h

pub packed_term_total : IsTotalOrder packed_term_cmp
packed_term_total = on_total (λ (t : Term). t.monomial) packed_total
