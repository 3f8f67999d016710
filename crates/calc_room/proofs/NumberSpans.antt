-- What is spanned of sums, products, powers and inverses of Numbers.
use Rattle.calc_room.proofs.Shared.{ℤ, pos, negsuc, ◌≡◌, ◌≢◌, ℕ, zero, suc, ◌*◌, ◌≤◌, ◌<◌, inl, inr, List, [], ◌∷◌, ◌++◌, map, length, Bool, true, false, refl, sym, ap, ◌∙◌, subst, arith, Fraction}
use Rattle.calc_room.proofs.Shared.{lowest, plus, zero_fraction, mul_pos, zero_plus, Tree, num, add, root, Trees, none, more, IsNumber, IsTerm, AreTerms, Rises, value, classes, term_of, terms_of}
use Rattle.calc_room.proofs.Shared.{natural_of, are_alike, class_coefficient, Same, Inverts, square_root, Term, Surd, surd_scale, term_times, surd_times, surd_power, surd_of, term, Inverts-not_zero}
use Rattle.calc_room.proofs.Shared.{Inverts-one, inverse_of_term, term_has_inverse, inverse_of_terms, terms_have_inverse, AreProper, first_coefficient, value_proper, value_rises, AsNumber, as_number}
use Rattle.calc_room.proofs.Shared.{Alike, alike_from, alike_true, Same-Agree, share_apart, Same-refl, Means, IsRootOf, KeepsMeanings, one_meaning, number_means, Agree-Same, IsSpanned, Spans}
use Rattle.calc_room.proofs.{Shared.{SpansRoot, SpansTree, SpansTrees, chosen_product}, SpanLaws.{one_spanned, spanned_alike, spanned_times}}
use Rattle.calc_terms.proofs.SmallLaws.{factor_positive as right_factor}

-- ---- lists of terms

pub spans_append : (gs : List ℕ) (v w : Surd) → Spans gs v → Spans gs w → Spans gs (v ++ w)
spans_append gs [] w h k = k
spans_append gs (t ∷ v) w (h, hs) k = (h, spans_append gs v w hs k)

pub spans_scale : (gs : List ℕ) (c : Fraction) (v : Surd) → Spans gs v → Spans gs (surd_scale c v)
spans_scale gs c [] h = tt
spans_scale gs c (t ∷ v) (h, hs) = (h, spans_scale gs c v hs)

pub spans_row : (gs : List ℕ) (t : Term) (w : Surd) → IsSpanned gs t.radicand → Spans gs w → Spans gs (map (term_times t) w)
spans_row gs t [] h k = tt
spans_row gs t (u ∷ w) h (k, ks) = (spanned_times gs t.radicand u.radicand h k, spans_row gs t w h ks)

pub spans_times : (gs : List ℕ) (v w : Surd) → Spans gs v → Spans gs w → Spans gs (surd_times v w)
spans_times gs [] w h k = tt
spans_times gs (t ∷ v) w (h, hs) k = spans_append gs (map (term_times t) w) (surd_times v w) (spans_row gs t w h k) (spans_times gs v w hs k)

pub spans_power : (gs : List ℕ) (v : Surd) (n : ℕ) → Spans gs v → Spans gs (surd_power v n)
spans_power gs v zero h = (one_spanned gs, tt)
spans_power gs v (suc zero) h = h
spans_power gs v (suc (suc n)) h = spans_times gs v (surd_power v (suc n)) h (spans_power gs v (suc n) h)

-- ---- roots

square_times : (r s t : ℕ) → r ≡ s * s * t → (s * t) * (s * t) ≡ r * t
square_times r s t e = omega (arith, ap (λ n. n * t) e)

factors : (s t r : ℕ) → r ≡ s * s * t → 0 < r → (0 < s) × (0 < t)
factors s t r e h = grind arith

-- what is left under the root, once a square is taken out
pub left_alike : (r s t : ℕ) → 0 < r → r ≡ s * s * t → are_alike r t ≡ true
left_alike r s t h e =
    let (p, q) = factors s t r e h in
    alike_true r t (s * t) (record { square = square_times r s t e; positive = mul_pos s t p q })

pub spanned_itself : (r : ℕ) → 0 < r → IsSpanned (r ∷ []) r
spanned_itself r h = record { chosen = true ∷ []; alike = alike_true (r * 1) r r (record { square = omega arith; positive = h }) }

pub spanned_pos : (gs : List ℕ) (r : ℕ) → IsSpanned gs r → 0 < r
spanned_pos gs r h =
    let n : ℕ = chosen_product gs h.chosen in
    let a : Alike n r (square_root (n * r)) = alike_from n r h.alike in
    right_factor n r (subst (λ x. 0 < x) a.square (mul_pos (square_root (n * r)) (square_root (n * r)) a.positive a.positive))

pub spanned_left : (gs : List ℕ) (r s t : ℕ) → IsSpanned gs r → r ≡ s * s * t → IsSpanned gs t
spanned_left gs r s t h e = spanned_alike gs r t h (left_alike r s t (spanned_pos gs r h) e)

-- ---- lists that are the same

-- a coefficient other than 0 comes from a term of the class
found : (gs : List ℕ) (w : Surd) (s : ℕ) → Spans gs w → class_coefficient w s ≢ zero_fraction → IsSpanned gs s
found gs [] s h n = absurd (n refl)
found gs (t ∷ w) s (h, hs) n = by (λ k. found gs w s hs k) (are_alike t.radicand s) refl
  where
    by : ((class_coefficient w s ≢ zero_fraction) → IsSpanned gs s) → (b : Bool) → are_alike t.radicand s ≡ b → IsSpanned gs s
    by go true e = spanned_alike gs t.radicand s h e
    by go false e = go (λ z. n ((λ i. plus (share_apart t.coefficient t.radicand s e i) (z i)) ∙ zero_plus zero_fraction))

spans_coefficients : (gs : List ℕ) (v : Surd) → AreProper v → Rises v → ((s : ℕ) → class_coefficient v s ≢ zero_fraction → IsSpanned gs s) → Spans gs v
spans_coefficients gs [] p r h = tt
spans_coefficients gs (t ∷ v) (p, ps) (r, rs) h = (first, spans_coefficients gs v ps rs behind)
  where
    first : IsSpanned gs t.radicand
    first = h t.radicand (λ z. p.not_zero (sym (first_coefficient t v p r) ∙ z))

    behind : (s : ℕ) → class_coefficient v s ≢ zero_fraction → IsSpanned gs s
    behind s n = by (are_alike t.radicand s) refl
      where
        by : (b : Bool) → are_alike t.radicand s ≡ b → IsSpanned gs s
        by true e = spanned_alike gs t.radicand s first e
        by false e = h s (λ z. n (sym (zero_plus (class_coefficient v s)) ∙ ap (λ x. plus x (class_coefficient v s)) (sym (share_apart t.coefficient t.radicand s e)) ∙ z))

-- what spans a list spans terms that rise and are the same
pub spans_same_terms : (gs : List ℕ) (v w : Surd) → AreProper v → Rises v → Same v w → Spans gs w → Spans gs v
spans_same_terms gs v w p r e k = spans_coefficients gs v p r (λ s n. found gs w s k (λ z. n ((Same-Agree e).at s ∙ z)))

-- and a Number
pub spans_same : (gs : List ℕ) (t : Tree) (w : Surd) → IsNumber t → Same (value t) w → Spans gs w → Spans gs (value t)
spans_same gs t w h e k = spans_same_terms gs (value t) w (value_proper t h) (value_rises t h) e k

-- ---- inverses

short_inverse : (gs : List ℕ) (y w : Surd) → AreProper w → Rises w → length w ≤ 2 → Inverts y w → Spans gs w → (z : Surd) × Same y z × Spans gs z
short_inverse gs y [] p r l i k = absurd (Inverts-not_zero y [] i (Same-refl []))
short_inverse gs y (t ∷ []) (p, ps) r l i (k, ks) =
    (inverse_of_term t.coefficient t.radicand, Inverts-one y _ (t ∷ []) i (term_has_inverse t.coefficient t.radicand p.not_zero p.positive), (k, tt))
short_inverse gs y (t ∷ u ∷ []) (p, (q, ps)) (r, rs) l i (k, (m, ks)) = (
  inverse_of_terms t.coefficient t.radicand u.coefficient u.radicand,
  Inverts-one y _ (t ∷ u ∷ []) i (terms_have_inverse t.coefficient u.coefficient t.radicand u.radicand p.not_zero p.positive q.positive r.1),
  (k, (m, tt)),
)
short_inverse gs y (t ∷ u ∷ x ∷ w) p r l i k = absurd (omega arith)

-- what spans a Number of one class or two spans its inverse
pub spans_inverse : (gs : List ℕ) (t u : Tree) → IsNumber t → IsNumber u → classes t ≤ 2 → Inverts (value u) (value t) → Spans gs (value t) → Spans gs (value u)
spans_inverse gs t u h k l i s = grind (arith, short_inverse, value_proper, value_rises, spans_same)

-- ---- Numbers as trees

by_one : (gs : List ℕ) (n d : ℕ) → d ≡ 1 → IsSpanned gs (n * d) → IsSpanned gs n
by_one gs n d e h = grind arith

pub term_spanned : (gs : List ℕ) (t : Tree) → IsTerm t → SpansTree gs t → IsSpanned gs (term_of t).radicand
term_spanned gs t h s = grind (arith, one_spanned, by_one)

pub terms_spanned : (gs : List ℕ) (ts : Trees) → AreTerms ts → SpansTrees gs ts → Spans gs (terms_of ts)
terms_spanned gs none h s = tt
terms_spanned gs (more t ts) (h, hs) (s, ss) = (term_spanned gs t h s, terms_spanned gs ts hs ss)

term_spans : (gs : List ℕ) (t : Tree) → IsTerm t → IsSpanned gs (term_of t).radicand → SpansTree gs t
term_spans gs t h s = grind arith

terms_span : (gs : List ℕ) (ts : Trees) → AreTerms ts → Spans gs (terms_of ts) → SpansTrees gs ts
terms_span gs none h s = tt
terms_span gs (more t ts) (h, hs) (s, ss) = (term_spans gs t h s, terms_span gs ts hs ss)

value_by_form : (gs : List ℕ) (t : Tree) → AsNumber t → SpansTree gs t → Spans gs (value t)
value_by_form gs t (inl a) s = subst (Spans gs) (sym a.value_is) tt
value_by_form gs t (inr (inl a)) s = subst (Spans gs) (sym a.value_is) (term_spanned gs t a.one s, tt)
value_by_form gs t (inr (inr a)) s =
    let k : SpansTree gs (add a.ts) = subst (SpansTree gs) a.is s in
    subst (Spans gs) (sym a.value_is) (terms_spanned gs a.ts a.are k.1)

-- what spans a Number as a tree spans its value
pub value_spanned : (gs : List ℕ) (t : Tree) → IsNumber t → SpansTree gs t → Spans gs (value t)
value_spanned gs t h s = value_by_form gs t (as_number t h) s

tree_by_form : (gs : List ℕ) (t : Tree) → AsNumber t → Spans gs (value t) → SpansTree gs t
tree_by_form gs t h s = grind (arith, term_spans, terms_span)

-- and the other way round
pub tree_spanned : (gs : List ℕ) (t : Tree) → IsNumber t → Spans gs (value t) → SpansTree gs t
tree_spanned gs t h s = tree_by_form gs t (as_number t h) s

-- ---- answers of calls on Numbers

pub sum_spanned : (gs : List ℕ) (a b t : Tree) → IsNumber a → IsNumber b → IsNumber t → Same (value t) (value a ++ value b) → SpansTree gs a → SpansTree gs b → SpansTree gs t
sum_spanned gs a b t h k l e s u = tree_spanned gs t l (spans_same gs t _ l e (spans_append gs (value a) (value b) (value_spanned gs a h s) (value_spanned gs b k u)))

pub product_spanned : (gs : List ℕ) (a b t : Tree) → IsNumber a → IsNumber b → IsNumber t → Same (value t) (surd_times (value a) (value b)) → SpansTree gs a → SpansTree gs b → SpansTree gs t
product_spanned gs a b t h k l e s u = tree_spanned gs t l (spans_same gs t _ l e (spans_times gs (value a) (value b) (value_spanned gs a h s) (value_spanned gs b k u)))

pub power_spanned : (gs : List ℕ) (a t : Tree) (n : ℕ) → IsNumber a → IsNumber t → Same (value t) (surd_power (value a) n) → SpansTree gs a → SpansTree gs t
power_spanned gs a t n h l e s = tree_spanned gs t l (spans_same gs t _ l e (spans_power gs (value a) n (value_spanned gs a h s)))

pub inverse_spanned : (gs : List ℕ) (a t : Tree) → IsNumber a → IsNumber t → classes a ≤ 2 → Inverts (value t) (value a) → SpansTree gs a → SpansTree gs t
inverse_spanned gs a t h l c i s = tree_spanned gs t l (spans_inverse gs a t h l c i (value_spanned gs a h s))

-- ---- the root of a rational

-- p/q has the root √(p * q)/q, which is one term
root_of_rational : (gs : List ℕ) (q : Fraction) → SpansRoot gs (root (num q)) → (v : Surd) × Means (root (num q)) [] v × Spans gs v
root_of_rational gs q s = by q.num refl s
  where
    by : (z : ℤ) → q.num ≡ z → IsSpanned gs (natural_of z * q.den) → (v : Surd) × Means (root (num q)) [] v × Spans gs v
    by (pos zero) e h = absurd (zero_times q.den (spanned_pos gs (0 * q.den) h))
      where
        zero_times : (d : ℕ) → 0 < 0 * d → ⊥
        zero_times d l = omega arith
    by (pos (suc p)) e h =
        let v : Surd = term (lowest (pos 1) q.den) (suc p * q.den) ∷ [] in
        (v, (surd_of q, Same-refl (surd_of q), (q, Same-refl (surd_of q), subst (λ z. IsRootOf z q.den v) (sym e) (Same-refl v))), (h, tt))
    by (negsuc p) e h = absurd (zero_times q.den (spanned_pos gs (0 * q.den) h))
      where
        zero_times : (d : ℕ) → 0 < 0 * d → ⊥
        zero_times d l = omega arith

pub root_spanned : (gs : List ℕ) (q : Fraction) (t : Tree) → IsNumber t → KeepsMeanings (root (num q)) t → SpansTree gs (root (num q)) → SpansTree gs t
root_spanned gs q t h k s =
    let (v, m, u) = root_of_rational gs q s.0 in
    let e : Same (value t) v = Agree-Same (one_meaning [] tt t (value t) v (number_means t [] h) (k.means [] tt v m)) in
    tree_spanned gs t h (spans_same gs t v h e u)
