-- Numbers with the same value, all radicands below 10^12, are one tree.
use Rattle.calc_algebra.proofs.Shared.{add, subst, ◌≡◌, ℕ, ◌<◌, ◌^◌, ◌⊎◌, inl, inr, ◌∷◌, refl, sym, ap, ◌∙◌, arith, Contains, ⊤, false_from_ne_true, Contains-append_right, zero_plus, []}
use Rattle.calc_algebra.proofs.Shared.{plus_negative, Fraction, plus, negative, zero_fraction, plus_comm, plus_assoc, IsNumber, IsTerm, AreTerms, IsBelowAll, Rises, value, term_of}
use Rattle.calc_algebra.proofs.{Shared.{terms_of, term_share, class_coefficient, radicands, Same, Term, Surd, term, Tree, Trees, none, more}, NumberShapes.{AsNumber, AsTerm, as_term, as_number}}
use Rattle.calc_algebra.proofs.{NumberShapes.{one_number_of_value}, NumberClasses.{IsProper, term_proper, first_coefficient}, CleanLaws.{IsSquareFree, clean_square_free, one_square_free}}
use Rattle.calc_algebra.proofs.{CleanLaws.{alike_square_free}, SquareClassLaws.{Same-Agree}, SurdLaws.{Agree, Agree-sym}, TermLaws.{share_apart}}

-- ---- lists of square-free terms

-- a term other than 0 whose radicand is square-free
pub record IsSimplest (t : Term) : Type 0 where
  pub proper : IsProper t
  pub square_free : IsSquareFree t.radicand

abbrev pub AreSimplest : Surd → Type 0
AreSimplest [] = ⊤
AreSimplest (t ∷ v) = IsSimplest t × AreSimplest v

abbrev IsBelow : ℕ → Surd → Type 0
IsBelow r [] = ⊤
IsBelow r (u ∷ v) = (r < u.radicand) × IsBelow r v

below_first : (r : ℕ) (t : Term) (v : Surd) → r < t.radicand → IsBelowAll t v → IsBelow r v
below_first r t [] h b = tt
below_first r t (u ∷ v) h (a, b, c) = (omega arith, below_first r t v h c)

-- a term gives nothing to a smaller square-free radicand
share_below : (r : ℕ) (t : Term) → IsSquareFree r → IsSimplest t → r < t.radicand → term_share t r ≡ zero_fraction
share_below r t f s h = grind (arith, share_apart, false_from_ne_true, alike_square_free)

none_below : (r : ℕ) (v : Surd) → IsSquareFree r → AreSimplest v → IsBelow r v → class_coefficient v r ≡ zero_fraction
none_below r [] f s h = refl
none_below r (t ∷ v) f (s, ss) (h, hh) = (λ i. plus (share_below r t f s h i) (none_below r v f ss hh i)) ∙ zero_plus zero_fraction

plus_cancel : (a b c : Fraction) → plus a b ≡ plus a c → b ≡ c
plus_cancel a b c e = sym (back b) ∙ ap (plus (negative a)) e ∙ back c
  where
    back : (x : Fraction) → plus (negative a) (plus a x) ≡ x
    back x = sym (plus_assoc (negative a) a x) ∙ ap (λ y. plus y x) (plus_comm (negative a) a ∙ plus_negative a) ∙ zero_plus x

abbrev Order : ℕ → ℕ → Type 0
Order r s = (r < s) ⊎ ((r ≡ s) ⊎ (s < r))

in_order : (r s : ℕ) → Order r s
in_order r s = grind arith

-- nothing below the least radicand
not_leading : (t u : Term) (v w : Surd) → IsSimplest t → AreSimplest v → IsBelowAll t v → IsSimplest u → AreSimplest w → IsBelowAll u w → Agree (t ∷ v) (u ∷ w) → t.radicand < u.radicand → ⊥
not_leading t u v w s ss b x xx c a h =
    s.proper.not_zero (sym (first_coefficient t v s.proper b) ∙ a.at t.radicand ∙ none_below t.radicand (u ∷ w) s.square_free (x, xx) (h, below_first t.radicand u w h c))

-- equal class by class, with radicands that rise, is equal term by term
pub same_terms : (v w : Surd) → AreSimplest v → AreSimplest w → Rises v → Rises w → Agree v w → v ≡ w
same_terms [] [] s x b c a = refl
same_terms [] (u ∷ w) s (x, xx) b (c, cc') a = absurd (x.proper.not_zero (sym (first_coefficient u w x.proper c) ∙ sym (a.at u.radicand)))
same_terms (t ∷ v) [] (s, ss) x (b, bb) c a = absurd (s.proper.not_zero (sym (first_coefficient t v s.proper b) ∙ a.at t.radicand))
same_terms (t ∷ v) (u ∷ w) (s, ss) (x, xx) (b, bb) (c, cc') a = by (λ a'. same_terms v w ss xx bb cc' a') (in_order t.radicand u.radicand)
  where
    by : (Agree v w → v ≡ w) → (t.radicand < u.radicand) ⊎ ((t.radicand ≡ u.radicand) ⊎ (u.radicand < t.radicand)) → t ∷ v ≡ u ∷ w
    by go (inl h) = absurd (not_leading t u v w s ss b x xx c a h)
    by go (inr (inr h)) = absurd (not_leading u t w v x xx c s ss b (Agree-sym a) h)
    by go (inr (inl e)) =
        let f : t.coefficient ≡ u.coefficient = sym (first_coefficient t v s.proper b) ∙ a.at t.radicand ∙ ap (class_coefficient (u ∷ w)) e ∙ first_coefficient u w x.proper c in
        let g : t ≡ u = (λ i. term (f i) (e i)) in
        let rest : Agree v w = record { at = λ z. plus_cancel (term_share t z) (class_coefficient v z) (class_coefficient w z) (a.at z ∙ ap (λ y. plus (term_share y z) (class_coefficient w z)) (sym g)) } in
        (λ i. g i ∷ go rest i)

-- ---- radicands below 10^12

-- each radicand that occurs is below 10^12
abbrev pub AreSmall : Surd → Type 0
AreSmall v = (r : ℕ) → Contains (radicands v) r → r < 10 ^ 12

first_small : (t : Term) (v : Surd) → AreSmall (t ∷ v) → t.radicand < 10 ^ 12
first_small t v h = h t.radicand (0, omega arith, refl)

pub term_simplest : (t : Tree) → IsTerm t → (term_of t).radicand < 10 ^ 12 → IsSimplest (term_of t)
term_simplest t h s = record { proper = term_proper t h; square_free = by (as_term t h) }
  where
    by : AsTerm t → IsSquareFree (term_of t).radicand
    by (inl a) = subst (λ x. IsSquareFree x.radicand) (sym a.term_is) one_square_free
    by (inr (inl a)) = subst (λ x. IsSquareFree x.radicand) (sym a.term_is) (clean_square_free a.n a.clean (subst (λ x. x.radicand < 10 ^ 12) a.term_is s))
    by (inr (inr a)) = subst (λ x. IsSquareFree x.radicand) (sym a.term_is) (clean_square_free a.n a.clean (subst (λ x. x.radicand < 10 ^ 12) a.term_is s))

pub terms_simplest : (ts : Trees) → AreTerms ts → AreSmall (terms_of ts) → AreSimplest (terms_of ts)
terms_simplest none h s = tt
terms_simplest (more t ts) (h, hs) s =
    let behind : AreSmall (terms_of ts) = λ r c. s r (Contains-append_right ((term_of t).radicand ∷ []) (radicands (terms_of ts)) r c) in
    (term_simplest t h (first_small (term_of t) (terms_of ts) s), terms_simplest ts hs behind)

-- its terms are in simplest form, and their radicands rise
record InForm (v : Surd) : Type 0 where
  simplest : AreSimplest v
  rising : Rises v

in_form : (t : Tree) → AsNumber t → IsNumber t → AreSmall (value t) → InForm (value t)
in_form t (inl a) h s = subst InForm (sym a.value_is) (record { simplest = tt; rising = tt })
in_form t (inr (inl a)) h s = subst InForm (sym a.value_is) (record { simplest = (term_simplest t a.one (first_small (term_of t) [] (subst AreSmall a.value_is s)), tt); rising = (tt, tt) })
in_form t (inr (inr a)) h s =
    let k : IsNumber (add a.ts) = subst IsNumber a.is h in
    subst InForm (sym a.value_is) (record { simplest = terms_simplest a.ts a.are (subst AreSmall a.value_is s); rising = k.2 })

-- Numbers with the same value are one tree
pub one_number : (t u : Tree) → IsNumber t → IsNumber u → AreSmall (value t) → AreSmall (value u) → Same (value t) (value u) → t ≡ u
one_number t u h k s x e =
    let a : InForm (value t) = in_form t (as_number t h) h s in
    let b : InForm (value u) = in_form u (as_number u k) k x in
    one_number_of_value t u h k (same_terms (value t) (value u) a.simplest b.simplest a.rising b.rising (Same-Agree e))
