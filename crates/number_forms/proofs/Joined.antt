-- Terms that are put into a sum at their place, or taken out of it.
use Rattle.number_forms.proofs.Shared.{◌≡◌, ℕ, zero, suc, ◌<◌, ◌≤◌, [], ◌∷◌, true, false, refl, sym, ap, ◌∙◌, arith, plus, zero_fraction, zero_plus, IsTerm, AreTerms, IsBelowAll, Rises, terms_of}
use Rattle.number_forms.proofs.Shared.{are_alike, class_coefficient, Same, Term, Surd, Tree, Trees, none, more, count, IsProper, alike_turned, alike_through, first_coefficient, alike_true}
use Rattle.number_forms.proofs.Shared.{Same-trans, Same-Agree, Same-refl, Same-cons, Same-to_front, share_apart, removed, IsApart, IsPlace, nth, inserted, by_test}
use Rattle.calc_algebra.specs.Numbers.{term_of}

pub alike_itself : (r : ℕ) → 0 < r → are_alike r r ≡ true
alike_itself r h = alike_true r r r (record { square = refl; positive = h })

-- alike with one and not with the other
pub apart_through : (r s t : ℕ) → are_alike r s ≡ true → are_alike s t ≡ false → are_alike r t ≡ false
apart_through r s t a b = by_test (λ x. are_alike r t ≡ x → x ≡ false) (are_alike r t) (λ e q. absurd (cc (alike_through s r t (alike_turned s r ∙ a) q, b))) (λ e q. refl) refl

pub apart_turned : (r s : ℕ) → are_alike r s ≡ false → are_alike s r ≡ false
apart_turned r s h = alike_turned s r ∙ h

-- ---- put in

-- a radicand that is not alike with another is another
pub other_radicand : (r s : ℕ) → 0 < r → are_alike r s ≡ false → r ≡ s → ⊥
other_radicand r s h a e = cc (alike_itself r h, ap (are_alike r) e, a)

unequal : (r s : ℕ) → 0 < r → are_alike r s ≡ false → r ≤ s → r < s
unequal r s h a l = grind (arith, other_radicand)

below_rising : (t u : Term) (v : Surd) → t.radicand < u.radicand → IsBelowAll u v → IsApart t.radicand v → IsBelowAll t v
below_rising t u [] h b a = tt
below_rising t u (x ∷ v) h (l, c, b) (p, a) = (omega arith, p, below_rising t u v h b a)

below_inserted : (u : Term) (n : ℕ) (t : Tree) (ts : Trees) → IsBelowAll u (terms_of ts) → u.radicand < (term_of t).radicand → are_alike u.radicand (term_of t).radicand ≡ false
    → IsBelowAll u (terms_of (inserted n (more t none) ts))
below_inserted u zero t ts b l p = (l, p, b)
below_inserted u (suc n) t none b l p = (l, p, tt)
below_inserted u (suc n) t (more x ts) (a, c, b) l p = (a, c, below_inserted u n t ts b l p)

pub are_inserted : (n : ℕ) (t : Tree) (ts : Trees) → IsTerm t → AreTerms ts → AreTerms (inserted n (more t none) ts)
are_inserted zero t ts h a = (h, a)
are_inserted (suc n) t none h a = (h, tt)
are_inserted (suc n) t (more x ts) h (b, a) = (b, are_inserted n t ts h a)

next_place : (n r : ℕ) (u : Tree) (ts : Trees) → IsPlace (suc n) r (more u ts) → IsPlace n r ts
next_place n r u ts p = record { within = (let h : suc n ≤ suc (count ts) = p.within in omega arith); below = λ k l. p.below (suc k) (omega arith); above = λ l. p.above (omega arith) }

pub rises_inserted : (n : ℕ) (t : Tree) (ts : Trees) → 0 < (term_of t).radicand → IsApart (term_of t).radicand (terms_of ts) → IsPlace n (term_of t).radicand ts → Rises (terms_of ts)
    → Rises (terms_of (inserted n (more t none) ts))
rises_inserted zero t none o a p h = (tt, tt)
rises_inserted zero t (more u ts) o (x, a) p (b, h) =
    let l : (term_of t).radicand < (term_of u).radicand = unequal (term_of t).radicand (term_of u).radicand o x (p.above (omega arith)) in
    ((l, x, below_rising (term_of t) (term_of u) (terms_of ts) l b a), (b, h))
rises_inserted (suc n) t none o a p h = (tt, tt)
rises_inserted (suc n) t (more u ts) o (x, a) p (b, h) =
    (below_inserted (term_of u) n t ts b (p.below 0 (omega arith)) (apart_turned (term_of t).radicand (term_of u).radicand x), rises_inserted n t ts o a (next_place n (term_of t).radicand u ts p) h)

pub same_inserted : (n : ℕ) (t : Tree) (ts : Trees) → Same (terms_of (inserted n (more t none) ts)) (term_of t ∷ terms_of ts)
same_inserted zero t ts = Same-refl (term_of t ∷ terms_of ts)
same_inserted (suc n) t none = Same-refl (term_of t ∷ [])
same_inserted (suc n) t (more u ts) = Same-trans (Same-cons (term_of u) (same_inserted n t ts)) (Same-to_front (term_of u ∷ []) (term_of t) (terms_of ts))

-- ---- taken out

pub are_removed : (n : ℕ) (ts : Trees) → AreTerms ts → AreTerms (removed n ts)
are_removed n none a = tt
are_removed zero (more t ts) (h, a) = a
are_removed (suc n) (more t ts) (h, a) = (h, are_removed n ts a)

below_removed : (u : Term) (n : ℕ) (ts : Trees) → IsBelowAll u (terms_of ts) → IsBelowAll u (terms_of (removed n ts))
below_removed u n none b = tt
below_removed u zero (more t ts) (l, c, b) = b
below_removed u (suc n) (more t ts) (l, c, b) = (l, c, below_removed u n ts b)

pub rises_removed : (n : ℕ) (ts : Trees) → Rises (terms_of ts) → Rises (terms_of (removed n ts))
rises_removed n none h = tt
rises_removed zero (more t ts) (b, h) = h
rises_removed (suc n) (more t ts) (b, h) = (below_removed (term_of t) n ts b, rises_removed n ts h)

pub same_removed : (n : ℕ) (ts : Trees) → n < count ts → Same (term_of (nth n ts) ∷ terms_of (removed n ts)) (terms_of ts)
same_removed n none l = absurd (omega arith)
same_removed zero (more t ts) l = Same-refl (term_of t ∷ terms_of ts)
same_removed (suc n) (more t ts) l =
    let one : Same (term_of t ∷ term_of (nth n ts) ∷ terms_of (removed n ts)) (term_of t ∷ terms_of ts) = Same-cons (term_of t) (same_removed n ts (omega arith)) in
    Same-trans (Same-to_front (term_of (nth n ts) ∷ []) (term_of t) (terms_of (removed n ts))) one

below_nth : (u : Term) (n : ℕ) (ts : Trees) → IsBelowAll u (terms_of ts) → n < count ts → are_alike u.radicand (term_of (nth n ts)).radicand ≡ false
below_nth u n none b l = absurd (omega arith)
below_nth u zero (more t ts) (x, c, b) l = c
below_nth u (suc n) (more t ts) (x, c, b) l = below_nth u n ts b (omega arith)

apart_below : (r : ℕ) (u : Term) (v : Surd) → are_alike r u.radicand ≡ true → IsBelowAll u v → IsApart r v
apart_below r u [] a b = tt
apart_below r u (x ∷ v) a (l, c, b) = (apart_through r u.radicand x.radicand a c, apart_below r u v a b)

-- what is alike with the term taken out is alike with none of the others
pub apart_removed : (r n : ℕ) (ts : Trees) → Rises (terms_of ts) → n < count ts → are_alike r (term_of (nth n ts)).radicand ≡ true → IsApart r (terms_of (removed n ts))
apart_removed r n none h l a = tt
apart_removed r zero (more t ts) (b, h) l a = apart_below r (term_of t) (terms_of ts) a b
apart_removed r (suc n) (more t ts) (b, h) l a =
    (apart_through r (term_of (nth n ts)).radicand (term_of t).radicand a (apart_turned (term_of t).radicand (term_of (nth n ts)).radicand (below_nth (term_of t) n ts b (omega arith))), apart_removed r n ts h (omega arith) a)

-- ---- alike with none

pub apart_each : (r : ℕ) (ts : Trees) → ((k : ℕ) → k < count ts → are_alike r (term_of (nth k ts)).radicand ≡ false) → IsApart r (terms_of ts)
apart_each r none h = tt
apart_each r (more t ts) h = (h 0 (omega arith), apart_each r ts (λ k l. h (suc k) (omega arith)))

-- a term that is the same as two alike ones is alike with them
pub alike_sum : (s a b : Term) → IsProper s → are_alike a.radicand b.radicand ≡ true → Same (s ∷ []) (a ∷ b ∷ []) → are_alike s.radicand a.radicand ≡ true
alike_sum s a b proper alike same = by_test (λ x. are_alike s.radicand a.radicand ≡ x → x ≡ true) (are_alike s.radicand a.radicand) (λ e q. refl) (λ e q. absurd (proper.not_zero (zero q))) refl
  where
    zero : are_alike s.radicand a.radicand ≡ false → s.coefficient ≡ zero_fraction
    zero q =
        let x : are_alike a.radicand s.radicand ≡ false = apart_turned s.radicand a.radicand q in
        let y : are_alike b.radicand s.radicand ≡ false = apart_through b.radicand a.radicand s.radicand (alike_turned b.radicand a.radicand ∙ alike) x in
        let e : class_coefficient (s ∷ []) s.radicand ≡ class_coefficient (a ∷ b ∷ []) s.radicand = (Same-Agree same).at s.radicand in
        let f : class_coefficient (a ∷ b ∷ []) s.radicand ≡ plus zero_fraction (plus zero_fraction zero_fraction) =
        λ i. plus (share_apart a.coefficient a.radicand s.radicand x i) (plus (share_apart b.coefficient b.radicand s.radicand y i) zero_fraction) in
        sym (first_coefficient s [] proper tt) ∙ e ∙ f ∙ zero_plus (plus zero_fraction zero_fraction) ∙ zero_plus zero_fraction
