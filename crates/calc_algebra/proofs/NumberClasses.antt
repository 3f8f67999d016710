-- What the value of a Number tells of its tree, with no bound on radicands: zero, a rational, how many classes.
use Rattle.calc_algebra.proofs.Shared.{◌≡◌, ◌≢◌, ℕ, ◌*◌, ◌<◌, ◌≤◌, ◌⊎◌, inl, inr, pos, ◌∷◌, true, false, ◌==◌, ◌&&◌, length, refl, sym, ap, ◌∙◌, arith, subst, ⊤, nat_le, []}
use Rattle.calc_algebra.proofs.Shared.{false_from_ne_true, IsClean, times_comm, one_times, zero_plus, Fraction, plus, times, zero_fraction, one_fraction, quotient, same_lowest, IsNumber}
use Rattle.calc_algebra.proofs.Shared.{IsTerm, AreTerms, IsBelowAll, Rises, value, classes, term_of, terms_of, are_alike, term_share, class_coefficient, Same, square_root, Term, Surd, term, surd_of}
use Rattle.calc_algebra.proofs.{Shared.{Tree, num, Trees, none, more, mul_comm, one-mul, plus_zero}, CleanLaws.{clean_no_square}, InverseLaws.{one_is_not_zero}, MeaningLaws.{Same-sym, surd_of_one}}
use Rattle.calc_algebra.proofs.{NumberShapes.{AsTerm, as_term, AsNumber, as_number}, PowerLaws.{zero_surd_of}, SquareClassLaws.{alike_from, alike_true, alike_trans, Same-Agree, Same-trans}}
use Rattle.calc_algebra.proofs.{SurdLaws.{Agree, Agree-trans}, TermLaws.{Same-append, Same-refl, zero_term, share_alike, share_apart}}

-- ---- alike radicands

pub alike_turned : (r s : ℕ) → are_alike r s ≡ are_alike s r
alike_turned r s = ap (λ n. (square_root n * square_root n == n) && nat_le 1 (square_root n)) (mul_comm r s)

pub alike_through : (r c s : ℕ) → are_alike r c ≡ true → are_alike c s ≡ true → are_alike r s ≡ true
alike_through r c s h k =
    let a = alike_trans r c s (square_root (r * c)) (square_root (c * s)) (alike_from r c h) (alike_from c s k) in
    alike_true r s a.0 a.1

-- two radicands that are alike a third are alike
pub alike_common : (r s c : ℕ) → are_alike c r ≡ true → are_alike c s ≡ true → are_alike r s ≡ true
alike_common r s c h k = alike_through r c s (alike_turned r c ∙ h) k

-- ---- lists whose terms are in classes of their own

-- a term other than 0
pub record IsProper (t : Term) : Type 0 where
  pub not_zero : t.coefficient ≢ zero_fraction
  pub positive : 0 < t.radicand

abbrev pub AreProper : Surd → Type 0
AreProper [] = ⊤
AreProper (t ∷ v) = IsProper t × AreProper v

over_itself : (r : ℕ) → 0 < r → quotient r r ≡ one_fraction
unfolding one_fraction
over_itself r h = same_lowest (pos r) (pos 1) r 1 h (omega arith) (ap pos (omega arith))

own_share : (t : Term) → IsProper t → term_share t t.radicand ≡ t.coefficient
own_share t s =
    share_alike t.coefficient t.radicand t.radicand t.radicand (record { square = refl; positive = s.positive })
    ∙ ap (times t.coefficient) (over_itself t.radicand s.positive) ∙ times_comm t.coefficient one_fraction ∙ one_times t.coefficient

-- no term behind gives to the class of one in front
none_behind : (t : Term) (v : Surd) → IsBelowAll t v → class_coefficient v t.radicand ≡ zero_fraction
none_behind t [] h = refl
none_behind t (u ∷ v) (a, b, c) = (λ i. plus (share_apart u.coefficient u.radicand t.radicand (alike_turned u.radicand t.radicand ∙ b) i) (none_behind t v c i)) ∙ zero_plus zero_fraction

-- the coefficient at the first term's class
pub first_coefficient : (t : Term) (v : Surd) → IsProper t → IsBelowAll t v → class_coefficient (t ∷ v) t.radicand ≡ t.coefficient
first_coefficient t v s h = (λ i. plus (own_share t s i) (none_behind t v h i)) ∙ plus_zero t.coefficient

-- a term in front gives nothing to the classes behind
pub behind_coefficient : (t u : Term) (v : Surd) → are_alike t.radicand u.radicand ≡ false → class_coefficient (t ∷ v) u.radicand ≡ class_coefficient v u.radicand
behind_coefficient t u v h = ap (λ x. plus x (class_coefficient v u.radicand)) (share_apart t.coefficient t.radicand u.radicand h) ∙ zero_plus (class_coefficient v u.radicand)

-- a list with a term is not zero
pub proper_not_zero : (t : Term) (v : Surd) → IsProper t → IsBelowAll t v → ¬ (Same (t ∷ v) [])
proper_not_zero t v s h e = s.not_zero (sym (first_coefficient t v s h) ∙ (Same-Agree e).at t.radicand)

-- ---- the terms of a Number

pub one_not_zero : one_fraction ≢ zero_fraction
one_not_zero e = one_is_not_zero (zero_surd_of one_fraction e)

pub term_proper : (t : Tree) → IsTerm t → IsProper (term_of t)
term_proper t h = grind (arith, as_term, one_not_zero)

pub terms_proper : (ts : Trees) → AreTerms ts → AreProper (terms_of ts)
terms_proper none h = tt
terms_proper (more t ts) (h, hs) = (term_proper t h, terms_proper ts hs)

pub value_proper : (t : Tree) → IsNumber t → AreProper (value t)
value_proper t h = grind (arith, as_number, term_proper, terms_proper)

pub value_rises : (t : Tree) → IsNumber t → Rises (value t)
value_rises t h = grind (arith, as_number)

-- ---- zero

no_terms : (v : Surd) → AreProper v → Rises v → Same v [] → v ≡ []
no_terms [] h b e = refl
no_terms (t ∷ v) h b e = absurd (proper_not_zero t v h.0 b.0 e)

-- a Number that is zero is Num 0
pub number_zero : (t : Tree) → IsNumber t → Same (value t) [] → t ≡ num zero_fraction
number_zero t h e = grind (arith, as_number, no_terms, value_proper, value_rises)

-- ---- a rational

share_found : (q : Fraction) (r s : ℕ) → term_share (term q r) s ≢ zero_fraction → are_alike r s ≡ true
share_found q r s h = grind arith

-- where a list agrees with one term, a coefficient other than 0 tells that the radicand is alike
alike_one : (v : Surd) (q : Fraction) (r s : ℕ) → Agree v (term q r ∷ []) → class_coefficient v s ≢ zero_fraction → are_alike r s ≡ true
alike_one v q r s a h = share_found q r s (λ e. h (a.at s ∙ ap (λ x. plus x zero_fraction) e ∙ zero_plus zero_fraction))

-- 1 is alike with no clean radicand of at least 2
pub one_apart_from_clean : (n : ℕ) → 2 ≤ n → IsClean n → are_alike 1 n ≡ false
one_apart_from_clean n l c = false_from_ne_true (are_alike 1 n) (λ h.
    let a = alike_from 1 n h in
    let e : n ≡ square_root (1 * n) * square_root (1 * n) = sym (a.square ∙ one-mul n) in
    clean_no_square (square_root (1 * n)) (subst IsClean e c) (above_one n (square_root (1 * n)) l e))
  where
    above_one : (n t : ℕ) → 2 ≤ n → n ≡ t * t → 1 < t
    above_one n t l e = grind arith

-- a term with a clean radicand is no rational
irrational : (q : Fraction) (t : Term) (n : ℕ) → 2 ≤ n → IsClean n → t.radicand ≡ n → IsProper t → Agree (t ∷ []) (surd_of q) → ⊥
irrational q t n l c e p a =
    let f : are_alike 1 t.radicand ≡ true = alike_one (t ∷ []) q 1 t.radicand a (λ z. p.not_zero (sym (first_coefficient t [] p tt) ∙ z)) in
    let g : are_alike 1 t.radicand ≡ false = ap (are_alike 1) e ∙ one_apart_from_clean n l c in
    cc

rational_by_form : (t : Tree) (q : Fraction) → IsTerm t → AsTerm t → Agree (term_of t ∷ []) (surd_of q) → t ≡ num q
rational_by_form t q h (inl a) e = a.is ∙ ap num (surd_of_one a.q q (Agree-trans (subst (λ x. Agree (term a.q 1 ∷ []) (x ∷ [])) (sym a.term_is) (record { at = λ s. refl })) e))
rational_by_form t q h (inr (inl a)) e = absurd (irrational q (term_of t) a.n a.two a.clean (ap (λ x. x.radicand) a.term_is) (term_proper t h) e)
rational_by_form t q h (inr (inr a)) e = absurd (irrational q (term_of t) a.n a.two a.clean (ap (λ x. x.radicand) a.term_is) (term_proper t h) e)

-- a list with two terms or more is no single term
two_not_one : (v : Surd) (q : Fraction) (r : ℕ) → AreProper v → Rises v → 2 ≤ length v → Agree v (term q r ∷ []) → ⊥
two_not_one [] q r p h l a = absurd (omega arith)
two_not_one (t ∷ []) q r p h l a = absurd (omega arith)
two_not_one (t ∷ u ∷ v) q r (s, (x, xs)) (b, (c, cs)) l a =
    let f : are_alike r t.radicand ≡ true = alike_one (t ∷ u ∷ v) q r t.radicand a (λ z. s.not_zero (sym (first_coefficient t (u ∷ v) s b) ∙ z)) in
    let g : are_alike r u.radicand ≡ true = alike_one (t ∷ u ∷ v) q r u.radicand a (λ z. x.not_zero (sym (behind_coefficient t u (u ∷ v) b.1 ∙ first_coefficient u v x c) ∙ z)) in
    let k : are_alike t.radicand u.radicand ≡ true = alike_common t.radicand u.radicand r f g in
    let n : are_alike t.radicand u.radicand ≡ false = b.1 in
    cc

by_rational : (t : Tree) (q : Fraction) → IsNumber t → Agree (value t) (surd_of q) → AsNumber t → t ≡ num q
by_rational t q h e (inl a) = a.is ∙ ap num (surd_of_one zero_fraction q (Agree-trans (Same-Agree (zero_term 1)) (subst (λ v. Agree v (surd_of q)) a.value_is e)))
by_rational t q h e (inr (inl a)) = rational_by_form t q a.one (as_term t a.one) (subst (λ v. Agree v (surd_of q)) a.value_is e)
by_rational t q h e (inr (inr a)) = absurd (two_not_one (value t) q 1 (value_proper t h) (value_rises t h) (subst (λ v. 2 ≤ length v) (sym a.value_is) a.two) e)

-- a Number that is rational is a Num
pub number_rational : (t : Tree) (q : Fraction) → IsNumber t → Same (value t) (surd_of q) → t ≡ num q
number_rational t q h e = by_rational t q h (Same-Agree e) (as_number t h)

-- ---- how many classes

found_in_two : (p q : Fraction) (r c s : ℕ) → plus (term_share (term p r) s) (plus (term_share (term q c) s) zero_fraction) ≢ zero_fraction → (are_alike r s ≡ true) ⊎ (are_alike c s ≡ true)
found_in_two p q r c s h = grind (arith, share_found, share_apart, zero_plus)

clash : (r s : ℕ) → are_alike r s ≡ false → are_alike r s ≡ true → ⊥
clash r s h k = cc

-- of three numbers, each alike one of two, two are alike
pigeonhole : (r c x y z : ℕ) → are_alike x y ≡ false → are_alike x z ≡ false → are_alike y z ≡ false
    → (are_alike r x ≡ true) ⊎ (are_alike c x ≡ true) → (are_alike r y ≡ true) ⊎ (are_alike c y ≡ true) → (are_alike r z ≡ true) ⊎ (are_alike c z ≡ true) → ⊥
pigeonhole r c x y z a b d h k l = grind (arith, clash, alike_common)

three_not_two : (t u x : Term) (v : Surd) (p q : Fraction) (r c : ℕ) → AreProper (t ∷ u ∷ x ∷ v) → Rises (t ∷ u ∷ x ∷ v) → Agree (t ∷ u ∷ x ∷ v) (term p r ∷ term q c ∷ []) → ⊥
three_not_two t u x v p q r c (s, (s', (s'', ss))) (b, (b', (b'', bs))) a =
    pigeonhole r c t.radicand u.radicand x.radicand b.1 (b.2).1 b'.1
    (found_in_two p q r c t.radicand (λ z. s.not_zero (sym (first_coefficient t (u ∷ x ∷ v) s b) ∙ a.at t.radicand ∙ z)))
    (found_in_two p q r c u.radicand (λ z. s'.not_zero (sym (behind_coefficient t u (u ∷ x ∷ v) b.1 ∙ first_coefficient u (x ∷ v) s' b') ∙ a.at u.radicand ∙ z)))
    (found_in_two p q r c x.radicand (λ z. s''.not_zero (sym (behind_coefficient t x (u ∷ x ∷ v) (b.2).1 ∙ behind_coefficient u x (x ∷ v) b'.1 ∙ first_coefficient x v s'' b'') ∙ a.at x.radicand ∙ z)))

-- a list as one of exactly two terms
as_two : (w : Surd) → length w ≤ 2 → (p q : Fraction) × (r c : ℕ) × Same w (term p r ∷ term q c ∷ [])
as_two [] l = (zero_fraction, zero_fraction, 1, 1, Same-sym (Same-trans (Same-append {v = term zero_fraction 1 ∷ []} {v' = []} (zero_term 1) (Same-refl (term zero_fraction 1 ∷ []))) (zero_term 1)))
as_two (t ∷ []) l = (t.coefficient, zero_fraction, t.radicand, 1, Same-sym (Same-append {v = t ∷ []} {v' = t ∷ []} (Same-refl (t ∷ [])) (zero_term 1)))
as_two (t ∷ u ∷ []) l = (t.coefficient, u.coefficient, t.radicand, u.radicand, Same-refl (t ∷ u ∷ []))
as_two (t ∷ u ∷ x ∷ w) l = absurd (omega arith)

few_terms : (v : Surd) (p q : Fraction) (r c : ℕ) → AreProper v → Rises v → Agree v (term p r ∷ term q c ∷ []) → length v ≤ 2
few_terms [] p q r c s b a = omega arith
few_terms (t ∷ []) p q r c s b a = omega arith
few_terms (t ∷ u ∷ []) p q r c s b a = omega arith
few_terms (t ∷ u ∷ x ∷ v) p q r c s b a = absurd (three_not_two t u x v p q r c s b a)

-- a Number that is the same as at most two terms has at most two classes
pub number_short : (t : Tree) (w : Surd) → IsNumber t → Same (value t) w → length w ≤ 2 → classes t ≤ 2
number_short t w h e l =
    let (p, q, r, c, k) = as_two w l in
    few_terms (value t) p q r c (value_proper t h) (value_rises t h) (Same-Agree (Same-trans e k))
