-- Numbers with one root are never left open.
use Rattle.std.proofs.Common.{◌≡◌, ◌≢◌, ℕ, zero, suc, ◌+◌, ◌*◌, ◌^◌, ◌<◌, ◌≤◌, inl, inr, refl, sym, ap, subst, ◌∙◌, arith, [], ◌∷◌, nat_abs, ℤ, pos, negsuc, Bool, true, false, ◌&&◌, eqb, cond, ltb, length}
use Rattle.std.proofs.lemmas.Bool.{eqb-true, ltb-true, ne_eqb}
use Rattle.calc_terms.proofs.FractionFacts.{zero_is}
use Rattle.calc_terms.specs.{Integers.{int_is_zero}, Fits.{fits, fraction_fits}, Fractions.{Fraction, zero_fraction}, Trees.{Tree, is_num, add}}
use Rattle.calc_algebra.specs.{Clean.{IsClean}, Surds.{Term, Surd, term}, SquareClasses.{are_alike}, Numbers.{IsBelowAll, IsNumber, IsTerm, Rises, is_number, terms_of, term_of, value}}
use Rattle.calc_algebra.proofs.{CleanLaws.{clean_no_square}, ComputedNumbers.{alike_test}, NumberLaws.{number_words}, NumberShapes.{AsNumber, AsTerm, as_number, as_term}, NumberClasses.{AreProper, term_proper, terms_proper}}
use Rattle.enclosures.specs.Rounding.{AreNarrow, IsClose, count_roots}
use Rattle.enclosures.proofs.OneRoot.{bits, one_root_told, root_alone_told}

both : (a b : Bool) → (a && b) ≡ true → (a ≡ true) × (b ≡ true)
both true b h = (refl, h)
both false b h = absurd cc

narrow_parts : (q : Fraction) → fraction_fits q ≡ true → (nat_abs q.num ≤ bits) × (q.den ≤ bits)
unfolding bits
narrow_parts q h =
    let (n, d) = both (fits q.num) (ltb q.den (2 ^ 127)) h in
    let n' = ltb-true (nat_abs q.num) (2 ^ 127) n in
    let d' = ltb-true q.den (2 ^ 127) d in
    (omega (arith, n'), omega (arith, d'))

narrow_radicand : (r : ℕ) → r < 2 ^ 127 → r ≤ bits
unfolding bits
narrow_radicand r h = omega (arith, h)

scale_within : (s : ℕ) → s ≤ 2 ^ 127 → s ≤ bits
unfolding bits
scale_within s h = omega (arith, h)

clean_irrational : (n : ℕ) → 2 ≤ n → IsClean n → (s : ℕ) → s * s ≡ n → ⊥
clean_irrational n two c s e = clean_no_square s (subst IsClean (sym e) c) (by s e)
  where
    by : (s : ℕ) → s * s ≡ n → 1 < s
    by zero e = absurd (omega (arith, e, two))
    by (suc zero) e = absurd (omega (arith, e, two))
    by (suc (suc s)) e = omega arith

apart_irrational : (r : ℕ) → 2 ≤ r → are_alike 1 r ≡ false → (s : ℕ) → s * s ≡ r → ⊥
apart_irrational r two a s e = let t : are_alike 1 r ≡ true = alike_test 1 r (s, by s e, omega (arith, e)) in cc
  where
    by : (s : ℕ) → s * s ≡ r → 0 < s
    by zero e = absurd (omega (arith, e, two))
    by (suc s) e = omega arith

some_num : (q : Fraction) → q ≢ zero_fraction → 0 < nat_abs q.num
some_num q h = by q.num refl
  where
    by : (z : ℤ) → q.num ≡ z → 0 < nat_abs q.num
    by (pos zero) e = absurd (h (zero_is q (ap int_is_zero e)))
    by (pos (suc n)) e = let k : nat_abs q.num ≡ suc n = ap nat_abs e in omega (arith, k)
    by (negsuc n) e = let k : nat_abs q.num ≡ suc n = ap nat_abs e in omega (arith, k)

-- a multiple of a root
multiple_told : (t : Term) (scale : ℕ) → t.coefficient ≢ zero_fraction → ((s : ℕ) → s * s ≡ t.radicand → ⊥) → AreNarrow (t ∷ []) → 0 < scale → scale ≤ bits → IsClose (t ∷ []) scale → ⊥
multiple_told t scale z i (f, r, _) hs ht close =
    let (n, d) = narrow_parts t.coefficient f in
    root_alone_told t.coefficient t.radicand scale (some_num t.coefficient z) i n d (narrow_radicand t.radicand r) hs ht close

other_counted : (t : Term) (v : Surd) → 2 ≤ t.radicand → count_roots (t ∷ v) ≡ 1 + count_roots v
other_counted t v h = let e : eqb t.radicand 1 ≡ false = ne_eqb t.radicand 1 (λ e. omega (arith, h, e)) in ap (λ (b : Bool). cond b 0 1 + count_roots v) e

-- one term
single_told : (t : Tree) (scale : ℕ) → IsTerm t → AsTerm t → is_num t ≡ false → AreNarrow (term_of t ∷ []) → 0 < scale → scale ≤ bits → IsClose (term_of t ∷ []) scale → ⊥
single_told t scale one (inl a) n w hs ht close = let e : is_num t ≡ true = ap is_num a.is in cc
single_told t scale one (inr (inl a)) n w hs ht close = multiple_told (term_of t) scale (term_proper t one).not_zero (λ s e. clean_irrational a.n a.two a.clean s (e ∙ ap (λ (u : Term). u.radicand) a.term_is)) w hs ht close
single_told t scale one (inr (inr a)) n w hs ht close = multiple_told (term_of t) scale (term_proper t one).not_zero (λ s e. clean_irrational a.n a.two a.clean s (e ∙ ap (λ (u : Term). u.radicand) a.term_is)) w hs ht close

-- two terms and more
terms_told : (v : Surd) (scale : ℕ) → AreProper v → Rises v → 2 ≤ length v → count_roots v ≤ 1 → AreNarrow v → 0 < scale → scale ≤ bits → IsClose v scale → ⊥
terms_told [] scale p r two one w hs ht close = absurd (omega (arith, two))
terms_told (t ∷ []) scale p r two one w hs ht close = absurd (omega (arith, two))
terms_told (t ∷ u ∷ v) scale (p, (q, _)) ((l, a, _), (k, _)) two one (f, n, (f', n', _)) hs ht close = by (eqb t.radicand 1) refl v k one close
  where
    second : 2 ≤ u.radicand
    second = let h = p.positive in omega (arith, h, l)

    rational : t.radicand ≡ 1 → IsClose (t ∷ u ∷ []) scale → ⊥
    rational e close =
        let (m, d) = narrow_parts u.coefficient f' in
        one_root_told t.coefficient u.coefficient u.radicand scale (record {
          some = some_num u.coefficient q.not_zero;
          irrational = apart_irrational u.radicand second (subst (λ x. are_alike x u.radicand ≡ false) e a);
          whole_den = (narrow_parts t.coefficient f).1;
          num = m;
          den = d;
          radicand = narrow_radicand u.radicand n';
        }) hs ht (subst (λ x. IsClose (term t.coefficient x ∷ u ∷ []) scale) e close)

    by : (b : Bool) → eqb t.radicand 1 ≡ b → (v : Surd) → IsBelowAll u v → count_roots (t ∷ u ∷ v) ≤ 1 → IsClose (t ∷ u ∷ v) scale → ⊥
    by false e v k one close =
        let c : count_roots (t ∷ u ∷ v) ≡ 1 + count_roots (u ∷ v) = ap (λ (b : Bool). cond b 0 1 + count_roots (u ∷ v)) e in
        omega (arith, one, c, other_counted u v second)
    by true e [] k one close = rational (eqb-true t.radicand 1 e) close
    by true e (w ∷ v) (h, _, _) one close =
        let c : count_roots (t ∷ u ∷ w ∷ v) ≡ 0 + count_roots (u ∷ w ∷ v) = ap (λ (b : Bool). cond b 0 1 + count_roots (u ∷ w ∷ v)) e in
        let third : 2 ≤ w.radicand = omega (arith, h, second) in
        omega (arith, one, c, other_counted u (w ∷ v) second, other_counted w v third)

pub one_root : (t : Tree) (scale : ℕ) → is_number t ≡ true → is_num t ≡ false → count_roots (value t) ≤ 1 → AreNarrow (value t) → 0 < scale → scale ≤ 2 ^ 127 → IsClose (value t) scale → ⊥
one_root t scale is n one w hs ht close = by (as_number t (number_words t is))
  where
    by : AsNumber t → ⊥
    by (inl a) = let e : is_num t ≡ true = ap is_num a.is in cc
    by (inr (inl a)) = single_told t scale a.one (as_term t a.one) n (subst AreNarrow a.value_is w) hs (scale_within scale ht) (subst (λ v. IsClose v scale) a.value_is close)
    by (inr (inr a)) =
        let rising : IsNumber (add a.ts) = subst IsNumber a.is (number_words t is) in
        terms_told (terms_of a.ts) scale (terms_proper a.ts a.are) rising.2 a.two (subst (λ v. count_roots v ≤ 1) a.value_is one) (subst AreNarrow a.value_is w) hs (scale_within scale ht) (subst (λ v. IsClose v scale) a.value_is close)
