-- The tests for clean radicands and for Numbers say what their words say, both ways.
use Rattle.calc_algebra.proofs.Shared.{◌≡◌, ℕ, zero, suc, ◌+◌, ◌*◌, ◌%◌, ◌≤◌, ◌<◌, ◌⊎◌, inl, inr, Bool, true, false, not, ◌&&◌, ◌||◌, refl, sym, ap, ◌∙◌, arith, ◌∷◌, nat_lt, ◌==◌, length, []}
use Rattle.calc_algebra.proofs.Shared.{mod-eq-zero_of_dvd, dvd_of_mod-eq-zero, and_from, not_from_false, le-leb, lt-ltb, eq-eqb, and_parts, ltb-true, leb-true, eqb-true, not-true, no_zero, no_one}
use Rattle.calc_algebra.proofs.Shared.{zero_test, one_test, left_of, is_clean, IsClean, no_square_divides, IsTerm, IsNumber, AreTerms, IsBelowAll, Rises, terms_of}
use Rattle.calc_algebra.proofs.Shared.{is_term, rises, is_number, are_terms, is_below_all, are_numbers, square_root, Term, Surd, Tree, num, add, mult, root, Trees, none, more, undef}
use Rattle.calc_algebra.proofs.{Shared.{has_undef, is_undef, ◌∣◌}, SquareRootLaws.{square_root-square}}

none_below : (steps d r e : ℕ) → no_square_divides steps d r ≡ true → d ≤ e → e < d + steps → e * e ∣ r → ⊥
none_below zero d r e h a b x = absurd (omega arith)
none_below (suc steps) d r e h a b x = by (r % (d * d)) refl h (λ h' a'. none_below steps (suc d) r e h' a' (omega arith) x) (order d e a)
  where
    order : (d e : ℕ) → d ≤ e → (d ≡ e) ⊎ (suc d ≤ e)
    order d e a = grind arith

    by : (m : ℕ) → r % (d * d) ≡ m → (elim m [ zero ↦ false | suc m' ↦ no_square_divides steps (suc d) r ]) ≡ true → (no_square_divides steps (suc d) r ≡ true → suc d ≤ e → ⊥) → (d ≡ e) ⊎ (suc d ≤ e) → ⊥
    by zero p h go c = cc
    by (suc m) p h go (inl q) =
        let z : r % (e * e) ≡ 0 = mod-eq-zero_of_dvd (e * e) x in
        let w : r % (d * d) ≡ 0 = ap (λ k. r % (k * k)) q ∙ z in
        absurd (omega arith)
    by (suc m) p h go (inr q) = go h q

not_both : (a b : Bool) → not (a && b) ≡ true → a ≡ true → b ≡ true → ⊥
not_both a b h p q = grind arith

pub clean_words : (r : ℕ) → is_clean r ≡ true → IsClean r
unfolding is_clean
clean_words r h =
    let (p, q) = and_parts (no_square_divides 9999 2 r) _ h in
    record {
      no_square = λ d a b x. none_below 9999 2 r d p a (omega arith) x;
      no_rest = λ s a e.
          let z : square_root (left_of r) ≡ s = ap square_root e ∙ square_root-square s in
          not_both _ _ q (lt-ltb 1 (left_of r) (big s (left_of r) a e)) (eq-eqb (square_root (left_of r) * square_root (left_of r)) (left_of r) ((λ i. z i * z i) ∙ sym e));
    }
  where
    big : (s n : ℕ) → 1 < s → n ≡ s * s → 1 < n
    big s n a e = grind arith

none_from : (steps d r : ℕ) → ((e : ℕ) → d ≤ e → e < d + steps → e * e ∣ r → ⊥) → no_square_divides steps d r ≡ true
none_from zero d r h = refl
none_from (suc steps) d r h = by (r % (d * d)) refl (none_from steps (suc d) r (λ e a b. h e (omega arith) (omega arith)))
  where
    by : (m : ℕ) → r % (d * d) ≡ m → no_square_divides steps (suc d) r ≡ true → (elim m [ zero ↦ false | suc m' ↦ no_square_divides steps (suc d) r ]) ≡ true
    by zero p go = absurd (h d (omega arith) (omega arith) (dvd_of_mod-eq-zero (d * d) p))
    by (suc m) p go = go

pub clean_test : (r : ℕ) → IsClean r → is_clean r ≡ true
unfolding is_clean
clean_test r h =
    and_from (no_square_divides 9999 2 r) _ (none_from 9999 2 r (λ d a b. h.no_square d a (omega arith)))
    (by (nat_lt 1 (left_of r)) (square_root (left_of r) * square_root (left_of r) == left_of r) refl refl)
  where
    big : (s n : ℕ) → 1 < n → s * s ≡ n → 1 < s
    big s n a e = grind arith

    by : (x y : Bool) → nat_lt 1 (left_of r) ≡ x → (square_root (left_of r) * square_root (left_of r) == left_of r) ≡ y → not (x && y) ≡ true
    by true true e f =
        let g : square_root (left_of r) * square_root (left_of r) ≡ left_of r = eqb-true _ _ f in
        absurd (h.no_rest (square_root (left_of r)) (big (square_root (left_of r)) (left_of r) (ltb-true 1 (left_of r) e) g) (sym g))
    by true false e f = refl
    by false y e f = refl

pub term_words : (t : Tree) → is_term t ≡ true → IsTerm t
term_words t h = grind (arith, no_zero, clean_words, no_one)

terms_words : (ts : Trees) → are_terms ts ≡ true → AreTerms ts
terms_words none h = tt
terms_words (more t ts) h = let (a, b) = and_parts (is_term t) (are_terms ts) h in (term_words t a, terms_words ts b)

below_all_words : (t : Term) (v : Surd) → is_below_all t v ≡ true → IsBelowAll t v
below_all_words t [] h = tt
below_all_words t (u ∷ v) h = grind (arith, and_parts, ltb-true, not-true, below_all_words t v)

pub rises_words : (v : Surd) → rises v ≡ true → Rises v
rises_words [] h = tt
rises_words (t ∷ v) h = let (a, b) = and_parts (is_below_all t v) (rises v) h in (below_all_words t v a, rises_words v b)

pub number_words : (t : Tree) → is_number t ≡ true → IsNumber t
unfolding is_number
number_words (num q) h = tt
number_words (add ts) h = grind (arith, and_parts, leb-true, terms_words, rises_words)
number_words (root a) h = term_words (root a) h
number_words (mult ts) h = term_words (mult ts) h
number_words _ h = cc

-- ---- from the words to the test

pub term_test : (t : Tree) → IsTerm t → is_term t ≡ true
term_test t h = grind (arith, not_from_false, zero_test, clean_test, and_from, one_test)

terms_test : (ts : Trees) → AreTerms ts → are_terms ts ≡ true
terms_test none h = refl
terms_test (more t ts) h = and_from _ _ (term_test t h.0) (terms_test ts h.1)

below_all_test : (t : Term) (v : Surd) → IsBelowAll t v → is_below_all t v ≡ true
below_all_test t [] h = refl
below_all_test t (u ∷ v) h = and_from _ _ (and_from _ _ (lt-ltb t.radicand u.radicand h.0) (not_from_false _ h.1)) (below_all_test t v h.2)

pub rises_test : (v : Surd) → Rises v → rises v ≡ true
rises_test [] h = refl
rises_test (t ∷ v) h = and_from _ _ (below_all_test t v h.0) (rises_test v h.1)

pub number_test : (t : Tree) → IsNumber t → is_number t ≡ true
unfolding is_number
number_test (num q) h = refl
number_test (add ts) h = and_from _ _ (and_from _ _ (le-leb 2 (length (terms_of ts)) h.0) (terms_test ts h.1)) (rises_test (terms_of ts) h.2)
number_test (root a) h = term_test (root a) h
number_test (mult ts) h = term_test (mult ts) h
number_test _ h = absurd h

-- Undef is no Number
pub numbers_defined : (ts : Trees) → are_numbers ts ≡ true → has_undef ts ≡ false
unfolding is_number
numbers_defined none h = refl
numbers_defined (more t ts) h = let (a, b) = and_parts (is_number t) (are_numbers ts) h in by (numbers_defined ts b) t a
  where
    by : has_undef ts ≡ false → (u : Tree) → is_number u ≡ true → (is_undef u || has_undef ts) ≡ false
    by go undef e = absurd cc
    by go u e = go
