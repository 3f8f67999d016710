-- A reduced tree whose rationals are written as they are is its own face.
use Rattle.beautify.proofs.Shared.{◌≡◌, ℕ, ℤ, pos, negsuc, zero, suc, nat_abs, true, false, not, inl, inr, refl, sym, ap, ◌∙◌, arith, ⊤, is_natural, has_natural_numbers, reduced_words, IsTerm}
use Rattle.beautify.proofs.Shared.{all_parts_of, none_is, is_reduced, HasForm, IsReduced, IsFrontForm, face, has_minus, with_minus, unsigned_face, unless_one, product_of, fraction_of, power_below}
use Rattle.beautify.proofs.Shared.{exponent_below, below_zero, factor_above, factor_below, factors_above, factors_below, face_of_sum, next_terms, summed, as_tree, Fraction, whole_fraction}
use Rattle.beautify.proofs.Shared.{int_is_negative, Tree, num, symbol, undef, add, mult, power, root, Trees, none, more, append, AllParts, AllPartsOf, HasTwo, is_num, whole_num, append-none}
use Rattle.beautify.proofs.{Shared.{and_parts, eqb-true, one_fraction, ◌≢◌, fraction_whole}, FaceLaws.{form_leads}, Showables.{formed, two_terms, two_factors}, Trees.{unless_one_test}}
use Rattle.calc_algebra.proofs.SmallLaws.{own_form as first_part}
use Rattle.calc_terms.proofs.SmallLaws.{append_assoc}

-- ---- whole numbers

record IsWhole (q : Fraction) : Type 0 where
  number : ℕ
  num-is : q.num ≡ pos number
  den-is : q.den ≡ 1
  is : q ≡ whole_fraction (pos number)

whole : (q : Fraction) → is_natural (num q) ≡ true → IsWhole q
whole q h = by q.num refl (and_parts _ _ h).1
  where
    d : q.den ≡ 1
    d = eqb-true q.den 1 (and_parts _ _ h).0

    by : (p : ℤ) → q.num ≡ p → not (int_is_negative q.num) ≡ true → IsWhole q
    by (pos n) e k = record { number = n; num-is = e; den-is = d; is = fraction_whole q d ∙ ap whole_fraction e }
    by (negsuc n) e k = let no : not (int_is_negative (negsuc n)) ≡ true = ap (λ (p : ℤ). not (int_is_negative p)) (sym e) ∙ k in absurd cc

-- it is written, unless it is 1
written : (n : ℕ) (q : Fraction) (rest : Trees) → q ≡ whole_fraction (pos n) → q ≢ one_fraction → unless_one n rest ≡ more (num q) rest
unfolding one_fraction
written n q rest e h = unless_one_test (λ us. us ≡ more (num q) rest) n rest (λ k. absurd (h (e ∙ ap (λ (m : ℕ). whole_fraction (pos m)) k))) (ap (λ (p : Fraction). more (num p) rest) (sym e))

alone : (n : ℕ) (q : Fraction) → q ≡ whole_fraction (pos n) → product_of (unless_one n none) ≡ num q
alone n q e = unless_one_test (λ us. product_of us ≡ num q) n none (λ k. ap (λ (m : ℕ). whole_num m) (sym k) ∙ ap num (sym e)) (ap num (sym e))

number_face : (q : Fraction) → is_natural (num q) ≡ true → unsigned_face (num q) ≡ num q
number_face q h =
    let w = whole q h in
    ap (λ (d : ℕ). fraction_of (unless_one (nat_abs q.num) none) (unless_one d none)) w.den-is
    ∙ ap (λ (p : ℤ). product_of (unless_one (nat_abs p) none)) w.num-is ∙ alone w.number q w.is

no_sign : (q : Fraction) → is_natural (num q) ≡ true → int_is_negative q.num ≡ false
no_sign q h = ap int_is_negative (whole q h).num-is

not_below : (e : Tree) → has_natural_numbers e ≡ true → exponent_below e ≡ 0
not_below (num q) h = let w = whole q h in ap (λ (p : ℤ). below_zero p q.den) w.num-is
not_below _ h = refl

-- ---- products

-- the rational in front is not 1
front : (t : Tree) (ts : Trees) → HasForm (mult (more t ts)) → IsFrontForm (more t ts)
front t ts (inl h) = by t ts h
  where
    by : (t : Tree) (ts : Trees) → IsTerm (mult (more t ts)) → IsFrontForm (more t ts)
    by (num q) (more (root (num r)) none) h = (h.0, h.1)
    by _ _ h = absurd h
front t ts (inr h) = h.front

abbrev NoneIsOne : Trees → Type 0
NoneIsOne none = ⊤
NoneIsOne (more (num q) ts) = (q ≢ one_fraction) × NoneIsOne ts
NoneIsOne (more t ts) = NoneIsOne ts

no_numbers : (ts : Trees) → none_is is_num ts ≡ true → NoneIsOne ts
no_numbers none h = tt
no_numbers (more t ts) h = by t (and_parts _ _ h).0 (no_numbers ts (and_parts _ _ h).1)
  where
    by : (t : Tree) → not (is_num t) ≡ true → NoneIsOne ts → NoneIsOne (more t ts)
    by (num q) h k = absurd cc
    by _ h k = k

none_is_one : (ts : Trees) → HasForm (mult ts) → NoneIsOne ts
none_is_one none h = tt
none_is_one (more t ts) h = by t (front t ts h) (no_numbers ts (form_leads (mult (more t ts)) h))
  where
    by : (t : Tree) → IsFrontForm (more t ts) → NoneIsOne ts → NoneIsOne (more t ts)
    by (num q) f k = (f.1, k)
    by _ f k = k

first_sign : (t : Tree) (ts : Trees) → is_natural t ≡ true → has_minus (mult (more t ts)) ≡ false
first_sign (num q) ts h = no_sign q h
first_sign _ ts h = refl

own_part : (t : Tree) → has_natural_numbers t ≡ true → is_natural t ≡ true
own_part (num q) h = h
own_part _ h = refl

product : (ts above below : Trees) → HasTwo ts → above ≡ ts → below ≡ none → fraction_of above below ≡ mult ts
product (more t (more u ts)) above below h e f = rw (e, f) refl
product _ above below h e f = absurd h

-- ---- trees

-- no minus sign stands before it, and it is its own face
record IsOwn (t : Tree) : Type 0 where
  plus : has_minus t ≡ false
  unsigned : unsigned_face t ≡ t

signed : {t : Tree} → IsOwn t → with_minus (has_minus t) (unsigned_face t) ≡ t
signed {t} o = rw (o.plus, o.unsigned) refl

-- ---- powers above the line

pick_zero : {A : Type 0} (k : ℕ) (x : A) (y : ℕ → A) → k ≡ 0 → (elim k [ zero ↦ x | suc n ↦ y n ]) ≡ x
pick_zero zero x y h = refl
pick_zero (suc n) x y h = absurd (omega (arith, h))

same_power : {b e : Tree} → IsOwn b → IsOwn e → power (with_minus (has_minus b) (unsigned_face b)) (with_minus (has_minus e) (unsigned_face e)) ≡ power b e
same_power {b} {e} k l = ap (λ (x : Tree). power x (with_minus (has_minus e) (unsigned_face e))) (signed k) ∙ ap (power b) (signed l)

raised : (b e : Tree) → exponent_below e ≡ 0 → IsOwn b → IsOwn e → unsigned_face (power b e) ≡ power b e
raised b e z k l =
    pick_zero (exponent_below e) (power (with_minus (has_minus b) (unsigned_face b)) (with_minus (has_minus e) (unsigned_face e)))
    (λ (n : ℕ). fraction_of none (more (power_below (with_minus (has_minus b) (unsigned_face b)) (suc n)) none)) z ∙ same_power k l

above : (b e : Tree) (rest : Trees) → exponent_below e ≡ 0 → IsOwn b → IsOwn e → factor_above (power b e) rest ≡ more (power b e) rest
above b e rest z k l =
    pick_zero (exponent_below e) (more (power (with_minus (has_minus b) (unsigned_face b)) (with_minus (has_minus e) (unsigned_face e))) rest) (λ (n : ℕ). rest) z
    ∙ ap (λ (x : Tree). more x rest) (same_power k l)

below : (b e : Tree) (rest : Trees) → exponent_below e ≡ 0 → factor_below (power b e) rest ≡ rest
below b e rest z = pick_zero (exponent_below e) rest (λ (n : ℕ). more (power_below (with_minus (has_minus b) (unsigned_face b)) (suc n)) rest) z

mutual
  own : (t : Tree) → AllParts HasForm t → has_natural_numbers t ≡ true → IsOwn t
  own (num q) f h = record { plus = no_sign q h; unsigned = number_face q h }
  own (symbol x) f h = record { plus = refl; unsigned = refl }
  own undef f h = record { plus = refl; unsigned = refl }
  own (add ts) f h = record { plus = refl; unsigned = sum ts (two_terms ts f.0) f.1 h }
  own (mult none) f h = absurd (two_factors none f.0).0
  own (mult (more t ts)) f h = record { plus = first_sign t ts (own_part t (and_parts _ _ h).0); unsigned = let k = factors (more t ts) (none_is_one (more t ts) f.0) f.1 h in product (more t ts) _ _ (two_factors (more t ts) f.0).0 k.0 k.1 }
  own (power b e) f h =
      let k = and_parts _ _ h in
      record { plus = refl; unsigned = raised b e (not_below e k.1) (own b f.1 k.0) (own e f.2 k.1) }
  own (root a) f h = record { plus = refl; unsigned = ap root (signed (own a f.1 h)) }
  own t f h = absurd (formed t f.0)

  sum : (ts : Trees) → HasTwo ts → AllPartsOf HasForm ts → all_parts_of is_natural ts ≡ true → face_of_sum ts ≡ add ts
  sum none w f h = absurd w
  sum (more t none) w f h = absurd w
  sum (more t (more u ts)) w f h =
      let k = and_parts _ _ h in
      let l = and_parts _ _ k.1 in
      let o = own u f.1.0 l.0 in
      rw (signed (own t f.0 k.0), o.plus, o.unsigned) (ap as_tree (terms (more t (more u none)) ts f.1.1 l.1))

  terms : (us ts : Trees) → AllPartsOf HasForm ts → all_parts_of is_natural ts ≡ true → next_terms (summed us) ts ≡ summed (append us ts)
  terms us none f h = ap summed (sym (append-none us))
  terms us (more t ts) f h =
      let k = and_parts _ _ h in
      let o = own t f.0 k.0 in
      rw (o.plus, o.unsigned) (terms (append us (more t none)) ts f.1 k.1 ∙ ap summed (append_assoc us (more t none) ts))

  factors : (ts : Trees) → NoneIsOne ts → AllPartsOf HasForm ts → all_parts_of is_natural ts ≡ true → (factors_above ts ≡ ts) × (factors_below ts ≡ none)
  factors none n f h = (refl, refl)
  factors (more (num q) ts) n f h =
      let k = and_parts _ _ h in
      let w = whole q k.0 in
      let l = factors ts n.1 f.1 k.1 in
      (ap (factor_above (num q)) l.0 ∙ ap (λ (p : ℤ). unless_one (nat_abs p) ts) w.num-is ∙ written w.number q ts w.is n.0, ap (factor_below (num q)) l.1 ∙ ap (λ (d : ℕ). unless_one d none) w.den-is)
  factors (more (power b e) ts) n f h =
      let k = and_parts _ _ h in
      let j = and_parts _ _ k.0 in
      let l = factors ts n f.1 k.1 in
      let z = not_below e j.1 in
      (ap (factor_above (power b e)) l.0 ∙ above b e ts z (own b f.0.1 j.0) (own e f.0.2 j.1), ap (factor_below (power b e)) l.1 ∙ below b e none z)
  factors (more (root a) ts) n f h =
      let k = and_parts _ _ h in
      let l = factors ts n f.1 k.1 in
      (ap (factor_above (root a)) l.0 ∙ ap (λ (x : Tree). more (root x) ts) (signed (own a f.0.1 k.0)), l.1)
  factors (more (add us) ts) n f h =
      let k = and_parts _ _ h in
      let l = factors ts n f.1 k.1 in
      (ap (factor_above (add us)) l.0 ∙ ap (λ (x : Tree). more x ts) (own (add us) f.0 k.0).unsigned, l.1)
  factors (more (symbol x) ts) n f h = let l = factors ts n f.1 h in (ap (more (symbol x)) l.0, l.1)
  factors (more undef ts) n f h = let l = factors ts n f.1 h in (ap (more undef) l.0, l.1)
  factors (more (mult us) ts) n f h = let l = factors ts n f.1 (and_parts _ _ h).1 in (ap (more (mult us)) l.0, l.1)
  factors (more t ts) n f h = absurd (formed t (first_part t f.0))

pub own_face : (t : Tree) → is_reduced t ≡ true → has_natural_numbers t ≡ true → face t ≡ t
own_face t r h = by (reduced_words t r)
  where
    by : IsReduced t → face t ≡ t
    by (inl e) = rw e refl
    by (inr f) = signed (own t f h)
