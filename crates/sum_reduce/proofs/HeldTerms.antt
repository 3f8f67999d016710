-- What holds the terms of a sum holds them opened, with one coefficient put back, and written as a tree.
use Rattle.sum_reduce.proofs.Shared.{◌≡◌, ◌≤◌, ℕ, List, [], ◌∷◌, ◌++◌, Bool, true, false, if◌then◌else◌, inl, inr, refl, sym, ap, ◌∙◌, subst, arith, append_assoc, append-nil, true≢false}
use Rattle.sum_reduce.proofs.Shared.{not_from_false, Fraction, zero_fraction, is_zero_fraction, is_one_fraction, no_zero, one_is, Tree, num, add, Trees, none, more, append, count, is_add, AllParts}
use Rattle.sum_reduce.proofs.Shared.{IsNumber, AreTerms, is_number, term_of, terms_of, value, HasForm, NoneIs, part_of, Same, Surd, surd_one, number_test, number_words, surd_times-surd_one}
use Rattle.sum_reduce.proofs.Shared.{SharesDenominators, coefficient_of, factors_of, rational_before, with_coefficient, IsMonic, monic_sum, put, monic_parts, number_of_term, IsFactor, not_one_is}
use Rattle.sum_reduce.proofs.Shared.{IsArranged, IsLead, KeepsHeld, AreFormed, terms_of_loose, opened, terms_of_number, sum_tree, written_tree, IsSumHeld, addends_of_each, distributed, Addend, addend}
use Rattle.sum_reduce.proofs.Shared.{addends, addends_of, IsTreeHeld, sum_as_tree, alone, no_larger, IsSplit, monic_addends, multiple_addends, one_addend, one_value, spliced_addends, split_sum}
use Rattle.sum_reduce.proofs.{Shared.{sum_addends, term_addends, term_value}, Held.{held_same, held_after, held_equal, held_behind, held_beside, held_joined, held_left_out, held_nothing, held_split}}
use Rattle.sum_reduce.proofs.{Held.{holds}, HeldFactors.{held_distributed}, Settled.{no_sums}, WrittenSums.{number_terms_in, zero_value}}
use Rattle.surd_bits.proofs.Rooted.{as_rational as rational_value}

-- ---- lists of trees

pub each_append : (ts us : Trees) → addends_of_each (append ts us) ≡ addends_of_each ts ++ addends_of_each us
each_append none us = refl
each_append (more t ts) us = ap (λ (x : List Addend). addends t ++ x) (each_append ts us) ∙ sym (append_assoc (addends t) (addends_of_each ts) (addends_of_each us))

others_each : (ts : Trees) → NoneIs is_number ts → NoneIs is_add ts → addends_of_each ts ≡ addends_of ts
others_each none n s = refl
others_each (more t ts) n s = λ i. one_addend t n.0 s.0 i ++ others_each ts n.1 s.1 i

-- ---- Numbers that are added

pub added_held : (d n e : Tree) (ts : Trees) → is_number d ≡ true → is_number n ≡ true → is_number e ≡ true → Same (value e) (value d ++ value n) → SharesDenominators (value d ++ value n) (value e)
    → KeepsHeld (addends_of_each (more d (more n ts))) (addends_of_each (more e ts))
added_held d n e ts hd hn he w s =
    held_after (held_equal (λ i. alone d hd i ++ (alone n hn i ++ addends_of_each ts)))
    (held_after (held_beside (held_joined (value d) (value n) (value e) none (no_larger e (value d ++ value n) he w s)) (held_same (addends_of_each ts)))
    (held_equal (ap (λ (x : List Addend). x ++ addends_of_each ts) (sym (alone e he)))))

-- ---- sums that are opened

-- a Number stands as its terms
spread : (ts : Trees) → AreTerms ts → KeepsHeld (addend (terms_of ts) none ∷ []) (addends_of_each ts)
spread none h = held_left_out (addend [] none)
spread (more t ts) h =
    let first : addends t ≡ addend (term_of t ∷ []) none ∷ [] = alone t (number_test t (number_of_term t h.0)) ∙ ap (λ (v : Surd). addend v none ∷ []) (term_value t h.0) in
    held_after (held_split (term_of t ∷ []) (terms_of ts))
    (held_after (held_behind (addend (term_of t ∷ []) none ∷ []) (spread ts h.1)) (held_equal (ap (λ (x : List Addend). x ++ addends_of_each ts) (sym first))))

whole_sum : (ts : Trees) → IsSplit ts → KeepsHeld (addends (add ts)) (addends_of_each ts)
whole_sum ts x =
    held_after (held_equal (ap (λ (us : Trees). addends (add us)) x.whole ∙ sum_addends x.numbers x.others x.terms x.no_number))
    (held_after (held_beside (spread x.numbers x.terms) (held_equal (sym (others_each x.others x.no_number x.no_sum))))
    (held_equal (sym (each_append x.numbers x.others) ∙ ap addends_of_each (sym x.whole))))

loose_held : (t : Tree) → AllParts HasForm t → KeepsHeld (addends t) (addends_of_each (terms_of_loose t))
loose_held (add ts) h = by (is_number (add ts)) refl h.0
  where
    by : (b : Bool) → is_number (add ts) ≡ b → HasForm (add ts) → KeepsHeld (addends (add ts)) (addends_of_each (if b then more (add ts) none else ts))
    by true e f = held_equal (sym (append-nil (addends (add ts))))
    by false e (inl k) = absurd (true≢false (sym (number_test (add ts) k) ∙ e))
    by false e (inr k) = whole_sum ts (split_sum ts k h.1)
loose_held t h = held_equal (sym (append-nil (addends t)))

pub opened_held : (ts : Trees) → AreFormed ts → KeepsHeld (addends_of_each ts) (addends_of_each (opened ts))
opened_held none h = held_same []
opened_held (more t ts) h = held_after (held_beside (loose_held t h.0) (opened_held ts h.1)) (held_equal (sym (each_append (terms_of_loose t) (opened ts))))

-- ---- partners

-- the coefficient of a partner is added
pub partner_held : (c e p u : Tree) (others : Trees) → AllParts HasForm u → is_number u ≡ false → is_add u ≡ false → part_of u ≡ p → is_number e ≡ true
    → Same (value e) (value c ++ value (coefficient_of u))
    → SharesDenominators (value c ++ value (coefficient_of u)) (value e)
    → KeepsHeld (addend (value c) (factors_of p) ∷ addends_of_each (more u others)) (addend (value e) (factors_of p) ∷ addends_of_each others)
partner_held c e p u others h n s same he w d =
    let own : addends u ≡ addend (value (coefficient_of u)) (factors_of p) ∷ [] = term_addends u h n s ∙ ap (λ (x : Tree). addend (value (coefficient_of u)) (factors_of x) ∷ []) same in
    held_after (held_equal (ap (λ (x : List Addend). addend (value c) (factors_of p) ∷ (x ++ addends_of_each others)) own))
    (held_beside (held_joined (value c) (value (coefficient_of u)) (value e) (factors_of p) (no_larger e (value c ++ value (coefficient_of u)) he w d)) (held_same (addends_of_each others)))

-- ---- a coefficient that is put back

zero_addends : addends (num zero_fraction) ≡ addend [] none ∷ []
zero_addends = alone (num zero_fraction) (number_test (num zero_fraction) tt) ∙ ap (λ (v : Surd). addend v none ∷ []) zero_value

one_each : (xs : List Addend) → distributed surd_one xs ≡ xs
one_each [] = refl
one_each (x ∷ xs) = λ i. addend (surd_times-surd_one x.coefficient i) x.factors ∷ one_each xs i

-- 1 before a part, and another rational other than 0
one_before : (p : Tree) → IsMonic p → KeepsHeld (addend surd_one (factors_of p) ∷ []) (addends p)
one_before (add ts) m = held_after (held_distributed surd_one ts) (held_equal (one_each (addends (add ts))))
one_before p m = held_equal (sym (monic_addends p m refl))

rational_put : (q : Fraction) (p : Tree) → IsFactor q → IsMonic p → is_number (rational_before q p) ≡ false → KeepsHeld (addend (value (num q)) (factors_of p) ∷ []) (addends (rational_before q p))
rational_put q (add ts) f m n =
    held_after (held_distributed (value (num q)) ts)
    (held_equal (ap (λ (v : Surd). distributed v (addends (add ts))) (rational_value q f.not_zero) ∙ sym (multiple_addends q f ts (split_sum ts (monic_sum ts m) (monic_parts (add ts) m).1))))
rational_put q p f m n = held_equal (sym (spliced_addends (num q) p tt m n))

pub put_held : (c p : Tree) → IsNumber c → IsMonic p → KeepsHeld (addend (value c) (factors_of p) ∷ []) (addends (with_coefficient c p))
put_held (num q) p k m = by (is_zero_fraction q) (is_one_fraction q) refl refl
  where
    by : (a b : Bool) → is_zero_fraction q ≡ a → is_one_fraction q ≡ b
        → KeepsHeld (addend (value (num q)) (factors_of p) ∷ []) (addends (if a then num zero_fraction else (if b then p else rational_before q p)))
    by true b e g = held_after (held_left_out (addend (value (num q)) (factors_of p))) (held_after held_nothing (held_equal (sym zero_addends)))
    by false true e g =
        held_after (held_equal (ap (λ (x : Fraction). addend (value (num x)) (factors_of p) ∷ []) (one_is q g) ∙ ap (λ (v : Surd). addend v (factors_of p) ∷ []) one_value)) (one_before p m)
    by false false e g =
        let f : IsFactor q = record { not_zero = no_zero q (not_from_false _ e); not_one = not_one_is q g } in
        let whole : with_coefficient (num q) p ≡ rational_before q p =
        ap (λ (b : Bool). if b then num zero_fraction else (if is_one_fraction q then p else rational_before q p)) e ∙ ap (λ (b : Bool). if b then p else rational_before q p) g in
        rational_put q p f m (ap is_number (sym whole) ∙ (put (num q) p tt (λ z. f.not_zero (same z)) m).no_number)
      where
        same : num q ≡ num zero_fraction → q ≡ zero_fraction
        same z = cc
put_held c p k m = held_equal (sym (spliced_addends c p k m ((put c p k (λ z. cc) m).no_number)))

-- ---- what is written

led_sum : (ns os : Trees) → AreTerms ns → NoneIs is_number os → NoneIs is_add os → KeepsHeld (addend (terms_of ns) none ∷ addends_of_each os) (addends (add (append ns os)))
led_sum ns os a n s = held_equal (ap (λ (x : List Addend). addend (terms_of ns) none ∷ x) (others_each os n s) ∙ sym (sum_addends ns os a n))

-- without a Number
unled : (os : Trees) → 1 ≤ count os → NoneIs is_number os → NoneIs is_add os → KeepsHeld (addends_of_each os) (addends (sum_tree os))
unled none l n s = absurd (omega arith)
unled (more t none) l n s = held_equal (append-nil (addends t))
unled (more t (more u os)) l n s = let all = more t (more u os) in held_after (held_beside held_nothing (held_same (addends_of_each all))) (led_sum none all tt n s)

-- the terms of a Number
terms_value : (n : Tree) → IsNumber n → terms_of (terms_of_number n) ≡ value n
terms_value n h = grind arith

behind_others : (t : Tree) (ts : Trees) (o : Tree) (os : Trees) → sum_tree (append (more t ts) (more o os)) ≡ add (append (more t ts) (more o os))
behind_others t none o os = refl
behind_others t (more u ts) o os = refl

-- behind one
led : (n : Tree) (o : Tree) (os : Trees) → is_number n ≡ true → NoneIs is_number (more o os) → NoneIs is_add (more o os)
    → KeepsHeld (addends_of_each (more n (more o os))) (addends (sum_tree (append (terms_of_number n) (more o os))))
led n o os h k s =
    held_after (held_equal (ap (λ (x : List Addend). x ++ addends_of_each (more o os)) (alone n h ∙ ap (λ (v : Surd). addend v none ∷ []) (sym (terms_value n (number_words n h))))))
    (by (terms_of_number n) (number_terms_in n (number_words n h)).terms)
  where
    by : (ns : Trees) → AreTerms ns → KeepsHeld (addend (terms_of ns) none ∷ addends_of_each (more o os)) (addends (sum_tree (append ns (more o os))))
    by none a = held_after (held_beside (held_left_out (addend [] none)) (held_same (addends_of_each (more o os)))) (unled (more o os) (omega arith) k s)
    by (more t ns) a = held_after (led_sum (more t ns) (more o os) a k s) (held_equal (ap addends (sym (behind_others t ns o os))))

written_held : (lead os : Trees) → IsLead lead → NoneIs is_number os → NoneIs is_add os → 1 ≤ count (append lead os)
    → KeepsHeld (addends_of_each (append lead os)) (addends (written_tree (append lead os)))
written_held none none l n s c = absurd (omega arith)
written_held none (more t none) l n s c = unled (more t none) (omega arith) n s
written_held none (more t (more u os)) l n s c =
    let all = more t (more u os) in
    held_after (unled all (omega arith) n s) (held_equal (ap addends (sym (ap (λ (b : Bool). if b then sum_tree (append (terms_of_number t) (more u os)) else add all) n.0))))
written_held (more m none) none l n s c = held_equal (append-nil (addends m))
written_held (more m none) (more o os) l n s c = grind (arith, held_after, led, held_equal)
written_held (more m (more k ks)) os l n s c = absurd l

-- what holds terms in order holds their tree
pub tree_held : {us : Trees} {h l : ℕ} → IsArranged us → 1 ≤ count us → IsSumHeld (addends_of_each us) h l → IsTreeHeld (written_tree us) h l
tree_held {us = us} {h = h} {l = l} a c k =
    let all : KeepsHeld (addends_of_each us) (addends (written_tree us)) =
    subst (λ (x : Trees). KeepsHeld (addends_of_each x) (addends (written_tree x))) (sym a.split)
    (written_held a.lead a.others a.one a.no_number (no_sums a.others a.no_number a.no_sum) (subst (λ (x : Trees). 1 ≤ count x) a.split c)) in
    sum_as_tree (written_tree us) h l (holds all k)
