-- Terms as values, and as trees: with one more, and with one less.
use Rattle.number_forms.proofs.Shared.{◌≡◌, ◌≢◌, ◌⊎◌, ℕ, zero, suc, ◌<◌, ◌≤◌, ◌^◌, ◌+◌, ◌*◌, List, [], ◌∷◌, ◌++◌, Bool, true, false, length, get_or, set, take, inl, inr, refl, sym, ap, ◌∙◌, subst}
use Rattle.number_forms.proofs.Shared.{arith, append-nil, pos, refill, insert, remove, IsProper, num_most, size, sizes, IsExtracted, IsNumberOver, Parts, Same-append, Same-refl, is_number, joined_den}
use Rattle.number_forms.proofs.Shared.{num, number_test, value, zero_fraction, lowest, gcd, IsTerm, IsSumOf, IsPlace, AreBelow, Same, Same-trans, Same-eq, SharesDenominators, Surd, Term, Trees, add}
use Rattle.number_forms.proofs.Shared.{none, more, count, nth, removed, inserted, is_term, is_one_fraction, one_fraction, one_is, term_of, term_tree, term_words, terms_of, value_of, are_alike, append}
use Rattle.number_forms.proofs.Shared.{AreListed, AreSmall, AreTermsOf, number_tree, trees_of, IsGcd-same, Tree, drop_all, length-set, take_all, take_more, same_from_IsGcd, Joins, term_is_number}
use Rattle.number_forms.proofs.{Kept.{zero_value}, Denominators.{parts_extracted, shares_eq}, Exchanged.{place_removed}, Joined.{are_removed, rises_removed}}
use Rattle.number_forms.proofs.{Placings.{rational_term, root_term, multiple_term, one_test}, Shaped.{sum_number, term_value}, SquareFreeSums.{apart_at_place}}
use Rattle.number_forms.proofs.{SumChanges.{inserted_of, cancelled, made_one, apart_rest}, TermTrees.{rational_tree, root_tree, multiple_tree}}
use Rattle.number_forms.specs.Values.{surd_of}
use Rattle.calc_algebra.specs.Numbers.{term_of as term_of_tree}
use Rattle.surd_terms.specs.{Sums.{IsSum as IsSumOfTwo}, declared.term.Term.{Term as CodeTerm}}
use Rattle.surd_terms.specs.declared.sums.Joined.TheVariants as joined

-- ---- a term's tree

pub two : (n : ℕ) → 1 ≤ n → n ≢ 1 → 2 ≤ n
two n l h = grind arith

is_one : (n : ℕ) → (n ≡ 1) ⊎ (n ≢ 1)
is_one n = grind arith

pub term_is : (t : CodeTerm) → (is_term (term_tree (term_of t)) ≡ true) × (term_of_tree (term_tree (term_of t)) ≡ term_of t)
term_is t = elim (is_one t.radicand) [
  | inl e ↦ rational_tree (value_of t.coefficient) (term_of t) (term_tree (term_of t)) refl t.not_zero e (rational_term (term_of t) e)
  | inr n ↦ by n (is_one_fraction (value_of t.coefficient)) refl
]
  where
    by : t.radicand ≢ 1 → (b : Bool) → is_one_fraction (value_of t.coefficient) ≡ b → (is_term (term_tree (term_of t)) ≡ true) × (term_of_tree (term_tree (term_of t)) ≡ term_of t)
    by n true e =
        let o = one_is (value_of t.coefficient) e in
        root_tree t.radicand (term_of t) (term_tree (term_of t)) (sym o) refl (two t.radicand t.positive n) t.clean (root_term (term_of t) n o)
    by n false e =
        let o : value_of t.coefficient ≢ one_fraction = λ k. absurd (cc (ap is_one_fraction k ∙ one_test, e)) in
        multiple_tree (value_of t.coefficient) t.radicand (term_of t) (term_tree (term_of t)) refl t.not_zero o refl (two t.radicand t.positive n) t.clean (multiple_term (term_of t) n o)

pub term_told : (t : CodeTerm) {u : Tree} → u ≡ term_tree (term_of t) → (is_term u ≡ true) × (term_of_tree u ≡ term_of t)
term_told t e = (ap is_term e ∙ (term_is t).0, ap term_of_tree e ∙ (term_is t).1)

pub term_words_of : (t : CodeTerm) → IsTerm (term_tree (term_of t))
term_words_of t = term_words (term_tree (term_of t)) (term_is t).0

-- ---- a list of terms

pub count_trees : (ts : List CodeTerm) → count (trees_of ts) ≡ length ts
count_trees [] = refl
count_trees (t ∷ ts) = ap suc (count_trees ts)

pub terms_of_trees : (ts : List CodeTerm) → terms_of (trees_of ts) ≡ surd_of ts
terms_of_trees [] = refl
terms_of_trees (t ∷ ts) = λ i. (term_is t).1 i ∷ terms_of_trees ts i

pub nth_tree : (ts : List CodeTerm) (n : ℕ) (d : CodeTerm) → n < length ts → term_of_tree (nth n (trees_of ts)) ≡ term_of (get_or ts n d)
nth_tree [] n d l = absurd (omega arith)
nth_tree (t ∷ ts) zero d l = (term_is t).1
nth_tree (t ∷ ts) (suc n) d l = nth_tree ts n d (omega arith)

trees_insert : (ts : List CodeTerm) (n : ℕ) (t : CodeTerm) → n ≤ length ts → trees_of (insert ts n t) ≡ inserted n (more (term_tree (term_of t)) none) (trees_of ts)
trees_insert ts zero t l = refl
trees_insert [] (suc n) t l = absurd (omega arith)
trees_insert (x ∷ ts) (suc n) t l = ap (more (term_tree (term_of x))) (trees_insert ts n t (omega arith))

trees_remove : (ts : List CodeTerm) (n : ℕ) → n < length ts → trees_of (remove ts n) ≡ removed n (trees_of ts)
trees_remove [] n l = absurd (omega arith)
trees_remove (x ∷ ts) zero l = refl
trees_remove (x ∷ ts) (suc n) l = ap (more (term_tree (term_of x))) (trees_remove ts n (omega arith))

trees_set : (ts : List CodeTerm) (n : ℕ) (t : CodeTerm) → n < length ts → trees_of (set ts n t) ≡ inserted n (more (term_tree (term_of t)) none) (removed n (trees_of ts))
trees_set [] n t l = absurd (omega arith)
trees_set (x ∷ ts) zero t l = refl
trees_set (x ∷ ts) (suc n) t l = ap (more (term_tree (term_of x))) (trees_set ts n t (omega arith))

small_insert : (ts : List CodeTerm) (n : ℕ) (t : CodeTerm) → n ≤ length ts → t.radicand < 10 ^ 12 → AreSmall ts → AreSmall (insert ts n t)
small_insert ts zero t l h a = (h, a)
small_insert [] (suc n) t l h a = absurd (omega arith)
small_insert (x ∷ ts) (suc n) t l h a = (a.0, small_insert ts n t (omega arith) h a.1)

small_remove : (ts : List CodeTerm) (n : ℕ) → n < length ts → AreSmall ts → AreSmall (remove ts n)
small_remove [] n l a = absurd (omega arith)
small_remove (x ∷ ts) zero l a = a.1
small_remove (x ∷ ts) (suc n) l a = (a.0, small_remove ts n (omega arith) a.1)

small_set : (ts : List CodeTerm) (n : ℕ) (t : CodeTerm) → n < length ts → t.radicand < 10 ^ 12 → AreSmall ts → AreSmall (set ts n t)
small_set [] n t l h a = absurd (omega arith)
small_set (x ∷ ts) zero t l h a = (h, a.1)
small_set (x ∷ ts) (suc n) t l h a = (a.0, small_set ts n t (omega arith) h a.1)

small_below : (ts : List CodeTerm) → AreSmall ts → AreBelow (10 ^ 12) (trees_of ts)
small_below [] a = λ k l. absurd (omega arith)
small_below (t ∷ ts) a = by (small_below ts a.1)
  where
    by : AreBelow (10 ^ 12) (trees_of ts) → AreBelow (10 ^ 12) (trees_of (t ∷ ts))
    by below zero l = subst (λ (u : Term). u.radicand < 10 ^ 12) (sym (term_is t).1) a.0
    by below (suc k) l = below k (omega arith)

-- what the trees of a list are worth
listed_as : {v : Surd} {w : Surd} (us : List CodeTerm) (ts : Trees) → trees_of us ≡ ts → IsSumOf v (add ts) → v ≡ w → AreSmall us → AreTermsOf w us
listed_as {v} {w} us ts e s q a = let h : IsSumOf v (add (trees_of us)) = subst (λ (x : Trees). IsSumOf v (add x)) (sym e) s in record {
  listed = record { sum = h.sum; small = a };
  worth = Same-trans (Same-eq (sym (terms_of_trees us))) (Same-trans h.worth (Same-eq q));
  parts = λ d p. shares_eq (terms_of_trees us) d (h.parts d (shares_eq (sym q) d p));
}

-- ---- with one more

module _ (ts : List CodeTerm) (n : ℕ) (t : CodeTerm) (h : AreListed ts) (m : t.radicand < 10 ^ 12) where
  abbrev all : Surd
  all = term_of t ∷ terms_of (trees_of ts)

  abbrev told : all ≡ term_of t ∷ surd_of ts
  told = ap (λ (v : Surd). term_of t ∷ v) (terms_of_trees ts)

  pub inserted_terms : IsPlace n t.radicand (trees_of ts) → (n < length ts → (get_or ts n t).radicand ≡ t.radicand → ⊥) → AreTermsOf (term_of t ∷ surd_of ts) (insert ts n t)
  inserted_terms p u =
      let many = count_trees ts in
      let within : n ≤ length ts = omega (arith, p.within, many) in
      let other = λ (l : n < count (trees_of ts)) (e : t.radicand ≡ (term_of_tree (nth n (trees_of ts))).radicand).
      u (omega (arith, l, many)) (sym (e ∙ ap (λ (y : Term). y.radicand) (nth_tree ts n t (omega (arith, l, many))))) in
      let apart = apart_at_place (add (trees_of ts)) t.radicand n h.sum t.clean m (small_below ts h.small) p other in
      listed_as (insert ts n t) _ (trees_insert ts n t within)
      (inserted_of n (term_of t) (term_tree (term_of t)) (trees_of ts) (terms_of (trees_of ts)) (term_words_of t) (term_is t).1 refl t.positive apart p h.sum.0 h.sum.1)
      told (small_insert ts n t within m h.small)

  -- ---- met by the one of its radicand

  module _ (x : CodeTerm) (l : n < length ts) (q : x ≡ get_or ts n x) (e : x.radicand ≡ t.radicand) where
    abbrev own : term_of_tree (nth n (trees_of ts)) ≡ term_of x
    own = nth_tree ts n x l ∙ ap term_of (sym q)

    abbrev there : n < count (trees_of ts)
    there = omega (arith, l, count_trees ts)

    pub cancelled_terms : Joins joined.Zero (term_of x) (term_of t) → AreTermsOf (term_of t ∷ surd_of ts) (remove ts n)
    cancelled_terms j =
        listed_as (remove ts n) _ (trees_remove ts n l)
        (cancelled n (add (trees_of ts)) (add (removed n (trees_of ts))) (term_of t) h.sum there (subst (λ (y : Term). Same [] (y ∷ term_of t ∷ [])) (sym own) j.1) refl)
        told (small_remove ts n l h.small)

    pub met_terms : (one : CodeTerm) → Joins (joined.Term one) (term_of x) (term_of t) → IsSumOfTwo (term_of one) (term_of x) (term_of t) → AreTermsOf (term_of t ∷ surd_of ts) (set ts n one)
    met_terms one j s =
        let us = removed n (trees_of ts) in
        let radicand : one.radicand ≡ x.radicand = same_from_IsGcd _ _ _ _ s.shared (IsGcd-same _ _ e) in
        let alike = subst (λ (y : Term). are_alike y.radicand t.radicand ≡ true) (sym own) j.0 in
        let same = subst (λ (y : Term). Same (term_of one ∷ []) (y ∷ term_of t ∷ [])) (sym own) j.1 in
        let proper : IsProper (term_of one) = record { not_zero = one.not_zero; positive = one.positive } in
        let apart = apart_rest n (add (trees_of ts)) (add us) (term_of t) (term_of one) h.sum there proper alike same refl in
        let place = subst (λ (r : ℕ). IsPlace n r us) (ap (λ (y : Term). y.radicand) own ∙ sym radicand) (place_removed (add (trees_of ts)) n h.sum there) in
        let are = are_removed n (trees_of ts) h.sum.0 in
        let rises = rises_removed n (trees_of ts) h.sum.1 in
        let sum = inserted_of n (term_of one) (term_tree (term_of one)) us (terms_of us) (term_words_of one) (term_is one).1 refl one.positive apart place are rises in
        let parts : SharesDenominators (term_of_tree (nth n (trees_of ts)) ∷ term_of t ∷ []) (term_of one ∷ []) =
        (λ d p. let r : Parts d (term_of x ∷ term_of t ∷ []) = subst (λ (y : Term). Parts d (y ∷ term_of t ∷ [])) own p in record { positive = r.positive; whole = (joined_den (term_of one) (term_of x) (term_of t) d s r, tt) }) in
        listed_as (set ts n one) _ (trees_set ts n one l)
        (made_one n (add (trees_of ts)) (add us) _ (term_of t) (term_of one) h.sum there same parts refl sum)
        told (small_set ts n one l (omega (arith, radicand, e, m)) h.small)

-- ---- the place of a radicand

pub same_default : (ts : List CodeTerm) (n : ℕ) (x y : CodeTerm) → n < length ts → get_or ts n x ≡ get_or ts n y
same_default [] n x y l = absurd (omega arith)
same_default (t ∷ ts) zero x y l = refl
same_default (t ∷ ts) (suc n) x y l = same_default ts n x y (omega arith)

below_at : (ts : List CodeTerm) (k r : ℕ) → k < length ts → ((x : CodeTerm) → (get_or ts k x).radicand < r) → (term_of_tree (nth k (trees_of ts))).radicand < r
below_at [] k r l h = absurd (omega arith)
below_at (t ∷ ts) k r l h = subst (λ (y : Term). y.radicand < r) (sym (nth_tree (t ∷ ts) k t l)) (h t)

pub place_here : (ts : List CodeTerm) (n r : ℕ) (d : CodeTerm) → n < length ts → ((k : ℕ) (x : CodeTerm) → k < n → (get_or ts k x).radicand < r) → d ≡ get_or ts n d
    → r ≤ d.radicand → IsPlace n r (trees_of ts)
place_here ts n r d l b q a = grind (arith, count_trees, below_at, nth_tree)

pub place_end : (ts : List CodeTerm) (n r : ℕ) → n ≡ length ts → ((k : ℕ) (x : CodeTerm) → k < n → (get_or ts k x).radicand < r) → IsPlace n r (trees_of ts)
place_end ts n r e b = grind (arith, count_trees, below_at)

-- ---- one after another

trees_append : (ts us : List CodeTerm) → append (trees_of ts) (trees_of us) ≡ trees_of (ts ++ us)
trees_append [] us = refl
trees_append (t ∷ ts) us = ap (more (term_tree (term_of t))) (trees_append ts us)

pub trees_more : (ts : List CodeTerm) (i : ℕ) (t : CodeTerm) → i < length ts → t ≡ get_or ts i t
    → append (trees_of (take i ts)) (more (term_tree (term_of t)) none) ≡ trees_of (take (i + 1) ts)
trees_more ts i t l e =
    let next : take (i + 1) ts ≡ take i ts ++ t ∷ [] = take_more ts i t l ∙ ap (λ (u : CodeTerm). take i ts ++ u ∷ []) (sym e) in trees_append (take i ts) (t ∷ []) ∙ ap trees_of (sym next)

term_size : (t : Term) → size (term_tree t) ≤ 96
term_size t = grind (arith, num_most)

-- how many bytes they take
pub terms_size : (ts : List CodeTerm) → sizes (trees_of ts) ≤ 96 * length ts
terms_size [] = omega arith
terms_size (t ∷ ts) = omega (arith, term_size (term_of t), terms_size ts)

pub one_tree_of : (ts : List CodeTerm) (t : CodeTerm) → length ts ≡ 1 → t ≡ get_or ts 0 t → term_tree (term_of t) ≡ number_tree ts
one_tree_of ts t l e = grind arith

pub no_tree_of : (ts : List CodeTerm) → length ts ≡ 0 → num (lowest (pos 0) 1) ≡ number_tree ts
unfolding zero_fraction
no_tree_of [] l = refl
no_tree_of (t ∷ ts) l = absurd (omega (arith, l))

pub sum_tree_of : (ts : List CodeTerm) → (length ts ≡ 0 → ⊥) → (length ts ≡ 1 → ⊥) → add (trees_of ts) ≡ number_tree ts
sum_tree_of ts n o = grind arith

-- ---- as a Number

pub number_value : (ts : List CodeTerm) → value (number_tree ts) ≡ surd_of ts
unfolding zero_fraction lowest gcd
number_value [] = zero_value (num zero_fraction) refl
number_value (t ∷ []) = term_value (term_tree (term_of t)) (term_words_of t) ∙ ap (λ (x : Term). x ∷ []) (term_is t).1
number_value (t ∷ u ∷ ts) = terms_of_trees (t ∷ u ∷ ts)

is_listed_number : (ts : List CodeTerm) → AreListed ts → is_number (number_tree ts) ≡ true
is_listed_number [] h = number_test (num zero_fraction) tt
is_listed_number (t ∷ []) h = term_is_number (term_tree (term_of t)) (term_is t).0
is_listed_number (t ∷ u ∷ ts) h = (sum_number (trees_of (t ∷ u ∷ ts)) (omega arith) h.sum.0 h.sum.1).number

pub number_over : {v : Surd} (ts : List CodeTerm) → AreTermsOf v ts → IsNumberOver v (number_tree ts)
number_over ts h = record { number = is_listed_number ts h.listed; worth = Same-trans (Same-eq (number_value ts)) h.worth; parts = λ d p. shares_eq (sym (number_value ts)) d (h.parts d p) }

-- ---- worth the same

pub terms_as : {v w : Surd} (ts : List CodeTerm) → Same v w → SharesDenominators w v → AreTermsOf v ts → AreTermsOf w ts
terms_as ts s f h = record { listed = h.listed; worth = Same-trans h.worth s; parts = λ d p. h.parts d (f d p) }

pub extracted_terms : (p q : Term) (v : Surd) (ts : List CodeTerm) → Same (p ∷ []) (q ∷ []) → IsExtracted p q → AreTermsOf (p ∷ v) ts → AreTermsOf (q ∷ v) ts
extracted_terms p q v ts s e h = terms_as ts (Same-append s (Same-refl v)) (parts_extracted p q v e) h

pub refill_set : (xs ys : List CodeTerm) (n m : ℕ) (t : CodeTerm) → ys ≡ xs → m ≡ length xs → refill m xs (set ys n t) ≡ set xs n t
refill_set xs ys n m t e l =
    ap (λ (zs : List CodeTerm). refill m xs (set zs n t)) e ∙ ap (λ (zs : List CodeTerm). take m (set xs n t ++ zs)) (drop_all (length (set xs n t)) xs (omega (arith, length-set xs n t)))
    ∙ ap (take m) (append-nil (set xs n t)) ∙ take_all m (set xs n t) (omega (arith, l, length-set xs n t))
