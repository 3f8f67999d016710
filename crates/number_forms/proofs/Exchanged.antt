-- A term of a sum that stands last, known by its identifier: another comes in its place.
use Rattle.number_forms.proofs.Shared.{◌≡◌, ℕ, zero, suc, ◌<◌, ◌≤◌, ◌∷◌, true, refl, sym, ap, ◌∙◌, subst, arith, is_term, terms_of, Term, Tree, Trees, none, more, add, count, term_words, IsSum}
use Rattle.number_forms.proofs.{Shared.{IsSumOf, IsApart, IsPlace, removed, nth, children_of, inserted}, Joined.{are_removed, rises_removed}, LastSums.{sum_is}, SquareFreeSums.{rises_in_sum}}
use Rattle.number_forms.proofs.SumChanges.{inserted_of}
use Rattle.calc_algebra.specs.Numbers.{term_of}

count_removed : (n : ℕ) (ts : Trees) → n < count ts → count ts ≡ suc (count (removed n ts))
count_removed n none l = absurd (omega arith)
count_removed zero (more t ts) l = refl
count_removed (suc n) (more t ts) l = ap suc (count_removed n ts (omega arith))

pub nth_before : (k n : ℕ) (ts : Trees) → k < n → nth k (removed n ts) ≡ nth k ts
nth_before k n none l = refl
nth_before k zero (more t ts) l = absurd (omega arith)
nth_before zero (suc n) (more t ts) l = refl
nth_before (suc k) (suc n) (more t ts) l = nth_before k n ts (omega arith)

nth_behind : (n : ℕ) (ts : Trees) → nth n (removed n ts) ≡ nth (suc n) ts
nth_behind n none = refl
nth_behind zero (more t ts) = refl
nth_behind (suc n) (more t ts) = nth_behind n ts

-- its place among the others
pub place_removed : (t : Tree) (n : ℕ) → IsSum t → n < count (children_of t) → IsPlace n (term_of (nth n (children_of t))).radicand (removed n (children_of t))
place_removed t n h l = let ts = children_of t in let r = (term_of (nth n ts)).radicand in let c = count_removed n ts l in record {
  within = omega (arith, l, c);
  below = λ k x. subst (λ (u : Tree). (term_of u).radicand < r) (sym (nth_before k n ts x)) (rises_in_sum t k n h x l);
  above = λ x. let up = rises_in_sum t n (suc n) h (omega arith) (omega (arith, x, c)) in subst (λ (u : Tree). r ≤ (term_of u).radicand) (sym (nth_behind n ts)) (omega (arith, up));
}

-- with a tree that is another term of the same radicand
pub exchanged_in : {s v x : Tree} (n : ℕ) (u : Tree) (t : Term) → IsSum s → v ≡ s → (is_term u ≡ true) × (term_of u ≡ t) → 0 < t.radicand → n < count (children_of s)
    → (term_of (nth n (children_of s))).radicand ≡ t.radicand
    → IsApart t.radicand (terms_of (removed n (children_of s))) → x ≡ add (inserted n (more u none) (removed n (children_of v))) → IsSumOf (t ∷ terms_of (removed n (children_of s))) x
exchanged_in {s = s} n u t is same told o l r a e = let ts = children_of s in
    let others = removed n ts in
    let parts : IsSum (add ts) = subst IsSum (sum_is s is) is in
    let place : IsPlace n t.radicand others = subst (λ (k : ℕ). IsPlace n k others) r (place_removed s n is l) in
    let tree = e ∙ ap (λ (y : Tree). add (inserted n (more u none) (removed n (children_of y)))) same in
    subst (IsSumOf (t ∷ terms_of others)) (sym tree) (inserted_of n t u others (terms_of others) (term_words u told.0) told.1 refl o a place (are_removed n ts parts.0) (rises_removed n ts parts.1))
