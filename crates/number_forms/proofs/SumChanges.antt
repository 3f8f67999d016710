-- A sum that stands last: as it is read, with a term more, and with a term less.
use Rattle.number_forms.proofs.Shared.{arith, ◌≡◌, ℕ, ◌<◌, [], ◌∷◌, ◌++◌, true, sym, ap, ◌∙◌, subst, IsTerm, AreTerms, Rises, is_term, terms_of, value, Same, are_alike, Term, Surd, AreWholeOver}
use Rattle.number_forms.proofs.Shared.{Parts, SharesDenominators, Tree, Trees, none, more, add, count, IsProper, term_words, Same-trans, Same-refl, Same-eq, Same-cons, Same-append, Same-to_front}
use Rattle.number_forms.proofs.Shared.{State, IsSum, IsSumOf, IsApart, IsPlace, removed, nth, plain, children_of, inserted, Forest, IsHanded, Gives, tree_at, root_tree, Stands, forest, given_handed}
use Rattle.number_forms.proofs.{Shared.{given_told, seen, IsMatch, Match, term_test}, Denominators.{whole_inserted, whole_removed, whole_nth}, Joined.{are_inserted, rises_inserted, same_inserted}}
use Rattle.number_forms.proofs.{Joined.{are_removed, rises_removed, same_removed, apart_removed, alike_sum}, LastSums.{sum_is}, Shaped.{nth_is_term}}
use Rattle.calc_algebra.specs.Numbers.{term_of}

-- ---- as it is read

pub read_sum : {g : Forest} (j i : ℕ) (s : State) → j ≡ i → Stands s → Gives g (forest s) i IsSum → IsSum (plain (tree_at j (forest s)))
read_sum j i s e st h = subst IsSum (sym (seen e st (given_handed h))) (given_told h)

pub read_place : (j i n r x : ℕ) (s : State) → j ≡ i → Stands s → IsHanded i (forest s) → r ≡ x → IsPlace n r (children_of (plain (tree_at j (forest s))))
    → IsPlace n x (children_of (plain (root_tree i (forest s))))
read_place j i n r x s e st h q p = subst (λ (t : Tree). IsPlace n x (children_of t)) (seen e st h) (subst (λ (y : ℕ). IsPlace n y (children_of (plain (tree_at j (forest s))))) q p)

pub term_of_sum : (t u : Tree) (n : ℕ) → IsSum t → n < count (children_of t) → u ≡ nth n (children_of t) → is_term u ≡ true
term_of_sum t u n h l e = ap is_term e ∙ term_test (nth n (children_of t)) (nth_is_term (children_of t) n l (subst IsSum (sum_is t h) h).0)

pub sum_value : (t : Tree) → IsSum t → value t ≡ terms_of (children_of t)
sum_value t h = ap value (sum_is t h)

-- ---- a term more

pub inserted_of : (n : ℕ) (t : Term) (u : Tree) (ts : Trees) (v : Surd) → IsTerm u → term_of u ≡ t → v ≡ terms_of ts → 0 < t.radicand → IsApart t.radicand v → IsPlace n t.radicand ts
    → AreTerms ts → Rises (terms_of ts) → IsSumOf (t ∷ v) (add (inserted n (more u none) ts))
inserted_of n t u ts v w e q o a p are rises =
    let radicand : t.radicand ≡ (term_of u).radicand = ap (λ (x : Term). x.radicand) (sym e) in
    let positive : 0 < (term_of u).radicand = subst (λ (r : ℕ). 0 < r) radicand o in
    let place : IsPlace n (term_of u).radicand ts = subst (λ (r : ℕ). IsPlace n r ts) radicand p in
    let apart : IsApart (term_of u).radicand (terms_of ts) = subst (λ (r : ℕ). IsApart r (terms_of ts)) radicand (subst (IsApart t.radicand) q a) in
    record {
      sum = (are_inserted n u ts w are, rises_inserted n u ts positive apart place rises);
      worth = Same-trans (same_inserted n u ts) (Same-eq (λ i. e i ∷ sym q i));
      parts = λ d p. record { positive = p.positive; whole = whole_inserted d n u ts (subst (AreWholeOver d) (λ i. sym e i ∷ q i) p.whole) };
    }

-- with a tree that is the term
pub inserted_in : {s v x : Tree} (n : ℕ) (u : Tree) (t : Term) → IsSum s → v ≡ s → (is_term u ≡ true) × (term_of u ≡ t) → 0 < t.radicand → IsApart t.radicand (value s)
    → IsPlace n t.radicand (children_of s) → x ≡ add (inserted n (more u none) (children_of v)) → IsSumOf (t ∷ value s) x
inserted_in {s = s} n u t is same told o a p e = let parts : IsSum (add (children_of s)) = subst IsSum (sum_is s is) is in
    let tree = e ∙ ap (λ (y : Tree). add (inserted n (more u none) (children_of y))) same in
    subst (IsSumOf (t ∷ value s)) (sym tree) (inserted_of n t u (children_of s) (value s) (term_words u told.0) told.1 (sum_value s is) o a p parts.0 parts.1)

-- ---- a term less

pub removed_is_sum : (n : ℕ) (t u : Tree) → IsSum t → u ≡ add (removed n (children_of t)) → IsSum u
removed_is_sum n t u h e = grind (arith, sum_is, are_removed, rises_removed)

pub joined_rest : (n : ℕ) (ts : Trees) (v : Surd) (t : Term) → n < count ts → Same v (term_of (nth n ts) ∷ t ∷ []) → Same (v ++ terms_of (removed n ts)) (t ∷ terms_of ts)
joined_rest n ts v t l h =
    let rest = terms_of (removed n ts) in
    let one : Same (v ++ rest) (term_of (nth n ts) ∷ t ∷ rest) = Same-append h (Same-refl rest) in
    let two : Same (term_of (nth n ts) ∷ t ∷ rest) (t ∷ term_of (nth n ts) ∷ rest) = Same-to_front (term_of (nth n ts) ∷ []) t rest in
    Same-trans one (Same-trans two (Same-cons t (same_removed n ts l)))

whole_left : (d n : ℕ) (t u : Tree) → IsSum t → u ≡ add (removed n (children_of t)) → AreWholeOver d (value t) → AreWholeOver d (value u)
whole_left d n t u h e a = subst (AreWholeOver d) (sym (ap value e)) (whole_removed d n (children_of t) (subst (AreWholeOver d) (sum_value t h) a))

-- the two terms cancelled
pub cancelled : (n : ℕ) (t u : Tree) (s : Term) → IsSum t → n < count (children_of t) → Same [] (term_of (nth n (children_of t)) ∷ s ∷ []) → u ≡ add (removed n (children_of t))
    → IsSumOf (s ∷ value t) u
cancelled n t u s h l k e = record {
  sum = removed_is_sum n t u h e;
  parts = λ d p. record { positive = p.positive; whole = whole_left d n t u h e p.whole.1 };
  worth = Same-trans (Same-eq (ap value e)) (Same-trans (joined_rest n (children_of t) [] s l k) (Same-eq (ap (λ (v : Surd). s ∷ v) (sym (sum_value t h)))));
}

-- a term of the two took their place
pub made_one : (n : ℕ) (t u x : Tree) (s j : Term) → IsSum t → n < count (children_of t) → Same (j ∷ []) (term_of (nth n (children_of t)) ∷ s ∷ [])
    → SharesDenominators (term_of (nth n (children_of t)) ∷ s ∷ []) (j ∷ []) → u ≡ add (removed n (children_of t)) → IsSumOf (j ∷ value u) x → IsSumOf (s ∷ value t) x
made_one n t u x s j h l k f e w = record {
  sum = w.sum;
  parts = λ d p.
      let whole : AreWholeOver d (value t) = p.whole.1 in
      let nth-whole = whole_nth d n (children_of t) l (subst (AreWholeOver d) (sum_value t h) whole) in
      let one : Parts d (j ∷ []) = f d (record { positive = p.positive; whole = (nth-whole, (p.whole.0, tt)) }) in
      w.parts d (record { positive = p.positive; whole = (one.whole.0, whole_left d n t u h e whole) });
  worth = Same-trans w.worth (Same-trans (Same-eq (ap (λ (v : Tree). j ∷ value v) e))
      (Same-trans (joined_rest n (children_of t) (j ∷ []) s l k) (Same-eq (ap (λ (v : Surd). s ∷ v) (sym (sum_value t h))))));
}

-- ---- what meets a term

pub matched : (t : Term) (u v : Tree) (m n : Match) → u ≡ v → m ≡ n → IsMatch t (children_of u) m → IsMatch t (children_of v) n
matched t u v m n e f h = subst (λ (x : Match). IsMatch t (children_of v) x) f (subst (λ (x : Tree). IsMatch t (children_of x) m) e h)

pub apart_rest : (n : ℕ) (t u : Tree) (s j : Term) → IsSum t → n < count (children_of t) → IsProper j → are_alike (term_of (nth n (children_of t))).radicand s.radicand ≡ true
    → Same (j ∷ []) (term_of (nth n (children_of t)) ∷ s ∷ []) → u ≡ add (removed n (children_of t)) → IsApart j.radicand (value u)
apart_rest n t u s j h l p a k e = grind (arith, sum_is, apart_removed, alike_sum)
