-- Sums of terms whose radicands are so small that each class has one.
use Rattle.number_forms.proofs.Shared.{◌∷◌, [], ◌≡◌, ℕ, zero, suc, ◌<◌, ◌≤◌, ◌^◌, ◌⊎◌, inl, inr, false, ap, ◌∙◌, subst, arith, false_from_ne_true, IsClean, IsBelowAll, Rises, terms_of, are_alike}
use Rattle.number_forms.proofs.Shared.{Term, SharesDenominators, Tree, Trees, none, more, count, IsSum, IsApart, IsPlace, AreBelow, joined_den, nth, children_of, IsSquareFree, clean_square_free}
use Rattle.number_forms.proofs.{Shared.{IsOther, alike_square_free, sym, term_simplest, Joined, Joins, IfTerm}, Rooms.{sum_parts}, Joined.{apart_each}, Shaped.{nth_is_term}}
use Rattle.calc_algebra.specs.Numbers.{term_of}
use Rattle.surd_terms.specs.{Sums.{IsSum as IsSumOfTwo}, Terms.{term_of as term_of_code}, declared.term.Term.{Term as CodeTerm}}
use Rattle.surd_terms.specs.declared.sums.Joined.TheVariants as joined

-- ---- a term that was read

pub read_radicand : (x : ℕ) (s : Term) (u v : Tree) → x ≡ s.radicand → s ≡ term_of u → u ≡ v → x ≡ (term_of v).radicand
read_radicand x s u v e f g = e ∙ ap (λ (t : Term). t.radicand) (f ∙ ap term_of g)

pub read_apart : (j : Joined) (s x : Term) (u v : Tree) → j ≡ joined.Apart → Joins j s x → s ≡ term_of u → u ≡ v → are_alike x.radicand (term_of v).radicand ≡ false
read_apart j s x u v e h f g = grind arith

pub read_joined : (j k : Joined) (s x : Term) (u v : Tree) → j ≡ k → Joins j s x → s ≡ term_of u → u ≡ v → Joins k (term_of v) x
read_joined j k s x u v e h f g = subst (λ (i : Joined). Joins i (term_of v) x) e (subst (λ (t : Term). Joins j t x) (f ∙ ap term_of g) h)

-- the one term that two make is over their common denominators
pub read_parts : (j : Joined) (t : CodeTerm) (s x : Term) (u v : Tree) → j ≡ joined.Term t → IfTerm j (λ y. IsSumOfTwo y s x) → s ≡ term_of u → u ≡ v
    → SharesDenominators (term_of v ∷ x ∷ []) (term_of_code t ∷ [])
read_parts j t s x u v e h f g = λ d p.
    let sum : IsSumOfTwo (term_of_code t) (term_of v) x = subst (λ (y : Term). IsSumOfTwo (term_of_code t) y x) (f ∙ ap term_of g) (subst (λ (k : Joined). IfTerm k (λ y. IsSumOfTwo y s x)) e h) in
    record { positive = p.positive; whole = (joined_den (term_of_code t) (term_of v) x d sum p, tt) }

-- ---- radicands by place

order : (a b : ℕ) → (a < b) ⊎ (b ≤ a)
order a b = grind arith

at_most : (a b : ℕ) → a ≤ b → (a < b) ⊎ (a ≡ b)
at_most a b h = grind arith

nth_above : (u : Term) (n : ℕ) (ts : Trees) → IsBelowAll u (terms_of ts) → n < count ts → u.radicand < (term_of (nth n ts)).radicand
nth_above u n none b l = absurd (omega arith)
nth_above u zero (more t ts) (x, c, b) l = x
nth_above u (suc n) (more t ts) (x, c, b) l = nth_above u n ts b (omega arith)

rises_nth : (m n : ℕ) (ts : Trees) → Rises (terms_of ts) → m < n → n < count ts → (term_of (nth m ts)).radicand < (term_of (nth n ts)).radicand
rises_nth m n none h k l = absurd (omega arith)
rises_nth zero zero (more t ts) h k l = absurd (omega arith)
rises_nth zero (suc n) (more t ts) (b, h) k l = nth_above (term_of t) n ts b (omega arith)
rises_nth (suc m) zero (more t ts) h k l = absurd (omega arith)
rises_nth (suc m) (suc n) (more t ts) (b, h) k l = rises_nth m n ts h (omega arith) (omega arith)

pub rises_in_sum : (t : Tree) (m n : ℕ) → IsSum t → m < n → n < count (children_of t) → (term_of (nth m (children_of t))).radicand < (term_of (nth n (children_of t))).radicand
rises_in_sum t m n h k l = rises_nth m n (children_of t) (sum_parts t h).1 k l

-- up to a place, where the radicand there is below
pub below_up_to : (t : Tree) (m k r : ℕ) → IsSum t → m < count (children_of t) → (term_of (nth m (children_of t))).radicand < r → k ≤ m → (term_of (nth k (children_of t))).radicand < r
below_up_to t m k r h l b x = grind (arith, at_most, rises_in_sum)

-- the place of a radicand that a term has
pub place_there : (t : Tree) (n r : ℕ) → IsSum t → n < count (children_of t) → r ≡ (term_of (nth n (children_of t))).radicand → IsPlace n r (children_of t)
place_there t n r h l e = record { within = omega (arith, l); below = λ k x. let up = rises_in_sum t k n h x l in omega (arith, up, e); above = λ x. omega (arith, e) }

-- ---- the last is the greatest

pub all_below : (t : Tree) (m r : ℕ) → IsSum t → suc m ≡ count (children_of t) → (term_of (nth m (children_of t))).radicand < r → AreBelow r (children_of t)
all_below t m r h e b = λ k l. below_up_to t m k r h (omega (arith, e)) b (omega (arith, e, l))

-- ---- small clean radicands are alike where they are equal

pub apart_small : (r s : ℕ) → IsSquareFree r → IsSquareFree s → (r ≡ s → ⊥) → are_alike r s ≡ false
apart_small r s f g h = false_from_ne_true (are_alike r s) (λ a. absurd (h (alike_square_free r s a f g)))

pub apart_at_place : (t : Tree) (r n : ℕ) → IsSum t → IsClean r → r < 10 ^ 12 → AreBelow (10 ^ 12) (children_of t) → IsPlace n r (children_of t)
    → IsOther n r (children_of t) → IsApart r (terms_of (children_of t))
apart_at_place t r n h c l s p other = apart_each r ts (λ k x. by k x (order k n))
  where
    ts : Trees
    ts = children_of t

    free : (k : ℕ) → k < count ts → IsSquareFree (term_of (nth k ts)).radicand
    free k x = (term_simplest (nth k ts) (nth_is_term ts k x (sum_parts t h).0) (s k x)).square_free

    unequal : (k : ℕ) → k < count ts → (r ≡ (term_of (nth k ts)).radicand → ⊥) → are_alike r (term_of (nth k ts)).radicand ≡ false
    unequal k x u = apart_small r (term_of (nth k ts)).radicand (clean_square_free r c l) (free k x) u

    behind : (k : ℕ) → k < count ts → (n < k) ⊎ (n ≡ k) → are_alike r (term_of (nth k ts)).radicand ≡ false
    behind k x (inl y) =
        let a : r ≤ (term_of (nth n ts)).radicand = p.above (omega (arith, x, y)) in
        let b = rises_in_sum t n k h y x in
        unequal k x (λ e. absurd (omega (arith, a, b, e)))
    behind k x (inr e) = unequal k x (λ q. other (omega (arith, x, e)) (q ∙ ap (λ (j : ℕ). (term_of (nth j ts)).radicand) (sym e)))

    by : (k : ℕ) → k < count ts → (k < n) ⊎ (n ≤ k) → are_alike r (term_of (nth k ts)).radicand ≡ false
    by k x (inl y) =
        let a = p.below k y in
        unequal k x (λ e. absurd (omega (arith, a, e)))
    by k x (inr y) = behind k x (at_most n k y)
