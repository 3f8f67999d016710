-- Sorted lists of terms with one more, and with one less.
use Rattle.polynomials.proofs.Shared.{◌≡◌, ◌≢◌, ℕ, zero, suc, ◌-◌, ◌<◌, ◌≤◌, List, [], ◌∷◌, ◌++◌, false, length, get_or, take, drop, inl, inr, sym, ◌∙◌, subst, arith, is_zero_fraction, value_of, Term}
use Rattle.polynomials.proofs.Shared.{AreBelow, StartsFrom, IsBelowAll, IsNormal, HasMonomial}

-- ---- in order

pub below_less : (j k : ℕ) (ts : List Term) → j ≤ k → AreBelow j ts → AreBelow k ts
below_less j k [] h b = tt
below_less j k (t ∷ ts) h b = (omega (arith, b.0), below_less j k ts h (b.1))

pub below_push : (k : ℕ) (ts : List Term) (t : Term) → AreBelow k ts → t.monomial < k → AreBelow k (ts ++ t ∷ [])
below_push k [] t b h = (h, tt)
below_push k (s ∷ ts) t b h = (b.0, below_push k ts t (b.1) h)

below_all_less : (j k : ℕ) (ts : List Term) → j < k → IsBelowAll k ts → IsBelowAll j ts
below_all_less j k [] h b = tt
below_all_less j k (t ∷ ts) h b = (omega (arith, b.0), below_all_less j k ts h (b.1))

pub normal_end : (xs ys : List Term) → IsNormal (xs ++ ys) → IsNormal ys
normal_end [] ys h = h
normal_end (x ∷ xs) ys h = normal_end xs ys (h.2)

-- what starts behind a monomial is behind it
pub starts_behind : (k : ℕ) (y : Term) (ys : List Term) → IsNormal (y ∷ ys) → k < y.monomial → IsBelowAll k (y ∷ ys)
starts_behind k y ys h l = (l, below_all_less k y.monomial ys l (h.1))

below_at : (k : ℕ) (ts : List Term) (j : ℕ) (d : Term) → IsBelowAll k ts → j < length ts → k < (get_or ts j d).monomial
below_at k [] j d b h = absurd (omega arith)
below_at k (t ∷ ts) zero d b h = b.0
below_at k (t ∷ ts) (suc j) d b h = below_at k ts j d (b.1) (omega arith)

-- packed monomials rise
pub rises : (ts : List Term) (i j : ℕ) (d : Term) → IsNormal ts → i < j → j < length ts → (get_or ts i d).monomial < (get_or ts j d).monomial
rises [] i j d h l m = absurd (omega arith)
rises (t ∷ ts) i zero d h l m = absurd (omega arith)
rises (t ∷ ts) zero (suc j) d h l m = below_at t.monomial ts j d (h.1) (omega arith)
rises (t ∷ ts) (suc i) (suc j) d h l m = rises ts i j d (h.2) (omega arith) (omega arith)

-- ---- one more

insert_below : (j : ℕ) (xs ys : List Term) (t : Term) → IsBelowAll j (xs ++ ys) → j < t.monomial → IsBelowAll j (xs ++ t ∷ ys)
insert_below j [] ys t h l = (l, h)
insert_below j (x ∷ xs) ys t h l = (h.0, insert_below j xs ys t (h.1) l)

pub normal_insert : (xs ys : List Term) (t : Term) → IsNormal (xs ++ ys) → is_zero_fraction (value_of t.coefficient) ≡ false → AreBelow t.monomial xs → IsBelowAll t.monomial ys → IsNormal (xs ++ t ∷ ys)
normal_insert [] ys t h z b a = (z, a, h)
normal_insert (x ∷ xs) ys t h z b a = (h.0, insert_below x.monomial xs ys t (h.1) (b.0), normal_insert xs ys t (h.2) z (b.1) a)

-- ---- one less

remove_below : (j : ℕ) (xs ys : List Term) (s : Term) → IsBelowAll j (xs ++ s ∷ ys) → IsBelowAll j (xs ++ ys)
remove_below j [] ys s h = h.1
remove_below j (x ∷ xs) ys s h = (h.0, remove_below j xs ys s (h.1))

pub normal_remove : (xs ys : List Term) (s : Term) → IsNormal (xs ++ s ∷ ys) → IsNormal (xs ++ ys)
normal_remove [] ys s h = h.2
normal_remove (x ∷ xs) ys s h = (h.0, remove_below x.monomial xs ys s (h.1), normal_remove xs ys s (h.2))

-- ---- what is behind a term

pub behind_none : (k : ℕ) (ys : List Term) → length ys ≡ 0 → IsBelowAll k ys
behind_none k [] h = tt
behind_none k (y ∷ ys) h = absurd (omega arith)

pub behind_other : (k : ℕ) (ys : List Term) (y : Term) → y ≡ get_or ys 0 y → IsNormal ys → StartsFrom k ys → y.monomial ≢ k → IsBelowAll k ys
behind_other k [] y e h f n = tt
behind_other k (x ∷ ys) y e h f n = starts_behind k x ys h (let m : y.monomial ≡ x.monomial = λ i. (e i).monomial in omega arith)

pub first_and_rest : (ys : List Term) (y : Term) → 0 < length ys → y ≡ get_or ys 0 y → ys ≡ y ∷ drop 1 ys
first_and_rest [] y h e = absurd (omega arith)
first_and_rest (x ∷ ys) y h e = λ i. sym e i ∷ ys

pub below_take : (k : ℕ) (ts : List Term) (j : ℕ) (t : Term) → IsNormal ts → j < length ts → t ≡ get_or ts j t → t.monomial < k → AreBelow k (take (suc j) ts)
below_take k [] j t h l e b = tt
below_take k (x ∷ ts) zero t h l e b = (let m : t.monomial ≡ x.monomial = λ i. (e i).monomial in omega arith, tt)
below_take k (x ∷ ts) (suc j) t h l e b =
    let m : t.monomial ≡ (get_or ts j t).monomial = λ i. (e i).monomial in
    let first : x.monomial < (get_or ts j t).monomial = below_at x.monomial ts j t (h.1) (omega arith) in
    (omega arith, below_take k ts j t (h.2) (omega arith) e b)

-- up to the n-th
pub below_first : (k : ℕ) (ts : List Term) (n : ℕ) (t : Term) → IsNormal ts → 0 < n → n ≤ length ts → t ≡ get_or ts (n - 1) t → t.monomial < k → AreBelow k (take n ts)
below_first k ts n t h p l e b =
    let s : suc (n - 1) ≡ n = omega arith in
    subst (λ (m : ℕ). AreBelow k (take m ts)) s (below_take k ts (n - 1) t h (omega arith) e b)

-- a term at a place is one that has its monomial
pub stands_at : (k : ℕ) (ts : List Term) (j : ℕ) (t : Term) → j < length ts → t ≡ get_or ts j t → t.monomial ≡ k → HasMonomial k ts
stands_at k [] j t l e m = absurd (omega arith)
stands_at k (x ∷ ts) zero t l e m = inl (sym (λ i. (e i).monomial) ∙ m)
stands_at k (x ∷ ts) (suc j) t l e m = inr (stands_at k ts j t (omega arith) e m)
