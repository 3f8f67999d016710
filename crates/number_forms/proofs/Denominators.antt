-- Common denominators stay those of the whole, from one joined term to the next.
use Rattle.number_forms.proofs.Shared.{◌≡◌, ℕ, zero, suc, ◌<◌, [], ◌∷◌, ◌++◌, sym, subst, arith, append_assoc, terms_of, Term, Surd, AreWholeOver, Parts, SharesDenominators, parts_append, parts_left}
use Rattle.number_forms.proofs.Shared.{parts_right, Tree, Trees, none, more, count, removed, IsExtracted, extracted_den, nth, inserted, ◌∣◌}
use Rattle.calc_algebra.specs.Numbers.{term_of}

pub shares_eq : {v w : Surd} → v ≡ w → SharesDenominators v w
shares_eq e = λ d p. subst (Parts d) e p

-- a term in front, and behind
pub parts_behind : (t u : Surd) (y : Term) → SharesDenominators (y ∷ t) u → SharesDenominators (t ++ (y ∷ [])) u
parts_behind t u y h = λ d p. h d (record { positive = p.positive; whole = ((parts_right d t (y ∷ []) p).whole.0, (parts_left d t (y ∷ []) p).whole) })

-- no term is still to come
pub parts_end : (t left w : Surd) → SharesDenominators w (t ++ left) → SharesDenominators w t
parts_end t left w k = λ d p. parts_left d t left (k d p)

-- terms that were still to come were joined
pub parts_part : (t u left row rest whole : Surd) → left ≡ row ++ rest → SharesDenominators (t ++ row) u → SharesDenominators whole (t ++ left) → SharesDenominators whole (u ++ rest)
parts_part t u left row rest whole e h k = λ d p.
    let q : Parts d (t ++ (row ++ rest)) = subst (λ (y : Surd). Parts d (t ++ y)) e (k d p) in
    let r : Parts d ((t ++ row) ++ rest) = subst (Parts d) (sym (append_assoc t row rest)) q in
    parts_append d u rest (h d (parts_left d (t ++ row) rest r)) (parts_right d (t ++ row) rest r)

-- ---- trees put in, and taken out

pub whole_inserted : (d n : ℕ) (t : Tree) (ts : Trees) → AreWholeOver d (term_of t ∷ terms_of ts) → AreWholeOver d (terms_of (inserted n (more t none) ts))
whole_inserted d zero t ts h = h
whole_inserted d (suc n) t none h = h
whole_inserted d (suc n) t (more u ts) (h, (k, a)) = (k, whole_inserted d n t ts (h, a))

pub whole_removed : (d n : ℕ) (ts : Trees) → AreWholeOver d (terms_of ts) → AreWholeOver d (terms_of (removed n ts))
whole_removed d n none a = tt
whole_removed d zero (more t ts) (h, a) = a
whole_removed d (suc n) (more t ts) (h, a) = (h, whole_removed d n ts a)

pub whole_nth : (d n : ℕ) (ts : Trees) → n < count ts → AreWholeOver d (terms_of ts) → (term_of (nth n ts)).coefficient.den ∣ d
whole_nth d n none l a = absurd (omega arith)
whole_nth d zero (more t ts) l (h, a) = h
whole_nth d (suc n) (more t ts) l (h, a) = whole_nth d n ts (omega arith) a

-- ---- once a square is taken before the root

pub parts_extracted : (t u : Term) (v : Surd) → IsExtracted t u → SharesDenominators (u ∷ v) (t ∷ v)
parts_extracted t u v e = λ d p. record { positive = p.positive; whole = (extracted_den t u d e p.whole.0, p.whole.1) }
