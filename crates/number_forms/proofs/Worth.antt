-- What a sum is worth, from one joined term to the next.
use Rattle.number_forms.proofs.Shared.{Same-sym, ◌≡◌, ℕ, zero, suc, ◌-◌, ◌≤◌, [], ◌∷◌, ◌++◌, Some, map, refl, ap, ◌∙◌, subst, append_assoc, arith, slice_get, Same, Term, Surd, term_times, surd_times}
use Rattle.number_forms.proofs.Shared.{Same-trans, Same-refl, Same-eq, Same-append, Same-append_comm, drop-drop}
pub use Rattle.number_forms.specs.Overflows.{terms_from}

pub some_term : {x y : Term} → Some x ≡ Some y → x ≡ y
some_term e = cc

pub from_next : (v : Surd) (n : ℕ) (x : Term) → slice_get v n ≡ Some x → terms_from n v ≡ x ∷ terms_from (suc n) v
from_next [] n x e = cc
from_next (y ∷ v) zero x e = ap (λ (z : Term). z ∷ v) (some_term e)
from_next (y ∷ v) (suc n) x e = from_next v n x e

-- terms from a place on, from a later one on
pub from_from : (m n : ℕ) (v : Surd) → m ≤ n → terms_from (n - m) (terms_from m v) ≡ terms_from n v
from_from m n v l = drop-drop (n - m) m v ∙ ap (λ k. terms_from k v) (omega arith)

pub get_from : (m n : ℕ) (v : Surd) → m ≤ n → slice_get (terms_from m v) (n - m) ≡ slice_get v n
get_from zero n v l = ap (slice_get v) (omega arith)
get_from (suc m) zero v l = absurd (omega arith)
get_from (suc m) (suc n) [] l = refl
get_from (suc m) (suc n) (x ∷ v) l = ap (slice_get (terms_from m v)) (omega arith) ∙ get_from m n v (omega arith)

-- a term in front, and behind
pub same_behind : (t u : Surd) (y : Term) → Same u (y ∷ t) → Same u (t ++ (y ∷ []))
same_behind t u y h = Same-trans h (Same-append_comm (y ∷ []) t)

-- no term is still to come
pub join_end : (t left w : Surd) → left ≡ [] → Same (t ++ left) w → Same t w
join_end t left w e k = Same-trans (Same-sym (Same-append_comm t [])) (subst (λ (x : Surd). Same (t ++ x) w) e k)

pub same_first : (p q : Term) (t u : Surd) → Same (p ∷ []) (q ∷ []) → Same u (p ∷ t) → Same u (q ∷ t)
same_first p q t u h k = Same-trans k (Same-append h (Same-refl t))

pub products_next : (x : Term) (v : Surd) (n : ℕ) (y : Term) → slice_get v n ≡ Some y → map (term_times x) (terms_from n v) ≡ term_times x y ∷ map (term_times x) (terms_from (suc n) v)
products_next x v n y e = ap (map (term_times x)) (from_next v n y e)

pub rows_next : (v w : Surd) (n : ℕ) (x : Term) → slice_get v n ≡ Some x → surd_times (terms_from n v) w ≡ map (term_times x) w ++ surd_times (terms_from (suc n) v) w
rows_next v w n x e = ap (λ (y : Surd). surd_times y w) (from_next v n x e)

-- terms that were still to come were joined
pub part_step : (t u left row rest whole : Surd) → left ≡ row ++ rest → Same u (t ++ row) → Same (t ++ left) whole → Same (u ++ rest) whole
part_step t u left row rest whole e h k =
    let one : Same (u ++ rest) ((t ++ row) ++ rest) = Same-append h (Same-refl rest) in
    Same-trans one (Same-trans (Same-eq (append_assoc t row rest)) (subst (λ (y : Surd). Same (t ++ y) whole) e k))
