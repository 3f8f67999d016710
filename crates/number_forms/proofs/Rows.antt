-- Rows of products, as they are joined or refused.
use Rattle.number_forms.proofs.Shared.{◌≡◌, ℕ, [], ◌∷◌, ◌++◌, map, refl, ap, subst, Same, value, Term, Surd, term_times, Tree, terms_from, JoinOverflows, ProductJoinOverflows, IsSumOf, Overflow}
use Rattle.number_forms.proofs.{Shared.{IsExtracted}, Denominators.{parts_extracted}, Loops.{IsSumWith}, Worth.{same_first}}

-- a product of the row is not joined to the sum so far
pub product_join_overflows : {v w left : Surd} {x y : Term} {at : ℕ} {o : Overflow} → left ≡ terms_from at w → (p : Term) (t : Tree) → IsExtracted p (term_times x y)
    → IsSumWith (map (term_times x) left) (v ++ map (term_times x) w) t → JoinOverflows t p o → ProductJoinOverflows v x w at y o
product_join_overflows {v} {w} {left} {x} {y} {at} {o} e p t h told j =
    let here : IsSumWith (map (term_times x) (terms_from at w)) (v ++ map (term_times x) w) t = subst (λ (l : Surd). IsSumWith (map (term_times x) l) (v ++ map (term_times x) w) t) e told in
    record { product = p; extracted = h; partial = t; sum = here.sum; worth = here.worth; parts = here.parts; joined = j }

pub nothing_more : (v : Surd) → v ≡ v ++ []
nothing_more [] = refl
nothing_more (x ∷ v) = ap (λ (w : Surd). x ∷ w) (nothing_more v)

-- a term is joined once a square is taken before its root
pub joined_extracted : {q u : Term} {v : Surd} {t : Tree} → Same (q ∷ []) (u ∷ []) → IsExtracted q u → IsSumOf (q ∷ v) t → IsSumOf (u ∷ v) t
joined_extracted {q} {u} {v} {t} s e h = record { sum = h.sum; worth = same_first q u v (value t) s h.worth; parts = λ d p. h.parts d (parts_extracted q u v e d p) }
