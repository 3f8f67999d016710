-- Products in either order.
use Rattle.expansions.proofs.Shared.{◌≡◌, [], ◌∷◌, ◌++◌, map, refl, sym, ap, ◌∙◌, times_comm, IsBelowAll, IsMonomial, Monomial, Factor, Polynomial, Summand, monomial_times, product, summand}
use Rattle.expansions.proofs.{Shared.{summand_times, with_factor}, AllMonomials.{AllHave}, Gathered.{IsGathered, gathered_append, gathered_is, gathered_refl, gathered_second, gathered_trans}}
use Rattle.expansions.proofs.{MonomialProducts.{put_first, with_turned}, SameCoefficients.{product_nil}}

-- ---- two factors

times_behind : (n : Monomial) (f : Factor) (m : Monomial) → IsBelowAll f.name m → monomial_times n (f ∷ m) ≡ with_factor f (monomial_times n m)
times_behind [] f m b = sym (put_first f m b)
times_behind (g ∷ n) f m b = ap (with_factor g) (times_behind n f m b) ∙ with_turned g f (monomial_times n m)

times_nothing : (n : Monomial) → IsMonomial n → monomial_times n [] ≡ n
times_nothing [] h = refl
times_nothing (f ∷ n) h = ap (with_factor f) (times_nothing n h.2) ∙ put_first f n h.1

monomial_comm : (m n : Monomial) → IsMonomial m → IsMonomial n → monomial_times m n ≡ monomial_times n m
monomial_comm [] n h k = sym (times_nothing n k)
monomial_comm (f ∷ m) n h k = ap (with_factor f) (monomial_comm m n h.2 k) ∙ sym (times_behind n f m h.1)

-- ---- how many factors

-- ---- two summands

pub pair_turned : (s t : Summand) → IsMonomial s.monomial → IsMonomial t.monomial → summand_times s t ≡ summand_times t s
pair_turned s t h k i = summand (times_comm s.coefficient t.coefficient i) (monomial_comm s.monomial t.monomial h k i)

-- ---- all pairs

-- the first of the right factor apart
pub columns : (v : Polynomial) (s : Summand) (w : Polynomial) → IsGathered (product v (s ∷ w)) (product v (s ∷ []) ++ product v w)
columns [] s w = gathered_refl []
columns (t ∷ v) s w =
    gathered_append (gathered_refl (summand_times t s ∷ []))
    (gathered_trans (gathered_append (gathered_refl (map (summand_times t) w)) (columns v s w)) (gathered_second (map (summand_times t) w) (product v (s ∷ [])) (product v w)))

column : (v : Polynomial) (s : Summand) → AllHave IsMonomial v → IsMonomial s.monomial → product v (s ∷ []) ≡ map (summand_times s) v
column [] s h k = refl
column (t ∷ v) s h k = λ i. pair_turned t s h.0 k i ∷ column v s h.1 k i

pub product_turned : (v w : Polynomial) → AllHave IsMonomial v → AllHave IsMonomial w → IsGathered (product v w) (product w v)
product_turned v [] h k = gathered_is (product_nil v)
product_turned v (s ∷ w) h k = gathered_trans (columns v s w) (gathered_append (gathered_is (column v s h k.0)) (product_turned v w h k.1))
