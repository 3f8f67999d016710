-- Monomials as lists of their factors.
use Rattle.expand_forms.proofs.Shared.{◌≡◌, suc, List, [], ◌∷◌, ◌++◌, length, refl, ap, Monomial, IsRead, AreRead}
use Rattle.expand_forms.specs.declared.factors.Factor.{Factor as Read}

pub read_length : (xs : List Read) (m : Monomial) → AreRead xs m → length xs ≡ length m
read_length [] [] r = refl
read_length (x ∷ xs) (f ∷ m) r = ap suc (read_length xs m r.1)
read_length [] (f ∷ m) r = absurd r
read_length (x ∷ xs) [] r = absurd r

-- one more behind
pub read_more : (xs : List Read) (m : Monomial) (x : Read) (f : Rattle.expansions.specs.Polynomials.Factor) → AreRead xs m → IsRead x f → AreRead (xs ++ x ∷ []) (m ++ f ∷ [])
read_more [] [] x f r h = (h, tt)
read_more (y ∷ xs) (g ∷ m) x f r h = (r.0, read_more xs m x f r.1 h)
read_more [] (g ∷ m) x f r h = absurd r
read_more (y ∷ xs) [] x f r h = absurd r
