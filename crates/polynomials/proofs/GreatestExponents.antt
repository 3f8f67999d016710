-- Exponents up to the greatest one.
use Rattle.polynomials.proofs.Shared.{map-append, ◌≡◌, ℕ, suc, ◌+◌, ◌-◌, ◌/◌, ◌%◌, ◌<◌, ◌≤◌, max, List, [], ◌∷◌, length, get_or, take, sym, ap, ◌∙◌, subst, arith, Term, unpacked, Polynomial}
use Rattle.polynomials.proofs.{Shared.{HasExponents, HaveExponents, polynomial_of, summand_of}, Exponents.{exponents_more, have_append}, MergeLoops.{take_one_more}}

pub have_more : (d e : ℕ) (v : Polynomial) → d ≤ e → HaveExponents d v → HaveExponents e v
have_more d e [] h p = tt
have_more d e (s ∷ v) h p = (exponents_more d e s.monomial h (p.0), have_more d e v h (p.1))

-- the exponents at the first i of n places are at most d, so that the others decide
abbrev pub PassedTo : ℕ → ℕ → ℕ → ℕ → ℕ → Type 0
PassedTo n i d rest k = (e : ℕ) → d ≤ e → HasExponents e (unpacked (n - i) rest) → HasExponents e (unpacked n k)

pub passed_more : (n i d f rest k : ℕ) → i < n → PassedTo n i d rest k → f ≡ max d (rest % 256) → PassedTo n (i + 1) f (rest / 256) k
passed_more n i d f rest k l p m = λ e a q.
    let places : suc (n - (i + 1)) ≡ n - i = omega arith in
    p e (omega arith) (subst (λ (j : ℕ). HasExponents e (unpacked j rest)) places (omega arith, q))

pub passed_all : (n d rest k : ℕ) → PassedTo n n d rest k → HasExponents d (unpacked n k)
passed_all n d rest k p = let none : 0 ≡ n - n = omega arith in p d (omega arith) (subst (λ (j : ℕ). HasExponents d (unpacked j rest)) none tt)

pub have_one_more : (ts : List Term) (i d e f : ℕ) (t : Term) → i < length ts → t ≡ get_or ts i t → HaveExponents d (polynomial_of (take i ts)) → HasExponents e (summand_of t).monomial → f ≡ max d e
    → HaveExponents f (polynomial_of (take (i + 1) ts))
have_one_more ts i d e f t l r h p m =
    subst (HaveExponents f) (sym (ap polynomial_of (take_one_more ts i t l r) ∙ map-append summand_of (take i ts) (t ∷ [])))
    (have_append f (polynomial_of (take i ts)) (summand_of t ∷ []) (have_more d f (polynomial_of (take i ts)) (omega arith) h) (exponents_more e f (summand_of t).monomial (omega arith) p, tt))
