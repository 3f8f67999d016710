-- Common denominators stay those of what is joined or multiplied.
use Rattle.surd_bits.proofs.Shared.{ℕ, [], ◌∷◌, pos, sym, subst, Term, times, whole_fraction, Parts, plus_den, multiple_den, ◌∣◌, IsExtracted, IsSum}

pub joined_den : (t a b : Term) (d : ℕ) → IsSum t a b → Parts d (a ∷ b ∷ []) → t.coefficient.den ∣ d
joined_den t a b d s p =
    subst (λ q. q.den ∣ d) (sym s.coefficient)
    (plus_den (times a.coefficient (whole_fraction (pos s.first))) (times b.coefficient (whole_fraction (pos s.second))) d p.positive
    (multiple_den a.coefficient (pos s.first) d p.whole.0) (multiple_den b.coefficient (pos s.second) d (p.whole.1).0))

pub extracted_den : (t u : Term) (d : ℕ) → IsExtracted t u → u.coefficient.den ∣ d → t.coefficient.den ∣ d
extracted_den t u d e h = subst (λ q. q.den ∣ d) (sym e.coefficient) (multiple_den u.coefficient (pos e.root) d h)
