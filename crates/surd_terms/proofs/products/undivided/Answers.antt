use Rattle.surd_terms.proofs.Shared.{◌≡◌, ℕ, ◌*◌, ◌/◌, ◌^◌, ◌<◌, ◌≤◌, Option, Some, None, inr, ap, ◌∙◌, arith, MatchOption, IsGcd, same_from_IsGcd, gcd, gcd_is, SomeIff}
use Rattle.surd_terms.proofs.products.undivided.Goals as goal

from_iff : (o : Option ℕ) (P A : Type 0) (v w : ℕ) → SomeIff o P v → v ≡ w → ((P → ⊥) → A) → MatchOption o A (λ n. n ≡ w)
from_iff (Some n) P A v w h e none = h.1 ∙ e
from_iff None P A v w h e none = none h

over_shared : (r s r' s' g : ℕ) → r ≡ r' → s ≡ s' → IsGcd r s g → (r / g) * (s / g) ≡ (r' / gcd r' s') * (s' / gcd r' s')
over_shared r s r' s' g e f is = ap (λ n. (r / n) * (s / n)) (same_from_IsGcd r s g (gcd r s) is (gcd_is r s)) ∙ (λ i. (e i / gcd (e i) (f i)) * (f i / gcd (e i) (f i)))

too_large : (v w : ℕ) → v ≡ w → (v < 2 ^ 128 → ⊥) → 2 ^ 128 ≤ w
too_large v w e not = omega (arith, e, not)

pub returns : goal.returns
returns c =
    let same = over_shared _ _ _ _ c.gcd-shared.result c.radicand-r.ensures.value c.radicand-s.ensures.value c.gcd-shared.ensures in
    from_iff c.checked_mul.result _ _ _ _ c.checked_mul.ensures same (λ not. inr (too_large _ _ same not))
