-- The opposite of a number is no number that a text can hold, unless it is 0.
use Rattle.tree_shapes.proofs.Shared.{◌≡◌, ◌∙◌, ◌==◌, ℕ, zero, suc, pos, negsuc, neg_ℤ, IsTrue, sym, ap, refl, eqb-true, IsNatural, Fraction, whole_fraction, whole_numerator}

pub natural : (n : ℕ) → (IsTrue (n == 0) → IsNatural (whole_fraction (neg_ℤ (pos n)))) × (IsNatural (whole_fraction (neg_ℤ (pos n))) → IsTrue (n == 0))
natural zero = (λ h. (0, refl), λ h. refl)
natural (suc n) = (λ h. let no : suc n ≡ 0 = eqb-true (suc n) 0 h in absurd cc, λ h. let same : negsuc n ≡ pos h.0 = sym (whole_numerator (negsuc n)) ∙ ap (λ (q : Fraction). q.num) h.1 ∙ whole_numerator (pos h.0) in absurd cc)
