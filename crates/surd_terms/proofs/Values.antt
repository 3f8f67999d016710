-- Values of terms that are made.
use Rattle.surd_terms.proofs.Shared.{◌≡◌, true, false, ◌≢◌, ℕ, ◌*◌, pos, [], ◌∷◌, ◌≤◌, subst, sym, ap, ◌∙◌, arith, dvd_refl, times_comm, one_times, zero_plus, plus_negative, Fraction, plus, plus_comm}
use Rattle.surd_terms.proofs.Shared.{times, negative, inverse, zero_fraction, one_fraction, whole_fraction, are_alike, Same, Inverts, Term, term, inverse_of, conjugate_product, first_of_inverse}
use Rattle.surd_terms.proofs.Shared.{second_of_inverse, IsExtracted, IsSum, ComesTo, Joins, IfTerm, ◌∣◌, inverse_times_itself, factor_not_zero, product_not_zero, Inverts-Same, term_has_inverse}
use Rattle.surd_terms.proofs.Shared.{difference_not_zero, terms_have_inverse, Same-sym, Same-trans, alike_true, Same-refl, Same-eq, joined, zero_term, extracted, Joined}
use Rattle.surd_terms.specs.declared.sums.Joined.TheVariants as joined

-- the sum of two terms has their value
pub sum_value : (t a b : Term) → IsSum t a b → Same (t ∷ []) (a ∷ b ∷ [])
sum_value t a b s = Same-sym (Same-trans (joined a.coefficient b.coefficient a.radicand b.radicand t.radicand s.first s.second s.first_part s.second_part) (Same-eq (ap (λ q. term q t.radicand ∷ []) (sym s.coefficient))))

-- what the sum of two terms that are alike comes to
pub sum_joins : (j : Joined) (t a b : Term) → are_alike a.radicand b.radicand ≡ true → IsSum t a b → ComesTo j t → Joins j a b
sum_joins joined.Apart t a b h s c = absurd c
sum_joins joined.Zero t a b h s c =
    (h, Same-trans (Same-sym (zero_term t.radicand)) (Same-trans (Same-eq (ap (λ q. term q t.radicand ∷ []) (sym c))) (sum_value t a b s)))
sum_joins (joined.Term u) t a b h s c = (h, Same-trans (Same-eq (ap (λ x. x ∷ []) c)) (sum_value t a b s))

pub sum_is : (j : Joined) (t a b : Term) → IsSum t a b → ComesTo j t → IfTerm j (λ u. IsSum u a b)
sum_is j t a b s c = grind arith

-- a square before the root keeps the value
pub extracted_value : (t u : Term) → IsExtracted t u → Same (t ∷ []) (u ∷ [])
extracted_value t u x = Same-sym (Same-trans (extracted u.coefficient u.radicand x.root t.radicand x.square) (Same-eq (ap (λ q. term q t.radicand ∷ []) (sym x.coefficient))))

-- the inverse of a fraction other than 0 is not 0
pub inverse_not_zero : (q : Fraction) → q ≢ zero_fraction → inverse q ≢ zero_fraction
inverse_not_zero q h = factor_not_zero q (inverse q) (times_comm q (inverse q) ∙ inverse_times_itself q h)

-- ---- one radicand

pub times_whole_one : (q : Fraction) → times q (whole_fraction (pos 1)) ≡ q
unfolding one_fraction
times_whole_one q = times_comm q (whole_fraction (pos 1)) ∙ one_times q

-- a radicand is alike with itself
pub alike_itself : (r s : ℕ) → 1 ≤ r → r ≡ s → are_alike r s ≡ true
alike_itself r s h e = alike_true r s r (record { square = ap (λ n. r * n) e; positive = h })

-- the sum of two terms with one radicand
pub sum_of_one_radicand : (t a b : Term) → a.radicand ≡ b.radicand → t.radicand ≡ a.radicand → t.coefficient ≡ plus a.coefficient b.coefficient → IsSum t a b
sum_of_one_radicand t a b e f g = record {
  first = 1;
  second = 1;
  shared = (subst (λ n. t.radicand ∣ n) f (dvd_refl t.radicand), subst (λ n. t.radicand ∣ n) (f ∙ e) (dvd_refl t.radicand), λ d h k. subst (λ n. d ∣ n) (sym f) h);
  first_part = sym f ∙ times_ones t.radicand;
  second_part = sym e ∙ sym f ∙ times_ones t.radicand;
  coefficient = g ∙ sym (λ i. plus (times_whole_one a.coefficient i) (times_whole_one b.coefficient i));
}
  where
    times_ones : (n : ℕ) → n ≡ n * 1 * 1
    times_ones n = omega arith

-- ---- products

-- a product of factors other than 0
pub times_not_zero : (q a b a' b' : Fraction) → a ≢ zero_fraction → b ≢ zero_fraction → q ≡ times a' b' → a' ≡ a → b' ≡ b → q ≢ zero_fraction
times_not_zero q a b a' b' h k e f g z = product_not_zero a b h k (sym (λ i. times (f i) (g i)) ∙ sym e ∙ z)

-- where nothing is taken out
pub extracted_nothing : (t u : Term) → t ≡ u → IsExtracted t u
extracted_nothing t u e = grind (arith, times_whole_one)

-- ---- inverses

-- the inverse of a term, by its formula
pub inverse_inverts : (t a : Term) → a.coefficient ≢ zero_fraction → 1 ≤ a.radicand → t ≡ inverse_of a → Inverts (t ∷ []) (a ∷ [])
inverse_inverts t a h k e = Inverts-Same (Same-eq (ap (λ x. x ∷ []) (sym e))) (Same-refl (a ∷ [])) (term_has_inverse a.coefficient a.radicand h k)

-- the product of conjugates is not 0
pub conjugates_not_zero : (a b : Term) → a.coefficient ≢ zero_fraction → 1 ≤ a.radicand → 1 ≤ b.radicand → are_alike a.radicand b.radicand ≡ false → conjugate_product a b ≢ zero_fraction
conjugates_not_zero a b h k l n = difference_not_zero a.coefficient b.coefficient a.radicand b.radicand h k l n

-- the inverse of the sum of two terms, by its formula
pub conjugate_inverts : (t u a b : Term) → a.coefficient ≢ zero_fraction → 1 ≤ a.radicand → 1 ≤ b.radicand → are_alike a.radicand b.radicand ≡ false
    → t ≡ first_of_inverse a b → u ≡ second_of_inverse a b → Inverts (t ∷ u ∷ []) (a ∷ b ∷ [])
conjugate_inverts t u a b h k l n e f = grind (arith, Inverts-Same, Same-eq, Same-refl, terms_have_inverse)
