-- Polynomials of names, from packed ones: the same coefficients, sums, multiples, products and powers.
use Rattle.expansions.proofs.Shared.{◌≡◌, ℕ, zero, suc, List, [], ◌∷◌, ◌++◌, length, map, refl, sym, ap, ◌∙◌, if◌then◌else◌, Fraction, times_comm, times, zero_fraction, arith, one_fraction, one_times}
use Rattle.expansions.proofs.Shared.{zero_plus, zero_times, AreSame, Monomial, Polynomial, coefficient_at, is_same_monomial, product, raised, scaled, summand, summand_times, AreNames, HaveNames}
use Rattle.expansions.proofs.{Shared.{IsOfNames, named_polynomial, worth, Term, named}, NamedMonomials.{named_one, named_times, names_one, names_times, packed_length, times_length}}
use Rattle.polynomials.specs.Polynomials.{Monomial as Exponents, Polynomial as Packed, Summand as PackedSummand, AreSame as AreSameValues, product as packed_product, raised as packed_raised}
use Rattle.polynomials.specs.{Polynomials.{row as packed_row, scaled as packed_scaled}, Terms.{polynomial_of}}

-- ---- coefficients

-- 1 for the packed monomials that are named as m, and 0 for the others
abbrev where_named : List (List ℕ) → Monomial → Exponents → Fraction
where_named ns m es = if is_same_monomial (named ns es) m then one_fraction else zero_fraction

coefficient_worth : (ns : List (List ℕ)) (m : Monomial) (v : Packed) → coefficient_at m (named_polynomial ns v) ≡ worth (where_named ns m) v
coefficient_worth ns m [] = refl
coefficient_worth ns m (s ∷ v) = let go = coefficient_worth ns m v in grind (arith, one_times, times_comm, zero_times, zero_plus)

-- packed polynomials that are the same have the same coefficients by names
pub named_same : (ns : List (List ℕ)) {v w : Packed} → AreSameValues v w → AreSame (named_polynomial ns v) (named_polynomial ns w)
named_same ns {v} {w} h = record { at = λ m. coefficient_worth ns m v ∙ h.at (where_named ns m) ∙ sym (coefficient_worth ns m w) }

-- ---- sums and multiples

pub named_append : (ns : List (List ℕ)) (v w : Packed) → named_polynomial ns (v ++ w) ≡ named_polynomial ns v ++ named_polynomial ns w
named_append ns [] w = refl
named_append ns (s ∷ v) w = ap (λ (x : Polynomial). summand s.coefficient (named ns s.monomial) ∷ x) (named_append ns v w)

pub named_scaled : (ns : List (List ℕ)) (c : Fraction) (v : Packed) → named_polynomial ns (packed_scaled c v) ≡ scaled c (named_polynomial ns v)
named_scaled ns c [] = refl
named_scaled ns c (s ∷ v) = ap (λ (x : Polynomial). summand (times c s.coefficient) (named ns s.monomial) ∷ x) (named_scaled ns c v)

-- ---- products and powers

module _ (ns : List (List ℕ)) where
  pub names_append : (v w : Packed) → HaveNames ns v → HaveNames ns w → HaveNames ns (v ++ w)
  names_append [] w h k = k
  names_append (s ∷ v) w h k = (h.0, names_append v w h.1 k)

  pub names_scaled : (c : Fraction) (v : Packed) → HaveNames ns v → HaveNames ns (packed_scaled c v)
  names_scaled c [] h = tt
  names_scaled c (s ∷ v) h = (h.0, names_scaled c v h.1)

  names_row : (s : PackedSummand) (w : Packed) → IsOfNames ns s.monomial → HaveNames ns w → HaveNames ns (packed_row s w)
  names_row s [] h k = tt
  names_row s (t ∷ w) h k = (names_times ns s.monomial t.monomial h k.0, names_row s w h k.1)

  pub names_product : (v w : Packed) → HaveNames ns v → HaveNames ns w → HaveNames ns (packed_product v w)
  names_product [] w h k = tt
  names_product (s ∷ v) w h k = names_append (packed_row s w) (packed_product v w) (names_row s w h.0 k) (names_product v w h.1 k)

  pub names_raised : (v : Packed) (n : ℕ) → HaveNames ns v → HaveNames ns (packed_raised v n)
  names_raised v zero h = (names_one ns, tt)
  names_raised v (suc n) h = names_product v (packed_raised v n) h (names_raised v n h)

  -- eight exponents in each monomial
  abbrev pub AreWide : Packed → Type 0
  AreWide [] = Unit {0}
  AreWide (s ∷ v) = (length s.monomial ≡ 8) × AreWide v

  named_row : AreNames ns → (s : PackedSummand) (w : Packed) → length s.monomial ≡ 8 → AreWide w
      → named_polynomial ns (packed_row s w) ≡ map (summand_times (summand s.coefficient (named ns s.monomial))) (named_polynomial ns w)
  named_row h s [] k l = refl
  named_row h s (t ∷ w) k l =
      λ i. summand (times s.coefficient t.coefficient) (named_times ns s.monomial t.monomial h k l.0 i) ∷ named_row h s w k l.1 i

  pub named_product : AreNames ns → (v w : Packed) → AreWide v → AreWide w → named_polynomial ns (packed_product v w) ≡ product (named_polynomial ns v) (named_polynomial ns w)
  named_product h [] w k l = refl
  named_product h (s ∷ v) w k l =
      named_append ns (packed_row s w) (packed_product v w) ∙ (λ i. named_row h s w k.0 l i ++ named_product h v w k.1 l i)

  wide_append : (v w : Packed) → AreWide v → AreWide w → AreWide (v ++ w)
  wide_append [] w h k = k
  wide_append (s ∷ v) w h k = (h.0, wide_append v w h.1 k)

  wide_row : (s : PackedSummand) (w : Packed) → length s.monomial ≡ 8 → AreWide w → AreWide (packed_row s w)
  wide_row s [] h k = tt
  wide_row s (t ∷ w) h k = (times_length 8 s.monomial t.monomial h k.0, wide_row s w h k.1)

  wide_product : (v w : Packed) → AreWide v → AreWide w → AreWide (packed_product v w)
  wide_product [] w h k = tt
  wide_product (s ∷ v) w h k = wide_append (packed_row s w) (packed_product v w) (wide_row s w h.0 k) (wide_product v w h.1 k)

  wide_raised : (v : Packed) (n : ℕ) → AreWide v → AreWide (packed_raised v n)
  wide_raised v zero h = (refl, tt)
  wide_raised v (suc n) h = wide_product v (packed_raised v n) h (wide_raised v n h)

  pub named_raised : AreNames ns → (v : Packed) (n : ℕ) → AreWide v → named_polynomial ns (packed_raised v n) ≡ raised (named_polynomial ns v) n
  named_raised h v zero k = λ i. summand one_fraction (named_one ns i) ∷ []
  named_raised h v (suc n) k = named_product h v (packed_raised v n) k (wide_raised v n k) ∙ ap (product (named_polynomial ns v)) (named_raised h v n k)

  pub terms_wide : (ts : List Term) → AreWide (polynomial_of ts)
  terms_wide [] = tt
  terms_wide (t ∷ ts) = (packed_length t.monomial, terms_wide ts)
