-- Roots of rationals that have few bits fit, and are no larger than the rationals.
use Rattle.radical_forms.proofs.Shared.{arith, ◌≡◌, ◌≢◌, [], ◌∷◌, Bool, true, false, Some, None, pos, ◌<ℤ◌, sym, ap, ◌∙◌, subst, IfErr, is_term, value, Term, Surd, surd_of, term_words, HasFewBits}
use Rattle.radical_forms.proofs.Shared.{IsHeld, Fraction, whole_fraction, Ratio, Tree, num, is_num, zero_test, whole_numerator, term_value, IfRational, HasWideRoot, IsOverflow, Mul, root_no_larger}
use Rattle.radical_forms.proofs.Shared.{no_root_no_larger, root_fits, parts_of, IsNoLargerThanRoot, Calculation, calculation, does_fit, first_misfit, IsRootTerm, OfOverflow, NumberFault}
use Rattle.radical_forms.proofs.RootLaws.{zero_value, not_above_zero}
use Rattle.std.proofs.Common.{Result, if◌then◌else◌}
use Rattle.calc_algebra.specs.Numbers.{term_of}
use Rattle.calc_terms.specs.Fractions.{zero_fraction}

not_zero : (q : Fraction) → pos 0 <ℤ q.num → q ≢ zero_fraction
unfolding zero_fraction
not_zero q h e = not_above_zero q.num (ap (λ (x : Fraction). x.num) e ∙ whole_numerator (pos 0)) h

misfit_alone : (c : Calculation) → does_fit c ≡ false → first_misfit (c ∷ []) ≡ None → ⊥
misfit_alone c h e = absurd (let f : first_misfit (c ∷ []) ≡ Some c = ap (λ b. if b then None else Some c) h in cc)

-- a rational that has few bits has no wide root
pub no_wide : (a : Tree) → HasFewBits (value a) → HasWideRoot a → ⊥
no_wide (num q) b w =
    let k : IsHeld (surd_of q) b.high b.low = subst (λ (v : Surd). IsHeld v b.high b.low) (ap (λ (z : Bool). if z then [] else surd_of q) (zero_test q (not_zero q w.0))) b.held in
    misfit_alone (calculation Mul (whole_fraction q.num) (whole_fraction (pos q.den))) w.1 (root_fits q b.high b.low k b.few)
no_wide _ b w = w

pub not_refused : {A : Type 0} (r : Result A NumberFault) → (IsOverflow r → ⊥) → IfErr r (OfOverflow (λ o. ⊥))
not_refused r h = grind arith

-- ---- how large it is

pub term_measured : (q : Fraction) (t : Tree) (s : Term) (r : Ratio) → pos 0 <ℤ q.num → r ≡ parts_of q → IsRootTerm s r → is_term t ≡ true → term_of t ≡ s → IsNoLargerThanRoot q (value t)
term_measured q t s r p e i h f =
    subst (IsNoLargerThanRoot q) (sym (term_value t (term_words t h) ∙ ap (λ (x : Term). x ∷ []) f)) (root_no_larger q s (not_zero q p) (subst (IsRootTerm s) e i))

pub zero_measured : (q : Fraction) (t : Tree) → t ≡ num q → q.num ≡ pos 0 → IsNoLargerThanRoot q (value t)
zero_measured q t e z = subst (IsNoLargerThanRoot q) (sym (ap value e ∙ zero_value q z)) (no_root_no_larger q)

pub other_rational : (a : Tree) (P : Fraction → Type 0) → is_num a ≡ false → IfRational a P
other_rational a P n = grind arith
