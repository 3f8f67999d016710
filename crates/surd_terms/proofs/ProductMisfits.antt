-- What the product of two terms is refused for.
use Rattle.surd_terms.proofs.Shared.{◌≡◌, ◌≢◌, true, false, ℕ, ◌*◌, ◌/◌, inl, inr, List, [], ◌∷◌, Option, Some, None, Result, pos, refl, sym, ap, ◌∙◌, subst, arith, if◌then◌else◌, IsErr, IsErrAnd}
use Rattle.surd_terms.proofs.Shared.{one-dvd, IsClean, Term, gcd, Fraction, whole_fraction, Mul, Overflow, Calculation, calculation, does_fit, first_misfit, has_rational, radicand_calculations}
use Rattle.surd_terms.proofs.{Shared.{cancelled_calculations, IsCancelled, IsCancelledMisfit, IsProductMisfit, calculation_of, misfit_of, HasRational}, Misfits.{refused_for}, Values.{times_whole_one}}
use Rattle.surd_terms.proofs.WholeFactors.{cancelled_misfit}

is_rational : (a b : Term) → HasRational a b → has_rational a b ≡ true
is_rational a b h = grind arith

nothing_of_radicands : (a b : Term) → HasRational a b → radicand_calculations a b ≡ []
nothing_of_radicands a b h = ap (λ x. if x then [] else (calculation Mul (whole_fraction (pos (a.radicand / gcd a.radicand b.radicand))) (whole_fraction (pos (b.radicand / gcd a.radicand b.radicand))) ∷ [])) (is_rational a b h)

stopped : (c : Calculation) (cs : List Calculation) → does_fit c ≡ false → first_misfit (c ∷ cs) ≡ Some c
stopped c cs h = ap (λ b. if b then first_misfit cs else Some c) h

-- 1 is cancelled by nothing
nothing_cancelled : (c d : Fraction) → IsCancelled 1 c d 1 1 1
nothing_cancelled c d = record {
  whole = refl;
  with_first = (one-dvd 1, one-dvd c.den, λ e p q. p);
  with_second = (one-dvd 1, one-dvd d.den, λ e p q. p);
}

by_one : (c d : Fraction) → first_misfit (cancelled_calculations c d 1 1 1) ≡ first_misfit (calculation Mul c d ∷ [])
by_one c d = grind (arith, times_whole_one, stopped)

-- with a rational factor it is the product of the coefficients
pub rational_misfit : (a b : Term) (misfit : Option Calculation) → HasRational a b → IsClean a.radicand → IsClean b.radicand → misfit ≡ first_misfit (calculation Mul a.coefficient b.coefficient ∷ []) → IsProductMisfit a b misfit
rational_misfit a b misfit h p q e = record {
  root = 1;
  rest = a.radicand * b.radicand;
  square = λ _. omega arith;
  clean = λ _. clean h;
  of_radicands = λ c f. absurd (let none : None ≡ Some c = sym (ap first_misfit (nothing_of_radicands a b h)) ∙ f in cc);
  of_coefficients = λ _. cancelled_misfit a.coefficient b.coefficient 1 1 1 1 (omega arith) (nothing_cancelled a.coefficient b.coefficient) misfit (e ∙ sym (by_one a.coefficient b.coefficient));
}
  where
    clean : HasRational a b → IsClean (a.radicand * b.radicand)
    clean (inl f) = subst IsClean (rw f (omega arith)) q
    clean (inr f) = subst IsClean (rw f (omega arith)) p

-- with two roots it is that of the radicands over what they share
pub two_roots : (a b : Term) (r s : ℕ) → r ≡ a.radicand → s ≡ b.radicand → r ≢ 1 → s ≢ 1
    → None ≡ first_misfit (calculation Mul (whole_fraction (pos (r / gcd r s))) (whole_fraction (pos (s / gcd r s))) ∷ []) → None ≡ first_misfit (radicand_calculations a b)
two_roots a b r s e f h k n = grind arith

-- a refusal that is passed on
pub cancelled_for : {A : Type 0} (r : Result A Overflow) (o : Overflow) (c d c' d' : Fraction) (n : ℕ) → IsErr r → IsErrAnd r (λ x. x ≡ o) → c ≡ c' → d ≡ d' → IsCancelledMisfit c d n (Some (calculation_of o)) → IsCancelledMisfit c' d' n (misfit_of r)
cancelled_for r o c d c' d' n h a e f m = subst (λ x. IsCancelledMisfit c' d' n x) (sym (refused_for r o (Some (calculation_of o)) h a refl)) (subst (λ x. IsCancelledMisfit c' x n (Some (calculation_of o))) f (subst (λ x. IsCancelledMisfit x d n (Some (calculation_of o))) e m))

-- where they have one
pub coefficients_misfit : (a b : Term) (misfit : Option Calculation) (root rest : ℕ) → None ≡ first_misfit (radicand_calculations a b) → a.radicand * b.radicand ≡ root * root * rest → IsClean rest → IsCancelledMisfit a.coefficient b.coefficient root misfit → IsProductMisfit a b misfit
coefficients_misfit a b misfit root rest h e k m = grind arith
