-- A Number means its terms under every assignment.
use Rattle.calc_algebra.proofs.Shared.{◌≡◌, ℕ, ◌*◌, ◌≤◌, ℤ, pos, ◌∷◌, Bool, true, false, if◌then◌else◌, refl, sym, ap, ◌∙◌, arith, times_comm, one_times, Fraction, times, []}
use Rattle.calc_algebra.proofs.Shared.{one_fraction, int_is_zero, Assignment, Means, MeansSum, IsRootOf, IsNumber, IsTerm, IsRadicand, value, term_of, terms_of}
use Rattle.calc_algebra.proofs.Shared.{natural_of, AreTerms, Same, Surd, term, surd_one, surd_times, surd_of, Tree, num, add, mult, root, Trees, none, more}
use Rattle.calc_algebra.proofs.{Shared.{zero_is}, SurdLaws.{Agree-eq, Agree-Same}, TermLaws.{Same-refl, zero_term}, SquareClassLaws.{Same-trans, Same-sym}}

root_of_whole : (p : ℤ) (n r : ℕ) → n ≡ 1 → p ≡ pos r → 2 ≤ r → IsRootOf p n (term one_fraction (natural_of p) ∷ [])
unfolding one_fraction
root_of_whole p n r d e h = grind arith

root_means : (q : Fraction) (f : Assignment) → IsRadicand q → Means (root (num q)) f (term one_fraction (natural_of q.num) ∷ [])
root_means q f (d, r, e, h, c) = (surd_of q, Same-refl (surd_of q), (q, Same-refl (surd_of q), root_of_whole q.num q.den r d e h))

pub term_means : (t : Tree) (f : Assignment) → IsTerm t → Means t f (term_of t ∷ [])
term_means (num q) f h = Same-refl (surd_of q)
term_means (root (num q)) f h = root_means q f h
term_means (mult (more (num q) (more (root (num r)) none))) f (a, b, h) =
    let v : Surd = term one_fraction (natural_of r.num) ∷ [] in (
      surd_times (surd_of q) (surd_times v surd_one),
      (surd_of q, surd_times v surd_one, Same-refl (surd_of q), (v, surd_one, root_means r f h, refl, refl), refl),
      Agree-Same (Agree-eq (λ i. term (factors i) (radicands i) ∷ [])),
    )
  where
    factors : q ≡ times q (times one_fraction one_fraction)
    factors = sym (ap (times q) (one_times one_fraction) ∙ times_comm q one_fraction ∙ one_times q)

    radicands : natural_of r.num ≡ 1 * (natural_of r.num * 1)
    radicands = omega arith
term_means t f h = absurd h

terms_mean : (ts : Trees) (f : Assignment) → AreTerms ts → MeansSum ts f (terms_of ts)
terms_mean none f h = refl
terms_mean (more t ts) f h = (term_of t ∷ [], terms_of ts, term_means t f h.0, terms_mean ts f h.1, refl)

pub number_means : (t : Tree) (f : Assignment) → IsNumber t → Means t f (value t)
number_means (num q) f h = by (int_is_zero q.num) refl
  where
    by : (b : Bool) → int_is_zero q.num ≡ b → Same (if b then [] else surd_of q) (surd_of q)
    by true e = Same-trans (Same-sym (zero_term 1)) (Agree-Same (Agree-eq (ap surd_of (sym (zero_is q e)))))
    by false e = Same-refl (surd_of q)
number_means (add ts) f h = (terms_of ts, terms_mean ts f h.1, Same-refl (terms_of ts))
number_means (root a) f h = term_means (root a) f h
number_means (mult ts) f h = term_means (mult ts) f h
number_means t f h = absurd h
