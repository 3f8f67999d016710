use Rattle.expand_forms.proofs.{Shared.{arith, refl, subst, HasExponents, BeginsWith, IsMonomial, monomial_times, both_first}, TermReadings.{next_first, next_left}}
use Rattle.expand_forms.proofs.merging.next_factor.Goals as goal

pub first_of-requires : goal.first_of-requires
first_of-requires c =
    let (m, n, h, k) = c.requires.monomials in
    let (f, r, e, x) = subst (λ o. BeginsWith o m) c.in-Some-Some.is-0 h in
    let (g, s, q, y) = subst (λ o. BeginsWith o n) c.in-Some-Some.is-1 k in
    record { first = (f, x); second = (g, y) }

pub returns-in_ok-next-in-Some-Some : goal.returns-in_ok-next-in-Some-Some
returns-in_ok-next-in-Some-Some c = record {
  next = λ m n hm hn h k.
      let (f, r, e, x) = subst (λ o. BeginsWith o m) c.in-Some-Some.is-0 h in
      let (g, s, q, y) = subst (λ o. BeginsWith o n) c.in-Some-Some.is-1 k in
      next_first f g m n r s _ hm hn e q (c.in_ok-next-in-Some-Some.ensures.next f g x y);
  overflow = tt;
  fits = λ a b d e f h i j k. tt;
}

pub returns-in_err-next-in-Some-Some-clause-fits : goal.returns-in_err-next-in-Some-Some-clause-fits
returns-in_err-next-in-Some-Some-clause-fits c = λ m n i hm hn h k held l.
    let (f, r, e, x) = subst (λ o. BeginsWith o m) c.in-Some-Some.is-0 h in
    let (g, s, q, y) = subst (λ o. BeginsWith o n) c.in-Some-Some.is-1 k in
    let whole = subst (HasExponents i) (λ t. monomial_times (e t) (q t)) held in
    absurd (c.in_err-next-in-Some-Some.ensures.fits f g x y (λ o. let b = subst (HasExponents i) (both_first f g r s (subst IsMonomial e hm) (subst IsMonomial q hn) o) whole in omega (arith, b.0, l)))

pub returns-in-Some-None : goal.returns-in-Some-None
returns-in-Some-None c = record {
  next = λ m n hm hn h k. let (f, r, e, x) = subst (λ o. BeginsWith o m) c.in-Some-None.is-0 h in next_left f m n r _ hm (subst (λ o. BeginsWith o n) c.in-Some-None.is-1 k) e x refl refl;
  overflow = tt;
  fits = λ a b d e f h i j k. tt;
}
