use Rattle.expand_forms.proofs.{Shared.{◌≡◌, ◌+◌, ◌∙◌, arith, sym, refl, Equal, nat_cmp, slice_cmp, plus, factor, IsRead, sum_fits, contradiction}, TermReadings.{exponent_sum}, Splits.{exponents_fit}}
use Rattle.expand_forms.proofs.merging.first_of.Goals as goal

pub returns-in_ok-add-in-Equal : goal.returns-in_ok-add-in-Equal
returns-in_ok-add-in-Equal c = record {
  next = λ f g r q.
      let e : slice_cmp nat_cmp f.name g.name ≡ Equal =
      (λ i. slice_cmp nat_cmp ((sym r.name ∙ sym c.bytes.ensures.value) i) ((sym q.name ∙ sym c.bytes-2.ensures.value) i)) ∙ sym c.cmp.ensures ∙ c.in-Equal.is in
      let read : IsRead (record { name = c.args.left.name; exponent = c.in_ok-add-in-Equal.field-0 }) (factor f.name (f.exponent + g.exponent)) = record {
        name = r.name;
        exponent = c.in_ok-add-in-Equal.ensures.sum ∙ (λ i. plus (r.exponent i) (q.exponent i)) ∙ exponent_sum f.exponent g.exponent;
        positive = omega (arith, r.positive);
      } in
      rw e (read, refl, refl);
  overflow = tt;
  fits = λ a b d e f. tt;
}

pub returns-in_err-add-in-Equal-clause-fits : goal.returns-in_err-add-in-Equal-clause-fits
returns-in_err-add-in-Equal-clause-fits c = λ f g r q l.
    let e : slice_cmp nat_cmp f.name g.name ≡ Equal =
    (λ i. slice_cmp nat_cmp ((sym r.name ∙ sym c.bytes.ensures.value) i) ((sym q.name ∙ sym c.bytes-2.ensures.value) i)) ∙ sym c.cmp.ensures ∙ c.in-Equal.is in
    contradiction ((λ i. sum_fits (r.exponent i) (q.exponent i)) ∙ exponents_fit f.exponent g.exponent (l e)) (c.in_err-add-in-Equal.ensures.refused.0 refl)
