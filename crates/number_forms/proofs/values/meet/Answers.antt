use Rattle.number_forms.proofs.{Shared.{◌≡◌, ◌∙◌, ap, sym, subst, get_or, List, refl, term_of, AreTermsOf, IfTerm, Joins, Joined}, ListedTerms.{cancelled_terms, met_terms, refill_set, same_default}}
use Rattle.number_forms.proofs.values.meet.Goals.{After-join}
use Rattle.surd_terms.specs.{Sums.{IsSum}, declared.term.Term.{Term}}
use Rattle.number_forms.proofs.values.meet.Goals as goal

-- the term at the place
module _ (c : After-join) where
  abbrev xs : List Term
  xs = c.args.list.now.items

  abbrev x : Term
  x = c.index-as_slice-at.result

  there : x ≡ get_or xs c.args.at x
  there = c.index-as_slice-at.is ∙ ap (λ (ys : List Term). get_or ys c.args.at x) c.as_slice.ensures.value

  like : x.radicand ≡ c.args.term.radicand
  like = ap (λ (y : Term). y.radicand) (there ∙ same_default xs c.args.at x c.args.term c.requires.within) ∙ c.requires.like

pub returns-in-Ok-Term : goal.returns-in-Ok-Term
returns-in-Ok-Term c = λ _.
    let k = (goal.at.returns-in-Ok-Term c).After-join in let one = c.in-Ok-Term.joined in
    let joins = subst (λ (j : Joined). Joins j (term_of (x k)) (term_of c.args.term)) c.in-Ok-Term.field-0-is c.in-Ok-Term.ensures.joins in
    let sum = subst (λ (j : Joined). IfTerm j (λ t. IsSum t (term_of (x k)) (term_of c.args.term))) c.in-Ok-Term.field-0-is c.in-Ok-Term.ensures.sum in
    subst (AreTermsOf _) (sym (refill_set (xs k) _ c.args.at _ one c.as_mut_slice.ensures.value refl))
    (met_terms (xs k) c.args.at c.args.term c.requires.listed c.requires.small (x k) c.requires.within (there k) (like k) one joins sum)

pub returns-in-Ok-Zero : goal.returns-in-Ok-Zero
returns-in-Ok-Zero c = λ _.
    let k = (goal.at.returns-in-Ok-Zero c).After-join in
    let joins = subst (λ (j : Joined). Joins j (term_of (x k)) (term_of c.args.term)) c.in-Ok-Zero.field-0-is c.in-Ok-Zero.ensures.joins in
    subst (AreTermsOf _) (sym c.remove.ensures.items) (cancelled_terms (xs k) c.args.at c.args.term c.requires.listed c.requires.small (x k) c.requires.within (there k) (like k) joins)
