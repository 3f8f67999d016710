use Rattle.number_forms.proofs.{Shared.{◌++◌, List, ap, sym, rules, Same-append, Same-eq, Same-refl, Same-trans, tree_of, value}, Denominators.{shares_eq}, ListedTerms.{terms_as}}
use Rattle.number_forms.proofs.Over.{shares_append}
use Rattle.number_forms.specs.Values.{surd_of}
use Rattle.surd_terms.specs.declared.term.Term.{Term}
use Rattle.number_forms.proofs.values.add_values.Goals as goal

pub returns : goal.returns
returns c = λ h.
    let v = value (tree_of c.args.a.now c.args.pool.now) in let first = c.join_terms.ensures (search rules) in
    let none = ap (λ (ts : List Term). surd_of ts ++ v) c.requires.none in
    terms_as _ (Same-append (Same-trans first.worth (Same-eq none)) (Same-refl _)) (shares_append (λ d p. first.parts d (shares_eq (sym none) d p)) (λ d p. p)) (c.join_terms-2.ensures h)
