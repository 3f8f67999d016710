use Rattle.expand_forms.proofs.Shared.{◌∙◌, ap, refl, sym, subst, length, arith, HasFewTerms, Polynomial, gives_as, refusal_as, sum_tree, term_trees, each_named, few_normal, AreFine, are_fine}
use Rattle.expand_forms.proofs.{Shared.{ordered_monomials, ordered_normal, terms_rise, if_ok_map}, PlacedTerms.{named_length}}
use Rattle.expansions.specs.Named.{names_of}
use Rattle.expand_forms.proofs.placing.place_terms.Goals as goal

pub returns-clause-ok : goal.returns-clause-ok
returns-clause-ok c = λ v l.
    let fine : AreFine (names_of c.args.names.now) c.args.terms.now = are_fine _ _ l.normal (each_named l c.know_monomials.ensures) c.know_monomials.ensures in
    let n = ordered_normal l fine c.sort_terms.ensures.moved c.sort_terms.ensures.rising in
    if_ok_map c.place_sum.result c.place_sum.ensures.ok (λ t g. gives_as g refl (λ u e. e ∙ ap (λ (w : Polynomial). sum_tree (term_trees w)) n))

pub returns-clause-room : goal.returns-clause-room
returns-clause-room c = λ v ns n l h.
    let fine : AreFine (names_of c.args.names.now) c.args.terms.now = are_fine _ _ l.normal (each_named l c.know_monomials.ensures) c.know_monomials.ensures in
    let us = c.sort_terms.new.terms in
    let e = ordered_normal l fine c.sort_terms.ensures.moved c.sort_terms.ensures.rising in
    let few = subst (HasFewTerms ns n) (sym e) (few_normal h) in
    refusal_as c.place_sum.result (c.place_sum.ensures.room ns (ordered_monomials (names_of c.args.names.now) us l.names) few.named)
    (λ full lacks. omega (arith, lacks, terms_rise ns (length us) n (omega (arith, few.few, named_length (names_of c.args.names.now) us))))
