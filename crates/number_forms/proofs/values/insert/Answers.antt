use Rattle.number_forms.proofs.{Shared.{lit<, ◌∙◌, sym, subst, arith, eqb-false, AreTermsOf}, ListedTerms.{count_trees, inserted_terms}}
use Rattle.number_forms.proofs.values.insert.Goals as goal

pub insert-requires : goal.insert-requires
insert-requires c =
    let n = eqb-false _ _ (sym c.is_full.ensures.value ∙ c.if-is_full.false) in
    (lit< tt, (omega (arith, c.requires.place.within, count_trees c.args.list.now.items), omega (arith, c.is_full.ensures.fits, n)))

pub returns-clause-ok : goal.returns-clause-ok
returns-clause-ok c = λ _. subst (AreTermsOf _) (sym c.insert.ensures.items) (inserted_terms c.args.list.now.items c.args.at c.args.term c.requires.listed c.requires.small c.requires.place c.requires.other)
