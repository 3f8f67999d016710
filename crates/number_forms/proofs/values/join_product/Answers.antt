use Rattle.number_forms.proofs.{Shared.{term_of, term_times}, ListedTerms.{extracted_terms}}
use Rattle.number_forms.specs.Values.{surd_of}
use Rattle.number_forms.proofs.values.join_product.Goals as goal

pub returns-in-Ok : goal.returns-in-Ok
returns-in-Ok c = λ h. extracted_terms (term_of c.in-Ok.product) (term_times (term_of c.args.a) (term_of c.args.b)) (surd_of c.args.list.now.items) _ c.in-Ok.ensures.product c.in-Ok.ensures.extracted (c.join_one.ensures h)
