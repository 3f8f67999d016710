use Rattle.expand_forms.proofs.{Shared.{◌∙◌, sym, refl, gives_as, if_ok_map}, TermReadings.{factor_one, factor_other}}
use Rattle.number_forms.proofs.Safety.{one_placed}
use Rattle.expand_forms.proofs.merging.place_factor.Goals as goal

pub returns-then-is_one-clause-ok : goal.returns-then-is_one-clause-ok
returns-then-is_one-clause-ok c = λ f r. if_ok_map c.symbol.result c.symbol.ensures.given (λ h g. gives_as g refl (λ t e. e ∙ factor_one c.args.factor f r (sym c.is_one.ensures ∙ c.if-is_one.true)))

pub returns-clause-ok : goal.returns-clause-ok
returns-clause-ok c = λ f r. if_ok_map c.place_power.result c.place_power.ensures.ok (λ h g. gives_as g refl (λ t e. e ∙ factor_other c.args.factor f r (sym c.is_one.ensures ∙ c.if-is_one.false)))

pub returns-then-is_one-clause-safe : goal.returns-then-is_one-clause-safe
returns-then-is_one-clause-safe c = one_placed _ c.symbol.result c.symbol.ensures.kept c.symbol.ensures.full c.symbol.ensures.front c.symbol.ensures.stands
