use Rattle.number_forms.proofs.{Shared.{◌≡◌, sym, ap, ◌∙◌, rules, subst, FitsSigned, nat_abs, w128, to_z-of_z, IsClean, natural_of, value_of, ratio_parts}, TermTrees.{natural_abs}}
use Rattle.number_forms.proofs.term.radicand_of.Goals.{After-unsigned_abs}
use Rattle.number_forms.proofs.term.radicand_of.Goals as goal

is : (c : After-unsigned_abs) → c.unsigned_abs.result ≡ natural_of (value_of c.args.r).num
is c =
    let fits : FitsSigned w128 c.num.result = search rules in
    c.unsigned_abs.ensures.value ∙ ap nat_abs (to_z-of_z w128 _ fits ∙ c.num.ensures.value ∙ sym (ratio_parts c.args.r).num) ∙ natural_abs _ _ c.requires.2

pub returns-clause-value : goal.returns-clause-value
returns-clause-value c = is c

pub returns-clause-clean : goal.returns-clause-clean
returns-clause-clean c = subst IsClean (sym (is c ∙ ap natural_of c.requires.2)) c.requires.4
