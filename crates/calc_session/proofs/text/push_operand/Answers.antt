use Rattle.calc_session.proofs.{Shared.{◌∙◌, ap, sym, signed_decimal, ratio_of, Content, extended, denominator_text, extended_twice}, ReplyLemmas.{text_of_operand}}
use Rattle.calc_session.proofs.text.push_operand.Goals as goal

pub returns-clause-value : goal.returns-clause-value
returns-clause-value c =
    c.push_denominator.ensures.value ∙ ap (λ (t : Content). extended t (denominator_text (ratio_of c.args.value).den)) c.push_numerator.ensures.value
    ∙ extended_twice c.args.text.now (signed_decimal (ratio_of c.args.value).num) (denominator_text (ratio_of c.args.value).den) ∙ ap (extended c.args.text.now) (sym (text_of_operand c.args.value))
