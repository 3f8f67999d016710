use Rattle.calc_commands.proofs.{Shared.{◌∙◌, sym, subst, arith, ParsesUnsigned}, Digits.{digits_are_utf8, at_some, at_none}, Values.{too_many_digits, not_digits, value_from_parse}}
use Rattle.calc_commands.proofs.numbers.read_number.Goals.{then-text-gt-DIGIT_LIMIT-via-then-text-gt-DIGIT_LIMIT, then-text-gt-DIGIT_LIMIT-via-else-text-gt-DIGIT_LIMIT+then-not-all_digits}
use Rattle.calc_commands.proofs.numbers.read_number.Goals as goal

pub returns-then-text-gt-DIGIT_LIMIT : goal.returns-then-text-gt-DIGIT_LIMIT
returns-then-text-gt-DIGIT_LIMIT c =
    elim c.then-text-gt-DIGIT_LIMIT.branch [
      | then-text-gt-DIGIT_LIMIT-via-then-text-gt-DIGIT_LIMIT w ↦ sym (too_many_digits c.args.text.now w.if-text-gt-DIGIT_LIMIT.true)
      | then-text-gt-DIGIT_LIMIT-via-else-text-gt-DIGIT_LIMIT+then-not-all_digits w ↦ sym (not_digits c.args.text.now (sym w.all_digits.ensures ∙ w.if-not-all_digits.true))
    ]

pub returns-in_err-ok : goal.returns-in_err-ok
returns-in_err-ok c =
    let digits = sym c.all_digits.ensures ∙ c.if-not-all_digits.false in
    absurd (at_none c.from_utf8.result _ _ _ c.in_err-ok.ensures.value c.from_utf8.ensures.cases (digits_are_utf8 c.args.text.now digits))

pub returns : goal.returns
returns c =
    let text = (at_some c.from_utf8.result _ _ c.in_ok-ok.field-0 c.in_ok-ok.ensures.value c.from_utf8.ensures.cases).0 in
    let parses = subst (λ t. ParsesUnsigned 64 10 t c.parse.result) text c.parse.ensures.value.0 in
    let digits = sym c.all_digits.ensures ∙ c.if-not-all_digits.false in
    c.ok-2.ensures.value ∙ sym (value_from_parse c.args.text.now c.parse.result digits (omega (arith, c.if-text-gt-DIGIT_LIMIT.false)) parses)
