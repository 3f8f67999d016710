use Rattle.std.proofs.{Common.{◌∙◌, eqb-true, length, map, string_bytes, sym}, lemmas.List.{length-map}}
use Rattle.poincare_run.proofs.{Shared.{app_of, list_any-map}, ClapLemmas.{is_separator}, CommandLineLemmas.{given_matched, none_named, none_refused, none_separated}}
use Rattle.poincare_run.proofs.words.options_in.Goals as goal

pub returns-then-is_empty-clause-value : goal.returns-then-is_empty-clause-value
returns-then-is_empty-clause-value c =
    c.options_with.ensures.value
    ∙ none_named (map string_bytes c.args.words.now) (length-map c.args.words.now string_bytes ∙ eqb-true (length c.args.words.now) 0 (sym c.is_empty.ensures ∙ c.if-is_empty.true))

pub returns-then-has_separator-clause-value : goal.returns-then-has_separator-clause-value
returns-then-has_separator-clause-value c =
    none_separated (map string_bytes c.args.words.now) (sym (list_any-map is_separator string_bytes c.args.words.now) ∙ sym c.has_separator.ensures ∙ c.if-has_separator.true)

pub returns-in-Ok-clause-value : goal.returns-in-Ok-clause-value
returns-in-Ok-clause-value c =
    given_matched (map string_bytes c.args.words.now) (app_of c.in_ok-command.field-0) c.in-Ok.matches c.options_from.result c.in_ok-command.ensures
    (sym (list_any-map is_separator string_bytes c.args.words.now) ∙ sym c.has_separator.ensures ∙ c.if-has_separator.false)
    c.in-Ok.ensures.matches c.in-Ok.ensures.kinds c.options_from.ensures.value

pub returns : goal.returns
returns c = record {
  value = none_refused (map string_bytes c.args.words.now) (app_of c.in_ok-command.field-0) c.in-Err.error c.in_ok-command.ensures c.in-Err.ensures.kinds (λ m. c.in_default.not-OutOfMemory (c.kind.ensures ∙ m));
  size = tt;
}
