use Rattle.poincare_run.proofs.{Shared.{◌∙◌, ap, arith, refl}, TallyLemmas.{counted, sort_is, sort_told, other_told}}
use Rattle.poincare_run.proofs.tally.Tally.count.Goals as goal

pub returns-in-Shown-clause-value : goal.returns-in-Shown-clause-value
returns-in-Shown-clause-value c = λ replies reply e is text.
    counted c.args.self _ replies reply _ c.length_of.result e (sort_is c.args.answer reply is ∙ ap sort_told c.in-Shown.is) (c.length_of.ensures.value reply text)
    (record { lines = refl; shown = refl; stored = omega arith; undefined = omega arith; refused = omega arith; bytes = refl })

pub returns-in-Stored-clause-value : goal.returns-in-Stored-clause-value
returns-in-Stored-clause-value c = λ replies reply e is text.
    counted c.args.self _ replies reply _ c.length_of.result e (sort_is c.args.answer reply is ∙ ap sort_told c.in-Stored.is) (c.length_of.ensures.value reply text)
    (record { lines = refl; shown = omega arith; stored = refl; undefined = omega arith; refused = omega arith; bytes = refl })

pub returns-in-Undef-clause-value : goal.returns-in-Undef-clause-value
returns-in-Undef-clause-value c = λ replies reply e is text.
    counted c.args.self _ replies reply _ c.length_of.result e (sort_is c.args.answer reply is ∙ ap sort_told c.in-Undef.is) (c.length_of.ensures.value reply text)
    (record { lines = refl; shown = omega arith; stored = omega arith; undefined = refl; refused = omega arith; bytes = refl })

pub returns-in-Refused-clause-value : goal.returns-in-Refused-clause-value
returns-in-Refused-clause-value c = λ replies reply e is text.
    counted c.args.self _ replies reply _ c.length_of.result e (sort_is c.args.answer reply is ∙ ap sort_told c.in-Refused.is) (c.length_of.ensures.value reply text)
    (record { lines = refl; shown = omega arith; stored = omega arith; undefined = omega arith; refused = refl; bytes = refl })

pub returns-in-Blank-clause-value : goal.returns-in-Blank-clause-value
returns-in-Blank-clause-value c = λ replies reply e is text.
    counted c.args.self _ replies reply _ c.length_of.result e (sort_is c.args.answer reply is ∙ other_told c.args.answer c.in-Blank.is) (c.length_of.ensures.value reply text)
    (record { lines = refl; shown = omega arith; stored = omega arith; undefined = omega arith; refused = omega arith; bytes = refl })
