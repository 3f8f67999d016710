use Rattle.std.proofs.Common.{◌∙◌, ◌<◌, ◌++◌, length, take, get_or, arith, sym, ap, append_assoc}
use Rattle.poincare_run.proofs.{Shared.{take_more, digits_for, with_digits}, GeneratedLemmas.{with_digits-more}}
use Rattle.poincare_run.proofs.generated.push_line.Goals as goal

pub loop-byte-preserved : goal.loop-byte-preserved
loop-byte-preserved c =
    let items = c.pattern-byte-items.result.now in
    let i = c.loop-byte.byte-index in
    let old = c.args.lines.now.items in
    let within : i < length items = omega arith in
    c.in_ok-push_byte.ensures ∙ ap (λ l. l ++ digits_for c.args.a c.args.b (get_or items i 0)) c.loop-byte.invariant
    ∙ append_assoc old (with_digits c.args.a c.args.b (take i items)) (digits_for c.args.a c.args.b (get_or items i 0))
    ∙ ap (λ l. old ++ l) (sym (with_digits-more c.args.a c.args.b (take i items) (get_or items i 0)))
    ∙ ap (λ l. old ++ with_digits c.args.a c.args.b l) (sym (take_more items i 0 within))
