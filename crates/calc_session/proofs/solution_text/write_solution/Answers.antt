use Rattle.std.proofs.Common.{◌≡◌, Ok, List, length, map, sym, ap, subst}
use Rattle.calc_session.proofs.{Shared.{Line, Solution, Form, HoldLaterFreeNames, solved, IfSolved, answer_told, form_told}, SolutionLemmas.{line_small, on_err}}
use Rattle.calc_session.proofs.solution_text.write_solution.Goals as goal

pub write_lines-requires-clause-small : goal.write_lines-requires-clause-small
write_lines-requires-clause-small c = λ k d l.
    let forms = subst (λ (s : Solution). IfSolved (Ok s) (λ forms. (length forms ≡ length c.args.names.now) × HoldLaterFreeNames forms)) c.in-Solved.is c.requires.forms in
    let all = subst (λ (ls : List Line). (length (map form_told ls) ≡ length c.args.names.now) × HoldLaterFreeNames (map form_told ls)) (sym c.as_slice.ensures.value) forms in
    line_small c.args.names.now c.as_slice.result.now k d c.requires.few all l

pub returns-in-Solved-clause-solved : goal.returns-in-Solved-clause-solved
returns-in-Solved-clause-solved c = on_err c.write_lines.result ((x : List Form) × (answer_told c.args.solution.now ≡ solved x)) (map form_told c.in-Solved.lines.items, ap answer_told c.in-Solved.is)
