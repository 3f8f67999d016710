use Rattle.calc_parser.proofs.{Shared.{◌+◌, Some, sym, ap, ◌∙◌, ended, take_place, open_in, steps_in, nodes_in}, Steps.{place_child, place_right, place_none, nodes_pushed}}
use Rattle.calc_parser.proofs.reader.Reader.end.Goals as goal

pub returns-in-Some-Child-clause-ended : goal.returns-in-Some-Child-clause-ended
returns-in-Some-Child-clause-ended c = λ ts.
    let s = open_in c.complete.new.self.nesting in
    let o = nodes_in ts c.complete.new.self.postfix in
    ap (λ s. ended s o (c.in-Some-Child.before + 1)) c.leave.ensures
    ∙ place_child c.args.level s o c.in-Some-Child.before (ap Some (sym c.in-Some-Child.field-0-is) ∙ c.in-Some-Child.ensures)
    ∙ ap (λ p. take_place c.args.level (p.0) (p.1)) (c.complete.ensures.ended ts)

pub returns-in-Some-Right-clause-ended : goal.returns-in-Some-Right-clause-ended
returns-in-Some-Right-clause-ended c = λ ts.
    let s = open_in c.complete.new.self.nesting in
    let o = nodes_in ts c.complete.new.self.postfix in
    rw (c.leave-in-Some-Right.ensures, nodes_pushed ts (steps_in c.complete.new.self.postfix) (steps_in c.push.new.self) _ c.push.ensures)
    (place_right c.args.level s o c.in-Some-Right.kind (ap Some (sym c.in-Some-Right.field-0-is) ∙ c.in-Some-Right.ensures)
    ∙ ap (λ p. take_place c.args.level (p.0) (p.1)) (c.complete.ensures.ended ts))

pub returns-in-None-clause-ended : goal.returns-in-None-clause-ended
returns-in-None-clause-ended c = λ ts.
    let s = open_in c.complete.new.self.nesting in
    let o = nodes_in ts c.complete.new.self.postfix in
    place_none c.args.level s o c.in-None.ensures ∙ ap (λ p. take_place c.args.level (p.0) (p.1)) (c.complete.ensures.ended ts)
