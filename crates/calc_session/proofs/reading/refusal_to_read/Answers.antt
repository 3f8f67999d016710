use Rattle.calc_session.proofs.Shared.{subst, IsLineFaultOf}
use Rattle.calc_session.proofs.reading.refusal_to_read.Goals as goal

pub token_refusal-requires : goal.token_refusal-requires
token_refusal-requires c = let (text, found, short) = c.requires.place in record { place = (text, subst (IsLineFaultOf text) c.in-Token.is found, short) }

pub returns-in-Token-clause-refused : goal.returns-in-Token-clause-refused
returns-in-Token-clause-refused c = λ text found. c.token_refusal.ensures.refused text (subst (IsLineFaultOf text) c.in-Token.is found)

pub returns-in-Parse-clause-refused : goal.returns-in-Parse-clause-refused
returns-in-Parse-clause-refused c = λ text found.
    let (ts, cut, fault) = subst (IsLineFaultOf text) c.in-Parse.is found in
    c.line_refusal.ensures.refused c.args.before text ts cut fault
