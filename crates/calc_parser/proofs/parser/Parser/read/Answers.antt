use Rattle.calc_parser.proofs.{Shared.{Ok, Err, ap, bare, tokens_of, steps_in, fault_found}, LineFaults.{faults_exact, line_accepted}, LineSteps.{steps_of_nothing}}
use Rattle.calc_parser.specs.declared.parser.LineFault.TheVariants as line_fault
use Rattle.calc_parser.proofs.parser.Parser.read.Goals as goal

pub invariant_of-self : goal.invariant_of-self
invariant_of-self c = steps_of_nothing (steps_in c.self.inside.reader.value.postfix) (bare (tokens_of c.scan.new.tokens)) (ap bare c.in-Err.ensures.emptied)

pub invariant_of-self-in-Err-checked : goal.invariant_of-self-in-Err-checked
invariant_of-self-in-Err-checked c = steps_of_nothing (steps_in c.checked.new.reader.postfix) (bare (tokens_of c.clear.new.self)) (ap bare c.clear.ensures)

pub returns-in-Err-clause-accepts : goal.returns-in-Err-clause-accepts
returns-in-Err-clause-accepts c =
    line_accepted c.args.line.now (Err (line_fault.Token c.in-Err.fault)) (fault_found c.args.line.now c.scan.result c.in-Err.fault c.in-Err.is c.scan.ensures.character c.scan.ensures.number)

pub returns-in-Err-clause-refused : goal.returns-in-Err-clause-refused
returns-in-Err-clause-refused c =
    faults_exact c.args.line.now (Err (line_fault.Token c.in-Err.fault)) (fault_found c.args.line.now c.scan.result c.in-Err.fault c.in-Err.is c.scan.ensures.character c.scan.ensures.number)

pub returns-in-Ok-checked-clause-line : goal.returns-in-Ok-checked-clause-line
returns-in-Ok-checked-clause-line c = c.in-Ok-checked.ensures.found

pub returns-in-Ok-checked-clause-refused : goal.returns-in-Ok-checked-clause-refused
returns-in-Ok-checked-clause-refused c =
    faults_exact c.args.line.now (Ok c.in-Ok-checked.store)
    (tokens_of c.scan.new.tokens, c.in-Ok.ensures.tokens, c.in-Ok-checked.ensures.found)

pub returns-in-Err-checked-clause-accepts : goal.returns-in-Err-checked-clause-accepts
returns-in-Err-checked-clause-accepts c =
    line_accepted c.args.line.now (Err (line_fault.Parse c.in-Err-checked.fault))
    (tokens_of c.scan.new.tokens, c.in-Ok.ensures.tokens, c.in-Err-checked.ensures.found)
