use Rattle.calc_tokens.proofs.{Shared.{Ok, Err, tokens_of}, OneScan.one_list, Outcomes.{accepted, character_exact, number_exact}}
use Rattle.calc_tokens.proofs.scanning.scan.Goals as goal

pub returns-in-Ok-clause-accepts : goal.returns-in-Ok-clause-accepts
returns-in-Ok-clause-accepts c = λ ts cut. one_list c.args.line.now (tokens_of c.push_tokens.new.tokens) ts c.in-Ok.ensures cut

pub returns-in-Ok-clause-character : goal.returns-in-Ok-clause-character
returns-in-Ok-clause-character c = character_exact (λ (x : Unit {0}). tokens_of c.push_tokens.new.tokens) c.args.line.now (Ok tt) c.in-Ok.ensures

pub returns-in-Ok-clause-number : goal.returns-in-Ok-clause-number
returns-in-Ok-clause-number c = number_exact (λ (x : Unit {0}). tokens_of c.push_tokens.new.tokens) c.args.line.now (Ok tt) c.in-Ok.ensures

pub returns-in-Err-clause-accepts : goal.returns-in-Err-clause-accepts
returns-in-Err-clause-accepts c = accepted (λ (x : Unit {0}). tokens_of c.clear-in-Err.new.self) c.args.line.now (Err c.in-Err.fault) c.in-Err.ensures

pub returns-in-Err-clause-character : goal.returns-in-Err-clause-character
returns-in-Err-clause-character c = character_exact (λ (x : Unit {0}). tokens_of c.clear-in-Err.new.self) c.args.line.now (Err c.in-Err.fault) c.in-Err.ensures

pub returns-in-Err-clause-number : goal.returns-in-Err-clause-number
returns-in-Err-clause-number c = number_exact (λ (x : Unit {0}). tokens_of c.clear-in-Err.new.self) c.args.line.now (Err c.in-Err.fault) c.in-Err.ensures
