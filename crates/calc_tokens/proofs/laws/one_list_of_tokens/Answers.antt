use Rattle.calc_tokens.proofs.OneScan.{one_list}
use Rattle.calc_tokens.proofs.laws.one_list_of_tokens.Goals as goal

pub returns : goal.returns
returns c = one_list
