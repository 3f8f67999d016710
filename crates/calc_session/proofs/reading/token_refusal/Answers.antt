use Rattle.calc_session.proofs.{Shared.{arith, subst, meets_no_token, meets_a_wide_number}, ReadLemmas.{character_within, wide_within}}
use Rattle.calc_tokens.specs.Faults.{IsFaultOf}
use Rattle.calc_session.proofs.reading.token_refusal.Goals as goal

pub overflow_add-result : goal.overflow_add-result
overflow_add-result c = let (text, found, short) = c.requires.place in omega (arith, character_within c.args.before c.in-Character.at text short (subst (IsFaultOf text) c.in-Character.is found))

pub overflow_add-result-in-Number : goal.overflow_add-result-in-Number
overflow_add-result-in-Number c = let (text, found, short) = c.requires.place in omega (arith, wide_within c.args.before c.in-Number.at text short (subst (IsFaultOf text) c.in-Number.is found))

pub returns-in-Character-clause-refused : goal.returns-in-Character-clause-refused
returns-in-Character-clause-refused c = λ text found. meets_no_token (subst (IsFaultOf text) c.in-Character.is found)

pub returns-in-Number-clause-refused : goal.returns-in-Number-clause-refused
returns-in-Number-clause-refused c = λ text found. meets_a_wide_number (subst (IsFaultOf text) c.in-Number.is found)
