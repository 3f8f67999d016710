use Rattle.calc_room.proofs.{Shared.{◌≤◌, ◌+◌, ◌*◌, ◌^◌, length, arith, add, size, terms_of, terms_proper}, NumberSpans.{spans_same_terms}, NumberBytes.{partial_bytes}}
use Rattle.calc_room.proofs.laws.partial_sums_are_small.Goals as goal

pub returns-clause-spanned : goal.returns-clause-spanned
returns-clause-spanned c = λ gs ts v h r e s. spans_same_terms gs (terms_of ts) v (terms_proper ts h) r e s

pub returns-clause-bytes : goal.returns-clause-bytes
returns-clause-bytes c = λ gs ts v h r e s. let l : size (add ts) + 48 ≤ 96 * 2 ^ length gs = partial_bytes gs ts v h r e s in omega arith
