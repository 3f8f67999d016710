use Rattle.calc_session.proofs.{Shared.{map, name_of, entries_of}, PlacingLemmas.{AreFirst}}
use Rattle.calc_session.proofs.forms.place_multiples.Given as goal

abbrev pub invariant-loop-at : goal.invariant-loop-at
invariant-loop-at l = AreFirst (map name_of l.names) (entries_of l.coefs) l.fn.pool l.fn.placed l.at l.pool l.placed
