use Rattle.poincare_run.specs.{Beginnings.{first_moment}, Steps.{Chain, Moment, Turn}, declared.words.Options.{Options}}
use Rattle.breakers.specs.State.{State as Breaker}
use Rattle.session_laws.proofs.{HeldTrees.{held_along, held_first}, RestoredNames.{restored}, StoredValues.{read_along}}
use Rattle.session_laws.proofs.laws.told_names_are_stored_again.Goals as goal
use Rattle.session_laws.specs.StoredAgain.{ReadAsStores, stored_in}
use Rattle.std.specs.Prelude.{ℕ, List}

read_lines : (options : Options) (breakers : List Breaker) (lines : List (List ℕ)) (turns : List Turn) (now : Moment) → Chain (first_moment options breakers) lines turns now → ReadAsStores (stored_in now.state)
read_lines options breakers lines turns now chain = read_along lines (first_moment options breakers) turns now (held_first options.size) tt chain

pub returns-clause-read : goal.returns-clause-read
returns-clause-read c = λ words options breakers lines turns now asked chain. read_lines options breakers lines turns now chain

pub returns-clause-again : goal.returns-clause-again
returns-clause-again c = λ words options breakers lines turns now asked chain start end stores held empty told are.
    restored now.state start end stores (held_along lines (first_moment options breakers) turns now (held_first options.size) chain) (read_lines options breakers lines turns now chain) held empty told are
