-- The pool of a session.
use Rattle.std.specs.Prelude.{◌≡◌, List, Option, Some, None}
use Rattle.calc_terms.specs.Node.{Node}
use Rattle.node_pool.specs.{declared.full.Full.{Full}, State.{State, refused}}
use Rattle.calc_session.specs.Answers.{CountsRefusal}

-- the pool with these nodes, once it has counted what it refused
abbrev pub after : Option Full → List Node → State → State
after None nodes pool = record pool { nodes = nodes }
after (Some refusal) nodes pool = record (refused pool refusal) { nodes = nodes }

-- all is as before but for a refusal, which was counted
pub record IsRolledBack (refusal : Option Full) (old new : State) : Type 0 where
  pub counted : CountsRefusal refusal old new
  pub as_before : new ≡ after refusal old.nodes old
