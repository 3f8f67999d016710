-- What a session keeps from line to line.
use Rattle.std.specs.Prelude.{ℕ, pos, ◌-◌, List, [], ◌∷◌}
use Rattle.calc_terms.specs.{Node.{Node, fresh}, Payload.{rational}, Ratio.{whole}}
use Rattle.name_table.specs.Tables.{Table, first_table}
use Rattle.node_pool.specs.{Nodes.{used}, State.{State as PoolState}}
use Rattle.tree_handles.specs.Forest.{Forest, forest_of}

-- the capacity of the pool, its nodes in the order of their bytes, and the table of the names that hold their trees
pub record State : Type 0 where
  pub size : ℕ
  pub nodes : List Node
  pub table : Table

-- what is kept of a pool and a table
abbrev pub state_of : PoolState → Table → State
state_of p t = record { size = p.size; nodes = p.nodes; table = t }

-- the trees that the nodes are
abbrev pub trees : State → Forest
trees s = forest_of s.nodes

-- the bytes that no node takes
abbrev pub free_bytes : State → ℕ
free_bytes s = s.size - used s.nodes

-- a session begins with the answer 0
abbrev pub first_state : ℕ → State
first_state size = record { size = size; nodes = fresh 0 (rational (whole (pos 0))) ∷ []; table = first_table 0 }
