-- What a buffer of nodes holds.
use Rattle.std.specs.Prelude.{ℕ, zero, suc, ◌-◌, ◌≤◌, List, [], ◌∷◌, ◌++◌, drop, replicate}
use Rattle.calc_terms.specs.Node.{Node, size_of, node_at}
use Rattle.node_pool.specs.Nodes.{used, encodings, AreNodes}

-- nodes in the order of their bytes, and the bytes that there are for them
pub record Contents : Type 0 where
  pub nodes : List Node
  pub size : ℕ

pub record IsContents (c : Contents) : Type 0 where
  pub nodes : AreNodes c.nodes
  pub fits : used c.nodes ≤ c.size
  pub small : c.size ≤ 524280

abbrev pub bytes_in : Contents → List ℕ
bytes_in c = encodings c.nodes ++ replicate (c.size - used c.nodes) 0

-- that many nodes, read one after another
unfoldable pub nodes_of : ℕ → List ℕ → List Node
nodes_of zero bytes = []
nodes_of (suc k) bytes = node_at bytes ∷ nodes_of k (drop (size_of (node_at bytes)) bytes)
