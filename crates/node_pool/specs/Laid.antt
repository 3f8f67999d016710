-- A buffer's fields.
use Rattle.std.specs.Prelude.{◌≡◌, ◌-◌, ◌++◌, length, replicate}
use Rattle.node_pool.specs.{declared.buffer.Buffer.TheInside.{Inside}, Nodes.{used, encodings}, Contents.{Contents, IsContents, nodes_of}}

abbrev pub contents_of : Inside → Contents
contents_of b = record { nodes = nodes_of b.count b.store; size = length b.store }

-- the bytes are those of the nodes that are read from them, and then zeros
pub record IsLaid (b : Inside) : Type 0 where
  pub bytes : b.store ≡ encodings (nodes_of b.count b.store) ++ replicate (length b.store - used (nodes_of b.count b.store)) 0
  pub used : b.used ≡ used (nodes_of b.count b.store)
  pub contents : IsContents (contents_of b)
