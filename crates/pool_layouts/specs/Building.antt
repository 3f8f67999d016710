-- How the nodes of a layout find room where it is built from its leaves up.
use Rattle.std.specs.Prelude.{ℕ, List, [], ◌∷◌, ◌++◌, Result}
use Rattle.calc_terms.specs.declared.kind.Kind.TheVariants as kind
use Rattle.calc_terms.specs.{Payload.{bare, size_of_payload}, Trees.{num, symbol, root_size}}
use Rattle.node_pool.specs.declared.full.Full.{Full}
use Rattle.tree_handles.specs.Building.{taking}
use Rattle.pool_layouts.specs.Layouts.{Layout, number, name, plus, minus, times, row, fraction, raised, radical, paren, Layouts, nothing, beside}

-- the bytes of each node in postfix order: the parts from left to right, then what they are parts of
abbrev mutual
  pub part_sizes : Layout → List ℕ
  part_sizes (number q) = root_size (num q) ∷ []
  part_sizes (name x) = root_size (symbol x) ∷ []
  part_sizes plus = size_of_payload (bare kind.Plus) ∷ []
  part_sizes minus = size_of_payload (bare kind.Minus) ∷ []
  part_sizes times = size_of_payload (bare kind.Times) ∷ []
  part_sizes (row ls) = parts_sizes ls ++ size_of_payload (bare kind.Row) ∷ []
  part_sizes (fraction a b) = (part_sizes a ++ part_sizes b) ++ size_of_payload (bare kind.Fraction) ∷ []
  part_sizes (raised a) = part_sizes a ++ size_of_payload (bare kind.Raised) ∷ []
  part_sizes (radical a) = part_sizes a ++ size_of_payload (bare kind.Radical) ∷ []
  part_sizes (paren a) = part_sizes a ++ size_of_payload (bare kind.Paren) ∷ []

  -- one layout behind the other
  pub parts_sizes : Layouts → List ℕ
  parts_sizes nothing = []
  parts_sizes (beside l ls) = part_sizes l ++ parts_sizes ls

-- a layout is built in the free bytes: parts are placed before what they are parts of
abbrev pub laying : ℕ → Layout → Result ℕ Full
laying free l = taking free (part_sizes l)
