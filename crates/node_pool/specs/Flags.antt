-- Which identifiers are in use, as one flag for each.
use Rattle.std.specs.Prelude.{ℕ, ◌≡◌, ◌<◌, List, [], ◌∷◌, Bool, true, false, length, slice_index_or, slice_set}
use Rattle.calc_terms.specs.Node.{Node}
use Rattle.node_pool.specs.Nodes.{has}

-- the flag of an identifier, false beyond the last
abbrev pub flag : ℕ → List Bool → Bool
flag id flags = slice_index_or flags id false

-- the identifiers below one are in use
abbrev pub AreTakenBelow : ℕ → List Bool → Type 0
AreTakenBelow id flags = (k : ℕ) → k < id → flag k flags ≡ true

-- the least identifier that is not in use
pub record IsLeastUnused (id : ℕ) (flags : List Bool) : Type 0 where
  pub inside : id < length flags
  pub unused : flag id flags ≡ false
  pub least : AreTakenBelow id flags

-- some identifier is not in use
pub record HasUnused (flags : List Bool) : Type 0 where
  pub id : ℕ
  pub inside : id < length flags
  pub unused : flag id flags ≡ false

-- the identifiers of the nodes are in use no more
abbrev pub without_ids : List Node → List Bool → List Bool
without_ids [] flags = flags
without_ids (n ∷ ns) flags = without_ids ns (slice_set flags n.id false)

-- in use are exactly the identifiers of the nodes
abbrev pub AreFlagsOf : List Node → List Bool → Type 0
AreFlagsOf ns flags = (id : ℕ) → flag id flags ≡ has id ns

-- each identifier has a flag
abbrev pub AreBelow : ℕ → List Node → Type 0
AreBelow len [] = Unit {0}
AreBelow len (n ∷ ns) = (n.id < len) × AreBelow len ns
