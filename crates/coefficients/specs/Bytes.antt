-- The bytes of the new nodes where a tree becomes a product, and where a coefficient is taken off.
use Rattle.std.specs.Prelude.{ℕ, ◌==◌, ◌≡◌, if◌then◌else◌}
use Rattle.calc_terms.specs.declared.kind.Kind.TheVariants as kind
use Rattle.calc_terms.specs.{Payload.{bare, size_of_payload}, Trees.{Tree, mult, Trees, size}}
use Rattle.calc_algebra.specs.Reduced.{num_one}
use Rattle.coefficients.specs.Coefficients.{coefficient_length}
use Rattle.node_pool.specs.{declared.full.Full.{Full}, State.{State, free_of}}
use Rattle.tree_handles.specs.Standing.{LacksBytes, Refuses}

-- a product over a tree that is none
abbrev pub bytes_as_product : Tree → ℕ
bytes_as_product (mult ts) = 0
bytes_as_product t = size_of_payload (bare kind.Mult)

-- a 1 where factors have no coefficient, none where one factor is it, and a product over two that are it
abbrev pub bytes_of_coefficient : Trees → ℕ
bytes_of_coefficient ts = if coefficient_length ts == 0 then size num_one else (if coefficient_length ts == 1 then 0 else size_of_payload (bare kind.Mult))

-- the same of a term
abbrev pub bytes_of_taking : Tree → ℕ
bytes_of_taking (mult ts) = bytes_of_coefficient ts
bytes_of_taking t = size num_one

-- a call was refused, perhaps after trees were moved: the refusal says how many bytes it needed, and that as many were free as before
pub record IsShort (needed : ℕ) (old new : State) (full : Full) : Type 0 where
  pub told : full ≡ record { needed = needed; free = free_of old }
  pub refuses : Refuses old new full
  pub lacks : LacksBytes new full
