-- How many nodes of handed trees count.
use Rattle.std.specs.Prelude.{ℕ, suc, ◌+◌, ◌-◌, ◌≡◌, false, max, ⊤, if◌then◌else◌}
use Rattle.calc_algebra.specs.{Numbers.{is_number}, Reduced.{is_whole_num, part_of}}
use Rattle.calc_room.specs.Counts.{counted, counted_among}
use Rattle.calc_terms.specs.Trees.{Tree, Trees, none, more}

-- in all children, of which each Number counts 1
abbrev pub counted_in_all : Trees → ℕ
counted_in_all none = 0
counted_in_all (more t ts) = counted t + counted_in_all ts

-- in a sum of these terms
abbrev pub sum_count : Trees → ℕ
sum_count ts = suc (counted_in_all ts)

abbrev pub numbers_among : Trees → ℕ
numbers_among none = 0
numbers_among (more t ts) = (if is_number t then 1 else 0) + numbers_among ts

-- in a product of these factors, whose Numbers but one have still to be multiplied
abbrev pub product_count : Trees → ℕ
product_count ts = suc (max 1 (numbers_among ts - 1) + counted_among ts)

-- what an exponent adds to the count of its base
abbrev pub exponent_count : Tree → ℕ
exponent_count e = if is_whole_num e then 0 else suc (counted e)

-- term by term both are Numbers, or neither is and they have the same part
pub record HasSamePart (t u : Tree) : Type 0 where
  pub number : is_number t ≡ is_number u
  pub part : is_number t ≡ false → part_of t ≡ part_of u

abbrev pub HaveSameParts : Trees → Trees → Type 0
HaveSameParts none none = ⊤
HaveSameParts (more t ts) (more u us) = HasSamePart t u × HaveSameParts ts us
HaveSameParts _ _ = ⊥
