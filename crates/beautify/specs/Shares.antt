-- What the children of a node put into its face.
use Rattle.std.specs.Prelude.{ℕ, ◌+◌, ◌==◌, if◌then◌else◌, nat_abs, Option, Some, None, ⊤}
use Rattle.beautify.specs.{Owed.{form_room}, Showing.{AreFactors, stands_below, unsigned_faces}, declared.pending.Form.TheVariants.{Unsigned, Divisor}, declared.pending.Pending.{Pending}}
use Rattle.beautify.specs.{declared.pending.Pending.TheVariants.{Numerator, Denominator, Part}, declared.shares.Share.{Share}, declared.shares.Share.TheVariants.{Terms, Above, Below}}
use Rattle.calc_language.specs.Faces.{factors_above, factors_below}
use Rattle.calc_terms.specs.Trees.{Tree, num, Trees, none, more}

-- by the tree of a child with an identifier
abbrev pub part_above : ℕ → Tree → Option Pending
part_above i (num q) = if nat_abs q.num == 1 then None else Some (Numerator i)
part_above i t = if stands_below t then None else Some (Part Unsigned i)

abbrev pub part_below : ℕ → Tree → Option Pending
part_below i (num q) = if q.den == 1 then None else Some (Denominator i)
part_below i t = if stands_below t then Some (Part Divisor i) else None

abbrev pub part_of : Share → ℕ → Tree → Option Pending
part_of Terms i t = Some (Part Unsigned i)
part_of Above i t = part_above i t
part_of Below i t = part_below i t

-- the trees that all of them put there
abbrev pub shared : Share → Trees → Trees
shared Terms ts = unsigned_faces ts
shared Above ts = factors_above ts
shared Below ts = factors_below ts

-- children that may have such a share
abbrev pub AreSharing : Share → Trees → Type 0
AreSharing Terms ts = ⊤
AreSharing side ts = AreFactors ts

-- their bytes at most
abbrev pub part_room : Option Pending → Tree → ℕ
part_room (Some (Part form i)) t = form_room form t
part_room (Some p) t = 40
part_room None t = 0

abbrev pub share_room : Share → Trees → ℕ
share_room share none = 0
share_room share (more t ts) = part_room (part_of share 0 t) t + share_room share ts
