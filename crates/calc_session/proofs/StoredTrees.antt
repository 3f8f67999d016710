-- The rationals in a pool fit, and its symbols are names.
use Rattle.calc_session.proofs.Shared.{arith, ◌≡◌, zero, suc, true, ⊤, Kind, lowest, is_name, Payload, IsPayload, Ratio, IsRat, IsNamed, HasNames, Tree, num, symbol, Trees, none, more, AllParts}
use Rattle.calc_session.proofs.Shared.{AllPartsOf, AllParts-zip, AreNodes, AreNodes-left, AreNodes-right, parts_themselves, nth, grown, compound, plains, plain, Forest, empty, tree, flatten}
use Rattle.calc_session.proofs.Shared.{IsFitting, HasFittingRationals, fraction_fits}
use Rattle.std.proofs.Common.{ℕ}

-- what a node can hold
abbrev IsStored : Tree → Type 0
IsStored (num q) = fraction_fits q ≡ true
IsStored (symbol x) = is_name x ≡ true
IsStored _ = ⊤

nth_stored : (n : ℕ) (ts : Trees) → AllPartsOf IsStored ts → AllParts IsStored (nth n ts)
nth_stored n none h = tt
nth_stored zero (more t ts) h = h.0
nth_stored (suc n) (more t ts) h = nth_stored n ts h.1

compound_stored : (k : Kind) (ts : Trees) → AllPartsOf IsStored ts → AllParts IsStored (compound k ts)
compound_stored k ts h = grind (arith, nth_stored)

rational_stored : (r : Ratio) → IsRat r → fraction_fits (lowest r.num r.den) ≡ true
rational_stored r h = grind (arith, parts_themselves)

grown_stored : (x : Payload) (ts : Trees) → IsPayload x → AllPartsOf IsStored ts → AllParts IsStored (grown x ts)
grown_stored x ts p h = grind (arith, rational_stored, compound_stored)

all_stored : (f : Forest) → AreNodes (flatten f) → AllPartsOf IsStored (plains f)
all_stored empty h = tt
all_stored (tree l k r) h = (grown_stored l.payload (plains k) h.0.payload (all_stored k (AreNodes-left (flatten k) (flatten r) h.1)), all_stored r (AreNodes-right (flatten k) (flatten r) h.1))

fitting_stored : (t : Tree) → IsStored t → IsStored t → IsFitting t
fitting_stored t h k = grind arith

named_stored : (t : Tree) → IsStored t → IsStored t → IsNamed t
named_stored t h k = grind arith

module _ (f : Forest) (h : AreNodes (flatten f)) where
  pub fitting_tree : HasFittingRationals (plain f)
  fitting_tree = let s = nth_stored 0 (plains f) (all_stored f h) in AllParts-zip IsStored IsStored IsFitting fitting_stored (plain f) s s

  pub named_tree : HasNames (plain f)
  named_tree = let s = nth_stored 0 (plains f) (all_stored f h) in AllParts-zip IsStored IsStored IsNamed named_stored (plain f) s s
