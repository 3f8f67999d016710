-- The numbers in a pool fit.
use Rattle.line_text.proofs.Shared.{◌≡◌, ℕ, zero, suc, true, arith, Kind, Payload, IsPayload, Trees, none, more, AllParts, AllPartsOf, State, nth, grown, compound, plain, plains, Forest}
use Rattle.line_text.proofs.{Shared.{empty, tree, AllNodes, holds, tree_at, Stands, forest, IsFitting, HasFittingNumbers}, Leaves.numerator_is, Valid.{HoldsPayload, valid}}

nth_fitting : (n : ℕ) (ts : Trees) → AllPartsOf IsFitting ts → AllParts IsFitting (nth n ts)
nth_fitting n none h = tt
nth_fitting zero (more t ts) h = h.0
nth_fitting (suc n) (more t ts) h = nth_fitting n ts h.1

compound_fitting : (k : Kind) (ts : Trees) → AllPartsOf IsFitting ts → AllParts IsFitting (compound k ts)
compound_fitting k ts h = grind (arith, nth_fitting)

grown_fitting : (x : Payload) (ts : Trees) → IsPayload x → AllPartsOf IsFitting ts → AllParts IsFitting (grown x ts)
grown_fitting x ts p h = grind (arith, numerator_is, compound_fitting)

all_fitting : (f : Forest) → AllNodes HoldsPayload f → AllPartsOf IsFitting (plains f)
all_fitting empty h = tt
all_fitting (tree l k r) h = (grown_fitting l.payload (plains k) h.0 (all_fitting k h.1), all_fitting r h.2)

pub fitting : (i : ℕ) (s : State) → Stands s → holds i (forest s) ≡ true → HasFittingNumbers (plain (tree_at i (forest s)))
fitting i s st h = nth_fitting 0 (plains (tree_at i (forest s))) (all_fitting (tree_at i (forest s)) (valid s i st h))
