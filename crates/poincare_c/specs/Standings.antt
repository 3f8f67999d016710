-- What stands in slots.
use Rattle.std.specs.Prelude.{◌≡◌, ℕ, Bool, true, false}
use Rattle.poincare_c.specs.{Codes.{closed, done, not_opened}, declared.standing.Standing.{Standing}, declared.standing.Standing.TheVariants.{New, Open, Closed}}

abbrev pub is_open : {T : Type 0} → Standing T → Bool
is_open (Open it) = true
is_open standing = false

-- What was open stays open and is changed so. Where nothing was open the code says which of both, the slot stays as it is, and so does the rest.
abbrev pub Changes : {T : Type 0} → Standing T → ℕ → Standing T → (T → T → Type 0) → Type 0 → Type 0
Changes New code new So rest = (code ≡ not_opened) × (new ≡ New) × rest
Changes Closed code new So rest = (code ≡ closed) × (new ≡ Closed) × rest
Changes (Open old) code new So rest = (now : _) × (new ≡ Open now) × So old now

-- what was open is closed
abbrev pub ClosesStanding : {T : Type 0} → Standing T → ℕ → Standing T → Type 0
ClosesStanding New code new = (code ≡ not_opened) × (new ≡ New)
ClosesStanding Closed code new = (code ≡ closed) × (new ≡ Closed)
ClosesStanding (Open old) code new = (code ≡ done) × (new ≡ Closed)
