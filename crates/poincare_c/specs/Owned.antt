-- What a C program owns between two calls: slots in its memory.
use base.Fml.{Fml, fex, fsep, ftrue}
use base.Fraction.{full_share}
use denote.RawPtr.{Ptr, lies_at}
use Rattle.poincare_c.specs.{declared.slot.Slot.{Slot}, contracts.slot.Slot.{the_row as the_session_row}, declared.stopper_slot.StopperSlot.{StopperSlot}}
use Rattle.poincare_c.specs.contracts.stopper_slot.StopperSlot.{the_row as the_stopper_row}

-- the slot of a session stands at the pointer
abbrev pub holds_session : Ptr → Slot → Fml
holds_session p s = lies_at the_session_row full_share p s

-- the slot of a stopper does
abbrev pub holds_stopper : Ptr → StopperSlot → Fml
holds_stopper p s = lies_at the_stopper_row full_share p s

-- a slot of which this is true stands there
abbrev pub leaves_session : Ptr → (Slot → Type 0) → Fml
leaves_session p Is = fex Slot (λ after. fsep (holds_session p after) (fex (Is after) (λ _. ftrue)))

abbrev pub leaves_stopper : Ptr → (StopperSlot → Type 0) → Fml
leaves_stopper p Is = fex StopperSlot (λ after. fsep (holds_stopper p after) (fex (Is after) (λ _. ftrue)))

-- both stand there, each in its own memory
abbrev pub holds_both : Ptr → Ptr → StopperSlot → Slot → Fml
holds_both p q s h = fsep (holds_stopper p s) (holds_session q h)

-- two slots of which this is true stand there
abbrev pub leaves_both : Ptr → Ptr → (StopperSlot → Slot → Type 0) → Fml
leaves_both p q Are = fex StopperSlot (λ s. fex Slot (λ h. fsep (holds_both p q s h) (fex (Are s h) (λ _. ftrue))))
