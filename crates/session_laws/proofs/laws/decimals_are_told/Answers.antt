use Rattle.session_laws.proofs.DecimalLines.{decimal_told}
use Rattle.session_laws.proofs.laws.decimals_are_told.Goals as goal

pub returns : goal.returns
returns c = λ room bits old before after line text places reply tokens tree t left short asked reads is roomy narrow calm h.
    decimal_told room bits old before after line text places asked (record { tokens = tokens; tree = tree; reads = reads; left = left; is_made = is }) roomy narrow calm short reply h
