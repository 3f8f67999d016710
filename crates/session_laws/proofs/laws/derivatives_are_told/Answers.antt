use Rattle.session_laws.proofs.SlopeLemmas.{is_told}
use Rattle.session_laws.proofs.laws.derivatives_are_told.Goals as goal

pub returns : goal.returns
returns c = λ room bits old before after line x text reply tokens tree t left short asked reads is derivable small roomy narrow calm h.
    is_told room bits old before after line x text asked (record { tokens = tokens; tree = tree; reads = reads; left = left; is_made = is }) derivable small roomy narrow calm short reply h
