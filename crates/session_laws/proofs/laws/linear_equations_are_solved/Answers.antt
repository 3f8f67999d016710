use Rattle.session_laws.proofs.{Shared.{refl, solve}, AskedLines.{commanded_reply}, EquationLines.{is_solved}}
use Rattle.session_laws.proofs.laws.linear_equations_are_solved.Goals as goal

pub returns : goal.returns
returns c = λ room bits old before after line reply es xs short a names few linear fits roomy calm h.
    is_solved old before after line a names few linear fits roomy calm reply (commanded_reply room bits old before after line (solve a.text) refl a.asks short reply h)
