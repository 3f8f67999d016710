-- Sources and sinks whose bytes are recorded.
use Rattle.std.specs.Prelude.{ℕ, List}
use Rattle.calc_edges.specs.declared.recorded.Recorded.{Recorded}

-- what it reads from or writes to
abbrev pub inner_of : {T : Type 0} → Recorded T → T
inner_of r = r.inner

-- the bytes that came from it or went to it, from the beginning on
abbrev pub history_of : {T : Type 0} → Recorded T → List ℕ
history_of r = r.history.bytes
