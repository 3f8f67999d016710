-- Sources and sinks over readers and writers of std.
use Rattle.calc_edges.specs.{declared.failures.Failures.{Failures}, declared.std_edges.StdSource.{StdSource}, declared.std_edges.StdSink.{StdSink}}

-- the reader that a source reads from
abbrev pub reader_of : {R : Type 0} → StdSource R → R
reader_of s = s.reader

-- how often it failed
abbrev pub read_faults : {R : Type 0} → StdSource R → Failures
read_faults s = s.faults

-- the writer that a sink writes to
abbrev pub writer_of : {W : Type 0} → StdSink W → W
writer_of s = s.writer

-- how often it failed
abbrev pub write_faults : {W : Type 0} → StdSink W → Failures
write_faults s = s.faults
