pub mod Faults
pub mod MemSink
pub mod MemSource
pub mod Recordings
pub mod SourceBytes
pub mod StdEdges
pub mod Taken
