pub mod Outside
pub mod Faults
pub mod Files
pub mod MemFolder
pub mod MemSink
pub mod Untold
