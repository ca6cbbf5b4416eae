pub mod BlockLemmas
pub mod RunLemmas
pub mod MarkLemmas
pub mod RoundLemmas
pub mod DecideLemmas
pub mod TellLemmas
pub mod EndLemmas
