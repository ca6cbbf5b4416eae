pub mod FileLemmas
pub mod WriteLemmas
