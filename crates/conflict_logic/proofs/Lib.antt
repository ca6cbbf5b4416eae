pub mod AccusedLaws
pub mod SetLemmas
pub mod ConflictLaws
pub mod RepairLaws
pub mod GreedyLaws
pub mod CertificateLaws
pub mod WorkedLaws
