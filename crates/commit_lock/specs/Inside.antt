-- What only the code and the proofs cite: the rules of both tables, and what their steps tell.
pub mod LockRule
pub mod LockSteps
pub mod DrawRule
