pub mod Holds
pub mod GivenTakes
pub mod TurnSteps
pub mod Pigeons
pub mod StageLemmas
pub mod EndLemmas
pub mod AheadLemmas
pub mod FrontLemmas
