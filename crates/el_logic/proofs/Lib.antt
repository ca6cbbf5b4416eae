pub mod Members
pub mod Small
pub mod ModelLaws
pub mod Steps
pub mod Walks
pub mod MemberSteps
pub mod ChainSteps
