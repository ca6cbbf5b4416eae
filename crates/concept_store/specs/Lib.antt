pub mod Trees
pub mod Nodes
pub mod Order
pub mod Standing
pub mod Roles
pub mod Reading
pub mod Faults
pub mod Inside
