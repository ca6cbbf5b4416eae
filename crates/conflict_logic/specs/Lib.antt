pub mod Sets
pub mod Accused
pub mod Repair
pub mod Certificate
pub mod Greedy
pub mod Worked
