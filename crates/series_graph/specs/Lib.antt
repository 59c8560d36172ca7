pub mod Formula
pub mod Meaning
pub mod GraphValue
pub mod Nodes
pub mod Sums
pub mod Calls
pub mod ErrorText
