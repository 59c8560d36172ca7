pub mod Added
pub mod Parts
pub mod Constants
pub mod Linked
pub mod Crossed
pub mod NextParts
pub mod PartsRead
