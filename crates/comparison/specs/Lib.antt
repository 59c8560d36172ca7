pub mod Differences
pub mod Blocks
pub mod Compared
