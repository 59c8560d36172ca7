pub mod Generator
pub mod DemoText
pub mod Counts
pub mod Faults
