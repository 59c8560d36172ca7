pub mod Machine
pub mod Ahead
pub mod Digits
