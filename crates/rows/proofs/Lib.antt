pub mod Pushed
pub mod RowSteps
pub mod LengthSteps
pub mod Published
