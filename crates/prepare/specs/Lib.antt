pub mod PrepValue
pub mod Calls
pub mod Recurrence
pub mod Columns
pub mod ErrorText
