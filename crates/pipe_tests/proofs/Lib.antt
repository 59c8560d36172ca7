pub mod Permitted
pub mod Readers
