pub mod Permitted
pub mod Published
