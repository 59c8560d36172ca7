pub mod Fits
pub mod Prefixes
pub mod Rule
pub mod Lengths
pub mod Pending
pub mod Readers
pub mod Writers
