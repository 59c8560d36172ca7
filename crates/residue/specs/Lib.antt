pub mod Residues
pub mod Products
pub mod ProductSums
