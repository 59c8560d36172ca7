pub mod Binomials
pub mod Shifts
pub mod SharedTables
