pub mod Triangles
pub mod PartRows
pub mod Shares
pub mod ShiftedRows
pub mod Unshifted
