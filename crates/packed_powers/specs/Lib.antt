pub mod Packed
pub mod PackedLaws
