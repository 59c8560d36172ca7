pub mod WritingLemmas
pub mod SupplyLemmas
pub mod LineLemmas
pub mod BufferLemmas
pub mod NextLemmas
