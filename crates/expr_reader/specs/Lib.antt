pub mod NameFaults
pub mod NameLists
pub mod ReadErrors
pub mod Reading
