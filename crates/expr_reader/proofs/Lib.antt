pub mod NameLemmas
pub mod Stopped
pub mod ReadAnswers
pub mod AsNames
